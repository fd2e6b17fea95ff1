-- What a coordinator has after a job has run in threads.
use Rattle.std.specs.Prelude.{Option, Some, None}
use Rattle.book.specs.declared.report.Report.{Report}
use Rattle.worker_threads.specs.Threads as threads
use Rattle.workers.specs.Charges as charges
use Rattle.coordinator.specs.declared.coordinator.Coordinator.{Coordinator}
use Rattle.hub_ends.specs.declared.receipts.Receipts.{Receipts}
use Rattle.hub_ends.specs.declared.coordinator_ends.CoordinatorEnds.{CoordinatorEnds}

module _ {J : Type 0} where
  abbrev pub IsIdleOn : Option (CoordinatorEnds J) → Type 0
  IsIdleOn (Some ends) = threads.IsIdle ends
  IsIdleOn None = ⊥

  abbrev pub IsSettledOn : Option (CoordinatorEnds J) → Option (Receipts J) → Type 0
  IsSettledOn (Some ends) receipts = threads.HasSettled ends receipts
  IsSettledOn None receipts = ⊥

  -- nothing was received, and no task was sent
  abbrev pub IsIdle : Coordinator J → Type 0
  IsIdle coordinator = IsIdleOn coordinator.ends

  -- It has the receipts of all senders. All that the ticker and the workers sent was received, once and in order, and
  -- what workers took is what they were sent. A worker joins again only right after a loss that it reported.
  abbrev pub IsSettled : Coordinator J → Type 0
  IsSettled coordinator = IsSettledOn coordinator.ends coordinator.receipts

  -- the units of each worker are the sum of those that it sent, stale ones too
  abbrev pub HasHandedIn : Coordinator J → Report → Type 0
  HasHandedIn coordinator report = charges.HasHandedIn coordinator.receipts report
