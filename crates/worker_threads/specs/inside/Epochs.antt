-- The receipts of a hub where nobody was lost, and so no new epoch began.
use Rattle.std.specs.Prelude.{List, [], ◌∷◌}
use Rattle.worker_loops.specs.inside.Epochs.{IsSteady, IsSteadyTicker}
use Rattle.hub_ends.specs.declared.receipts.Receipts.{Receipts}
use Rattle.hub_ends.specs.declared.pass.WorkerReceipt.{WorkerReceipt}

module _ {J : Type 0} where
  abbrev pub AreSteady : List (WorkerReceipt J) → Type 0
  AreSteady [] = Unit {0}
  AreSteady (receipt ∷ receipts) = IsSteady receipt × AreSteady receipts

  -- no thread sent such an event
  pub record IsSteadyHub (receipts : Receipts J) : Type 0 where
    pub ticker : IsSteadyTicker receipts.ticker
    pub workers : AreSteady receipts.workers.items
