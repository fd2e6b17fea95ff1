-- The units of workers, as their receipts show them.
use Rattle.std.specs.Prelude.{◌≡◌, ◌+◌, ℕ, Option, Some, None, List, [], ◌∷◌, slice_index_or}
use Rattle.book.specs.declared.report.Report.{Report}
use Rattle.hub_ends.specs.Passes.{handed_in_by}
use Rattle.worker_loops.specs.Numbers.{stamps_in}
use Rattle.coordinator.specs.Units.{cut, units_by}
use Rattle.hub_ends.specs.declared.receipts.Receipts.{Receipts}
use Rattle.hub_ends.specs.declared.pass.WorkerReceipt.{WorkerReceipt}

module _ {J : Type 0} where
  -- The units of the workers from w on are the sum of those that each sent, stale ones too.
  abbrev pub AreCharged : Report → ℕ → List (WorkerReceipt J) → Type 0
  AreCharged report w [] = Unit {0}
  AreCharged report w (receipt ∷ receipts) =
      (slice_index_or report.spent.items w 0 ≡ cut (units_by w (stamps_in (handed_in_by receipt)))) × AreCharged report (w + 1) receipts

  abbrev pub HasHandedIn : Option (Receipts J) → Report → Type 0
  HasHandedIn (Some receipts) report = AreCharged report 0 receipts.workers.items
  HasHandedIn None report = ⊥
