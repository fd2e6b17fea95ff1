-- How it is followed that no new epoch begins where nobody is lost.
use Rattle.std.specs.Prelude.{◌≡◌, Bool, true, false, ◌||◌, List, [], ◌∷◌}
use Rattle.control.specs.Events.{Stamp}
use Rattle.control.specs.Events.Stamp.{DoneBy, FailedBy, JoinedBy, LostBy, Ticked}
use Rattle.hub_ends.specs.Passes.{handed_in_by, ticked_by}
use Rattle.worker_loops.specs.Numbers.{stamps_in}
use Rattle.hub_ends.specs.declared.pass.TickReceipt.{TickReceipt}
use Rattle.hub_ends.specs.declared.pass.WorkerReceipt.{WorkerReceipt}

-- an epoch begins with such an event alone, or after it
abbrev pub may_renew : Stamp → Bool
may_renew (DoneBy w task units) = false
may_renew (FailedBy w place) = false
may_renew (LostBy w) = true
may_renew (JoinedBy w) = true
may_renew Ticked = true

-- one of these is such an event
abbrev pub renews : List Stamp → Bool
renews [] = false
renews (stamp ∷ stamps) = may_renew stamp || renews stamps

module _ {J : Type 0} where
  -- a worker sent none
  abbrev pub IsSteady : WorkerReceipt J → Type 0
  IsSteady receipt = renews (stamps_in (handed_in_by receipt)) ≡ false

  -- nor did the ticker
  abbrev pub IsSteadyTicker : TickReceipt J → Type 0
  IsSteadyTicker receipt = renews (stamps_in (ticked_by receipt)) ≡ false
