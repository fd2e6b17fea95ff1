-- The joins of a worker, each after a loss of its own that was counted.
use Rattle.std.specs.Prelude.{◌≡◌, ◌&&◌, Bool, true, false, List, [], ◌∷◌}
use Rattle.control.specs.Events.{Stamp}
use Rattle.control.specs.Events.Stamp.{DoneBy, FailedBy, JoinedBy, LostBy, Ticked}
use Rattle.hub_ends.specs.Messages.{joins_follow}
use Rattle.hub_ends.specs.Passes.{handed_in_by}
use Rattle.hub_ends.specs.declared.pass.WorkerReceipt.{WorkerReceipt}

abbrev pub first_of : List Bool → Bool
first_of [] = false
first_of (b ∷ bs) = b

abbrev pub rest_of : List Bool → List Bool
rest_of [] = []
rest_of (b ∷ bs) = bs

-- Of the events of one worker, each join comes right after a loss that was counted. The list of losses says of each, in order,
-- whether it was; `counted` says it of the event before the first.
abbrev pub joins_counted : (counted : Bool) → (losses : List Bool) → List Stamp → Bool
joins_counted counted ls [] = true
joins_counted counted ls (DoneBy w task units ∷ stamps) = joins_counted false ls stamps
joins_counted counted ls (FailedBy w place ∷ stamps) = joins_counted false ls stamps
joins_counted counted ls (LostBy w ∷ stamps) = joins_counted (first_of ls) (rest_of ls) stamps
joins_counted counted ls (JoinedBy w ∷ stamps) = counted && joins_counted false ls stamps
joins_counted counted ls (Ticked ∷ stamps) = joins_counted false ls stamps

-- A worker joins again only after it was lost by its gate: each `Joined` comes right after a `Lost` of its own.
abbrev pub JoinsAfterLoss : {J : Type 0} → WorkerReceipt J → Type 0
JoinsAfterLoss receipt = joins_follow false (handed_in_by receipt) ≡ true
