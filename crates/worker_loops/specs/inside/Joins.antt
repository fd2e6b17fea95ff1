-- How a worker's loop follows what became of its losses.
use Rattle.std.specs.Prelude.{◌≡◌, Bool, true, false, List, ◌++◌}
use Rattle.control.specs.Events.{Stamp}
use Rattle.worker_loops.specs.Counted.{joins_counted}
use Rattle.hub_ends.specs.Passes.{handed_in_by}
use Rattle.worker_loops.specs.Numbers.{stamps_in}
use Rattle.hub_ends.specs.Verdicts.{heard_on}
use Rattle.hub_ends.specs.declared.message.Message.{Message}
use Rattle.worker_loops.specs.declared.worker_loop.WorkerEnd.{WorkerEnd}

-- more messages, and verdicts heard in between: a worker joins only right after a loss that was counted
pub record AddsCounted {J : Type 0} (before after : List (Message J)) (heard heard' : List Bool) : Type 0 where
  pub stamps : List Stamp
  pub added : stamps_in after ≡ stamps_in before ++ stamps
  pub told : List Bool
  pub heard_is : heard' ≡ heard ++ told
  pub joins : (counted : Bool) (others : List Bool) (later : List Stamp) → joins_counted false others later ≡ true
      → joins_counted counted (told ++ others) (stamps ++ later) ≡ true

-- of all that a worker sent and heard
abbrev pub HasJoined : {J : Type 0} → WorkerEnd J → Type 0
HasJoined end = joins_counted false (heard_on end.reader) (stamps_in (handed_in_by end.receipt)) ≡ true
