-- What a task finds in its part.
use Rattle.std.specs.Prelude.{◌≡◌, ℕ, List, count_by, length, sum_by}
use Rattle.job_state.specs.declared.found.Found.{Found}
use Rattle.job_state.specs.Found.{capped_count}
use Rattle.superstep.specs.Job.{Meaning, Work}
use Rattle.superstep.specs.PlainRun.{state_at}
use Rattle.superstep.specs.Snapshot.{Row, is_called}
use Rattle.superstep.specs.Tasks.{part_rows}

-- the number of messages to a vertex
abbrev pub messages_at : Row → ℕ
messages_at row = length row.inbox

-- this is found in these rows: the number of those that are called, and of all messages to them
pub record IsFoundIn (rows : List Row) (found : Found) : Type 0 where
  pub called : found.called ≡ capped_count (count_by is_called rows)
  pub received : found.received ≡ capped_count (sum_by messages_at rows)

-- this is found in this part before this superstep
abbrev pub IsFoundAt : Work → ℕ → ℕ → Found → Type 0
IsFoundAt work s part found =
    (meaning : Meaning work) → IsFoundIn (part_rows work.settings.parts (state_at meaning.outcomes meaning.graph s) part) found
