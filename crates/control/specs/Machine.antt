-- The control model: the worker, epoch and superstep numbers of a book, without its data.
use Rattle.std.specs.Prelude.{ℕ, suc, ◌+◌, ◌-◌, ◌%◌, ◌^◌, min, ◌==◌, List, [], ◌∷◌, length, take, replicate, count_by, slice_index_or, slice_set, Bool, true, false, ◌&&◌, ◌||◌, not, nat_lt, if◌then◌else◌, Option, Some, None}
use Rattle.job_state.specs.declared.fault.JobFault.{JobFault}
use Rattle.job_state.specs.declared.settings.Settings.{Settings}
use Rattle.control.specs.declared.control.Out.{Out}
use Rattle.control.specs.declared.job_status.JobStatus.{JobStatus}
use Rattle.control.specs.declared.job_status.JobStatus.TheVariants.{Running, Finished, Limit, Fault}

pub record Machine : Type 0 where
  pub settings : Settings
  pub superstep : ℕ
  pub epoch : ℕ
  -- of each part
  pub done : List Bool
  -- of each worker, as the lists below
  pub alive : List Bool
  -- it has joined, and waits for a new epoch
  pub waiting : List Bool
  -- the task that it was assigned and has not returned
  pub out : List (Option Out)
  -- the ticks since that assignment
  pub age : List ℕ
  -- the units of all that it returned
  pub spent : List ℕ
  -- the superstep of the last saved state
  pub saved : Option ℕ
  pub missed : ℕ
  pub restarts : ℕ
  pub ending : JobStatus

abbrev pub is_running : JobStatus → Bool
is_running Running = true
is_running Finished = false
is_running Limit = false
is_running (Fault fault) = false

-- the job has an answer
abbrev pub has_answer : JobStatus → Bool
has_answer Running = false
has_answer Finished = true
has_answer Limit = true
has_answer (Fault fault) = false

abbrev pub is_alive : Machine → ℕ → Bool
is_alive m w = slice_index_or m.alive w false

abbrev pub is_waiting : Machine → ℕ → Bool
is_waiting m w = slice_index_or m.waiting w false

-- how many are set
abbrev pub count_set : List Bool → ℕ
count_set flags = count_by (λ flag. flag) flags

-- each item changed by f, which is given its place
abbrev pub by_place : {A : Type 0} → (ℕ → A → A) → ℕ → List A → List A
by_place f base [] = []
by_place f base (x ∷ xs) = f base x ∷ by_place f (suc base) xs

-- ---- before superstep 0

-- the status at a superstep, quiet or not
abbrev pub ending_at : Bool → ℕ → ℕ → JobStatus
ending_at quiet superstep limit = if quiet then Finished else (if nat_lt superstep limit then Running else Limit)

abbrev pub opened : Settings → Bool → Machine
opened settings quiet = record {
  settings = settings;
  superstep = 0;
  epoch = 0;
  done = replicate settings.parts false;
  alive = replicate settings.workers true;
  waiting = replicate settings.workers false;
  out = replicate settings.workers None;
  age = replicate settings.workers 0;
  spent = replicate settings.workers 0;
  saved = None;
  missed = 0;
  restarts = 0;
  ending = ending_at quiet 0 settings.limit;
}

-- before a superstep, not quiet, whose state was saved by an earlier run
abbrev pub resumed : Settings → ℕ → Machine
resumed settings superstep =
    record (opened settings false) { superstep = superstep; saved = Some superstep; ending = Running }

-- ---- assignment of tasks

-- the least part from base on that is not done and belongs to this place among `count` workers
abbrev pub least : (count place base : ℕ) → List Bool → Option ℕ
least count place base [] = None
least count place base (d ∷ ds) =
    if (base % count == place) && not d then Some base else least count place (suc base) ds

abbrev pub is_free : Option Out → Bool
is_free None = true
is_free (Some task) = false

-- Part i belongs to the worker at place i mod k among the k alive workers. A worker without a task is assigned the
-- least of its parts that is not done.
abbrev pub hand : Machine → ℕ → Option ℕ
hand m w =
    if is_running m.ending && (is_alive m w && is_free (slice_index_or m.out w None))
    then least (count_set m.alive) (count_set (take w m.alive)) 0 m.done
    else None

abbrev pub task_of : Machine → ℕ → Out
task_of m part = record { epoch = m.epoch; superstep = m.superstep; part = part }

abbrev pub handed : Machine → ℕ → ℕ → Machine
handed m w part = record m { out = slice_set m.out w (Some (task_of m part)); age = slice_set m.age w 0 }

-- ---- results

abbrev pub freed : Machine → ℕ → Machine
freed m w = record m { out = slice_set m.out w None }

abbrev pub same_task : Out → Out → Bool
same_task a b = (a.epoch == b.epoch) && ((a.superstep == b.superstep) && (a.part == b.part))

abbrev pub is_that : Option Out → Out → Bool
is_that None task = false
is_that (Some other) task = same_task other task

-- the worker was assigned this task, and has not returned it
abbrev pub is_out : Machine → ℕ → Out → Bool
is_out m w task = is_that (slice_index_or m.out w None) task

-- a result of this task counts
abbrev pub counts : Machine → ℕ → Out → Bool
counts m w task = is_alive m w && (is_out m w task && (task.epoch == m.epoch))

abbrev pub finished : Machine → ℕ → Machine
finished m part = record m { done = slice_set m.done part true }

abbrev pub all_set : List Bool → Bool
all_set [] = true
all_set (flag ∷ flags) = flag && all_set flags

abbrev pub none_set : List Bool → List Bool
none_set flags = replicate (length flags) false

-- the units of a worker stop at the greatest number of 128 bits
abbrev pub charged : Machine → ℕ → ℕ → Machine
charged m w units = record m { spent = slice_set m.spent w (min (slice_index_or m.spent w 0 + units) (2 ^ 128 - 1)) }

-- ---- ends, saves and loads

abbrev pub ended_by : JobFault → Machine → Machine
ended_by fault m = record m { ending = Fault fault }

-- these counts stop at the greatest number of 64 bits
abbrev pub one_more : ℕ → ℕ
one_more n = min (n + 1) (2 ^ 64 - 1)

-- the next superstep begins
abbrev pub closed : Bool → Machine → Machine
closed quiet m = record m {
  superstep = m.superstep + 1;
  done = none_set m.done;
  ending = ending_at quiet (m.superstep + 1) m.settings.limit;
}

-- a state is saved before each superstep that is a multiple of `every`, except superstep 0 and a job's last state
abbrev pub is_saved_now : Machine → Bool
is_saved_now m = is_running m.ending && (m.superstep % m.settings.every == 0)

abbrev pub saved_or_first : Option ℕ → ℕ
saved_or_first None = 0
saved_or_first (Some s) = s

-- the last saved state could not be loaded: the job begins again with superstep 0
abbrev pub restarted : Machine → Machine
restarted m = record m { superstep = 0; saved = None; restarts = one_more m.restarts }

-- ---- lost and joining workers

-- alive and waiting workers
abbrev pub either : List Bool → List Bool → List Bool
either alive waiting = by_place (λ w flag. flag || slice_index_or waiting w false) 0 alive

-- waiting workers become alive
abbrev pub joined : Machine → Machine
joined m = record m { alive = either m.alive m.waiting; waiting = none_set m.waiting }

-- if the job goes on, waiting workers become alive in a new epoch
abbrev pub welcomed : Machine → Machine
welcomed m =
    if is_running m.ending && nat_lt 0 (count_set m.waiting) then record (joined m) { epoch = m.epoch + 1 } else m

-- all parts are done again, from the last saved state
abbrev pub begun_anew : Machine → Machine
begun_anew m =
    record m { epoch = m.epoch + 1; done = none_set m.done; superstep = saved_or_first m.saved }

abbrev pub lost : Machine → ℕ → Machine
lost m w = record m { alive = slice_set m.alive w false }

-- an alive worker with a task
abbrev pub is_busy : List Bool → List (Option Out) → ℕ → Bool
is_busy alive out w = slice_index_or alive w false && not (is_free (slice_index_or out w None))

-- ages stop at the greatest number of 32 bits, which is above each lease
abbrev pub one_older : Bool → ℕ → ℕ
one_older busy n = if busy then min (n + 1) (2 ^ 32 - 1) else n

abbrev pub older : List Bool → List (Option Out) → List ℕ → List ℕ
older alive out age = by_place (λ w n. one_older (is_busy alive out w) n) 0 age

abbrev pub aged : Machine → Machine
aged m = record m { age = older m.alive m.out m.age }

-- the worker has had its task for the whole lease
abbrev pub is_overdue : ℕ → List (Option Out) → List ℕ → ℕ → Bool
is_overdue lease out age w = not (is_free (slice_index_or out w None)) && not (nat_lt (slice_index_or age w 0) lease)

abbrev pub in_time : ℕ → List (Option Out) → List ℕ → List Bool → List Bool
in_time lease out age alive = by_place (λ w flag. flag && not (is_overdue lease out age w)) 0 alive

-- all that are overdue are lost at once
abbrev pub expired : Machine → Machine
expired m = record m { alive = in_time m.settings.lease m.out m.age m.alive }

-- the worker is not alive and does not wait, and the epoch is below 2^32
abbrev pub may_join : Machine → ℕ → Bool
may_join m w = not (is_alive m w) && (not (is_waiting m w) && nat_lt m.epoch (2 ^ 32))

abbrev pub waits : Machine → ℕ → Machine
waits m w = record m { out = slice_set m.out w None; waiting = slice_set m.waiting w true }
