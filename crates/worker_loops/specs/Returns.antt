-- What a worker sends for the tasks that it takes.
use Rattle.std.specs.Prelude.{◌≡◌, ℕ, ◌+◌, Bool, true, List, [], ◌∷◌, ◌++◌}
use mathlib.Core.List.{IsPrefix}
use Rattle.superstep.specs.Job.{Work}
use Rattle.superstep.specs.Tasks.{AreUnitsAt}
use Rattle.job_state.specs.declared.fault.Place.TheVariants.{Call}
use Rattle.hub_ends.specs.Protocol.{of}
use Rattle.control.specs.declared.control.Out.{Out}
use Rattle.control.specs.Events.{Stamp}
use Rattle.control.specs.Events.Stamp.{DoneBy, FailedBy, JoinedBy, LostBy, Ticked}

-- ---- the events of one worker

-- the sender of an event
abbrev pub stamp_sender : Stamp → ℕ
stamp_sender (DoneBy w task units) = w + 1
stamp_sender (FailedBy w place) = w + 1
stamp_sender (LostBy w) = w + 1
stamp_sender (JoinedBy w) = w + 1
stamp_sender Ticked = 0

-- the events of worker w
abbrev pub events_by : ℕ → List Stamp → List Stamp
events_by w stamps = of stamp_sender (w + 1) stamps

-- ---- what they are

-- a join, or nothing
abbrev pub IsJoin : List Stamp → Type 0
IsJoin [] = Unit {0}
IsJoin (DoneBy w task units ∷ stamps) = ⊥
IsJoin (FailedBy w place ∷ stamps) = ⊥
IsJoin (LostBy w ∷ stamps) = ⊥
IsJoin (JoinedBy w ∷ stamps) = stamps ≡ []
IsJoin (Ticked ∷ stamps) = ⊥

-- What a worker sends for one task: its result, whose units are those of its part in the plain run if its epoch is trusted; or
-- that memory ran out in a call; or that the worker is lost with it, and perhaps that it joins again. It sends nothing for a task
-- that it takes after it was lost for good.
abbrev pub IsReturnOf : Work → (ℕ → Bool) → Out → List Stamp → Type 0
IsReturnOf work honest task [] = Unit {0}
IsReturnOf work honest task (DoneBy w done units ∷ stamps) =
    (done ≡ task) × (honest task.epoch ≡ true → AreUnitsAt work task.superstep task.part units) × (stamps ≡ [])
IsReturnOf work honest task (FailedBy w place ∷ stamps) = (place ≡ Call) × (stamps ≡ [])
IsReturnOf work honest task (LostBy w ∷ stamps) = IsJoin stamps
IsReturnOf work honest task (JoinedBy w ∷ stamps) = ⊥
IsReturnOf work honest task (Ticked ∷ stamps) = ⊥

-- what it sends for these tasks, one after another
abbrev pub AreReturnsOf : Work → (ℕ → Bool) → List Out → List Stamp → Type 0
AreReturnsOf work honest [] stamps = stamps ≡ []
AreReturnsOf work honest (task ∷ tasks) stamps =
    (mine : List Stamp) × (rest : List Stamp) × (stamps ≡ mine ++ rest) × IsReturnOf work honest task mine × AreReturnsOf work honest tasks rest

-- Of these tasks the worker took the first ones, and these are the events that it sent for them. So it sent one result at most
-- for each task, and none for others.
abbrev pub IsWorkOn : Work → (ℕ → Bool) → List Out → List Stamp → Type 0
IsWorkOn work honest tasks stamps = (taken : List Out) × IsPrefix taken tasks × AreReturnsOf work honest taken stamps
