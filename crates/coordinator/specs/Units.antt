-- The units that workers report.
use Rattle.std.specs.Prelude.{ℕ, ◌+◌, ◌-◌, ◌^◌, ◌==◌, min, List, [], ◌∷◌, if◌then◌else◌}
use Rattle.control.specs.Events.{Stamp}
use Rattle.control.specs.Events.Stamp.{DoneBy, FailedBy, JoinedBy, LostBy, Ticked}

-- the units of worker w in this event
abbrev pub units_of : ℕ → Stamp → ℕ
units_of w (DoneBy v task units) = if v == w then units else 0
units_of w (FailedBy v place) = 0
units_of w (LostBy v) = 0
units_of w (JoinedBy v) = 0
units_of w Ticked = 0

-- all units of worker w, added up, stale ones too
abbrev pub units_by : ℕ → List Stamp → ℕ
units_by w [] = 0
units_by w (stamp ∷ stamps) = units_of w stamp + units_by w stamps

-- they stop at the greatest number of 128 bits
abbrev pub cut : ℕ → ℕ
cut n = min n (2 ^ 128 - 1)
