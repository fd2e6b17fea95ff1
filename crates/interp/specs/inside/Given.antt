-- What a call has sent and contributed to aggregators so far.
use Rattle.std.specs.Prelude.{ℕ, ◌+◌, ◌≤◌, length, Bool, true, false}
use Rattle.verified.specs.declared.imports.HostCall.{HostCall}
use Rattle.verified.specs.declared.imports.HostCall.TheVariants as call
use Rattle.verified.specs.Host.{Host}
use Rattle.semantics.specs.Machine.{Machine, Running, Done, Trapped, Stuck}

abbrev pub given : Host → ℕ
given h = length h.sends + length h.contributions

-- there is at least one message or contribution
abbrev pub HostHasGiven : Host → Type 0
HostHasGiven h = 1 ≤ given h

abbrev pub HasGiven : Machine → Type 0
HasGiven (Running vs is ls st) = HostHasGiven st.host
HasGiven (Done st) = HostHasGiven st.host
HasGiven (Trapped count) = ⊥
HasGiven (Stuck count) = ⊥

-- the host calls that send something, or contribute to an aggregator
abbrev pub gives : HostCall → Bool
gives call.Send = true
gives call.Aggregate = true
gives _ = false

-- the host calls that have no arguments and one result
abbrev pub only_pushes : HostCall → Bool
only_pushes call.SetValue = false
only_pushes call.Send = false
only_pushes call.Aggregate = false
only_pushes call.Aggregated = false
only_pushes call.VoteToHalt = false
only_pushes _ = true
