use Rattle.std.proofs.Common.{take}
use Rattle.std.specs.Fmt.{HasWritten, IsPlainFormatter}
use Rattle.profile_rules.specs.FaultText.{cycle_text}
use Rattle.profile_rules.proofs.fault.write_cycle.Given as goal

abbrev pub invariant-loop-function : goal.invariant-loop-function
invariant-loop-function g l =
    IsPlainFormatter l.fn.f → HasWritten g.W.Write.write_str_gives l.fn.f (cycle_text (take l.function-index l.functions)) l.f
