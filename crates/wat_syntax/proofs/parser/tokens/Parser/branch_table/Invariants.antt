use Rattle.std.proofs.Common.{◌≤◌, length}
use Rattle.wat_syntax.specs.inside.Reading.{number_first}
use Rattle.wat_syntax.specs.inside.ReadingCode.{label_step}
use Rattle.wat_syntax.proofs.Repeats.{Onward}
use Rattle.wat_syntax.proofs.parser.tokens.Parser.branch_table.Given as goal

abbrev pub invariant-each : goal.invariant-each
invariant-each l = record {
  less : length l.self.0 ≤ length l.fn.self.0;
  onward : Onward number_first label_step ((l.initial.labels.items, l.initial.last), l.initial.self) ((l.labels.items, l.last), l.self);
}

abbrev pub decreases-each : goal.decreases-each
decreases-each l = length l.self.0
