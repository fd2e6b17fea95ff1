use Rattle.std.proofs.Common.{ℕ, ◌≤◌, length}
use Rattle.wat_syntax.proofs.Repeats.{Onward}
use Rattle.wat_syntax.proofs.parser.items.repeated.Given as goal

abbrev pub invariant-each : goal.invariant-each
invariant-each g l = record {
  less : length l.parser.0 ≤ length l.fn.parser.0;
  onward : (n : ℕ) → Onward (g.I.Item.first l.item) (g.I.Item.step l.item n) (g.I.Item.seen l.fn.made, l.fn.parser) (g.I.Item.seen l.made, l.parser);
}

abbrev pub decreases-each : goal.decreases-each
decreases-each g l = length l.parser.0
