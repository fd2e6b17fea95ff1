use Rattle.std.proofs.Common.{◌≡◌, length, map, take, vec_capacity, vec_len}
use Rattle.run_report.specs.Tally.{capped}
use Rattle.plain_commands.proofs.noting.capped_all.Given as goal

abbrev pub invariant-loop-number : goal.invariant-loop-number
invariant-loop-number l = record {
  items : l.all.items ≡ map capped (take l.number-index l.numbers);
  len : vec_len l.all ≡ l.number-index;
  room : vec_capacity l.all ≡ length l.numbers;
}
