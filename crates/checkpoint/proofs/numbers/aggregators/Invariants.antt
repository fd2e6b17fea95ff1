use Rattle.std.proofs.Common.{◌≡◌, ◌-◌, length, take}
use Rattle.checkpoint.specs.Reading.{items_at, signed_at}
use Rattle.checkpoint.proofs.Tools.{behind}
use Rattle.checkpoint.proofs.numbers.aggregators.Given as goal

abbrev pub invariant-loop-aggregator : goal.invariant-loop-aggregator
invariant-loop-aggregator l = record {
  long : length l.aggregators ≡ 8;
  read : behind (take l.aggregator l.aggregators) (items_at signed_at (8 - l.aggregator) l.rest) ≡ items_at signed_at 8 l.bytes;
}
