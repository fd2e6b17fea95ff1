use Rattle.std.proofs.Common.{◌≡◌, ◌++◌, length, map}
use Rattle.std.specs.List.{AllByRecursion, flat_map}
use Rattle.inbox.specs.inside.Blocks.{ids_of, none_in, slips_of}
use Rattle.inbox.proofs.blocks.blocks_of.Given as goal

abbrev pub invariant-loop-rest : goal.invariant-loop-rest
invariant-loop-rest l = record {
  ids : flat_map ids_of l.blocks.items ++ l.rest ≡ l.ids;
  none : AllByRecursion none_in (map slips_of l.blocks.items);
}

abbrev pub decreases-loop-rest : goal.decreases-loop-rest
decreases-loop-rest l = length l.rest
