use Rattle.std.proofs.Common.{◌≡◌, length, map}
use Rattle.inbox.specs.inside.Blocks.{ids_of, slips_of}
use Rattle.inbox.specs.inside.Mail.{letters_in}
use Rattle.inbox.specs.inside.Streams.{AreFiledSoFar, all_left}
use Rattle.inbox.proofs.streams.file_by_source.Given as goal

abbrev pub invariant-loop-run : goal.invariant-loop-run
invariant-loop-run l = record {
  ids : map ids_of l.blocks.items ≡ map ids_of l.fn.blocks.items;
  so_far : AreFiledSoFar (letters_in l.mail) l.grid (all_left l.streams) l.streams.least (map slips_of l.blocks.items);
}

abbrev pub decreases-loop-run : goal.decreases-loop-run
decreases-loop-run l = length (all_left l.streams)
