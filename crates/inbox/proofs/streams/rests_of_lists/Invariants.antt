use Rattle.std.proofs.Common.{◌≡◌, length, take, vec_capacity, vec_len}
use Rattle.std.specs.List.{flat_map}
use Rattle.inbox.specs.Merging.{all_of}
use Rattle.inbox.specs.inside.Streams.{left_in}
use Rattle.inbox.proofs.streams.rests_of_lists.Given as goal

abbrev pub invariant-loop-list : goal.invariant-loop-list
invariant-loop-list l = record {
  left : flat_map left_in l.rests.items ≡ all_of (take l.list-index l.lists);
  len : vec_len l.rests ≡ l.list-index;
  room : vec_capacity l.rests ≡ length l.lists;
}
