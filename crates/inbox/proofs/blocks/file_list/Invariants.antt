use Rattle.std.proofs.Common.{◌≡◌, ◌++◌, List, map, take}
use Rattle.inbox.specs.declared.letters.Letter.{Letter}
use Rattle.inbox.specs.inside.Blocks.{AreFiled, ids_of, slips_of}
use Rattle.inbox.proofs.blocks.file_list.Given as goal

abbrev pub invariant-loop-letter : goal.invariant-loop-letter
invariant-loop-letter l = record {
  ids : map ids_of l.blocks.items ≡ map ids_of l.fn.blocks.items;
  filed : (sent : List Letter) → AreFiled l.grid sent (map slips_of l.fn.blocks.items) → AreFiled l.grid (sent ++ take l.letter-index l.letters) (map slips_of l.blocks.items);
}
