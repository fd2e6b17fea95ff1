use Rattle.std.proofs.Common.{◌≡◌, ◌++◌, ℕ, List, map, take}
use Rattle.inbox.specs.declared.letters.Letter.{Letter}
use Rattle.inbox.specs.Merging.{letters_sent}
use Rattle.inbox.specs.inside.Blocks.{AreFiled, ids_of, slips_of}
use Rattle.inbox.proofs.blocks.file_sends.Given as goal

abbrev pub invariant-loop-send : goal.invariant-loop-send
invariant-loop-send l = record {
  ids : map ids_of l.blocks.items ≡ map ids_of l.fn.blocks.items;
  filed : (sent : List Letter) (source : ℕ) → AreFiled l.grid sent (map slips_of l.fn.blocks.items) → AreFiled l.grid (sent ++ letters_sent source (take l.send-index l.sends)) (map slips_of l.blocks.items);
}
