use Rattle.std.proofs.Common.{take, ◌≡◌, length, vec_capacity, vec_len}
use Rattle.std.specs.List.{AllZip}
use Rattle.inbox.specs.inside.Filing.{IsMadeFrom}
use Rattle.inbox.proofs.all_parts.made_parts.Given as goal

abbrev pub invariant-loop-part : goal.invariant-loop-part
invariant-loop-part g l = record {
  made : AllZip IsMadeFrom (take l.part-index l.parts) l.all.items;
  len : vec_len l.all ≡ l.part-index;
  room : vec_capacity l.all ≡ length l.parts;
}
