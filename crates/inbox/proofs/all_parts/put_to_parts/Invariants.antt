use Rattle.std.proofs.Common.{take, ◌≡◌, length, vec_capacity, vec_len}
use Rattle.std.specs.List.{AllZip}
use Rattle.inbox.specs.inside.Shares.{ArePutIn}
use Rattle.inbox.proofs.all_parts.put_to_parts.Given as goal

abbrev pub invariant-loop-ids : goal.invariant-loop-ids
invariant-loop-ids g l = record {
  put : AllZip (ArePutIn l.letters) (take l.ids-index l.parts) l.all.items;
  len : vec_len l.all ≡ l.ids-index;
  room : vec_capacity l.all ≡ length l.parts;
}
