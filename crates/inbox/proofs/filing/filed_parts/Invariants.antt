use Rattle.std.proofs.Common.{take, ◌≡◌, length, vec_capacity, vec_len}
use Rattle.std.specs.List.{AllZip}
use Rattle.inbox.specs.inside.Filing.{AreInBlocks}
use Rattle.inbox.specs.inside.Mail.{letters_in}
use Rattle.inbox.proofs.filing.filed_parts.Given as goal

abbrev pub invariant-loop-ids : goal.invariant-loop-ids
invariant-loop-ids l = record {
  filed : AllZip (AreInBlocks (letters_in l.mail)) (take l.ids-index l.parts) l.filed.items;
  len : vec_len l.filed ≡ l.ids-index;
  room : vec_capacity l.filed ≡ length l.parts;
}
