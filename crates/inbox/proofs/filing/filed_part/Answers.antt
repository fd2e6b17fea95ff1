use Rattle.std.proofs.Common.{◌∙◌}
use Rattle.inbox.specs.declared.filing.PartBlocks.{PartBlocks}
use Rattle.inbox.specs.inside.Mail.{letters_in}
use Rattle.inbox.proofs.Filed.{in_blocks}
use Rattle.inbox.proofs.filing.filed_part.Goals as goal

pub returns-then-all : goal.returns-then-all
returns-then-all c =
    let part : PartBlocks = record { blocks = c.file_by_source.new.blocks } in
    in_blocks (letters_in c.args.mail) c.args.ids.now c.of-grid.result c.in_ok-blocks.blocks.items part
    (c.in_ok-blocks.ensures.ids ∙ c.deref-2.ensures.value)
    (rw c.deref-3.ensures.value at (c.are_in_place.ensures c.if-not-are_in_place.false))
    c.in_ok-all.ensures.ids
    (c.in_ok-all.ensures.filed c.if-all.true)
