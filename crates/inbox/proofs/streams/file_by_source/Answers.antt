use Rattle.std.proofs.Common.{refl, map, ap, sym, ◌∙◌}
use Rattle.inbox.specs.inside.Blocks.{slips_of}
use Rattle.inbox.specs.inside.Mail.{letters_in}
use Rattle.inbox.specs.inside.Streams.{all_left}
use Rattle.inbox.proofs.Filed.{filed_none}
use Rattle.inbox.proofs.Streaming.{all_sent, fewer_left, more_filed, none_filed}
use Rattle.inbox.proofs.streams.file_by_source.Goals as goal

pub loop-run-init : goal.loop-run-init
loop-run-init c = record {
  ids = refl;
  so_far = none_filed (letters_in c.args.mail) (all_left c.in_ok-streams.streams) c.args.grid c.in_ok-streams.streams.least (map slips_of c.args.blocks.now.items)
      c.in_ok-streams.ensures.left (filed_none c.args.grid (map slips_of c.args.blocks.now.items) c.requires);
}

pub loop-run-preserved : goal.loop-run-preserved
loop-run-preserved c = record {
  ids = c.in_ok-file_run.ensures.ids ∙ c.loop-run.invariant.ids;
  so_far = more_filed _ _ _ _ _ _ _ _ _ c.loop-run.invariant.so_far c.in-Some.ensures.next c.in_ok-file_run.ensures.filed;
}

pub loop-run-smaller : goal.loop-run-smaller
loop-run-smaller c = fewer_left _ _ _ _ _ c.in-Some.ensures.next

pub returns-clause-filed : goal.returns-clause-filed
returns-clause-filed c = λ yes.
    all_sent _ _ _ _ _ c.loop-run.invariant.so_far (ap all_left (sym c.in_default.ensures.kept) ∙ c.are_taken.ensures yes)
