use Rattle.std.proofs.Common.{◌≤◌, ◌++◌, get_or, length, map, pos, rules, subst, take, ◌∙◌}
use Rattle.std.proofs.lemmas.Int.{to_z-of_z}
use Rattle.std.proofs.lemmas.List.{take_all}
use Rattle.inbox.specs.Merging.{letter_sent, letters_sent}
use Rattle.inbox.specs.inside.Blocks.{AreFiled, slips_of}
use Rattle.inbox.proofs.Filed.{sends_next}
use Rattle.inbox.proofs.blocks.file_sends.Goals as goal

pub loop-send-preserved : goal.loop-send-preserved
loop-send-preserved c =
    let i = c.loop-send.send-index in
    let sends = c.args.sends.now in
    record {
      ids = c.in_ok-file.ensures.ids ∙ c.loop-send.invariant.ids;
      filed = λ sent source filed.
          sends_next c.args.grid sent source sends i (pos 0, pos 0) (map slips_of c.file.new.blocks.items) c.loop-send-test.true
          (c.in_ok-file.ensures.filed (sent ++ letters_sent source (take i sends)) (letter_sent source (i, get_or sends i (pos 0, pos 0))) (search (rules, to_z-of_z)) (search (rules, to_z-of_z))
          (c.loop-send.invariant.filed sent source filed));
    }

pub returns-clause-filed : goal.returns-clause-filed
returns-clause-filed c = λ sent source filed.
    let past : length c.args.sends.now ≤ c.loop-send.send-index = c.loop-send-test.false in
    subst (λ sends. AreFiled c.args.grid (sent ++ letters_sent source sends) (map slips_of c.loop-send.blocks.items)) (take_all c.loop-send.send-index c.args.sends.now past) (c.loop-send.invariant.filed sent source filed)
