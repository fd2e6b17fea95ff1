use Rattle.std.proofs.Common.{◌+◌, pos, not, ap, refl, sym, ◌∙◌}
use Rattle.std.specs.List.{list_any}
use Rattle.std.proofs.lemmas.List.Sums.{count_by_more_no, count_by_more_yes}
use Rattle.graph.specs.Entry.{ids}
use Rattle.superstep.specs.Superstep.{is_sent_to}
use Rattle.plain_run.specs.inside.OneMachine.{rows_in}
use Rattle.plain_run.proofs.Delivering.{Message, none_sent, one_more_sent}
use Rattle.plain_run.proofs.machine.deliver_all.Goals as goal
use Rattle.plain_run.proofs.machine.deliver_all.Goals.{else-not-branch, then-not-branch}

pub loop-message-init : goal.loop-message-init
loop-message-init c = record { same = refl; rows = none_sent (rows_in c.args.vertices.now); dropped = refl }

pub deliver-requires-clause-ids : goal.deliver-requires-clause-ids
deliver-requires-clause-ids c = c.requires.ids ∙ ap ids (sym c.loop-message.invariant.same)

pub loop-message-preserved : goal.loop-message-preserved
loop-message-preserved c =
    let messages = c.args.messages.now in
    let numbers = c.args.ids.now in
    let i = c.loop-message.message-index in
    let none : Message = (pos 0, pos 0) in
    let is_lost = λ (send : Message). not (list_any (λ id. is_sent_to id send) numbers) in
    let found = c.in_ok-deliver.ensures.found in
    record {
      same = c.in_ok-deliver.ensures.same ∙ c.loop-message.invariant.same;
      rows =
          one_more_sent messages i none (rows_in c.args.vertices.now) (rows_in c.loop-message.vertices) (rows_in c.deliver.new.vertices) c.loop-message-test.true
          c.loop-message.invariant.rows c.in_ok-deliver.ensures.rows;
      dropped = elim c.if-not-branch.branch [
        | then-not-branch w ↦
            w.dropped-is ∙ ap (λ n. n + 1) c.loop-message.invariant.dropped
            ∙ sym (count_by_more_yes is_lost messages i none c.loop-message-test.true (ap not (sym found ∙ w.if-not-branch.true)))
        | else-not-branch w ↦
            w.dropped-is ∙ c.loop-message.invariant.dropped
            ∙ sym (count_by_more_no is_lost messages i none c.loop-message-test.true (ap not (sym found ∙ w.if-not-branch.false)))
      ];
    }
