use Rattle.std.proofs.Common.{◌≡◌}
use Rattle.call_lines.specs.declared.input.InputFault.TheVariants as input
use Rattle.call_lines.specs.InputSays.{lines_of}
use Rattle.sources.proofs.Faults.{IfErr-along, IfOk-along, is_fault}
use Rattle.plain_commands.proofs.Faults.{text_refused, want_of_call}
use Rattle.plain_commands.proofs.Ids.{has_ids}
use Rattle.call_lines.proofs.InputLines.{none_bad}
use Rattle.call_lines.proofs.Meanings.{lent_means}
use Rattle.plain_commands.proofs.compute_call.answer.Goals as goal

pub returns-in_err-input-clause-answered : goal.returns-in_err-input-clause-answered
returns-in_err-input-clause-answered c = λ lines answers.
    let memory : c.in_err-input.field-0.0 ≡ input.OutOfMemory = none_bad (lines_of c.args.input.now) c.in_err-input.field-0.0 answers.means.are_input c.in_err-input.ensures.refused in
    rw (is_fault _ _ c.from_residual.ensures.1) memory

pub answer_to-requires : goal.answer_to-requires
answer_to-requires c = has_ids c.args.input.now c.in_ok-input.input c.call_input.result c.in_ok-input.ensures.says c.call_input.ensures

pub returns-clause-answer : goal.returns-clause-answer
returns-clause-answer c =
    IfOk-along c.answer_to.result
    (λ lines is. record {
      input = c.call_input.result;
      means = lent_means c.args.input.now c.in_ok-input.input c.call_input.result c.in_ok-input.ensures.says c.call_input.ensures;
      outcome = is.0;
      ends = is.1;
      printed = is.2;
    })
    c.answer_to.ensures.answer

pub returns-clause-answered : goal.returns-clause-answered
returns-clause-answered c = λ lines answers. IfErr-along c.answer_to.result want_of_call c.answer_to.ensures.want

pub returns-clause-refused : goal.returns-clause-refused
returns-clause-refused c = IfErr-along c.answer_to.result (text_refused c.args.verified.now c.args.input.now) c.answer_to.ensures.want
