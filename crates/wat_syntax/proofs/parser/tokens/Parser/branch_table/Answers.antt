use Rattle.std.proofs.Common.{true, false, arith, rules}
use Rattle.std.proofs.lemmas.Result.{err_from_is_err_and}
use Rattle.wat_syntax.specs.inside.Reading.{number_first}
use Rattle.wat_syntax.specs.inside.ReadingCode.{label_step}
use Rattle.wat_syntax.proofs.Repeats.{IsAnswer, loop_steps}
use Rattle.wat_syntax.proofs.Labels.{label_said, table_fails, table_said}
use Rattle.wat_syntax.proofs.parser.tokens.Parser.branch_table.Goals as goal

pub returns-in_err-next : goal.returns-in_err-next
returns-in_err-next c = record {
  again = λ n.
      let p = err_from_is_err_and c.from_residual-in_err-next.result c.from_residual-in_err-next.ensures.1 in
      let on : IsAnswer (number_first c.each.self.0) true = rw c.each-test.true at c.is_index.ensures in
      rw (p.1, p.2) (table_fails c.new-labels.result.items c.each.labels.items c.in_ok-last.last c.each.last n c.args.self.now c.index.new.self c.each.self
      c.in_err-next.field-0.0 c.new-labels.ensures.items c.in_ok-last.ensures.again on c.in_err-next.ensures.again c.each.invariant.onward);
  shrinks = search rules;
}

pub each-preserved : goal.each-preserved
each-preserved c =
    let on : IsAnswer (number_first c.each.self.0) true = rw c.each-test.true at c.is_index.ensures in
    record {
      less = omega (arith, c.in_ok-next.ensures.shrinks);
      onward = rw c.in_ok-push.ensures.items (loop_steps number_first label_step ((c.new-labels.result.items, c.in_ok-last.last), c.index.new.self) ((c.each.labels.items, c.each.last), c.each.self) _
          on (label_said c.each.labels.items c.each.last c.in_ok-next.next c.each.self c.index-in-each.new.self c.in_ok-next.ensures.again)
          c.each.invariant.onward);
    }

pub returns : goal.returns
returns c = record {
  again = λ n.
      let off : IsAnswer (number_first c.each.self.0) false = rw c.each-test.false at c.is_index.ensures in
      rw c.from.ensures (table_said c.new-labels.result.items c.each.labels.items c.in_ok-last.last c.each.last n c.args.self.now c.index.new.self c.each.self
      c.new-labels.ensures.items c.in_ok-last.ensures.again off c.each.invariant.onward);
  shrinks = search rules;
}
