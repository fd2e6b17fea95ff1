use Rattle.std.proofs.Common.{true, false, arith, rules}
use Rattle.std.proofs.lemmas.Result.{err_from_is_err_and}
use Rattle.wat_syntax.proofs.Repeats.{IsAnswer, loop_steps, loop_fails, loop_done}
use Rattle.wat_syntax.proofs.parser.items.repeated.Goals as goal

pub returns-in_err-add : goal.returns-in_err-add
returns-in_err-add g c = record {
  again = λ n.
      let item = g.I.Item in
      let p = err_from_is_err_and c.from_residual.result c.from_residual.ensures.1 in
      let on : IsAnswer (item.first c.args.item.now c.each.parser.0) true = rw c.each-test.true at c.is_next.ensures in
      rw (p.1, p.2) (loop_fails (item.first c.args.item.now) (item.step c.args.item.now n) (item.seen c.args.made.now, c.args.parser.now) (item.seen c.each.made, c.each.parser) c.in_err-add.field-0.0 n
      on (c.in_err-add.ensures.again n) (c.each.invariant.onward n));
  shrinks = search rules;
}

pub each-preserved : goal.each-preserved
each-preserved g c =
    let item = g.I.Item in
    let on : IsAnswer (item.first c.args.item.now c.each.parser.0) true = rw c.each-test.true at c.is_next.ensures in
    record {
      less = omega (arith, c.in_ok-add.ensures.shrinks);
      onward = λ n. loop_steps (item.first c.args.item.now) (item.step c.args.item.now n) (item.seen c.args.made.now, c.args.parser.now) (item.seen c.each.made, c.each.parser) _
          on (c.in_ok-add.ensures.again n) (c.each.invariant.onward n);
    }

pub returns : goal.returns
returns g c = record {
  again = λ n.
      let item = g.I.Item in
      let off : IsAnswer (item.first c.args.item.now c.each.parser.0) false = rw c.each-test.false at c.is_next.ensures in
      loop_done (item.first c.args.item.now) (item.step c.args.item.now n) (item.seen c.args.made.now, c.args.parser.now) (item.seen c.each.made, c.each.parser) n
      off (c.each.invariant.onward n);
  shrinks = search rules;
}
