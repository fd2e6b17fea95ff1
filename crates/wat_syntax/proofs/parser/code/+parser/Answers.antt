use Rattle.std.proofs.Common.{◌≡◌, ◌<◌, ◌≤◌, false, true, arith, rules}
use Rattle.std.proofs.lemmas.Result.{err_from_is_err_and}
use Rattle.wat_syntax.specs.inside.Reading.{open_first}
use Rattle.wat_syntax.specs.inside.ReadingCode.{stops, goes_on, instr_step, instrs_at, inner_at}
use Rattle.wat_syntax.proofs.Repeats.{loop_steps, loop_fails, loop_done}
use Rattle.wat_syntax.proofs.Nested.{goes, ends, folded_said, folded_failed, instr_said, instr_failed, inner_said, inner_failed}
use Rattle.wat_syntax.proofs.parser.code.+parser.Goals as goal

pub inner-returns-in_err-instructions : goal.inner-returns-in_err-instructions
inner-returns-in_err-instructions t c = record {
  again = λ some n.
      let p = err_from_is_err_and c.from_residual-in_err-instructions.result c.from_residual-in_err-instructions.ensures.1 in
      let levels : 1 ≤ c.args.room.levels = omega (arith, c.if-room-eq0.false) in
      let room : 0 < c.in_block.result.parentheses = omega (arith, some, c.in_block.ensures.parentheses) in
      rw (p.1, p.2) (inner_failed c.args.room.levels c.in_block.result.levels n c.new-instrs.result.items c.args.parser.now _ c.in_err-instructions.field-0.0
      levels c.in_block.ensures.levels c.new-instrs.ensures.items c.parser.view_is (c.in_err-instructions.ensures.again room n));
  shrinks = search rules;
}

pub inner-returns : goal.inner-returns
inner-returns t c = record {
  again = λ some n.
      let levels : 1 ≤ c.args.room.levels = omega (arith, c.if-room-eq0.false) in
      let room : 0 < c.in_block.result.parentheses = omega (arith, some, c.in_block.ensures.parentheses) in
      rw c.from.ensures (inner_said c.args.room.levels c.in_block.result.levels n c.new-instrs.result.items c.instructions.new.instrs.items c.args.parser.now _ c.instructions.new.parser _
      levels c.in_block.ensures.levels c.new-instrs.ensures.items c.parser.view_is c.parser-2.view_is (c.in_ok-instructions.ensures.again room n));
  shrinks = search rules;
}

pub instructions-each-preserved-in-Continue-1 : goal.instructions-each-preserved-in-Continue-1
instructions-each-preserved-in-Continue-1 t c =
    let on : stops c.each.parser.0 ≡ false = cc in
    let opened : open_first c.each.parser.0 ≡ true = cc in
    record {
      less = omega (arith, c.in_ok-folded.ensures.shrinks);
      onward = λ n some. loop_steps goes_on (instr_step n (inner_at c.args.room.levels n)) (c.args.instrs.now.items, c.args.parser.now) (c.each.instrs.items, c.each.parser) _
          (goes c.each.parser.0 on)
          (folded_said n (inner_at c.args.room.levels n) c.each.instrs.items c.each.parser.0 c.each.parser.1 _ opened)
          (c.each.invariant.onward n some);
    }

pub instructions-returns-in_err-folded : goal.instructions-returns-in_err-folded
unfolding instrs_at
instructions-returns-in_err-folded t c = record {
  again = λ some n.
      let p = err_from_is_err_and c.from_residual.result c.from_residual.ensures.1 in
      let on : stops c.each.parser.0 ≡ false = cc in
      let opened : open_first c.each.parser.0 ≡ true = cc in
      rw p.1 (loop_fails goes_on (instr_step n (inner_at c.args.room.levels n)) (c.args.instrs.now.items, c.args.parser.now) (c.each.instrs.items, c.each.parser) p.0 n
      (goes c.each.parser.0 on)
      (folded_failed n (inner_at c.args.room.levels n) c.each.instrs.items c.each.parser.0 c.each.parser.1 p.0 opened)
      (c.each.invariant.onward n some));
  shrinks = search rules;
}

pub instructions-returns-in_err-instr : goal.instructions-returns-in_err-instr
unfolding instrs_at
instructions-returns-in_err-instr t c = record {
  again = λ some n.
      let p = err_from_is_err_and c.from_residual-in_err-instr.result c.from_residual-in_err-instr.ensures.1 in
      let on : stops c.each.parser.0 ≡ false = cc in
      rw (p.1, p.2) (loop_fails goes_on (instr_step n (inner_at c.args.room.levels n)) (c.args.instrs.now.items, c.args.parser.now) (c.each.instrs.items, c.each.parser) c.in_err-instr.field-0.0 n
      (goes c.each.parser.0 on)
      (instr_failed n (inner_at c.args.room.levels n) c.each.instrs.items c.each.parser c.in_err-instr.field-0.0 (c.in_err-instr.ensures.again some n))
      (c.each.invariant.onward n some));
  shrinks = search rules;
}

pub instructions-each-preserved : goal.instructions-each-preserved
instructions-each-preserved t c =
    let on : stops c.each.parser.0 ≡ false = cc in
    record {
      less = omega (arith, c.in_ok-instr.ensures.shrinks);
      onward = λ n some. rw c.in_ok-push.ensures.items (loop_steps goes_on (instr_step n (inner_at c.args.room.levels n)) (c.args.instrs.now.items, c.args.parser.now) (c.each.instrs.items, c.each.parser) _
          (goes c.each.parser.0 on)
          (instr_said n (inner_at c.args.room.levels n) c.each.instrs.items c.in_ok-instr.instr c.each.parser c.instruction.new.parser (c.in_ok-instr.ensures.again some n))
          (c.each.invariant.onward n some));
    }

pub instructions-returns : goal.instructions-returns
unfolding instrs_at
instructions-returns t c = record {
  again = λ some n.
      let off : stops c.each.parser.0 ≡ true = cc in
      loop_done goes_on (instr_step n (inner_at c.args.room.levels n)) (c.args.instrs.now.items, c.args.parser.now) (c.each.instrs.items, c.each.parser) n
      (ends c.each.parser.0 off)
      (c.each.invariant.onward n some);
  shrinks = search rules;
}
