use Rattle.std.proofs.Common.{get_or, sym, ◌∙◌, arith}
use Rattle.wat_syntax.proofs.Scanner.{one_opening, one_quoted, one_word, IsOther}
use Rattle.wat_syntax.proofs.Left.{left_read, left_tail}
use Rattle.wat_syntax.proofs.lexer.scanner.one.Goals as goal

pub returns-in-40-clause-again : goal.returns-in-40-clause-again
returns-in-40-clause-again c = λ source all ends.
    one_opening source c.args.text.now c.opening.result c.in-len1-up.len_at_least c.in-40.is (c.opening.ensures.again source)

pub returns-in-34-clause-again : goal.returns-in-34-clause-again
returns-in-34-clause-again c = λ source all ends.
    one_quoted source c.args.text.now c.quoted.result c.in-len1-up.len_at_least c.in-34.is ends (c.quoted.ensures.again source all)

pub returns-in_default-clause-again : goal.returns-in_default-clause-again
returns-in_default-clause-again c = λ source all ends.
    let other : IsOther (get_or c.args.text.now 0 0) = record {
      blank = sym c.is_blank.ensures ∙ c.if-is_blank.false;
      closing = omega arith;
      opening = omega arith;
      semicolon = omega arith;
      quote = omega arith;
    } in
    one_word source c.args.text.now c.spelled.result c.in-len1-up.len_at_least other (c.spelled.ensures.again source)

pub returns-then-is_blank-clause-ends : goal.returns-then-is_blank-clause-ends
returns-then-is_blank-clause-ends c = left_tail c.args.text.now 1 (omega arith)

pub returns-in-41-clause-ends : goal.returns-in-41-clause-ends
returns-in-41-clause-ends c = left_tail c.args.text.now 1 (omega arith)

pub returns-in-40-clause-ends : goal.returns-in-40-clause-ends
returns-in-40-clause-ends c = left_read c.args.text.now 1 c.opening.result (omega arith) c.opening.ensures.ends

pub returns-in-59-clause-ends : goal.returns-in-59-clause-ends
returns-in-59-clause-ends c = left_read c.args.text.now 1 c.line_comment.result (omega arith) c.line_comment.ensures.ends

pub returns-in-34-clause-ends : goal.returns-in-34-clause-ends
returns-in-34-clause-ends c = left_read c.args.text.now 1 c.quoted.result (omega arith) c.quoted.ensures.ends
