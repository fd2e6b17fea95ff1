use Rattle.std.proofs.Common.{◌<◌, arith, get_or, length, refl, rules}
use Rattle.line_text.proofs.Numbers.{no_numeral, numeral_read, read_all, read_more}
use Rattle.line_text.proofs.number.numeral.Goals.{then-digit-lt48-via-then-digit-lt48, then-digit-lt48-via-else-digit-lt48+then-digit-gt57}
use Rattle.line_text.proofs.number.numeral.Goals as goal

pub returns-then-digit-lt48 : goal.returns-then-digit-lt48
returns-then-digit-lt48 c = elim c.then-digit-lt48.branch [
  | then-digit-lt48-via-then-digit-lt48 w ↦
      let low = w.if-digit-lt48.true in
      no_numeral c.args.most c.args.digits.now (λ h. let here = h.all c.loop-digit.digit-index c.loop-digit-test.true in omega arith)
  | then-digit-lt48-via-else-digit-lt48+then-digit-gt57 w ↦
      let high = w.if-digit-gt57.true in
      no_numeral c.args.most c.args.digits.now (λ h. let here = h.all c.loop-digit.digit-index c.loop-digit-test.true in omega arith)
]

pub loop-digit-preserved : goal.loop-digit-preserved
loop-digit-preserved c =
    read_more c.args.digits.now c.loop-digit.digit-index c.loop-digit.number (get_or c.args.digits.now c.loop-digit.digit-index 0) c.saturating_add-number.result
    c.loop-digit.invariant c.loop-digit-test.true refl (c.if-digit-lt48.false, c.if-digit-gt57.false)
    (omega (arith, c.saturating_mul.ensures, c.from.ensures, c.saturating_add-number.ensures))

pub returns : goal.returns
returns c =
    let some : 0 < length c.args.digits.now = search rules in
    numeral_read c.args.most c.loop-digit.number c.args.digits.now c.requires
    (read_all c.args.digits.now c.loop-digit.digit-index c.loop-digit.number c.loop-digit.invariant c.loop-digit-test.false) some (omega arith)
