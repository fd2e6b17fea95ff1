use Rattle.std.proofs.Common.{Some, None, refl, ap}
use Rattle.wat_syntax.specs.declared.lexer.strings.Part.{Part}
use Rattle.wat_syntax.proofs.Left.{left_after}
use Rattle.wat_syntax.proofs.Quotes.{ends_at, goes_behind, none_behind, no_character_behind}
use Rattle.wat_syntax.proofs.lexer.strings.behind.Goals as goal

pub returns-in_err-one-clause-again : goal.returns-in_err-one-clause-again
returns-in_err-one-clause-again c = λ bytes rest e.
    let p = c.each.invariant.1 bytes rest e in
    absurd (none_behind c.each.rest.now None p.0 rest refl c.in_err-one.ensures.again p.1)

pub returns-in-End-clause-again : goal.returns-in-End-clause-again
returns-in-End-clause-again c = λ bytes rest e.
    let p = c.each.invariant.1 bytes rest e in
    ends_at c.each.rest.now (Some (c.in_ok-one.one, c.in_ok-one.after)) p.0 rest c.in_ok-one.after
    (ap (λ (x : Part). Some (x, c.in_ok-one.after)) c.in-End.is) c.in_ok-one.ensures.again p.1

pub each-preserved-in-Byte : goal.each-preserved-in-Byte
each-preserved-in-Byte c = (
  left_after c.args.text.now c.each.rest.now c.in_ok-one.after.now c.each.invariant.0 c.in_ok-one.ensures.ends,
  λ bytes rest e.
      let p = c.each.invariant.1 bytes rest e in
      goes_behind c.each.rest.now (Some (c.in_ok-one.one, c.in_ok-one.after)) p.0 rest c.in-Byte.field-0 c.in_ok-one.after
      (ap (λ (x : Part). Some (x, c.in_ok-one.after)) c.in-Byte.is) c.in_ok-one.ensures.again p.1,
)

pub each-preserved : goal.each-preserved
each-preserved c = (
  left_after c.args.text.now c.each.rest.now c.in_ok-one.after.now c.each.invariant.0 c.in_ok-one.ensures.ends,
  λ bytes rest e.
      let p = c.each.invariant.1 bytes rest e in
      absurd (no_character_behind c.each.rest.now (Some (c.in_ok-one.one, c.in_ok-one.after)) p.0 rest c.in-Character.field-0 c.in_ok-one.after
      (ap (λ (x : Part). Some (x, c.in_ok-one.after)) c.in-Character.is) c.in_ok-one.ensures.again p.1),
)
