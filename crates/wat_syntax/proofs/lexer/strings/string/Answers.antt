use Rattle.std.proofs.Common.{◌≡◌, ◌++◌, [], ◌-◌, List, ℕ, Some, None, length, drop, ap, sym, subst, refl, ◌∙◌, arith}
use Rattle.std.proofs.lemmas.List.{drop_all, take_all, length-drop}
use Rattle.wat_syntax.specs.declared.lexer.strings.Part.{Part}
use Rattle.wat_syntax.specs.inside.Strings.{string_of}
use Rattle.wat_syntax.proofs.Quotes.{Continues, goes_on, ends, no_character, not_ended, nothing_there}
use Rattle.wat_syntax.proofs.lexer.strings.string.Goals as goal

pub returns-then-place-source : goal.returns-then-place-source
returns-then-place-source c = λ bytes e.
    let none : drop c.args.place c.args.source.now ≡ [] = drop_all c.args.place c.args.source.now (omega arith) in
    absurd (nothing_there bytes (ap string_of (sym none) ∙ e))

pub each-init : goal.each-init
each-init c = λ total e.
    let text = drop c.args.place c.args.source.now in
    let size : length (drop c.args.place c.args.source.now) ≡ length c.args.source.now - c.args.place = length-drop c.args.place c.args.source.now in
    let all = take_all (length c.args.source.now - c.args.place) (drop c.args.place c.args.source.now) (omega arith) in
    (total, ap string_of all ∙ e, ap (λ (front : List ℕ). front ++ total) (sym c.new-bytes.ensures.items))

pub returns-in-End : goal.returns-in-End
returns-in-End c = λ bytes e.
    ends c.each.bytes.items c.each.rest.now (Some (c.in-Some.one, c.in-Some.after)) c.in-Some.after bytes
    (ap (λ (p : Part). Some (p, c.in-Some.after)) c.in-End.is) c.in-Some.ensures.again (c.each.invariant bytes e)

pub each-preserved-in_ok-push-in-Byte : goal.each-preserved-in_ok-push-in-Byte
each-preserved-in_ok-push-in-Byte c = λ total e.
    let on = goes_on c.each.bytes.items c.each.rest.now (Some (c.in-Some.one, c.in-Some.after)) c.in-Byte.b c.in-Some.after total
    (ap (λ (p : Part). Some (p, c.in-Some.after)) c.in-Byte.is) c.in-Some.ensures.again (c.each.invariant total e) in
    subst (λ (front : List ℕ). Continues front c.in-Some.after.now total) (sym c.in_ok-push-in-Byte.ensures.items) on

pub each-preserved : goal.each-preserved
each-preserved c = λ total e.
    absurd (no_character c.each.bytes.items c.each.rest.now (Some (c.in-Some.one, c.in-Some.after)) c.in-Character.c c.in-Some.after total
    (ap (λ (p : Part). Some (p, c.in-Some.after)) c.in-Character.is) c.in-Some.ensures.again (c.each.invariant total e))

pub returns : goal.returns
returns c = λ bytes e. absurd (not_ended c.each.bytes.items c.each.rest.now None bytes refl c.in_default.ensures.again (c.each.invariant bytes e))
