use Rattle.std.proofs.Common.{◌≡◌, ◌-◌, ◌++◌, [], ℕ, List, Option, length, drop, sym, ap, subst, ◌∙◌, arith}
use Rattle.std.specs.Prelude.{IfSome, option_map}
use Rattle.std.proofs.lemmas.List.{append-nil}
use Rattle.std.proofs.lemmas.Result.{err_from_is_err_and}
use Rattle.wat_syntax.specs.declared.lexer.token.Token.{Token}
use Rattle.wat_syntax.specs.inside.Lexing.{IsLeft, listed}
use Rattle.wat_syntax.specs.Words.{first_word}
use Rattle.wat_syntax.specs.Numbering.{IsNumbered}
use Rattle.wat_syntax.specs.inside.Tokens.{Tok, sorted, tok_of, toks_of}
use Rattle.wat_syntax.proofs.Left.{left_after, left_all}
use Rattle.wat_syntax.proofs.Lexes.{Continues, goes_on, fails, is_done, starts, pushed}
use Rattle.wat_syntax.proofs.Numbering.{one_more, still_numbered}
use Rattle.wat_syntax.proofs.lexer.lex.Goals as goal

pub each-init : goal.each-init
each-init c = record {
  left = subst (IsLeft c.args.source.now) (sym c.as_bytes-text.ensures.value) (left_all c.args.source.now);
  so_far = λ ps held printed.
      subst (λ (r : List ℕ). Continues c.args.source.now (toks_of c.args.source.now c.new-tokens.result.items) r (sorted ps))
      (sym c.as_bytes-text.ensures.value)
      (starts c.args.source.now (toks_of c.args.source.now c.new-tokens.result.items) ps (ap (toks_of c.args.source.now) c.new-tokens.ensures.items) held printed);
  apart = c.new-names.ensures.apart;
  numbered = rw (c.new-tokens.ensures.items, c.new-places.ensures.items) tt;
}

pub returns-in_err-next-clause-again : goal.returns-in_err-next-clause-again
returns-in_err-next-clause-again c = λ ps held printed.
    let p = err_from_is_err_and c.from_residual.result c.from_residual.ensures.1 in
    let some : length c.each.rest.now ≡ 0 → ⊥ = (λ e. absurd (grind arith)) in
    let so_far = c.each.invariant.so_far ps held printed in
    rw (p.1, p.2) (fails c.args.source.now c.each.rest.now (toks_of c.args.source.now c.each.tokens.items) c.in_err-next.field-0.0 (sorted ps) some
    (c.in_err-next.ensures.again c.args.source.now c.as_bytes-text.ensures.len so_far.4) so_far)

pub each-preserved-in_ok-push-2 : goal.each-preserved-in_ok-push-2
each-preserved-in_ok-push-2 c = record {
  left = left_after c.args.source.now c.each.rest.now c.in_ok-next.after.now c.each.invariant.left c.in_ok-next.ensures.ends;
  so_far = λ ps held printed.
      let source = c.args.source.now in
      let some : length c.each.rest.now ≡ 0 → ⊥ = (λ e. absurd (grind arith)) in
      let so_far = c.each.invariant.so_far ps held printed in
      let on = goes_on c.args.source.now c.each.rest.now (toks_of c.args.source.now c.each.tokens.items) c.in_ok-next.next c.in_ok-next.after (sorted ps) some
      (c.in_ok-next.ensures.again c.args.source.now c.as_bytes-text.ensures.len so_far.4) so_far in
      let same : toks_of c.args.source.now c.push.new.self.items ≡ toks_of c.args.source.now c.each.tokens.items ++ listed (option_map (tok_of c.args.source.now) c.in_ok-next.next) [] =
      ap (toks_of c.args.source.now) c.in_ok-push.ensures.items ∙ pushed c.args.source.now c.each.tokens.items c.in-Some.token
      ∙ ap (λ (o : Option Token). toks_of c.args.source.now c.each.tokens.items ++ listed (option_map (tok_of c.args.source.now) o) []) (sym c.in-Some.is) in
      subst (λ (front : List Tok). Continues c.args.source.now front c.in_ok-next.after.now (sorted ps)) (sym same) on;
  apart = c.in_ok-next.ensures.grows.apart c.each.invariant.apart;
  numbered =
      let place = length c.as_bytes-text.result.now - length c.each.rest.now in
      let here : c.each.rest.now ≡ drop place c.args.source.now =
      c.each.invariant.left.behind_some ∙ ap (λ n. drop (n - length c.each.rest.now) c.args.source.now) (sym c.as_bytes-text.ensures.len) in
      let named : IsNumbered c.one.new.names (first_word c.each.rest.now) c.in-Some.token =
      subst (λ (o : Option Token). IfSome o (IsNumbered c.one.new.names (first_word c.each.rest.now))) c.in-Some.is c.in_ok-next.ensures.named in
      let there : IsNumbered c.one.new.names (first_word (drop place c.args.source.now)) c.in-Some.token =
      subst (λ (bs : List ℕ). IsNumbered c.one.new.names (first_word bs) c.in-Some.token) here named in
      rw (c.in_ok-push.ensures.items, c.in_ok-push-2.ensures.items)
      (one_more c.args.source.now _ _ c.in_ok-next.ensures.grows c.each.tokens.items c.each.places.items c.in-Some.token place c.each.invariant.numbered there);
}

pub each-preserved : goal.each-preserved
each-preserved c = record {
  left = left_after c.args.source.now c.each.rest.now c.in_ok-next.after.now c.each.invariant.left c.in_ok-next.ensures.ends;
  so_far = λ ps held printed.
      let some : length c.each.rest.now ≡ 0 → ⊥ = (λ e. absurd (grind arith)) in
      let so_far = c.each.invariant.so_far ps held printed in
      let on = goes_on c.args.source.now c.each.rest.now (toks_of c.args.source.now c.each.tokens.items) c.in_ok-next.next c.in_ok-next.after (sorted ps) some
      (c.in_ok-next.ensures.again c.args.source.now c.as_bytes-text.ensures.len so_far.4) so_far in
      let same : toks_of c.args.source.now c.each.tokens.items ++ listed (option_map (tok_of c.args.source.now) c.in_ok-next.next) [] ≡ toks_of c.args.source.now c.each.tokens.items =
      ap (λ (o : Option Token). toks_of c.args.source.now c.each.tokens.items ++ listed (option_map (tok_of c.args.source.now) o) []) c.in_default.is
      ∙ append-nil (toks_of c.args.source.now c.each.tokens.items) in
      subst (λ (front : List Tok). Continues c.args.source.now front c.in_ok-next.after.now (sorted ps)) same on;
  apart = c.in_ok-next.ensures.grows.apart c.each.invariant.apart;
  numbered = still_numbered c.args.source.now _ _ c.in_ok-next.ensures.grows c.each.tokens.items c.each.places.items c.each.invariant.numbered;
}

pub returns-clause-again : goal.returns-clause-again
returns-clause-again c = λ ps held printed.
    let none : length c.each.rest.now ≡ 0 = grind arith in
    is_done c.args.source.now c.each.rest.now (toks_of c.args.source.now c.each.tokens.items) (sorted ps) none (c.each.invariant.so_far ps held printed)

pub returns-clause-names : goal.returns-clause-names
returns-clause-names c = (_, c.each.invariant.apart, c.each.invariant.numbered)
