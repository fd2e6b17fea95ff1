use Rattle.std.proofs.Common.{inl, inr, ◌≡◌, Some, None, cond, ltb, length, rules, arith, ◌∙◌, ap}
use Rattle.std.specs.List.{position_or_len}
use Rattle.std.specs.Option.{unwrap_or}
use Rattle.std.proofs.lemmas.Bool.{cases_lt, lt-ltb, le-ltb}
use Rattle.std.proofs.lemmas.Iterator.{YieldsList-from_slice}
use Rattle.std.proofs.lemmas.Iterator.Search.{position_from_yields_List}
use borrow.Author.Tests.{tests}
use Rattle.line_text.specs.Fields.{is_blank}
use Rattle.line_text.proofs.Cut.{position-le-length}
use Rattle.line_text.proofs.fields.blank_place.Goals as goal

pub returns : goal.returns
returns c =
    let found : c.position.result ≡ cond (ltb (position_or_len is_blank c.args.line.now) (length c.args.line.now)) (Some (position_or_len is_blank c.args.line.now)) None =
    position_from_yields_List is_blank _ _ c.position.result c.position.ensures.ran (YieldsList-from_slice c.args.line.now cc) (λ x b q k. search (rules, tests)) in
    let within = position-le-length c.args.line.now in
    elim (cases_lt (position_or_len is_blank c.args.line.now) (length c.args.line.now)) [
      | inl some ↦ c.unwrap_or.ensures ∙ ap (λ found. unwrap_or found (length c.args.line.now)) (found ∙ ap (λ b. cond b (Some (position_or_len is_blank c.args.line.now)) None) (lt-ltb _ _ some))
      | inr none ↦ let e : length c.args.line.now ≡ position_or_len is_blank c.args.line.now = omega arith in
          c.unwrap_or.ensures ∙ ap (λ found. unwrap_or found (length c.args.line.now)) (found ∙ ap (λ b. cond b (Some (position_or_len is_blank c.args.line.now)) None) (le-ltb _ _ none)) ∙ e
    ]
