-- Pieces behind a text, one after another.
use Rattle.std.proofs.Common.{◌≡◌, ◌∙◌, ◌++◌, [], ℕ, List, Result, String, false, ap, sym, append-nil, append_assoc, string_bytes}
use Rattle.std.specs.Prelude.{IfOk}
use Rattle.std.proofs.lemmas.Result.{IfOk-weaker}
use Rattle.line_text.specs.declared.text_builder.TextBuilder.{TextBuilder}
use Rattle.line_text.specs.TextBuilder.{Gains}

pub gains_nothing : (a : TextBuilder) → Gains a a []
gains_nothing a whole = (whole, sym (append-nil (string_bytes a.text)))

pub gains_more : (a b c : TextBuilder) (x y : List ℕ) → Gains a b x → Gains b c y → Gains a c (x ++ y)
gains_more a b c x y first then whole =
    let last = then whole in
    let before = first last.0 in
    (before.0, last.1 ∙ ap (λ bytes. bytes ++ y) before.1 ∙ append_assoc (string_bytes a.text) x y)

-- what is finished is what was put behind nothing
pub finished : {Z E : Type 0} (a b : TextBuilder) (bytes : List ℕ) (result : Result (String Z) E)
    → string_bytes a.text ≡ [] → Gains a b bytes
    → IfOk result (λ text. (b.is_cut ≡ false) × (string_bytes text ≡ string_bytes b.text))
    → IfOk result (λ text. string_bytes text ≡ bytes)
finished a b bytes result empty gained is =
    IfOk-weaker result _ _ (λ text whole. whole.1 ∙ (gained whole.0).1 ∙ ap (λ before. before ++ bytes) empty) is
