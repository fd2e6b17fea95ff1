-- Lines of values, one after another.
use Rattle.std.proofs.Common.{◌≡◌, ℕ, ◌+◌, ◌<◌, List, ◌∷◌, ◌++◌, length, take, drop, get_or, ap, sym, ◌∙◌, append_assoc}
use Rattle.std.specs.Prelude.{ℤ}
use Rattle.std.proofs.lemmas.List.{drop_more, take-append-drop}
use Rattle.std.proofs.lemmas.Grind.{flat_map-append}
use Rattle.graph.specs.Print.{value_line, value_lines}

-- the lines before one, that line, and the lines after it
pub lines_cut : (values : List (ℕ × ℤ)) (k : ℕ) (d : ℕ × ℤ) → k < length values
    → value_lines values ≡ (value_lines (take k values) ++ value_line (get_or values k d)) ++ value_lines (drop (k + 1) values)
lines_cut values k d below =
    ap value_lines (sym (take-append-drop k values) ∙ ap (λ vs. take k values ++ vs) (drop_more values k d below))
    ∙ flat_map-append value_line (take k values) (get_or values k d ∷ drop (k + 1) values)
    ∙ sym (append_assoc (value_lines (take k values)) (value_line (get_or values k d)) (value_lines (drop (k + 1) values)))

pub lines_front : (values : List (ℕ × ℤ)) (k : ℕ) → value_lines values ≡ value_lines (take k values) ++ value_lines (drop k values)
lines_front values k = ap value_lines (sym (take-append-drop k values)) ∙ flat_map-append value_line (take k values) (drop k values)
