-- The lines of a text, read one after another.
use Rattle.std.proofs.Common.{◌≡◌, ℕ, ◌+◌, ◌<◌, ◌≤◌, List, length, get_or, map, ap, sym, ◌∙◌, arith}
use Rattle.std.specs.List.{enumerate_from}
use Rattle.std.specs.Str.Lines.{lines}
use Rattle.std.proofs.lemmas.List.{get_or-map, length-map}
use Rattle.std.proofs.lemmas.List.FromFn.{length-enumerate_from, get_or-enumerate_from}

-- the next line says this
pub record Comes {A : Type 0} (all : List A) (read : ℕ) (said : A) : Type 0 where
  pub short : read < length all
  pub stands : get_or all read said ≡ said

pub line_comes : {A : Type 0} (says : List ℕ → A) (text : List ℕ) (read index : ℕ) (line : List ℕ) (said : A)
    → read < length (enumerate_from 0 (lines text))
    → ◌≡◌ {A = ℕ × List ℕ} (index, line) (get_or (enumerate_from 0 (lines text)) read (index, line)) → said ≡ says line
    → Comes (map says (lines text)) read said
line_comes says text read index line said short item e =
    let some : read < length (lines text) = omega (arith, length-enumerate_from 0 (lines text)) in
    let both : ◌≡◌ {A = ℕ × List ℕ} (index, line) (0 + read, get_or (lines text) read line) = item ∙ get_or-enumerate_from 0 (lines text) read (index, line) some in
    let here : line ≡ get_or (lines text) read line = ap (λ (p : ℕ × List ℕ). p.1) both in
    record {
      short = rw (length-map (lines text) says) some;
      stands = get_or-map says (lines text) read line said some ∙ ap says (sym here) ∙ sym e;
    }

pub line_counted : (text : List ℕ) (read index : ℕ) (line : List ℕ) → read < length (enumerate_from 0 (lines text))
    → ◌≡◌ {A = ℕ × List ℕ} (index, line) (get_or (enumerate_from 0 (lines text)) read (index, line)) → index ≡ read
line_counted text read index line short item =
    let some : read < length (lines text) = omega (arith, length-enumerate_from 0 (lines text)) in
    let both : ◌≡◌ {A = ℕ × List ℕ} (index, line) (0 + read, get_or (lines text) read line) = item ∙ get_or-enumerate_from 0 (lines text) read (index, line) some in
    let counted : index ≡ 0 + read = ap (λ (p : ℕ × List ℕ). p.0) both in
    omega (arith, counted)

-- all lines were read
pub none_left : {A : Type 0} (says : List ℕ → A) (text : List ℕ) (read : ℕ) → read ≡ length (enumerate_from 0 (lines text))
    → length (map says (lines text)) ≤ read
none_left says text read all = omega (arith, length-enumerate_from 0 (lines text), length-map (lines text) says)
