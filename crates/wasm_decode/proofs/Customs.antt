-- Skipping custom sections one after another.
use Rattle.std.proofs.Common.{◌≡◌, ℕ, zero, suc, ◌≤◌, ◌<◌, ◌==◌, true, false, List, [], ◌∷◌, length, drop, slice_get, Option, Some, None, IfSome, refl, sym, ap, ◌∙◌, arith}
use Rattle.std.specs.Option.{option_eq}
use Rattle.std.proofs.lemmas.Bool.{eqb-true, false≢true, ne_eqb}
use Rattle.wasm_items.specs.declared.fault.DecodeFault.{DecodeFault}
use Rattle.wasm_items.specs.inside.Reading.{◌>>=◌, Fails, part_at, name_at}
use Rattle.wasm_decode.specs.inside.ReadingModule.{custom_at, customs_at}
use Rattle.wasm_items.proofs.Loops.{Fails-then}
use Rattle.wasm_items.proofs.Shrinks.{LeavesAtMost, part_leaves}

-- ---- one custom section leaves no more than it was given

named_leaves : {A : Type 0} (n : ℕ) (rest : List ℕ) (name : Option A) → length rest ≤ n → IfSome (name >>= λ _. Some rest) (λ left. length left ≤ n)
named_leaves n rest None le = tt
named_leaves n rest (Some name) le = le

inside_leaves : (n : ℕ) (read : Option (List ℕ × List ℕ)) → LeavesAtMost n read → IfSome (read >>= λ inside. name_at inside.0 >>= λ _. Some inside.1) (λ left. length left ≤ n)
inside_leaves n None h = tt
inside_leaves n (Some inside) h = named_leaves n inside.1 (name_at inside.0) h

custom_leaves : (bytes : List ℕ) → IfSome (custom_at bytes) (λ left. length left ≤ length bytes)
unfolding custom_at
custom_leaves bytes = inside_leaves (length bytes) (part_at bytes) (part_leaves bytes)

-- ---- all of them

-- reading the rest, with some bound that is large enough, gives what reading all gives
abbrev pub Skips : List ℕ → Option (List ℕ) → Type 0
Skips rest total = (k : ℕ) × (length rest < k) × (customs_at k rest ≡ total)

-- what the test for a custom section means
pub is_custom : (first : Option ℕ) → true ≡ option_eq ◌==◌ first (Some 0) → first ≡ Some 0
is_custom None e = absurd cc
is_custom (Some b) e = ap Some (eqb-true b 0 (sym e))

pub is_no_custom : (first : Option ℕ) → false ≡ option_eq ◌==◌ first (Some 0) → first ≡ Some 0 → ⊥
is_no_custom first e is = let same = ap (λ o. option_eq ◌==◌ o (Some 0)) is in absurd (false≢true (e ∙ same))

name_first : (n : ℕ) (rest : List ℕ) (read : Option (List ℕ × List ℕ)) → (read >>= λ name. customs_at n rest) ≡ ((read >>= λ name. Some rest) >>= customs_at n)
name_first n rest None = refl
name_first n rest (Some name) = refl

inside_first : (n : ℕ) (read : Option (List ℕ × List ℕ)) → (read >>= λ inside. name_at inside.0 >>= λ name. customs_at n inside.1)
    ≡ ((read >>= λ inside. name_at inside.0 >>= λ name. Some inside.1) >>= customs_at n)
inside_first n None = refl
inside_first n (Some inside) = name_first n inside.1 (name_at inside.0)

-- a custom section, and the others
customs_at-custom : (n : ℕ) (bytes : List ℕ) → slice_get bytes 0 ≡ Some 0 → customs_at (suc n) bytes ≡ (custom_at (drop 1 bytes) >>= customs_at n)
unfolding customs_at custom_at
customs_at-custom n [] e = absurd cc
customs_at-custom n (b ∷ bytes) e =
    let zero_first : b ≡ 0 = grind arith in
    rw zero_first (inside_first n (part_at bytes))

-- another byte, or none
customs_at-done : (n : ℕ) (bytes : List ℕ) → (slice_get bytes 0 ≡ Some 0 → ⊥) → customs_at (suc n) bytes ≡ Some bytes
unfolding customs_at
customs_at-done n [] other = refl
customs_at-done n (b ∷ bytes) other = rw (ne_eqb b 0 (λ e. other (ap Some e))) refl

pub customs_fail : (fault : DecodeFault) (bytes : List ℕ) (total : Option (List ℕ)) → slice_get bytes 0 ≡ Some 0 → Fails fault (custom_at (drop 1 bytes))
    → Skips bytes total → Fails fault total
customs_fail fault bytes total first e (zero, lt, so_far) = absurd (omega arith)
customs_fail fault bytes total first e (suc n, lt, so_far) =
    rw (← so_far, customs_at-custom n bytes first) (Fails-then fault (custom_at (drop 1 bytes)) (customs_at n) e)

pub customs_shorter : (bytes rest : List ℕ) → slice_get bytes 0 ≡ Some 0 → custom_at (drop 1 bytes) ≡ Some rest → length rest < length bytes
customs_shorter [] rest first e = absurd cc
customs_shorter (b ∷ bytes) rest first e =
    let le : length rest ≤ length bytes = rw e at (custom_leaves bytes) in
    omega arith

pub customs_go_on : (bytes rest : List ℕ) (total : Option (List ℕ)) → slice_get bytes 0 ≡ Some 0 → custom_at (drop 1 bytes) ≡ Some rest
    → Skips bytes total → Skips rest total
customs_go_on bytes rest total first e (zero, lt, so_far) = absurd (omega arith)
customs_go_on bytes rest total first e (suc n, lt, so_far) =
    let less = customs_shorter bytes rest first e in
    let one : customs_at (suc n) bytes ≡ customs_at n rest = customs_at-custom n bytes first ∙ ap (λ o. o >>= customs_at n) e in
    (n, omega arith, sym one ∙ so_far)

pub customs_done : (bytes : List ℕ) (total : Option (List ℕ)) → (slice_get bytes 0 ≡ Some 0 → ⊥) → Skips bytes total → total ≡ Some bytes
customs_done bytes total other (zero, lt, so_far) = absurd (omega arith)
customs_done bytes total other (suc n, lt, so_far) = sym so_far ∙ customs_at-done n bytes other
