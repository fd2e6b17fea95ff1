-- Bytes that have to stand at the front.
use Rattle.std.proofs.Common.{◌≡◌, ℕ, ◌+◌, ◌<◌, ◌==◌, List, [], ◌∷◌, length, drop, get_or, Option, Some, None, refl, sym, ap, ◌∙◌}
use Rattle.std.proofs.lemmas.Bool.{eq-eqb, ne_eqb}
use Rattle.std.proofs.lemmas.List.{drop_more}
use Rattle.wasm_items.specs.declared.fault.DecodeFault.{DecodeFault}
use Rattle.wasm_items.specs.inside.Reading.{◌>>=◌, Fails, IsRefusal, guarded, byte_at}
use Rattle.wasm_decode.specs.inside.ReadingModule.{after_bytes}
use Rattle.wasm_items.proofs.Loops.{Fails-then}
use Rattle.wasm_items.proofs.Parts.{Fails-refusal}

after_bytes-byte : (w : ℕ) (ws bytes : List ℕ) → after_bytes (w ∷ ws) bytes ≡ (byte_at bytes >>= λ b. guarded (b.0 == w) (after_bytes ws b.1))
unfolding byte_at after_bytes
after_bytes-byte w ws [] = refl
after_bytes-byte w ws (b ∷ bytes) = refl

-- the next of the bytes that are wanted, from a place on
after_bytes-at : (wanted : List ℕ) (i : ℕ) (bytes : List ℕ) → i < length wanted
    → after_bytes (drop i wanted) bytes ≡ (byte_at bytes >>= λ b. guarded (b.0 == get_or wanted i 0) (after_bytes (drop (i + 1) wanted) b.1))
after_bytes-at wanted i bytes lt =
    ap (λ ws. after_bytes ws bytes) (drop_more wanted i 0 lt) ∙ after_bytes-byte (get_or wanted i 0) (drop (i + 1) wanted) bytes

pub expect_fails : (fault : DecodeFault) (wanted : List ℕ) (i : ℕ) (bytes : List ℕ) (total : Option (List ℕ)) → i < length wanted
    → Fails fault (byte_at bytes) → after_bytes (drop i wanted) bytes ≡ total → Fails fault total
expect_fails fault wanted i bytes total lt e so_far = rw (← so_far, after_bytes-at wanted i bytes lt) (Fails-then fault (byte_at bytes) _ e)

pub expect_refuses : (fault : DecodeFault) (wanted : List ℕ) (i : ℕ) (bytes rest : List ℕ) (b : ℕ) (total : Option (List ℕ)) → i < length wanted
    → IsRefusal fault → byte_at bytes ≡ Some (b, rest) → (b ≡ get_or wanted i 0 → ⊥) → after_bytes (drop i wanted) bytes ≡ total → Fails fault total
expect_refuses fault wanted i bytes rest b total lt h e other so_far =
    let none : after_bytes (drop i wanted) bytes ≡ None = rw (after_bytes-at wanted i bytes lt, e, ne_eqb b (get_or wanted i 0) other) refl in
    Fails-refusal fault total h (sym so_far ∙ none)

pub expect_goes_on : (wanted : List ℕ) (i : ℕ) (bytes rest : List ℕ) (b : ℕ) (total : Option (List ℕ)) → i < length wanted
    → byte_at bytes ≡ Some (b, rest) → b ≡ get_or wanted i 0 → after_bytes (drop i wanted) bytes ≡ total → after_bytes (drop (i + 1) wanted) rest ≡ total
expect_goes_on wanted i bytes rest b total lt e same so_far =
    let one : after_bytes (drop i wanted) bytes ≡ after_bytes (drop (i + 1) wanted) rest = rw (after_bytes-at wanted i bytes lt, e, eq-eqb b (get_or wanted i 0) same) refl in
    sym one ∙ so_far
