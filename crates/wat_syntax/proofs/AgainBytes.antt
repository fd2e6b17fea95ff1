-- The bytes of a name in UTF-8 are bytes.
use Rattle.std.proofs.Common.{◌≡◌, ℕ, ◌+◌, ◌/◌, ◌%◌, ◌<◌, Bool, true, false, cond, inl, inr, List, [], ◌∷◌, ◌++◌, refl, subst, mod-lt, arith}
use Rattle.std.specs.List.{AllByRecursion}
use Rattle.std.specs.Str.{IsUtf8}
use Rattle.std.proofs.lemmas.Bool.{ltb-true, and_parts}
use lib.Utf8.{scalar, scalars, encode, encodes, scalar_cases}

abbrev pub AreBytes : List ℕ → Type 0
AreBytes bytes = AllByRecursion (λ b. b < 256) bytes

bytes_append : (xs ys : List ℕ) → AreBytes xs → AreBytes ys → AreBytes (xs ++ ys)
bytes_append [] ys h g = g
bytes_append (x ∷ xs) ys h g = (h.0, bytes_append xs ys h.1 g)

next_byte : (n : ℕ) → 128 + n % 64 < 256
next_byte n =
    let small : n % 64 < 64 = mod-lt n (omega arith) in
    omega arith

-- the four forms of a character
encoded_bytes : (c : ℕ) (one two three : Bool) → (one ≡ true → c < 128) → (two ≡ true → c < 2048) → (three ≡ true → c < 65536) → c < 1114112
    → AreBytes (cond one (c ∷ []) (cond two ((192 + c / 64) ∷ (128 + c % 64) ∷ []) (cond three ((224 + c / 4096) ∷ (128 + c / 64 % 64) ∷ (128 + c % 64) ∷ []) ((240 + c / 262144) ∷ (128 + c / 4096 % 64) ∷ (128 + c / 64 % 64) ∷ (128 + c % 64) ∷ []))))
encoded_bytes c true two three h g k small =
    let low : c < 128 = h refl in
    (omega arith, tt)
encoded_bytes c false true three h g k small =
    let low : c < 2048 = g refl in
    (omega arith, (next_byte c, tt))
encoded_bytes c false false true h g k small =
    let low : c < 65536 = k refl in
    (omega arith, (next_byte (c / 64), (next_byte c, tt)))
encoded_bytes c false false false h g k small = (omega arith, (next_byte (c / 4096), (next_byte (c / 64), (next_byte c, tt))))

scalar_small : (c : ℕ) → scalar c ≡ true → c < 1114112
scalar_small c e = elim (scalar_cases c e) [
  | inl low ↦ omega arith
  | inr high ↦ high.1
]

encode_bytes : (c : ℕ) → scalar c ≡ true → AreBytes (encode c)
unfolding encode
encode_bytes c e = encoded_bytes c _ _ _ (λ t. ltb-true c 128 t) (λ t. ltb-true c 2048 t) (λ t. ltb-true c 65536 t) (scalar_small c e)

encodes_bytes : (cs : List ℕ) → scalars cs ≡ true → AreBytes (encodes cs)
encodes_bytes [] e = tt
encodes_bytes (c ∷ cs) e =
    let p = and_parts (scalar c) (scalars cs) e in
    bytes_append (encode c) (encodes cs) (encode_bytes c p.0) (encodes_bytes cs p.1)

pub utf8_bytes : (bytes : List ℕ) → IsUtf8 bytes → AreBytes bytes
utf8_bytes bytes h = subst AreBytes h.1.1 (encodes_bytes h.0 h.1.0)
