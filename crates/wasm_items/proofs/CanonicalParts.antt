-- That what is written is a spelling: numbers, vectors, and contents behind their size.
use Rattle.std.proofs.Common.{◌≡◌, ℕ, ◌*◌, ◌-◌, ◌^◌, ◌<◌, ◌≤◌, inl, inr, List, [], ◌∷◌, ◌++◌, length, refl, arith, length-append}
use Rattle.std.proofs.lemmas.Bool.{lt-ltb, le-ltb, cases_lt}
use Rattle.std.proofs.lemmas.Int.{ints}
use Rattle.std.specs.List.{AllByRecursion, flat_map}
use Rattle.std.specs.Str.{IsUtf8}
use Rattle.leb.specs.Spelling.{FitsBits, shortest_unsigned, u32_spelling, s32_spelling, s64_spelling}
use Rattle.leb.proofs.Shortest.{shortest_unsigned-spells, shortest_signed-spells}
use Rattle.wasm_ast.specs.Numeric.{signed}
use Rattle.wasm_items.specs.Bytes.{Then, Byte, U32, Uninterpreted, Items, Vector, Name, Sized}
use Rattle.wasm_items.specs.Canonical.{sized, vector}
use Rattle.wasm_ast.specs.Representable.{IsU32}

-- so few bytes that their number has a spelling
abbrev pub IsSmall : List ℕ → Type 0
IsSmall bytes = length bytes < 2 ^ 32

-- what is written of such a thing spells it
abbrev pub IsSpelled : {A : Type 0} → (A → Type 0) → (A → List ℕ → Type 0) → (A → List ℕ) → Type 0
IsSpelled {A} held spelled written = (x : A) → held x → IsSmall (written x) → spelled x (written x)

-- ---- numbers

pub u32_spelled : (n : ℕ) → IsU32 n → U32 n (u32_spelling n)
unfolding u32_spelling
u32_spelled n fits = shortest_unsigned-spells 32 5 n (omega arith) (omega arith) fits

pub u32_is_spelled : IsSpelled IsU32 U32 u32_spelling
u32_is_spelled n fits small = u32_spelled n fits

pub some_u32 : (n : ℕ) → 1 ≤ length (u32_spelling n)
unfolding u32_spelling shortest_unsigned
some_u32 n = elim (cases_lt n 128) [ inl low ↦ rw (lt-ltb n 128 low) (omega arith) | inr high ↦ rw (le-ltb n 128 high) (omega arith) ]

signed_fits : (bits n : ℕ) → 2 ^ bits ≡ 2 * 2 ^ (bits - 1) → n < 2 ^ bits → FitsBits bits (signed bits n)
signed_fits bits n half fits = elim (cases_lt n (2 ^ (bits - 1))) [
  | inl low ↦ rw (lt-ltb n _ low) (record { low = omega (arith, ints); high = omega (arith, ints) })
  | inr high ↦ rw (le-ltb n _ high) (record { low = omega (arith, ints); high = omega (arith, ints) })
]

pub i32_spelled : (n : ℕ) → n < 2 ^ 32 → Uninterpreted 32 n (s32_spelling (signed 32 n))
unfolding s32_spelling
i32_spelled n fits = record { fits = fits; spelled = shortest_signed-spells 32 5 _ (omega arith) (omega arith) (signed_fits 32 n refl fits) }

pub i64_spelled : (n : ℕ) → n < 2 ^ 64 → Uninterpreted 64 n (s64_spelling (signed 64 n))
unfolding s64_spelling
i64_spelled n fits = record { fits = fits; spelled = shortest_signed-spells 64 10 _ (omega arith) (omega arith) (signed_fits 64 n refl fits) }

-- ---- one part and then another

pub joined : {P Q : List ℕ → Type 0} (front back : List ℕ) → P front → Q back → Then P Q (front ++ back)
joined front back first second = record { front = front; back = back; is_first = first; is_second = second; parts = refl }

pub behind : {Q : List ℕ → Type 0} (b : ℕ) (back : List ℕ) → Q back → Then (Byte b) Q (b ∷ back)
behind b back second = record { front = b ∷ []; back = back; is_first = refl; is_second = second; parts = refl }

pub small_front : (front back : List ℕ) → IsSmall (front ++ back) → IsSmall front
small_front front back small = omega (arith, small, length-append front back)

pub small_back : (front back : List ℕ) → IsSmall (front ++ back) → IsSmall back
small_back front back small = omega (arith, small, length-append front back)

-- ---- contents behind their size

pub sized_spelled : (content : List ℕ → Type 0) (bytes : List ℕ) → IsSmall (sized bytes) → content bytes → Sized content (sized bytes)
unfolding sized
sized_spelled content bytes small inside =
    record {
      size = u32_spelling (length bytes);
      inside = bytes;
      counted = u32_spelled (length bytes) (small_back (u32_spelling (length bytes)) bytes small);
      spelled = inside;
      parts = refl;
    }

pub small_sized : (bytes : List ℕ) → IsSmall (sized bytes) → IsSmall bytes
unfolding sized
small_sized bytes small = small_back (u32_spelling (length bytes)) bytes small

pub some_sized : (bytes : List ℕ) → 1 ≤ length (sized bytes)
unfolding sized
some_sized bytes = omega (arith, length-append (u32_spelling (length bytes)) bytes, some_u32 (length bytes))

bytes_are_items : (bytes : List ℕ) → Items Byte bytes bytes
bytes_are_items [] = refl
bytes_are_items (b ∷ bytes) = behind b bytes (bytes_are_items bytes)

-- bytes as a vector of bytes
pub bytes_spelled : (bytes : List ℕ) → IsSmall (sized bytes) → Vector Byte bytes (sized bytes)
unfolding sized
bytes_spelled bytes small =
    joined (u32_spelling (length bytes)) bytes (u32_spelled (length bytes) (small_back (u32_spelling (length bytes)) bytes small)) (bytes_are_items bytes)

pub name_spelled : (name : List ℕ) → IsUtf8 name → IsSmall (sized name) → Name name (sized name)
name_spelled name utf8 small = record { utf8 = utf8; spelled = bytes_spelled name small }

-- ---- vectors

module _ {A : Type 0} (held : A → Type 0) (spelled : A → List ℕ → Type 0) (written : A → List ℕ) (each : IsSpelled held spelled written) where
  items_spelled : (xs : List A) → AllByRecursion held xs → IsSmall (flat_map written xs) → Items spelled xs (flat_map written xs)
  items_spelled [] all small = refl
  items_spelled (x ∷ xs) all small =
      let front = written x in
      let back = flat_map written xs in
      joined front back (each x all.0 (small_front front back small)) (items_spelled xs all.1 (small_back front back small))

  -- each item takes a byte at least, so there are no more items than bytes
  module _ (some : (x : A) → 1 ≤ length (written x)) where
    no_more_than_bytes : (xs : List A) → length xs ≤ length (flat_map written xs)
    no_more_than_bytes [] = omega arith
    no_more_than_bytes (x ∷ xs) =
        omega (arith, length-append (written x) (flat_map written xs), some x, no_more_than_bytes xs)

    pub vector_spelled : IsSpelled (λ xs. AllByRecursion held xs) (Vector spelled) (vector written)
    unfolding vector
    vector_spelled xs all small =
        let front = u32_spelling (length xs) in
        let back = flat_map written xs in
        let few : length xs < 2 ^ 32 = omega (arith, small_back front back small, no_more_than_bytes xs) in
        joined front back (u32_spelled (length xs) few) (items_spelled xs all (small_back front back small))
