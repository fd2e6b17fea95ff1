-- That no spelling is shorter than the one that is written: numbers, vectors, and contents behind their size.
use Rattle.std.proofs.Common.{◌≡◌, ℕ, zero, suc, ◌+◌, ◌*◌, ◌/◌, ◌^◌, ◌<◌, ◌≤◌, inl, inr, List, [], ◌∷◌, length, ap, ◌∙◌, arith, length-append}
use Rattle.std.proofs.lemmas.Bool.{lt-ltb, le-ltb, cases_lt}
use Rattle.std.specs.List.{AllByRecursion, flat_map}
use Rattle.std.specs.Str.{IsUtf8}
use Rattle.leb.specs.Spelling.{shortest_unsigned, u32_spelling, s32_spelling, s64_spelling}
use Rattle.leb.proofs.Unsigned.{unsigned_below}
use Rattle.leb.proofs.Shortest.{length-shortest_unsigned-le, length-shortest_signed-le}
use Rattle.wasm_ast.specs.Numeric.{signed}
use Rattle.wasm_items.specs.Bytes.{Then, Byte, U32, Uninterpreted, Items, Vector, Name, Sized}
use Rattle.wasm_items.specs.Canonical.{sized, vector}
use Rattle.wasm_ast.specs.Representable.{IsU32}

-- no spelling of such a thing is shorter than what is written of it, and what has a spelling is held
abbrev pub IsShortest : {A : Type 0} → (A → Type 0) → (A → List ℕ → Type 0) → (A → List ℕ) → Type 0
IsShortest {A} held spelled written = (x : A) (bytes : List ℕ) → spelled x bytes → held x × (length (written x) ≤ length bytes)

-- ---- numbers

pub u32_is_shortest : IsShortest IsU32 U32 u32_spelling
unfolding u32_spelling
u32_is_shortest n bytes h = (unsigned_below 32 bytes n h, length-shortest_unsigned-le 32 5 n bytes h)

pub i32_shortest : (n : ℕ) (bytes : List ℕ) → Uninterpreted 32 n bytes → (n < 2 ^ 32) × (length (s32_spelling (signed 32 n)) ≤ length bytes)
unfolding s32_spelling
i32_shortest n bytes h = (h.fits, length-shortest_signed-le 32 5 (signed 32 n) bytes h.spelled)

pub i64_shortest : (n : ℕ) (bytes : List ℕ) → Uninterpreted 64 n bytes → (n < 2 ^ 64) × (length (s64_spelling (signed 64 n)) ≤ length bytes)
unfolding s64_spelling
i64_shortest n bytes h = (h.fits, length-shortest_signed-le 64 10 (signed 64 n) bytes h.spelled)

-- a smaller number takes no more bytes
shortest_grows : (most m n : ℕ) → m ≤ n → length (shortest_unsigned most m) ≤ length (shortest_unsigned most n)
unfolding shortest_unsigned
shortest_grows zero m n le = omega arith
shortest_grows (suc more) m n le =
    elim (cases_lt m 128) [
      | inl low ↦ elim (cases_lt n 128) [
        | inl small ↦ rw (lt-ltb m 128 low, lt-ltb n 128 small) (omega arith)
        | inr large ↦ rw (lt-ltb m 128 low, le-ltb n 128 large) (omega arith)
      ]
      | inr high ↦
          let large : 128 ≤ n = omega arith in
          rw (le-ltb m 128 high, le-ltb n 128 large) (omega (arith, shortest_grows more (m / 128) (n / 128) (omega arith)))
    ]

pub u32_grows : (m n : ℕ) → m ≤ n → length (u32_spelling m) ≤ length (u32_spelling n)
unfolding u32_spelling
u32_grows m n le = shortest_grows 5 m n le

pub shortest_some : (more m : ℕ) → 1 ≤ length (shortest_unsigned (suc more) m)
unfolding shortest_unsigned
shortest_some more m = elim (cases_lt m 128) [ inl low ↦ rw (lt-ltb m 128 low) (omega arith) | inr high ↦ rw (le-ltb m 128 high) (omega arith) ]

shortest_one : (most m : ℕ) → m < 128 → length (shortest_unsigned most m) ≤ 1
unfolding shortest_unsigned
shortest_one zero m low = omega arith
shortest_one (suc more) m low = rw (lt-ltb m 128 low) (omega arith)

-- a number of one bit more takes one byte more at most
shortest_doubles : (most m n : ℕ) → m ≤ 2 * n + 1 → length (shortest_unsigned most m) ≤ 1 + length (shortest_unsigned most n)
unfolding shortest_unsigned
shortest_doubles zero m n le = omega arith
shortest_doubles (suc more) m n le =
    elim (cases_lt m 128) [
      | inl low ↦ rw (lt-ltb m 128 low) (omega arith)
      | inr high ↦ elim (cases_lt n 128) [
        | inl small ↦
            let one = shortest_one more (m / 128) (omega arith) in
            rw (le-ltb m 128 high, lt-ltb n 128 small) (omega (arith, one))
        | inr large ↦
            rw (le-ltb m 128 high, le-ltb n 128 large) (omega (arith, shortest_doubles more (m / 128) (n / 128) (omega arith)))
      ]
    ]

-- two numbers take no fewer bytes than their sum
pub u32_sum : (m n : ℕ) → length (u32_spelling (m + n)) ≤ length (u32_spelling m) + length (u32_spelling n)
unfolding u32_spelling
u32_sum m n =
    let some_m = shortest_some 4 m in
    let some_n = shortest_some 4 n in
    elim (cases_lt m n) [
      | inl lt ↦ omega (arith, shortest_doubles 5 (m + n) n (omega arith), some_m)
      | inr le ↦ omega (arith, shortest_doubles 5 (m + n) m (omega arith), some_n)
    ]

-- ---- one part and then another

pub Then_length : {P Q : List ℕ → Type 0} (bytes : List ℕ) (h : Then P Q bytes) → length bytes ≡ length h.front + length h.back
Then_length bytes h = ap length h.parts ∙ length-append h.front h.back

-- ---- contents behind their size

pub sized_shortest : (content : List ℕ → Type 0) (written bytes : List ℕ) (h : Sized content bytes) → length written ≤ length h.inside
    → length (sized written) ≤ length bytes
unfolding sized
sized_shortest content written bytes h le =
    let whole : length bytes ≡ length h.size + length h.inside = ap length h.parts ∙ length-append h.size h.inside in
    let size = (u32_is_shortest (length h.inside) h.size h.counted).1 in
    omega (arith, le, whole, size, u32_grows (length written) (length h.inside) le, length-append (u32_spelling (length written)) written)

bytes_are_those : (xs bytes : List ℕ) → Items Byte xs bytes → length xs ≤ length bytes
bytes_are_those [] bytes h = omega arith
bytes_are_those (x ∷ xs) bytes h =
    omega (arith, Then_length bytes h, bytes_are_those xs h.back h.is_second, ap length h.is_first)

pub bytes_shortest : (xs bytes : List ℕ) → Vector Byte xs bytes → length (sized xs) ≤ length bytes
unfolding sized
bytes_shortest xs bytes h =
    omega (arith, Then_length bytes h, bytes_are_those xs h.back h.is_second, (u32_is_shortest (length xs) h.front h.is_first).1, length-append (u32_spelling (length xs)) xs)

pub name_is_shortest : IsShortest IsUtf8 Name sized
name_is_shortest name bytes h = (h.utf8, bytes_shortest name bytes h.spelled)

-- ---- vectors

module _ {A : Type 0} (held : A → Type 0) (spelled : A → List ℕ → Type 0) (written : A → List ℕ) (each : IsShortest held spelled written) where
  pub items_are_shortest : IsShortest (λ xs. AllByRecursion held xs) (Items spelled) (flat_map written)
  items_are_shortest [] bytes h = (tt, omega arith)
  items_are_shortest (x ∷ xs) bytes h =
      let first = each x h.front h.is_first in
      let others = items_are_shortest xs h.back h.is_second in
      ((first.0, others.0), omega (arith, first.1, others.1, Then_length bytes h, length-append (written x) (flat_map written xs)))

  pub vector_is_shortest : IsShortest (λ xs. AllByRecursion held xs) (Vector spelled) (vector written)
  unfolding vector
  vector_is_shortest xs bytes h =
      let count = u32_is_shortest (length xs) h.front h.is_first in
      let items = items_are_shortest xs h.back h.is_second in
      (items.0, omega (arith, count.1, items.1, Then_length bytes h, length-append (u32_spelling (length xs)) (flat_map written xs)))
