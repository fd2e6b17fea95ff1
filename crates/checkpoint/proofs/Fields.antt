-- A number that is read is spelled by the bytes that it took, and one that is spelled is read.
use Rattle.std.proofs.Common.{◌≡◌, ℕ, ℤ, zero, suc, ◌+◌, ◌*◌, ◌/◌, ◌%◌, ◌^◌, ◌<◌, ◌≤◌, false, ltb, FitsSigned, w64, List, [], ◌∷◌, ◌++◌, length, get_or, take, drop, Result, Ok, refl, sym, ap, subst, ◌∙◌, append_assoc, arith, inl, inr}
use Rattle.std.specs.Int.{byte_at, bytes_low_first, cast_signed, cast_unsigned}
use Rattle.std.specs.List.{AllByRecursion, flat_map}
use Rattle.std.proofs.Math.Facts.{Fits-lt-pow, Fits-of_lt, Fits-of_z, sfits_to_z}
use Rattle.std.proofs.Math.Nat.{div-div-eq-div-mul, pow-succ'}
use Rattle.std.proofs.lemmas.Bool.{cases_lt, le-ltb, ltb-false}
use Rattle.std.proofs.lemmas.Int.{of_z-to_z, to_z-of_z}
use Rattle.std.proofs.lemmas.List.{drop_at, get_or-drop, get_or-take, get_or_past, length-append, length-take, length-take-le, take-append-drop}
use Rattle.std.proofs.lemmas.List.Concat.{flat_map-cons}
use Rattle.byteorder.specs.Endian.{little_bytes, little_number}
use Rattle.byteorder.specs.Numbers.{length-bytes_low_first, little_from-cons, little_from-lt, little_from-take, little_number-reads_back}
use Rattle.checkpoint.specs.Numbers.{number, signed}
use Rattle.checkpoint.specs.Reading.{◌>>=◌, Reads, items_at, number_at, signed_at}
use Rattle.checkpoint.specs.declared.fault.CheckpointFault.{CheckpointFault}
use Rattle.checkpoint.specs.declared.fault.CheckpointFault.TheVariants.{Truncated}
use Rattle.checkpoint.proofs.Tools.{bind_ok, guard_ok, ok_is}

-- ---- bytes

abbrev pub IsBytes : List ℕ → Type 0
IsBytes bytes = (i : ℕ) → get_or bytes i 0 < 256

pub IsBytes-drop : (n : ℕ) (bytes : List ℕ) → IsBytes bytes → IsBytes (drop n bytes)
IsBytes-drop n bytes h i = rw get_or-drop (h (n + i))

pub IsBytes-take : (n : ℕ) (bytes : List ℕ) → IsBytes bytes → IsBytes (take n bytes)
IsBytes-take n bytes h i =
    elim (cases_lt i n) [
      | inl lt ↦ rw (get_or-take n bytes i 0 lt) (h i)
      | inr le ↦ rw (get_or_past (take n bytes) i 0 (omega (arith, length-take n bytes))) (omega arith)
    ]

byte_above : (i n : ℕ) → byte_at (suc i) n ≡ byte_at i (n / 256)
byte_above zero n = refl
byte_above (suc i) n = ap (λ (x : ℕ). x % 256) (ap (λ (p : ℕ). n / p) (pow-succ' 256 (suc i)) ∙ sym (div-div-eq-div-mul n 256 (256 ^ suc i)))

bytes_above : (k i n : ℕ) → bytes_low_first (suc i) k n ≡ bytes_low_first i k (n / 256)
bytes_above zero i n = refl
bytes_above (suc k) i n = (λ j. byte_above i n j ∷ bytes_above k (suc i) n j)

-- the number in bytes has these bytes
bytes_again : (bytes : List ℕ) → IsBytes bytes → little_bytes (length bytes) (little_number (length bytes) bytes) ≡ bytes
bytes_again [] fits = refl
bytes_again (b ∷ bytes) fits =
    let low : b < 256 = fits 0 in
    let rest = little_from-cons 0 (length bytes) b bytes in
    let n = b + 256 * little_number (length bytes) bytes in
    let first : n % 256 ≡ b = omega arith in
    let above : n / 256 ≡ little_number (length bytes) bytes = omega arith in
    let back : bytes_low_first 1 (length bytes) n ≡ bytes =
    bytes_above (length bytes) 0 n ∙ ap (λ m. little_bytes (length bytes) m) above ∙ bytes_again bytes (λ i. fits (suc i)) in
    ap (λ r. little_bytes (suc (length bytes)) (b + 256 * r)) rest ∙ (λ j. first j ∷ back j)

-- ---- what readers take, and what they are given

-- a reader took what stands in front
pub record Took (bytes front rest : List ℕ) (Fit : Type 0) : Type 0 where
  pub parts : bytes ≡ front ++ rest
  pub rest_fits : IsBytes rest
  pub fit : Fit

-- what is read fits, and is spelled by the bytes that were taken
abbrev pub IsSound : {A : Type 0} → Reads A → (A → List ℕ) → (A → Type 0) → Type 0
IsSound {A} reader spelling Fit = (bytes : List ℕ) (x : A × List ℕ) → IsBytes bytes → reader bytes ≡ Ok x → Took bytes (spelling x.0) x.1 (Fit x.0)

-- what fits and is spelled is read, whatever follows it
abbrev pub IsComplete : {A : Type 0} → Reads A → (A → List ℕ) → (A → Type 0) → Type 0
IsComplete {A} reader spelling Fit = (x : A) (rest : List ℕ) → Fit x → reader (spelling x ++ rest) ≡ Ok (x, rest)

-- a step took the front, and the others go on behind it
pub by_step : {A B P : Type 0} {reader : Reads A} (spelling : A → List ℕ) {Fit : A → Type 0} (next : A × List ℕ → Result B CheckpointFault) (y : B) (bytes : List ℕ)
    → IsSound reader spelling Fit → IsBytes bytes → (reader bytes >>= next) ≡ Ok y
    → ((x : A) (rest : List ℕ) → bytes ≡ spelling x ++ rest → Fit x → IsBytes rest → next (x, rest) ≡ Ok y → P) → P
by_step {reader = reader} spelling next y bytes sound fits e others =
    let a = bind_ok (reader bytes) next y e in
    let t = sound bytes a.0 fits a.1 in
    others a.0.0 a.0.1 t.parts t.fit t.rest_fits a.2

-- ---- numbers

pub number_sound : (size : ℕ) → IsSound (number_at size) (number size) (λ n. n < 256 ^ size)
unfolding number_at number
number_sound size bytes x fits e =
    let g = guard_ok (ltb (length bytes) size) Truncated (little_number size bytes, drop size bytes) x e in
    let long : size ≤ length bytes = ltb-false _ _ g.0 in
    let front = take size bytes in
    let len : length front ≡ size = length-take-le size bytes long in
    let again : little_bytes size (little_number size front) ≡ front =
    subst (λ (k : ℕ). little_bytes k (little_number k front) ≡ front) len (bytes_again front (IsBytes-take size bytes fits)) in
    let same : little_bytes size (little_number size bytes) ≡ front = ap (little_bytes size) (sym (little_from-take 0 size size bytes (omega arith))) ∙ again in
    subst (λ (y : ℕ × List ℕ). Took bytes (little_bytes size y.0) y.1 (y.0 < 256 ^ size)) g.1 (record {
      parts = rw same (sym (take-append-drop size bytes));
      rest_fits = IsBytes-drop size bytes fits;
      fit = little_from-lt 0 size bytes fits;
    })

pub length_number : (size n : ℕ) → length (number size n) ≡ size
unfolding number
length_number size n = length-bytes_low_first 0 size n

pub number_complete : (size : ℕ) → IsComplete (number_at size) (number size) (λ n. n < 256 ^ size)
unfolding number_at number
number_complete size n rest lt =
    let len = length-bytes_low_first 0 size n in
    let long : ltb (length (little_bytes size n ++ rest)) size ≡ false = le-ltb _ _ (omega (arith, length-append (little_bytes size n) rest)) in
    rw (long, drop_at (little_bytes size n) rest size len, little_number-reads_back size n rest lt) refl

pub signed_sound : IsSound signed_at signed (FitsSigned w64)
unfolding signed_at
signed_sound bytes x fits e =
    by_step (number 8) (λ n. Ok (cast_signed w64 n.0, n.1)) x bytes (number_sound 8) fits e (λ n rest parts fit rest_fits last.
    subst (λ (y : ℤ × List ℕ). Took bytes (signed y.0) y.1 (FitsSigned w64 y.0)) (ok_is (cast_signed w64 n, rest) x last) (record {
      parts = rw (of_z-to_z w64 n (omega arith)) parts;
      rest_fits = rest_fits;
      fit = sfits_to_z (Fits-of_lt (omega arith));
    }))

pub signed_complete : IsComplete signed_at signed (FitsSigned w64)
unfolding signed_at
signed_complete z rest fit =
    let small : cast_unsigned w64 z < 256 ^ 8 = omega (arith, Fits-lt-pow (Fits-of_z fit)) in
    rw (number_complete 8 (cast_unsigned w64 z) rest small, to_z-of_z w64 z fit) refl

-- ---- one after another

pub items_sound : {A : Type 0} (item : Reads A) (spelling : A → List ℕ) (Fit : A → Type 0) (n : ℕ) → IsSound item spelling Fit
    → IsSound (items_at item n) (flat_map spelling) (λ xs. (length xs ≡ n) × AllByRecursion Fit xs)
unfolding items_at
items_sound {A} item spelling Fit zero sound bytes x fits e =
    subst (λ (y : List A × List ℕ). Took bytes (flat_map spelling y.0) y.1 ((length y.0 ≡ 0) × AllByRecursion Fit y.0)) (ok_is ([], bytes) x e)
    (record { parts = refl; rest_fits = fits; fit = (refl, tt) })
items_sound {A} item spelling Fit (suc n) sound bytes x fits e =
    by_step spelling (λ first. items_at item n first.1 >>= λ others. Ok (first.0 ∷ others.0, others.1)) x bytes sound fits e (λ first after parts fit after_fits more.
    by_step (flat_map spelling) (λ others. Ok (first ∷ others.0, others.1)) x after (items_sound item spelling Fit n sound) after_fits more (λ others rest more_parts more_fit rest_fits last.
    subst (λ (y : List A × List ℕ). Took bytes (flat_map spelling y.0) y.1 ((length y.0 ≡ suc n) × AllByRecursion Fit y.0)) (ok_is (first ∷ others, rest) x last)
    (record {
      parts = parts ∙ ap (λ (b : List ℕ). spelling first ++ b) more_parts ∙ sym (append_assoc (spelling first) (flat_map spelling others) rest)
          ∙ ap (λ (b : List ℕ). b ++ rest) (sym (flat_map-cons spelling first others));
      rest_fits = rest_fits;
      fit = (ap suc more_fit.0, (fit, more_fit.1));
    })))

pub items_complete : {A : Type 0} (item : Reads A) (spelling : A → List ℕ) (Fit : A → Type 0) → IsComplete item spelling Fit
    → (xs : List A) (rest : List ℕ) → AllByRecursion Fit xs → items_at item (length xs) (flat_map spelling xs ++ rest) ≡ Ok (xs, rest)
unfolding items_at
items_complete item spelling Fit complete [] rest fits = refl
items_complete item spelling Fit complete (x ∷ xs) rest fits =
    let regrouped : flat_map spelling (x ∷ xs) ++ rest ≡ spelling x ++ (flat_map spelling xs ++ rest) =
    ap (λ (b : List ℕ). b ++ rest) (flat_map-cons spelling x xs) ∙ append_assoc (spelling x) (flat_map spelling xs) rest in
    ap (items_at item (suc (length xs))) regrouped
    ∙ rw (complete x (flat_map spelling xs ++ rest) fits.0, items_complete item spelling Fit complete xs rest fits.1) refl
