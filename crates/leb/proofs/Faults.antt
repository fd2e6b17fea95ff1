-- Which fault a reader gives, by the bytes alone: once for both signednesses.
use Rattle.std.proofs.Common.{◌≡◌, ◌↔◌, ℕ, zero, suc, ◌+◌, ◌-◌, ◌*◌, ◌<◌, ◌≤◌, inl, inr, List, [], ◌∷◌, length, take, Result, Ok, Err, refl, subst, sym, arith}
use Rattle.std.proofs.lemmas.Bool.{cases_lt}
use Rattle.std.proofs.lemmas.List.Elements.{All-nil, All-cons, All-head, All-tail}
use Rattle.std.specs.Prelude.{All, slice_index}
use Rattle.leb.specs.declared.fault.LebFault.{LebFault}
use Rattle.leb.specs.declared.fault.LebFault.TheVariants.{Truncated, TooLong, UnusedBits}
use Rattle.leb.specs.Faults.{HasUnusedBits, IsCutShort, IsTooLong}
use Rattle.leb.specs.inside.Reading.{Gives}

-- a reader of numbers in LEB128, as far as its faults go
pub record ReadsOn {X : Type 0} (reader : ℕ → List ℕ → Result X LebFault) : Type 0 where
  pub nothing : (bits : ℕ) → reader bits [] ≡ Err Truncated
  pub last : (bits b : ℕ) (bs : List ℕ) (e : LebFault) → b < 128 → reader bits (b ∷ bs) ≡ Err e → e ≡ UnusedBits
  pub long : (bits b : ℕ) (bs : List ℕ) → 128 ≤ b → bits ≤ 7 → reader bits (b ∷ bs) ≡ Err TooLong
  pub fault_after : (bits b : ℕ) (bs : List ℕ) (e : LebFault) → 128 ≤ b → 7 < bits → reader bits (b ∷ bs) ≡ Err e → reader (bits - 7) bs ≡ Err e
  pub fault_from : (bits b : ℕ) (bs : List ℕ) (e : LebFault) → 128 ≤ b → 7 < bits → reader (bits - 7) bs ≡ Err e → reader bits (b ∷ bs) ≡ Err e

-- so many bytes are the most that so many bits may take
pub record IsMost (bits most : ℕ) : Type 0 where
  pub some : 0 < bits
  pub enough : bits ≤ 7 * most
  pub least : 7 * most < bits + 7

IsMost-fewer : (bits more : ℕ) → 7 < bits → IsMost bits (suc more) → IsMost (bits - 7) more
IsMost-fewer bits more lt m = record { some = omega arith; enough = omega (arith, m.enough); least = omega (arith, m.least) }

pub IsCutShort-from_read : {X : Type 0} (reader : ℕ → List ℕ → Result X LebFault) → ReadsOn reader → (bits most : ℕ) (bytes : List ℕ)
    → IsMost bits most → reader bits bytes ≡ Err Truncated → IsCutShort most bytes
IsCutShort-from_read reader on bits zero bytes m e = absurd (omega (arith, m.some, m.enough))
IsCutShort-from_read reader on bits (suc more) [] m e = record { few = omega arith; unfinished = All-nil (λ b. 128 ≤ b) }
IsCutShort-from_read reader on bits (suc more) (b ∷ bs) m e =
    elim (cases_lt b 128) [
      | inl small ↦ let f = on.last bits b bs Truncated small e in absurd cc
      | inr large ↦ elim (cases_lt 7 bits) [
        | inl lt ↦
            let rest = IsCutShort-from_read reader on (bits - 7) more bs (IsMost-fewer bits more lt m) (on.fault_after bits b bs Truncated large lt e) in
            record { few = omega (arith, rest.few); unfinished = All-cons (λ b. 128 ≤ b) b bs large rest.unfinished }
        | inr le ↦ let f = on.long bits b bs large le in absurd cc
      ]
    ]

pub read_from_IsCutShort : {X : Type 0} (reader : ℕ → List ℕ → Result X LebFault) → ReadsOn reader → (bits most : ℕ) (bytes : List ℕ)
    → IsMost bits most → IsCutShort most bytes → reader bits bytes ≡ Err Truncated
read_from_IsCutShort reader on bits zero bytes m cut = absurd (omega (arith, cut.few))
read_from_IsCutShort reader on bits (suc more) [] m cut = on.nothing bits
read_from_IsCutShort reader on bits (suc more) (b ∷ bs) m cut =
    let large = All-head (λ b. 128 ≤ b) b bs cut.unfinished in
    let few : length bs < more = omega (arith, cut.few) in
    let lt : 7 < bits = omega (arith, m.least) in
    on.fault_from bits b bs Truncated large lt
    (read_from_IsCutShort reader on (bits - 7) more bs (IsMost-fewer bits more lt m)
    (record { few = few; unfinished = All-tail (λ b. 128 ≤ b) b bs cut.unfinished }))

pub IsTooLong-from_read : {X : Type 0} (reader : ℕ → List ℕ → Result X LebFault) → ReadsOn reader → (bits most : ℕ) (bytes : List ℕ)
    → IsMost bits most → reader bits bytes ≡ Err TooLong → IsTooLong most bytes
IsTooLong-from_read reader on bits zero bytes m e = absurd (omega (arith, m.some, m.enough))
IsTooLong-from_read reader on bits (suc more) [] m e = let f = on.nothing bits in absurd cc
IsTooLong-from_read reader on bits (suc more) (b ∷ bs) m e =
    elim (cases_lt b 128) [
      | inl small ↦ let f = on.last bits b bs TooLong small e in absurd cc
      | inr large ↦ elim (cases_lt 7 bits) [
        | inl lt ↦
            let rest = IsTooLong-from_read reader on (bits - 7) more bs (IsMost-fewer bits more lt m) (on.fault_after bits b bs TooLong large lt e) in
            record { enough = omega (arith, rest.enough); unfinished = All-cons (λ b. 128 ≤ b) b (take more bs) large rest.unfinished }
        | inr le ↦
            let none : 0 ≡ more = omega (arith, m.least) in
            let after = subst (λ (m : ℕ). All (λ b. 128 ≤ b) (take m bs)) none (All-nil (λ b. 128 ≤ b)) in
            record { enough = omega arith; unfinished = All-cons (λ b. 128 ≤ b) b (take more bs) large after }
      ]
    ]

pub read_from_IsTooLong : {X : Type 0} (reader : ℕ → List ℕ → Result X LebFault) → ReadsOn reader → (bits most : ℕ) (bytes : List ℕ)
    → IsMost bits most → IsTooLong most bytes → reader bits bytes ≡ Err TooLong
read_from_IsTooLong reader on bits zero bytes m long = absurd (omega (arith, m.some, m.enough))
read_from_IsTooLong reader on bits (suc more) [] m long = absurd (omega (arith, long.enough))
read_from_IsTooLong reader on bits (suc more) (b ∷ bs) m long =
    let large = All-head (λ b. 128 ≤ b) b (take more bs) long.unfinished in
    elim (cases_lt 7 bits) [
      | inl lt ↦
          on.fault_from bits b bs TooLong large lt
          (read_from_IsTooLong reader on (bits - 7) more bs (IsMost-fewer bits more lt m)
          (record { enough = omega (arith, long.enough); unfinished = All-tail (λ b. 128 ≤ b) b (take more bs) long.unfinished }))
      | inr le ↦ on.long bits b bs large le
    ]

-- from what a reader gives to what a function answered
answered : {X Y : Type 0} (view : X → Y) (r : Result X LebFault) (read : Result Y LebFault) (e : LebFault) → Gives view r read → read ≡ Err e → r ≡ Err e
answered view (Ok x) read e gives is = absurd cc
answered view (Err f) read e gives is = let same : f ≡ e = cc in rw same refl

was_read : {X Y : Type 0} (view : X → Y) (r : Result X LebFault) (read : Result Y LebFault) (e : LebFault) → Gives view r read → r ≡ Err e → read ≡ Err e
was_read view (Ok x) read e gives is = absurd cc
was_read view (Err f) read e gives is = let same : f ≡ e = cc in rw same at gives

pub is_truncated : {X Y : Type 0} (view : Y → X) (reader : ℕ → List ℕ → Result X LebFault) → ReadsOn reader → (bits most : ℕ) (bytes : List ℕ) (r : Result Y LebFault)
    → IsMost bits most → Gives view r (reader bits bytes) → (r ≡ Err Truncated) ↔ IsCutShort most bytes
is_truncated view reader on bits most bytes r m gives = (
  λ e. IsCutShort-from_read reader on bits most bytes m (was_read view r (reader bits bytes) Truncated gives e),
  λ cut. answered view r (reader bits bytes) Truncated gives (read_from_IsCutShort reader on bits most bytes m cut),
)

pub is_too_long : {X Y : Type 0} (view : Y → X) (reader : ℕ → List ℕ → Result X LebFault) → ReadsOn reader → (bits most : ℕ) (bytes : List ℕ) (r : Result Y LebFault)
    → IsMost bits most → Gives view r (reader bits bytes) → (r ≡ Err TooLong) ↔ IsTooLong most bytes
is_too_long view reader on bits most bytes r m gives = (
  λ e. IsTooLong-from_read reader on bits most bytes m (was_read view r (reader bits bytes) TooLong gives e),
  λ long. answered view r (reader bits bytes) TooLong gives (read_from_IsTooLong reader on bits most bytes m long),
)

-- the last byte of a number, as far as the bits that are left have room for it
pub record EndsWithin {X : Type 0} (Fits : ℕ → ℕ → Type 0) (reader : ℕ → List ℕ → Result X LebFault) : Type 0 where
  pub fitting : (bits b : ℕ) (bs : List ℕ) → b < 128 → Fits bits b → reader bits (b ∷ bs) ≡ Err UnusedBits → ⊥
  pub unfitting : (bits b : ℕ) (bs : List ℕ) → b < 128 → (Fits bits b → ⊥) → reader bits (b ∷ bs) ≡ Err UnusedBits
  pub room : (bits b : ℕ) → b < 128 → 7 < bits → Fits bits b

pub HasUnusedBits-from_read : {X : Type 0} (Fits : ℕ → ℕ → Type 0) (reader : ℕ → List ℕ → Result X LebFault) → ReadsOn reader → EndsWithin Fits reader
    → (bits last : ℕ) (bytes : List ℕ) → IsMost bits (suc last) → reader bits bytes ≡ Err UnusedBits → HasUnusedBits last (Fits (bits - 7 * last)) bytes
HasUnusedBits-from_read Fits reader on ends bits last [] m e = let f = on.nothing bits in absurd cc
HasUnusedBits-from_read Fits reader on ends bits zero (b ∷ bs) m e =
    elim (cases_lt b 128) [
      | inl small ↦ record {
        inside = omega arith;
        unfinished = All-nil (λ b. 128 ≤ b);
        ends = small;
        unused = λ fits. let left : bits - 7 * 0 ≡ bits = omega arith in ends.fitting bits b bs small (subst (λ (k : ℕ). Fits k b) left fits) e;
      }
      | inr large ↦ let f = on.long bits b bs large (omega (arith, m.enough)) in absurd cc
    ]
HasUnusedBits-from_read Fits reader on ends bits (suc last) (b ∷ bs) m e =
    let lt : 7 < bits = omega (arith, m.least) in
    elim (cases_lt b 128) [
      | inl small ↦ absurd (ends.fitting bits b bs small (ends.room bits b small lt) e)
      | inr large ↦
          let rest = HasUnusedBits-from_read Fits reader on ends (bits - 7) last bs (IsMost-fewer bits (suc last) lt m) (on.fault_after bits b bs UnusedBits large lt e) in
          let left : bits - 7 * suc last ≡ bits - 7 - 7 * last = omega arith in
          record {
            inside = omega (arith, rest.inside);
            unfinished = All-cons (λ b. 128 ≤ b) b (take last bs) large rest.unfinished;
            ends = rest.ends;
            unused = subst (λ (k : ℕ). Fits k (slice_index bs last) → ⊥) (sym left) rest.unused;
          }
    ]

pub read_from_HasUnusedBits : {X : Type 0} (Fits : ℕ → ℕ → Type 0) (reader : ℕ → List ℕ → Result X LebFault) → ReadsOn reader → EndsWithin Fits reader
    → (bits last : ℕ) (bytes : List ℕ) → IsMost bits (suc last) → HasUnusedBits last (Fits (bits - 7 * last)) bytes → reader bits bytes ≡ Err UnusedBits
read_from_HasUnusedBits Fits reader on ends bits last [] m has = absurd (omega (arith, has.inside))
read_from_HasUnusedBits Fits reader on ends bits zero (b ∷ bs) m has =
    let left : bits - 7 * 0 ≡ bits = omega arith in ends.unfitting bits b bs has.ends (subst (λ (k : ℕ). Fits k b → ⊥) left has.unused)
read_from_HasUnusedBits Fits reader on ends bits (suc last) (b ∷ bs) m has =
    let large = All-head (λ b. 128 ≤ b) b (take last bs) has.unfinished in
    let lt : 7 < bits = omega (arith, m.least) in
    let left : bits - 7 * suc last ≡ bits - 7 - 7 * last = omega arith in
    on.fault_from bits b bs UnusedBits large lt
    (read_from_HasUnusedBits Fits reader on ends (bits - 7) last bs (IsMost-fewer bits (suc last) lt m)
    (record {
      inside = omega (arith, has.inside);
      unfinished = All-tail (λ b. 128 ≤ b) b (take last bs) has.unfinished;
      ends = has.ends;
      unused = subst (λ (k : ℕ). Fits k (slice_index bs last) → ⊥) left has.unused;
    }))

pub has_unused_bits : {X Y : Type 0} (Fits : ℕ → ℕ → Type 0) (view : Y → X) (reader : ℕ → List ℕ → Result X LebFault) → ReadsOn reader → EndsWithin Fits reader
    → (bits last : ℕ) (bytes : List ℕ) (r : Result Y LebFault) → IsMost bits (suc last) → Gives view r (reader bits bytes)
    → (r ≡ Err UnusedBits) ↔ HasUnusedBits last (Fits (bits - 7 * last)) bytes
has_unused_bits Fits view reader on ends bits last bytes r m gives = (
  λ e. HasUnusedBits-from_read Fits reader on ends bits last bytes m (was_read view r (reader bits bytes) UnusedBits gives e),
  λ has. answered view r (reader bits bytes) UnusedBits gives (read_from_HasUnusedBits Fits reader on ends bits last bytes m has),
)

-- the same bits, asked in another way
pub same_bits_asked : (first second : ℕ → Type 0) → ((b : ℕ) → b < 128 → first b ↔ second b) → (last : ℕ) (bytes : List ℕ)
    → HasUnusedBits last first bytes ↔ HasUnusedBits last second bytes
same_bits_asked first second same last bytes = (
  λ has. record { inside = has.inside; unfinished = has.unfinished; ends = has.ends; unused = λ fits. has.unused ((same (slice_index bytes last) has.ends).1 fits) },
  λ has. record { inside = has.inside; unfinished = has.unfinished; ends = has.ends; unused = λ fits. has.unused ((same (slice_index bytes last) has.ends).0 fits) },
)
