-- From reading a list to reading at a place: what the clauses of each read follow from, for both signednesses.
use Rattle.std.proofs.Common.{◌≡◌, ℕ, suc, ◌+◌, ◌<◌, ◌≤◌, ◌⊎◌, inl, inr, Bool, true, false, cond, List, [], ◌∷◌, ◌++◌, length, drop, Result, Ok, Err, refl, sym, ap, ◌∙◌, arith}
use Rattle.std.specs.Prelude.{IfOk}
use Rattle.std.proofs.lemmas.List.{length-drop, length-append, get_or-drop, append_cancel_right}
use Rattle.leb.specs.declared.fault.LebFault.{LebFault}
use Rattle.leb.specs.inside.Bytes.{IsBytes}
use Rattle.leb.specs.inside.Reading.{Gives}
use Rattle.leb.specs.Spelling.{IsSpelledAt}

-- which way a test went
pub chosen : {A : Type 0} (b : Bool) (x y z : A) → cond b x y ≡ z → ((b ≡ true) × (x ≡ z)) ⊎ ((b ≡ false) × (y ≡ z))
chosen true x y z e = inl (refl, e)
chosen false x y z e = inr (refl, e)

pub ok_is : {X : Type 0} (x y : X) → ◌≡◌ {A = Result X LebFault} (Ok x) (Ok y) → x ≡ y
ok_is x y e = cc

pub never : {X P : Type 0} (e : LebFault) (x : X) → ◌≡◌ {A = Result X LebFault} (Err e) (Ok x) → P
never e x is = absurd cc

pub IsBytes-tail : (b : ℕ) (bs : List ℕ) → IsBytes (b ∷ bs) → IsBytes bs
IsBytes-tail b bs h i = h (suc i)

pub IsBytes-drop : (at : ℕ) (bytes : List ℕ) → IsBytes bytes → IsBytes (drop at bytes)
IsBytes-drop at bytes h i = rw get_or-drop (h (at + i))

-- a front that spells the number of x, and what x leaves after it
abbrev pub Takes : {N : Type 0} → (List ℕ → N → Type 0) → List ℕ → N × List ℕ → Type 0
Takes spelled bytes x = (front : List ℕ) × spelled front x.0 × (bytes ≡ front ++ x.1)

-- what was answered is inside the bytes
abbrev pub IsInside : {N : Type 0} → List ℕ → ℕ → Result (N × ℕ) LebFault → Type 0
IsInside bytes at r = IfOk r (λ x. (at < x.1) × (x.1 ≤ length bytes))

pub IsSpelledAt-from_takes : {N : Type 0} (spelled : List ℕ → N → Type 0) (bytes : List ℕ) (at : ℕ) (n : N) (next : ℕ)
    → at < next → next ≤ length bytes → Takes spelled (drop at bytes) (n, drop next bytes) → IsSpelledAt spelled bytes at n next
IsSpelledAt-from_takes spelled bytes at n next after inside t =
    let lengths = ap length t.2 in
    record {
      spelling = t.0;
      spells = t.1;
      stands = t.2;
      ends = omega (arith, simp (length-drop, length-append) at lengths);
    }

pub is_found : {N : Type 0} (spelled : List ℕ → N → Type 0) (reader : List ℕ → Result (N × List ℕ) LebFault)
    → ((bytes : List ℕ) (x : N × List ℕ) → IsBytes bytes → reader bytes ≡ Ok x → Takes spelled bytes x)
    → (bytes : List ℕ) (at : ℕ) (r : Result (N × ℕ) LebFault) → IsBytes bytes → IsInside bytes at r
    → Gives (λ x. (x.0, drop x.1 bytes)) r (reader (drop at bytes))
    → IfOk r (λ x. IsSpelledAt spelled bytes at x.0 x.1)
is_found spelled reader takes bytes at (Ok x) fits inside gives =
    IsSpelledAt-from_takes spelled bytes at x.0 x.1 inside.0 inside.1
    (takes (drop at bytes) (x.0, drop x.1 bytes) (IsBytes-drop at bytes fits) gives)
is_found spelled reader takes bytes at (Err e) fits inside gives = tt

same_drop : (bytes : List ℕ) (i j : ℕ) → i ≤ length bytes → j ≤ length bytes → drop i bytes ≡ drop j bytes → i ≡ j
same_drop bytes i j p q e = omega (arith, simp length-drop at (ap length e))

length-spelling : {N : Type 0} (spelled : List ℕ → N → Type 0) (spelling : List ℕ) (n : N)
    → ((n : N) → spelled [] n → ⊥) → spelled spelling n → 0 < length spelling
length-spelling spelled [] n nonempty spells = absurd (nonempty n spells)
length-spelling spelled (b ∷ bs) n nonempty spells = omega arith

pub IsSpelledAt-inside : {N : Type 0} (spelled : List ℕ → N → Type 0) (bytes : List ℕ) (at : ℕ) (n : N) (next : ℕ)
    → ((n : N) → spelled [] n → ⊥) → IsSpelledAt spelled bytes at n next → next ≤ length bytes
IsSpelledAt-inside spelled bytes at n next nonempty s =
    let some = length-spelling spelled s.spelling n nonempty s.spells in
    let lengths = ap length s.stands in
    omega (arith, s.ends, simp (length-drop, length-append) at lengths)

pub is_only : {N : Type 0} (spelled : List ℕ → N → Type 0) (reader : List ℕ → Result (N × List ℕ) LebFault)
    → ((front : List ℕ) (n : N) (rest : List ℕ) → spelled front n → reader (front ++ rest) ≡ Ok (n, rest))
    → ((n : N) → spelled [] n → ⊥)
    → (bytes : List ℕ) (at : ℕ) (r : Result (N × ℕ) LebFault) → IsInside bytes at r
    → Gives (λ x. (x.0, drop x.1 bytes)) r (reader (drop at bytes))
    → (n : N) (next : ℕ) → IsSpelledAt spelled bytes at n next → r ≡ Ok (n, next)
is_only {N} spelled reader again nonempty bytes at (Ok x) inside gives n next s =
    let read : reader (drop at bytes) ≡ Ok (n, drop next bytes) = ap reader s.stands ∙ again s.spelling n (drop next bytes) s.spells in
    let pair : (x.0, drop x.1 bytes) ≡ (n, drop next bytes) = cc in
    let number : x.0 ≡ n = ap (λ (p : N × List ℕ). p.0) pair in
    let rest : drop x.1 bytes ≡ drop next bytes = ap (λ (p : N × List ℕ). p.1) pair in
    let place : x.1 ≡ next = same_drop bytes x.1 next inside.1 (IsSpelledAt-inside spelled bytes at n next nonempty s) rest in
    let same : (x.0, x.1) ≡ (n, next) = cc in
    ap Ok same
is_only spelled reader again nonempty bytes at (Err e) inside gives n next s =
    let read : reader (drop at bytes) ≡ Ok (n, drop next bytes) = ap reader s.stands ∙ again s.spelling n (drop next bytes) s.spells in
    absurd cc

pub one_reading : {N : Type 0} (spelled : List ℕ → N → Type 0) (reader : List ℕ → Result (N × List ℕ) LebFault)
    → ((front : List ℕ) (n : N) (rest : List ℕ) → spelled front n → reader (front ++ rest) ≡ Ok (n, rest))
    → (a b x y : List ℕ) (m n : N) → spelled a m → spelled b n → a ++ x ≡ b ++ y → (a ≡ b) × (m ≡ n)
one_reading {N} spelled reader again a b x y m n p q same =
    let first : reader (b ++ y) ≡ Ok (m, x) = ap reader (sym same) ∙ again a m x p in
    let second = again b n y q in
    let pair : (m, x) ≡ (n, y) = cc in
    let number : m ≡ n = ap (λ (r : N × List ℕ). r.0) pair in
    let rest : x ≡ y = ap (λ (r : N × List ℕ). r.1) pair in
    (append_cancel_right a b y (rw rest at same), number)
