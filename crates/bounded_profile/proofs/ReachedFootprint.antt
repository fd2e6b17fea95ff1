-- The marks are those of the reached bytes.
use Rattle.std.proofs.Common.{◌≡◌, ◌≢◌, ◌⊎◌, inl, inr, ℕ, zero, suc, ◌+◌, ◌-◌, ◌<◌, ◌≤◌, ◌==◌, List, [], ◌∷◌, ◌++◌, length, drop, get_or, set, replicate, Bool, true, false, cond, ◌&&◌, leb, ltb, refl, sym, ap, ◌∙◌, subst, arith, get_or-set_same, get_or-set_other, lt-ltb, le-ltb}
use Rattle.std.specs.Prelude.{◌||◌}
use Rattle.std.proofs.lemmas.Bool.{le-leb, lt-leb}
use Rattle.std.proofs.lemmas.Bool.Decides.{eqb_tells}
use Rattle.std.proofs.lemmas.List.{at_drop_more, get_or-replicate, get_or_past, length-replicate, length-set}
use Rattle.wasm_ast.specs.declared.module.Function.{Function}
use Rattle.wasm_ast.specs.declared.module.Module.{Module}
use Rattle.wasm_ast.specs.Code.{Code}
use Rattle.wasm_ast.specs.Code as code
use Rattle.verified.specs.declared.arity.Arity.{Arity}
use Rattle.verified.specs.Arities.{branch_arity, arity_at, block_arity, test_arity}
use Rattle.verified.specs.Memory.{memory_bytes}
use Rattle.verified.specs.Reached.{Access, known_after, known_behind, plain_accesses, accesses_along, accesses_in, accesses, covers, is_covered, is_reached, reached_below}
use Rattle.bounded_profile.specs.inside.Footprint.{marked_to, marked, marked_all, Trail, trail, passing, with_plain, trail_along, marked_below}
use Rattle.bounded_profile.proofs.Leveling.{least_or_past}

-- ---- what an access covers

abbrev bytes : ℕ → ℕ → Access
bytes from width = record { from = from; width = width }

and_false : (b : Bool) → (b && false) ≡ false
and_false true = refl
and_false false = refl

covers_yes : (k from width : ℕ) → from ≤ k → k < from + width → covers k (bytes from width) ≡ true
covers_yes k from width h g = ap (λ b. b && ltb k (from + width)) (le-leb from k h) ∙ lt-ltb k (from + width) g

covers_before : (k from width : ℕ) → k < from → covers k (bytes from width) ≡ false
covers_before k from width h = ap (λ b. b && ltb k (from + width)) (lt-leb from k h)

covers_behind : (k from width : ℕ) → from + width ≤ k → covers k (bytes from width) ≡ false
covers_behind k from width h = ap (λ b. leb from k && b) (le-ltb k (from + width) h) ∙ and_false (leb from k)

-- one byte more makes no difference to the others
covers_other : (k from width : ℕ) → k ≢ from + width → covers k (bytes from (suc width)) ≡ covers k (bytes from width)
covers_other k from width other = by_place (least_or_past k from) (least_or_past k (from + width))
  where
    by_place : (k < from) ⊎ (from ≤ k) → (k < from + width) ⊎ (from + width ≤ k) → covers k (bytes from (suc width)) ≡ covers k (bytes from width)
    by_place (inl h) g = covers_before k from (suc width) h ∙ sym (covers_before k from width h)
    by_place (inr h) (inl g) = covers_yes k from (suc width) h (omega (arith, g)) ∙ sym (covers_yes k from width h g)
    by_place (inr h) (inr g) = covers_behind k from (suc width) (omega (arith, g, other)) ∙ sym (covers_behind k from width g)

-- ---- marks

marked_length : (from width : ℕ) (ms : List Bool) → length (marked_to from width ms) ≡ length ms
marked_length from zero ms = refl
marked_length from (suc width) ms = length-set (marked_to from width ms) (from + width) true ∙ marked_length from width ms

pub all_length : (xs : List Access) (ms : List Bool) → length (marked_all xs ms) ≡ length ms
all_length [] ms = refl
all_length (a ∷ xs) ms = all_length xs (marked a ms) ∙ marked_length a.from a.width ms

marked_at : (from width : ℕ) (ms : List Bool) (k : ℕ) → k < length ms → get_or (marked_to from width ms) k false ≡ (covers k (bytes from width) || get_or ms k false)
marked_at from zero ms k h = ap (λ b. b || get_or ms k false) (sym (none (least_or_past k from)))
  where
    none : (k < from) ⊎ (from ≤ k) → covers k (bytes from 0) ≡ false
    none (inl g) = covers_before k from 0 g
    none (inr g) = covers_behind k from 0 (omega (arith, g))
marked_at from (suc width) ms k h = at (marked_at from width ms k h) (eqb_tells k (from + width))
  where
    at : get_or (marked_to from width ms) k false ≡ (covers k (bytes from width) || get_or ms k false) → ((k == from + width ≡ true) × (k ≡ from + width)) ⊎ ((k == from + width ≡ false) × (k ≢ from + width)) → get_or (set (marked_to from width ms) (from + width) true) k false ≡ (covers k (bytes from (suc width)) || get_or ms k false)
    at before (inl s) =
        let here = s.1 in
        let l = marked_length from width ms in
        ap (λ n. get_or (set (marked_to from width ms) (from + width) true) n false) here
        ∙ get_or-set_same (marked_to from width ms) (from + width) true false (omega (arith, h, here, l))
        ∙ ap (λ b. b || get_or ms k false) (sym (covers_yes k from (suc width) (omega (arith, here)) (omega (arith, here))))
    at before (inr s) =
        get_or-set_other (marked_to from width ms) (from + width) k true false s.1
        ∙ before
        ∙ ap (λ b. b || get_or ms k false) (sym (covers_other k from width s.1))

turned : (p q r : Bool) → (q || (p || r)) ≡ ((p || q) || r)
turned true true r = refl
turned true false r = refl
turned false true r = refl
turned false false r = refl

all_at : (xs : List Access) (ms : List Bool) (k : ℕ) → k < length ms → get_or (marked_all xs ms) k false ≡ (is_covered k xs || get_or ms k false)
all_at [] ms k h = refl
all_at (a ∷ xs) ms k h =
    let l = marked_length a.from a.width ms in
    all_at xs (marked a ms) k (omega (arith, h, l))
    ∙ ap (λ b. is_covered k xs || b) (marked_at a.from a.width ms k h)
    ∙ turned (covers k a) (is_covered k xs) (get_or ms k false)

pub all_joined : (xs bs : List Access) (ms : List Bool) → marked_all (xs ++ bs) ms ≡ marked_all bs (marked_all xs ms)
all_joined [] bs ms = refl
all_joined (a ∷ xs) bs ms = all_joined xs bs (marked a ms)

-- ---- along code

module _ (arities : List Arity) where
  pub along : (c : Code) (s : Trail) → (trail_along arities s c).marks ≡ marked_all (accesses_along arities c s.known) s.marks
  along code.end s = refl
  along (code.plain p rest) s =
      along rest (with_plain p s)
      ∙ sym (all_joined (plain_accesses p s.known) (accesses_along arities rest (known_behind p s.known)) s.marks)
  along (code.branch b rest) s = along rest (passing (branch_arity b) s)
  along (code.call f rest) s = along rest (passing (arity_at arities f) s)
  along (code.call_indirect t rest) s = along rest s
  along (code.unreachable rest) s = along rest s
  along (code.block t body rest) s =
      let known = known_after (block_arity t) s.known in
      let others = accesses_along arities rest known in
      along rest (trail known (trail_along arities (trail [] s.marks) body).marks)
      ∙ ap (marked_all others) (along body (trail [] s.marks))
      ∙ sym (all_joined (accesses_along arities body []) others s.marks)
  along (code.loop t body rest) s =
      let known = known_after (block_arity t) s.known in
      let others = accesses_along arities rest known in
      along rest (trail known (trail_along arities (trail [] s.marks) body).marks)
      ∙ ap (marked_all others) (along body (trail [] s.marks))
      ∙ sym (all_joined (accesses_along arities body []) others s.marks)
  along (code.choice t body other rest) s =
      let known = known_after (block_arity t) (known_after test_arity s.known) in
      let one = (trail_along arities (trail [] s.marks) body).marks in
      let bodies = accesses_along arities body [] in
      let arms = accesses_along arities other [] in
      let others = accesses_along arities rest known in
      along rest (trail known (trail_along arities (trail [] one) other).marks)
      ∙ ap (marked_all others) (along other (trail [] one) ∙ ap (marked_all arms) (along body (trail [] s.marks)))
      ∙ sym (all_joined bodies (arms ++ others) s.marks ∙ all_joined arms others (marked_all bodies s.marks))

-- ---- how many

pub mark_tells : (m : Module) (k : ℕ) → get_or (marked_all (accesses m) (replicate (memory_bytes m) false)) k false ≡ is_reached m k
mark_tells m k = by_place (least_or_past k (memory_bytes m))
  where
    or_false : (b : Bool) → (b || false) ≡ b
    or_false true = refl
    or_false false = refl

    by_place : (k < memory_bytes m) ⊎ (memory_bytes m ≤ k) → get_or (marked_all (accesses m) (replicate (memory_bytes m) false)) k false ≡ is_reached m k
    by_place (inl h) =
        let l = length-replicate {A = Bool} (memory_bytes m) false in
        all_at (accesses m) (replicate (memory_bytes m) false) k (omega (arith, h, l))
        ∙ ap (λ b. is_covered k (accesses m) || b) (get_or-replicate (memory_bytes m) k false false h)
        ∙ or_false (is_covered k (accesses m))
        ∙ sym (ap (λ b. b && is_covered k (accesses m)) (lt-ltb k (memory_bytes m) h))
    by_place (inr h) =
        let l = length-replicate {A = Bool} (memory_bytes m) false in
        let a = all_length (accesses m) (replicate (memory_bytes m) false) in
        get_or_past (marked_all (accesses m) (replicate (memory_bytes m) false)) k false (omega (arith, h, l, a))
        ∙ sym (ap (λ b. b && is_covered k (accesses m)) (le-ltb k (memory_bytes m) h))

pub below_tells : (m : Module) (k : ℕ) → marked_below (marked_all (accesses m) (replicate (memory_bytes m) false)) k ≡ reached_below m k
below_tells m zero = refl
below_tells m (suc k) =
    let h = below_tells m k in
    let e = mark_tells m k in
    cc

-- ---- no more past the memory

pub marked_past : (ms : List Bool) (k : ℕ) → length ms ≤ k → marked_below ms k ≡ marked_below ms (length ms)
marked_past ms k h = subst (λ n. marked_below ms n ≡ marked_below ms (length ms)) same (further (k - length ms))
  where
    same : length ms + (k - length ms) ≡ k
    same = omega (arith, h)

    further : (n : ℕ) → marked_below ms (length ms + n) ≡ marked_below ms (length ms)
    further zero = let e : length ms + 0 ≡ length ms = omega arith in ap (marked_below ms) e
    further (suc n) =
        let e : length ms + suc n ≡ suc (length ms + n) = omega arith in
        let none = get_or_past ms (length ms + n) false (omega arith) in
        let fewer = further n in
        ap (marked_below ms) e
        ∙ ap (λ b. marked_below ms (length ms + n) + cond b 1 0) none
        ∙ omega (arith, fewer)

pub marked_few : (ms : List Bool) (k : ℕ) → marked_below ms k ≤ k
marked_few ms zero = omega arith
marked_few ms (suc k) = let h = marked_few ms k in by_mark h (get_or ms k false)
  where
    by_mark : marked_below ms k ≤ k → (b : Bool) → marked_below ms k + cond b 1 0 ≤ suc k
    by_mark h true = omega (arith, h)
    by_mark h false = omega (arith, h)

-- ---- the bytes of each function in turn

pub next_function : (arities : List Arity) (fs : List Function) (i : ℕ) (f : Function) (ms : List Bool) → i < length fs → f ≡ get_or fs i f → marked_all (accesses_in arities (drop i fs)) ms ≡ marked_all (accesses_in arities (drop (i + 1) fs)) (marked_all (accesses_along arities f.body []) ms)
next_function arities fs i f ms h e =
    at_drop_more (λ (gs : List Function). marked_all (accesses_in arities gs) ms) fs i f h
    ∙ ap (λ (g : Function). marked_all (accesses_along arities g.body [] ++ accesses_in arities (drop (i + 1) fs)) ms) (sym e)
    ∙ all_joined (accesses_along arities f.body []) (accesses_in arities (drop (i + 1) fs)) ms
