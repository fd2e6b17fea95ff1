-- What is read where nothing is out of order, and which states are.
use Rattle.std.proofs.Common.{◌≡◌, ℕ, zero, suc, ◌+◌, ◌-◌, ◌^◌, ◌<◌, Bool, true, false, cond, eqb, ltb, ◌&&◌, ◌||◌, not, List, [], ◌∷◌, length, map, Ok, refl, sym, ap, ◌∙◌, arith}
use Rattle.std.specs.List.{sum}
use Rattle.std.proofs.lemmas.Bool.{eq-eqb, eqb-true, le-leb, leb-true, ltb-false, ne_eqb}
use Rattle.job_state.specs.declared.state.VertexState.{VertexState}
use Rattle.job_state.specs.State.{IsState, Standing, capped, state_id}
use Rattle.checkpoint.specs.Reading.{◌>>=◌, Reads, adds_up, is_rising, is_sound, items_at, number_at, told_at, vertex_at, vertices_at}
use Rattle.checkpoint.specs.declared.fault.CheckpointFault.TheVariants.{Order, Truncated}
use Rattle.checkpoint.proofs.Tools.{bind_ok, both_true, ok_is, unless}
use Rattle.checkpoint.proofs.Rows.{is_rising_from, rising_from}

-- ---- counts

pub items_length : {A : Type 0} (item : Reads A) (n : ℕ) (bytes : List ℕ) (x : List A × List ℕ) → items_at item n bytes ≡ Ok x → length x.0 ≡ n
unfolding items_at
items_length {A} item zero bytes x e = sym (ap (λ (y : List A × List ℕ). length y.0) (ok_is ([], bytes) x e))
items_length {A} item (suc n) bytes x e =
    let a = bind_ok (item bytes) (λ first. items_at item n first.1 >>= λ others. Ok (first.0 ∷ others.0, others.1)) x e in
    let b = bind_ok (items_at item n a.0.1) (λ others. Ok (a.0.0 ∷ others.0, others.1)) x a.2 in
    sym (ap (λ (y : List A × List ℕ). length y.0) (ok_is (a.0.0 ∷ b.0.0, b.0.1) x b.2)) ∙ ap suc (items_length item n a.0.1 b.0 b.1)

pub vertices_length : (n : ℕ) (bytes : List ℕ) (x : (List VertexState × Bool) × List ℕ) → vertices_at n bytes ≡ Ok x → length x.0.0 ≡ n
unfolding vertices_at
vertices_length zero bytes x e = sym (ap (λ (y : (List VertexState × Bool) × List ℕ). length y.0.0) (ok_is (([], true), bytes) x e))
vertices_length (suc n) bytes x e =
    let a = bind_ok (vertex_at bytes) (λ first. vertices_at n first.1 >>= λ others. Ok ((first.0.0 ∷ others.0.0, first.0.1 && others.0.1), others.1)) x e in
    let b = bind_ok (vertices_at n a.0.1) (λ others. Ok ((a.0.0.0 ∷ others.0.0, a.0.0.1 && others.0.1), others.1)) x a.2 in
    sym (ap (λ (y : (List VertexState × Bool) × List ℕ). length y.0.0) (ok_is ((a.0.0.0 ∷ b.0.0.0, a.0.0.1 && b.0.0.1), b.0.1) x b.2))
    ∙ ap suc (vertices_length n a.0.1 b.0 b.1)

-- the branch of a test
by_test : {A P : Type 0} (t : Bool) (x y z : A) → cond t x y ≡ z → (t ≡ true → x ≡ z → P) → (t ≡ false → y ≡ z → P) → P
by_test true x y z e here elsewhere = here refl e
by_test false x y z e here elsewhere = elsewhere refl e

-- units are told of each superstep from the first one on
pub told_length : (version superstep : ℕ) (bytes : List ℕ) (x : (ℕ × List ℕ) × List ℕ) → told_at version superstep bytes ≡ Ok x
    → x.0.0 + length x.0.1 ≡ superstep
unfolding told_at
told_length version superstep bytes x e =
    let total = λ (y : (ℕ × List ℕ) × List ℕ). y.0.0 + length y.0.1 in
    by_test (eqb version 1) _ _ (Ok x) e
    (λ older made. sym (ap total (ok_is ((superstep, []), bytes) x made)) ∙ omega arith)
    (λ newer goes_on.
    let a = bind_ok (number_at 4 bytes) _ x goes_on in
    let long = unless (ltb (length a.0.1) 4) Truncated _ x a.2 in
    let early = unless (ltb superstep a.0.0) Order _ x long.1 in
    let b = bind_ok (items_at (number_at 16) (superstep - a.0.0) a.0.1) (λ told. Ok ((a.0.0, told.0), told.1)) x early.1 in
    sym (ap total (ok_is ((a.0.0, b.0.0), b.0.1) x b.2))
    ∙ omega (arith, items_length (number_at 16) (superstep - a.0.0) a.0.1 b.0 b.1, ltb-false superstep a.0.0 early.0))

-- ---- states

either : (since : ℕ) (same : Bool) → (not (eqb since 0) || same) ≡ true → since ≡ 0 → same ≡ true
either since same e none = rw none at e

pub is_state : (state : Standing) → is_rising (map state_id state.vertices) ≡ true → adds_up state.since state.by_superstep state.units ≡ true
    → state.since + length state.by_superstep ≡ state.superstep → length state.vertices < 2 ^ 32 → IsState state
is_state state rising up told few =
    let sums = both_true _ _ up in
    record {
      rising = rising_from (map state_id state.vertices) rising;
      few = few;
      told = told;
      least = leb-true _ _ sums.0;
      all = λ none. eqb-true _ _ (either state.since _ sums.1 none);
    }

equal_or : (since units told : ℕ) → (since ≡ 0 → units ≡ told) → (not (eqb since 0) || eqb units told) ≡ true
equal_or zero units told same = eq-eqb units told (same refl)
equal_or (suc since) units told same = rw (ne_eqb (suc since) 0 (λ e. absurd cc)) refl

-- a state is sound
pub sound : (state : Standing) → IsState state → is_sound state ≡ true
sound state is =
    rw (is_rising_from (map state_id state.vertices) is.rising, le-leb _ _ is.least, equal_or state.since state.units (capped (sum state.by_superstep)) is.all) refl
