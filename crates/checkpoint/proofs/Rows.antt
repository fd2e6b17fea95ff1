-- Vertices one after another, as loops have them.
use Rattle.std.proofs.Common.{◌≡◌, ℕ, zero, suc, ◌+◌, ◌-◌, ◌<◌, ◌≤◌, Bool, true, false, ltb, ◌&&◌, List, [], ◌∷◌, ◌++◌, drop, get_or, length, map, Result, Ok, refl, ap, ◌∙◌, append_assoc, arith}
use Rattle.std.proofs.lemmas.Bool.{le-ltb, lt-ltb, ltb-true}
use Rattle.std.proofs.lemmas.List.{append-nil, drop_all, drop_more, nil_from_length}
use Rattle.std.specs.List.Sorted.{IsStrictlyIncreasing}
use Rattle.std.specs.Prelude.{slice_index}
use Rattle.job_state.specs.declared.state.VertexState.{VertexState}
use Rattle.job_state.specs.State.{state_id}
use Rattle.checkpoint.specs.declared.fault.CheckpointFault.{CheckpointFault}
use Rattle.checkpoint.specs.Reading.{Fails, is_rising, vertex_at, vertices_at}
use Rattle.checkpoint.proofs.Tools.{Fails-continued, Fails-then, both_true, continued, goes_on, is_done}

-- ---- reading

-- what is read behind these vertices
abbrev pub onto : List VertexState → Bool → List VertexState × Bool → List VertexState × Bool
onto front told y = (front ++ y.0, told && y.1)

and_assoc : (a b c : Bool) → ((a && b) && c) ≡ (a && (b && c))
and_assoc true b c = refl
and_assoc false b c = refl

and_true : (a : Bool) → (a && true) ≡ a
and_true true = refl
and_true false = refl

vertices_more : (n : ℕ) (bytes : List ℕ) (v : VertexState) (told : Bool) (after : List ℕ) → vertex_at bytes ≡ Ok ((v, told), after)
    → vertices_at (suc n) bytes ≡ continued (λ y. (v ∷ y.0, told && y.1)) (vertices_at n after)
unfolding vertices_at
vertices_more n bytes v told after e = rw e refl

pub vertices_go_on : (front : List VertexState) (told : Bool) (count i : ℕ) (bytes after : List ℕ) (v : VertexState) (own : Bool) (total : Result ((List VertexState × Bool) × List ℕ) CheckpointFault)
    → i < count → vertex_at bytes ≡ Ok ((v, own), after) → continued (onto front told) (vertices_at (count - i) bytes) ≡ total
    → continued (onto (front ++ v ∷ []) (told && own)) (vertices_at (count - (i + 1)) after) ≡ total
vertices_go_on front told count i bytes after v own total lt e so_far =
    let k : count - i ≡ suc (count - (i + 1)) = omega arith in
    goes_on (onto front told) (λ y. (v ∷ y.0, own && y.1)) (onto (front ++ v ∷ []) (told && own)) (vertices_at (count - i) bytes) (vertices_at (count - (i + 1)) after) total
    (λ y j. (append_assoc front (v ∷ []) y.0 j, and_assoc told own y.1 j)) (rw k (vertices_more (count - (i + 1)) bytes v own after e)) so_far

pub vertices_fail : (fault : CheckpointFault) (front : List VertexState) (told : Bool) (count i : ℕ) (bytes : List ℕ) (total : Result ((List VertexState × Bool) × List ℕ) CheckpointFault)
    → i < count → Fails fault (vertex_at bytes) → continued (onto front told) (vertices_at (count - i) bytes) ≡ total → Fails fault total
unfolding vertices_at
vertices_fail fault front told count i bytes total lt e so_far =
    let k : count - i ≡ suc (count - (i + 1)) = omega arith in
    Fails-continued fault (onto front told) (vertices_at (count - i) bytes) total (rw k (Fails-then fault (vertex_at bytes) _ e)) so_far

pub vertices_done : (front : List VertexState) (told : Bool) (count i : ℕ) (bytes : List ℕ) (total : Result ((List VertexState × Bool) × List ℕ) CheckpointFault)
    → count ≤ i → continued (onto front told) (vertices_at (count - i) bytes) ≡ total → total ≡ Ok ((front, told), bytes)
unfolding vertices_at
vertices_done front told count i bytes total le so_far =
    let k : count - i ≡ 0 = omega arith in
    let e : vertices_at (count - i) bytes ≡ Ok (([], true), bytes) = rw k refl in
    is_done (onto front told) (vertices_at (count - i) bytes) total ([], true) bytes e so_far
    ∙ (λ j. Ok ((append-nil front j, and_true told j), bytes))

-- ---- ids that rise

rising_step : (xs : List VertexState) (i j : ℕ) (d f : VertexState) → j ≡ i + 1 → j < length xs
    → is_rising (map state_id (drop i xs)) ≡ (ltb (get_or xs i d).id (get_or xs j f).id && is_rising (map state_id (drop j xs)))
rising_step xs i j d f e lt =
    let here : i < length xs = omega arith in
    rw (drop_more xs i d here, ← e, drop_more xs j f lt) refl

pub rising_end : (xs : List VertexState) (i : ℕ) → length xs ≤ i + 1 → is_rising (map state_id (drop i xs)) ≡ true
rising_end [] i le = ap (λ ys. is_rising (map state_id ys)) (drop_all i [] (omega arith))
rising_end (x ∷ xs) zero le = rw (nil_from_length xs (omega arith)) refl
rising_end (x ∷ xs) (suc i) le = rising_end xs i (omega arith)

pub rising_breaks : (xs : List VertexState) (i j : ℕ) (d f : VertexState) → j ≡ i + 1 → j < length xs → (get_or xs j f).id ≤ (get_or xs i d).id
    → is_rising (map state_id (drop i xs)) ≡ false
rising_breaks xs i j d f e lt le = rising_step xs i j d f e lt ∙ rw (le-ltb (get_or xs i d).id (get_or xs j f).id le) refl

pub rising_more : (xs : List VertexState) (i j : ℕ) (d f : VertexState) → j ≡ i + 1 → j < length xs → (get_or xs i d).id < (get_or xs j f).id
    → is_rising (map state_id (drop i xs)) ≡ is_rising (map state_id (drop j xs))
rising_more xs i j d f e lt up = rising_step xs i j d f e lt ∙ rw (lt-ltb (get_or xs i d).id (get_or xs j f).id up) refl

pub rising_from : (xs : List ℕ) → is_rising xs ≡ true → IsStrictlyIncreasing xs
rising_from [] e k lt = absurd (omega arith)
rising_from (x ∷ []) e k lt = absurd (omega arith)
rising_from (x ∷ y ∷ xs) e zero lt = ltb-true x y (both_true _ _ e).0
rising_from (x ∷ y ∷ xs) e (suc k) lt =
    let below : k + 1 < length (y ∷ xs) = omega arith in
    let up : suc k + 1 ≡ suc (k + 1) = omega arith in
    let h : slice_index (y ∷ xs) k < slice_index (y ∷ xs) (k + 1) = rising_from (y ∷ xs) (both_true _ _ e).1 k below in
    rw up h

pub is_rising_from : (xs : List ℕ) → IsStrictlyIncreasing xs → is_rising xs ≡ true
is_rising_from [] h = refl
is_rising_from (x ∷ []) h = refl
is_rising_from (x ∷ y ∷ xs) h =
    let two : 0 + 1 < length (x ∷ y ∷ xs) = omega arith in
    let first : x < y = h 0 two in
    let rest : IsStrictlyIncreasing (y ∷ xs) = λ k lt.
    let below : suc k + 1 < length (x ∷ y ∷ xs) = omega arith in
    let up : suc k + 1 ≡ suc (k + 1) = omega arith in
    rw up at (h (suc k) below) in
    rw (lt-ltb x y first, is_rising_from (y ∷ xs) rest) refl
