-- The letters of vertices, and what becomes of them.
use Rattle.std.proofs.Common.{◌≡◌, ℕ, ℤ, ◌+◌, ◌<◌, not, List, [], ◌∷◌, ◌++◌, map, filter, cond, eqb, refl, ap, sym, subst, ◌∙◌, arith}
use Rattle.std.specs.List.{AllByRecursion, IsDistinct, count_by, enumerate_from, flat_map, fold, list_any, sum_by}
use Rattle.std.specs.List.Sorted.{IsPermutation, IsStrictlySortedBy}
use Rattle.std.specs.Ordering.{nat_cmp}
use Rattle.std.specs.declared.cmp.Ordering.TheVariants.{Less}
use Rattle.std.proofs.lemmas.Bool.Decides.{nat_tests}
use Rattle.std.proofs.lemmas.List.{map-append}
use Rattle.std.proofs.lemmas.List.Elements.{All-from_recursion}
use Rattle.std.proofs.lemmas.List.Folds.{flat_map-map, fold-map}
use Rattle.std.proofs.lemmas.List.Sorted.{list_any-IsPermutation, sum_by-IsPermutation}
use Rattle.semantics.specs.Call.{Outcome}
use Rattle.graph.specs.Partition.{joined}
use Rattle.inbox.specs.declared.letters.Letter.{Letter}
use Rattle.inbox.specs.Merging.{AreSent, dropped_of, goes_to, letter_sent}
use Rattle.inbox.specs.Merging.{inbox_of as letters_in}
use Rattle.superstep.specs.Superstep.{dropped_by, messages_to, is_sent_to, sent_to}
use Rattle.superstep.specs.Tasks.{VertexOutcome, letters_from, letters_of, outcomes_in}
use Rattle.superstep.specs.inside.Barrier.{IsSpread, left_id, left_ids}
use Rattle.superstep.proofs.PartStates.{either_way}
use Rattle.superstep.proofs.Spreading.{all_found, at_id, distinct_ids, outcome_at}

-- what the vertex with an id sent
abbrev pub sent_by : List VertexOutcome → ℕ → List Letter
sent_by left id = letters_from id (outcome_at left id)

of_one : (id n : ℕ) (sends : List (ℤ × ℤ)) → AllByRecursion (λ letter. letter.from ≡ id) (map (letter_sent id) (enumerate_from n sends))
of_one id n [] = tt
of_one id n (send ∷ sends) = (refl, of_one id (n + 1) sends)

less : (x y : ℕ) → x < y → nat_cmp x y ≡ Less
less x y below = grind (arith, nat_tests)

later : (id n m : ℕ) (sends : List (ℤ × ℤ)) → n < m → AllByRecursion (λ letter. nat_cmp n letter.seq ≡ Less) (map (letter_sent id) (enumerate_from m sends))
later id n m [] below = tt
later id n m (send ∷ sends) below = (less n m below, later id n (m + 1) sends (omega arith))

numbered : (id n : ℕ) (sends : List (ℤ × ℤ)) → IsStrictlySortedBy (λ a b. nat_cmp a.seq b.seq) (map (letter_sent id) (enumerate_from n sends))
unfolding IsStrictlySortedBy
numbered id n [] = tt
numbered id n (send ∷ sends) = (later id n (n + 1) sends (omega arith), numbered id (n + 1) sends)

pub are_sent : (left : List VertexOutcome) → AreSent (sent_by left)
are_sent left = record {
  own = λ source. All-from_recursion _ _ (of_one source 0 (outcome_at left source).sends);
  numbered = λ source. numbered source 0 (outcome_at left source).sends;
}

-- the letters of all are what each sent
pub sent_by_all : (left : List VertexOutcome) → IsDistinct eqb (left_ids left) → flat_map (sent_by left) (left_ids left) ≡ letters_of left
sent_by_all left apart =
    sym (flat_map-map (λ (one : VertexOutcome). letters_from one.0 one.1) (at_id left) (left_ids left))
    ∙ ap letters_of (all_found left apart)

-- ---- inboxes

values : (source id n : ℕ) (sends : List (ℤ × ℤ))
    → map (λ (letter : Letter). letter.value) (filter (λ letter. goes_to letter id) (map (letter_sent source) (enumerate_from n sends)))
    ≡ map (λ (send : ℤ × ℤ). send.1) (filter (is_sent_to id) sends)
values source id n [] = refl
values source id n (send ∷ sends) =
    let rest = filter (λ letter. goes_to letter id) (map (letter_sent source) (enumerate_from (n + 1) sends)) in
    let others = filter (is_sent_to id) sends in
    either_way (is_sent_to id send)
    (λ b. map (λ (letter : Letter). letter.value) (cond b (letter_sent source (n, send) ∷ rest) rest) ≡ map (λ (one : ℤ × ℤ). one.1) (cond b (send ∷ others) others))
    (ap (λ xs. send.1 ∷ xs) (values source id (n + 1) sends)) (values source id (n + 1) sends)

pub sent_values : (id source : ℕ) (outcome : Outcome) → letters_in (letters_from source outcome) id ≡ sent_to id outcome
sent_values id source outcome = values source id 0 outcome.sends

-- an inbox holds what each vertex sent to it, by rising id
pub inbox_found : (left ordered : List VertexOutcome) (id : ℕ) → map (at_id left) (left_ids ordered) ≡ ordered
    → flat_map (λ source. letters_in (sent_by left source) id) (left_ids ordered) ≡ messages_to (outcomes_in ordered) id
inbox_found left ordered id found =
    (λ i. flat_map (λ source. sent_values id source (outcome_at left source) i) (left_ids ordered))
    ∙ sym (flat_map-map (λ (one : VertexOutcome). sent_to id one.1) (at_id left) (left_ids ordered))
    ∙ ap (flat_map (λ (one : VertexOutcome). sent_to id one.1)) found
    ∙ sym (flat_map-map (sent_to id) (λ (one : VertexOutcome). one.1) ordered)

-- ---- drops

counted : (ids : List ℕ) (source n total : ℕ) (sends : List (ℤ × ℤ))
    → fold (λ s (letter : Letter). s + cond (not (list_any (goes_to letter) ids)) 1 0) total (map (letter_sent source) (enumerate_from n sends))
    ≡ fold (λ s send. s + cond (not (list_any (λ id. is_sent_to id send) ids)) 1 0) total sends
counted ids source n total [] = refl
counted ids source n total (send ∷ sends) =
    counted ids source (n + 1) (total + cond (not (list_any (λ id. is_sent_to id send) ids)) 1 0) sends

pub dropped_values : (ids : List ℕ) (source : ℕ) (outcome : Outcome) → dropped_of (letters_from source outcome) ids ≡ dropped_by ids outcome
dropped_values ids source outcome = counted ids source 0 0 outcome.sends

sum_by-map : {X Y : Type 0} (f : Y → ℕ) (v : X → Y) (xs : List X) → sum_by f (map v xs) ≡ sum_by (λ x. f (v x)) xs
sum_by-map f v xs = fold-map (λ s y. s + f y) v 0 xs

-- the ids may lie in any order
drops_alike : (ids moved : List ℕ) (outcome : Outcome) → IsPermutation ids moved → dropped_by ids outcome ≡ dropped_by moved outcome
drops_alike ids moved outcome same =
    λ i. count_by (λ send. not (list_any-IsPermutation (λ id. is_sent_to id send) ids moved same i)) outcome.sends

-- as many drop as drop of what each vertex sent
pub drops_found : (left ordered : List VertexOutcome) → IsDistinct eqb (left_ids left) → IsPermutation left ordered → IsPermutation (left_ids left) (left_ids ordered)
    → sum_by (λ source. dropped_of (sent_by left source) (left_ids left)) (left_ids left) ≡ sum_by (dropped_by (left_ids ordered)) (outcomes_in ordered)
drops_found left ordered apart same same_ids =
    (λ i. sum_by (λ source. dropped_values (left_ids left) source (outcome_at left source) i) (left_ids left))
    ∙ sym (sum_by-map (λ (one : VertexOutcome). dropped_by (left_ids left) one.1) (at_id left) (left_ids left))
    ∙ ap (sum_by (λ (one : VertexOutcome). dropped_by (left_ids left) one.1)) (all_found left apart)
    ∙ sym (sum_by-IsPermutation (λ (one : VertexOutcome). dropped_by (left_ids left) one.1) left ordered same)
    ∙ (λ i. sum_by (λ (one : VertexOutcome). drops_alike (left_ids left) (left_ids ordered) one.1 same_ids i) ordered)
    ∙ sym (sum_by-map (dropped_by (left_ids ordered)) (λ (one : VertexOutcome). one.1) ordered)

-- ---- the lists of all parts

pub joined_map : {X Y : Type 0} (f : X → Y) (lists : List (List X)) → joined (map (map f) lists) ≡ map f (joined lists)
joined_map f [] = refl
joined_map f (list ∷ lists) = ap (λ rest. map f list ++ rest) (joined_map f lists) ∙ sym (map-append f list (joined lists))

pub spread_ids : (ids : List (List ℕ)) (letters : List (List Letter)) (lefts : List (List VertexOutcome)) (ordered : List VertexOutcome) → IsSpread ids letters lefts ordered
    → joined ids ≡ left_ids (joined lefts)
spread_ids ids letters lefts ordered is = ap joined is.ids ∙ joined_map left_id lefts

pub spread_letters : (ids : List (List ℕ)) (letters : List (List Letter)) (lefts : List (List VertexOutcome)) (ordered : List VertexOutcome) → IsSpread ids letters lefts ordered
    → IsPermutation (flat_map (sent_by (joined lefts)) (left_ids (joined lefts))) (joined letters)
spread_letters ids letters lefts ordered is =
    subst (λ (xs : List Letter). IsPermutation xs (joined letters))
    (sym (sent_by_all (joined lefts) (distinct_ids (joined lefts) ordered is.rising is.same))) is.letters
