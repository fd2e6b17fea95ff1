-- One more target's letters: the inbox of its id arrives after those of lesser ids.
use Rattle.std.proofs.Common.{◌≡◌, ◌≢◌, ◌<◌, ◌≤◌, ◌+◌, ℕ, zero, suc, ℤ, pos, negsuc, Bool, true, false, ◌||◌, List, [], ◌∷◌, ◌++◌, map, filter, length, get_or, take, drop, sum_by, vec_items, arith, refl, sym, ap, ◌∙◌, Global, append-nil, append_assoc}
use Rattle.std.proofs.lemmas.Bool.Decides.{nat_tests}
use Rattle.std.proofs.lemmas.Int.{ints}
use Rattle.std.proofs.lemmas.List.{get_or-take, get_or-drop, length-take-le, length-drop, map-append, nil_from_length, take-append-drop}
use Rattle.std.proofs.lemmas.List.Elements.{filter-append, recursion_from_All}
use Rattle.std.proofs.lemmas.List.Sums.{sum_by-append, sum_by-cons}
use Rattle.std.proofs.lemmas.Map.Keys.{Less-from_sorted, below_from_sorted, sorted_from_strictly_increasing, sorted_tail}
use Rattle.std.specs.List.{AllByRecursion, IsDistinct, list_any}
use Rattle.std.specs.List.Sorted.{IsStrictlyIncreasing, IsStrictlySortedBy}
use Rattle.std.specs.Ordering.{int_eq}
use Rattle.std.specs.Prelude.{int_lt, nat_eq}
use Rattle.std.specs.declared.cmp.Ordering.TheVariants.{Less}
use Rattle.std.specs.declared.vec.Vec.{Vec}
use Rattle.inbox.specs.declared.arrivals.Arrival.{Arrival}
use Rattle.inbox.specs.declared.letters.Letter.{Letter}
use Rattle.inbox.specs.declared.shares.TargetSet.{TargetSet}
use Rattle.inbox.specs.Arrivals.{arrivals_from, arrived}
use Rattle.inbox.specs.Merging.{all_of, are_one, dropped_of, goes_to, inbox_of, inboxes_of, IsBySource}
use Rattle.inbox.specs.inside.Runs.{AreBelow, AreLeft, ComeAfter, IsRunAfter}
use Rattle.inbox.specs.inside.Shares.{goes_into, has}
use Rattle.inbox.specs.inside.Targets.{IsByTarget, target_cmp}
use Rattle.inbox.proofs.Counting.{delivered_or_dropped, dropped_of_none}
use Rattle.inbox.proofs.Delivery.{other_id}
use Rattle.inbox.proofs.InOrder.{in_order}
use Rattle.inbox.proofs.InShares.{same_inboxes}
use Rattle.inbox.proofs.OneOrder.{same_dropped}

-- ---- what one target's letters bring to an id

same_number : (n : ℕ) → int_eq (pos n) (pos n) ≡ true
same_number n = grind (arith, nat_tests)

run_passes : (run : List Letter) (to : ℤ) (id : ℕ) → AllByRecursion (λ letter. letter.to ≡ to) run → int_eq to (pos id) ≡ false
    → filter (λ letter. goes_to letter id) run ≡ []
run_passes [] to id all other = refl
run_passes (letter ∷ run) to id all other =
    let here : goes_to letter id ≡ false = ap (λ z. int_eq z (pos id)) all.0 ∙ other in
    rw here (run_passes run to id all.1 other)

run_arrives : (run : List Letter) (to : ℤ) (id : ℕ) → AllByRecursion (λ letter. letter.to ≡ to) run → to ≡ pos id
    → filter (λ letter. goes_to letter id) run ≡ run
run_arrives [] to id all same = refl
run_arrives (letter ∷ run) to id all same =
    let here : goes_to letter id ≡ true = ap (λ z. int_eq z (pos id)) (all.0 ∙ same) ∙ same_number id in
    rw here (ap (λ xs. letter ∷ xs) (run_arrives run to id all.1 same))

lesser : (z : ℤ) (t id : ℕ) → int_lt z (pos t) ≡ true → t ≤ id → int_eq z (pos id) ≡ false
lesser (pos n) t id less up = let below : n < t = grind (arith, nat_tests) in other_id n id (λ e. omega (arith, e))
lesser (negsuc n) t id less up = refl

sent_passes : (sent : List Letter) (t id : ℕ) → AreBelow (pos t) sent → t ≤ id → filter (λ letter. goes_to letter id) sent ≡ []
sent_passes [] t id all up = refl
sent_passes (letter ∷ sent) t id all up = rw (lesser letter.to t id all.0 up) (sent_passes sent t id all.1 up)

module _ (sent run : List Letter) where
  found_after : (id : ℕ) → inbox_of (sent ++ run) id ≡ inbox_of sent id ++ inbox_of run id
  found_after id =
      ap (map (λ (letter : Letter). letter.value)) (filter-append (λ letter. goes_to letter id) sent run)
      ∙ map-append (λ (letter : Letter). letter.value) (filter (λ letter. goes_to letter id) sent) (filter (λ letter. goes_to letter id) run)

  stays : (to : ℤ) (id : ℕ) → AllByRecursion (λ letter. letter.to ≡ to) run → int_eq to (pos id) ≡ false → inbox_of (sent ++ run) id ≡ inbox_of sent id
  stays to id all other =
      found_after id ∙ ap (λ (more : List Letter). inbox_of sent id ++ map (λ (letter : Letter). letter.value) more) (run_passes run to id all other)
      ∙ append-nil (inbox_of sent id)

-- ---- rows

abbrev Rise : List ℕ → Type 0
Rise [] = Unit {0}
Rise (id ∷ ids) = AllByRecursion (λ other. id < other) ids × Rise ids

above : (n : ℕ) (ids : List ℕ) → ((k : ℕ) → k < length ids → n < get_or ids k 0) → AllByRecursion (λ other. n < other) ids
above n [] h = tt
above n (id ∷ ids) h = (h 0 (omega arith), above n ids (λ k below. h (suc k) (omega arith)))

rise : (ids : List ℕ) → ((i j : ℕ) → i < j → j < length ids → get_or ids i 0 < get_or ids j 0) → Rise ids
rise [] h = tt
rise (id ∷ ids) h = (
  above id ids (λ k below. h 0 (suc k) (omega arith) (omega arith)),
  rise ids (λ i j before below. h (suc i) (suc j) (omega arith) (omega arith)),
)

rise_from : (ids : List ℕ) → IsStrictlyIncreasing ids → Rise ids
rise_from ids up = rise ids (λ i j before below. below_from_sorted ids i j 0 (sorted_from_strictly_increasing ids up) before below)

above_at : (n : ℕ) (ids : List ℕ) (k : ℕ) → AllByRecursion (λ other. n < other) ids → k < length ids → n < get_or ids k 0
above_at n [] k all below = absurd (omega arith)
above_at n (id ∷ ids) zero all below = all.0
above_at n (id ∷ ids) (suc k) all below = above_at n ids k all.1 (omega arith)

none_arrive : (f : ℕ → List ℤ) (n row : ℕ) (ids : List ℕ) → AllByRecursion (λ other. n < other) ids → ((id : ℕ) → n < id → f id ≡ [])
    → arrivals_from row (map f ids) ≡ []
none_arrive f n row [] all none = refl
none_arrive f n row (id ∷ ids) all none =
    ap (λ inbox. arrived row inbox (arrivals_from (row + 1) (map f ids))) (none id all.0) ∙ none_arrive f n (row + 1) ids all.1 none

arrives : (row : ℕ) (inbox : List ℤ) (later : List Arrival) → 0 < length inbox → arrived row inbox later ≡ record { row = row; inbox = inbox } ∷ later
arrives row [] later some = absurd (omega arith)
arrives row (message ∷ messages) later some = refl

arrived-append : (row : ℕ) (inbox : List ℤ) (later more : List Arrival) → arrived row inbox (later ++ more) ≡ arrived row inbox later ++ more
arrived-append row [] later more = refl
arrived-append row (message ∷ messages) later more = refl

-- the inbox of one id grows, and those of greater ids are empty
one_arrives : (f g : ℕ → List ℤ) (ids : List ℕ) (row place at : ℕ) → Rise ids → place < length ids → at ≡ row + place
    → ((id : ℕ) → id < get_or ids place 0 → g id ≡ f id) → ((id : ℕ) → get_or ids place 0 ≤ id → f id ≡ []) → ((id : ℕ) → get_or ids place 0 < id → g id ≡ [])
    → 0 < length (g (get_or ids place 0))
    → arrivals_from row (map g ids) ≡ arrivals_from row (map f ids) ++ record { row = at; inbox = g (get_or ids place 0) } ∷ []
one_arrives f g [] row place at up inside is low high over some = absurd (omega arith)
one_arrives f g (id ∷ ids) row zero at up inside is low high over some =
    let here : at ≡ row = omega arith in
    let nothing : f id ≡ [] = high id (omega arith) in
    let after : arrivals_from (row + 1) (map f ids) ≡ [] = none_arrive f id (row + 1) ids up.0 (λ other more. high other (omega arith)) in
    ap (λ later. arrived row (g id) later) (none_arrive g id (row + 1) ids up.0 over)
    ∙ arrives row (g id) [] some
    ∙ ap (λ (r : ℕ). record { row = r; inbox = g id } ∷ []) (sym here)
    ∙ sym (ap (λ (own : List Arrival). own ++ record { row = at; inbox = g id } ∷ []) (ap (λ inbox. arrived row inbox (arrivals_from (row + 1) (map f ids))) nothing ∙ after))
one_arrives f g (id ∷ ids) row (suc place) at up inside is low high over some =
    let first : g id ≡ f id = low id (above_at id ids place up.0 (omega arith)) in
    (λ i. arrived row (first i) (one_arrives f g ids (row + 1) place at up.1 (omega arith) (omega arith) low high over some i))
    ∙ arrived-append row (f id) (arrivals_from (row + 1) (map f ids)) (record { row = at; inbox = g (get_or ids place 0) } ∷ [])

-- ---- one target's letters

long : (run : List Letter) → 0 < length run → 0 < length (map (λ (letter : Letter). letter.value) run)
long [] some = some
long (letter ∷ run) some = omega arith

pub run_found : (sent run : List Letter) (to : ℤ) (ids : List ℕ) (place : ℕ) → IsStrictlyIncreasing ids → 0 < length run → AllByRecursion (λ letter. letter.to ≡ to) run → AreBelow to sent
    → place < length ids → to ≡ pos (get_or ids place 0)
    → arrivals_from 0 (inboxes_of (sent ++ run) ids) ≡ arrivals_from 0 (inboxes_of sent ids) ++ record { row = place; inbox = map (λ (letter : Letter). letter.value) run } ∷ []
run_found sent run to ids place up some one before inside found =
    let id = get_or ids place 0 in
    let below : AreBelow (pos id) sent = rw (← found) before in
    let empty : (other : ℕ) → id ≤ other → inbox_of sent other ≡ [] = λ other more. ap (map (λ (letter : Letter). letter.value)) (sent_passes sent id other below more) in
    let apart : (other : ℕ) → other ≢ id → int_eq to (pos other) ≡ false = λ other differs. ap (λ z. int_eq z (pos other)) found ∙ other_id id other differs in
    let own : inbox_of (sent ++ run) id ≡ map (λ (letter : Letter). letter.value) run =
    found_after sent run id ∙ ap (λ (first : List ℤ). first ++ inbox_of run id) (empty id (omega arith))
    ∙ ap (map (λ (letter : Letter). letter.value)) (run_arrives run to id one found) in
    one_arrives (inbox_of sent) (inbox_of (sent ++ run)) ids 0 place place (rise_from ids up) inside (omega arith)
    (λ other less. stays sent run to other one (apart other (λ e. omega (arith, e))))
    empty
    (λ other more. stays sent run to other one (apart other (λ e. omega (arith, e))) ∙ empty other (omega arith))
    (rw own (long run some))
    ∙ ap (λ (inbox : List ℤ). arrivals_from 0 (inboxes_of sent ids) ++ record { row = place; inbox = inbox } ∷ []) own

pub run_lost : (sent run : List Letter) (to : ℤ) (ids : List ℕ) → AllByRecursion (λ letter. letter.to ≡ to) run → list_any (λ other. int_eq to (pos other)) ids ≡ false
    → inboxes_of (sent ++ run) ids ≡ inboxes_of sent ids
run_lost sent run to [] one none = refl
run_lost sent run to (id ∷ ids) one none = by (int_eq to (pos id)) refl none (λ later. run_lost sent run to ids one later)
  where
    by : (b : Bool) → int_eq to (pos id) ≡ b → (b || list_any (λ other. int_eq to (pos other)) ids) ≡ false
        → (list_any (λ other. int_eq to (pos other)) ids ≡ false → inboxes_of (sent ++ run) ids ≡ inboxes_of sent ids) → inboxes_of (sent ++ run) (id ∷ ids) ≡ inboxes_of sent (id ∷ ids)
    by true is none later = cc
    by false is none later = λ i. stays sent run to id one is i ∷ later none i

pub first_goes : (run : List Letter) (to : ℤ) (d : Letter) → AllByRecursion (λ letter. letter.to ≡ to) run → 0 < length run → to ≡ (get_or run 0 d).to
first_goes [] to d one some = absurd (omega arith)
first_goes (letter ∷ run) to d one some = sym one.0

-- ---- all letters, a target after another

pub sorted_rest : (n : ℕ) (letters : List Letter) → IsStrictlySortedBy target_cmp letters → IsStrictlySortedBy target_cmp (drop n letters)
sorted_rest zero letters up = up
sorted_rest (suc n) [] up = up
sorted_rest (suc n) (letter ∷ letters) up = sorted_rest n letters (sorted_tail target_cmp letter letters up)

greater : (a b : Letter) → target_cmp a b ≡ Less → b.to ≢ a.to → int_lt a.to b.to ≡ true
greater a b less other = grind (arith, nat_tests, ints)

less_trans : (a b c : ℤ) → int_lt a b ≡ true → int_lt b c ≡ true → int_lt a c ≡ true
less_trans a b c one other = grind (arith, nat_tests, ints)

all_less : (sent : List Letter) (b c : ℤ) → AreBelow b sent → int_lt b c ≡ true → AreBelow c sent
all_less [] b c all less = tt
all_less (letter ∷ sent) b c all less = (less_trans letter.to b c all.0 less, all_less sent b c all.1 less)

run_less : (run : List Letter) (b c : ℤ) → AllByRecursion (λ letter. letter.to ≡ b) run → int_lt b c ≡ true → AreBelow c run
run_less [] b c all less = tt
run_less (letter ∷ run) b c all less = (ap (λ z. int_lt z c) all.0 ∙ less, run_less run b c all.1 less)

both_below : (to : ℤ) (sent run : List Letter) → AreBelow to sent → AreBelow to run → AreBelow to (sent ++ run)
both_below to [] run one other = other
both_below to (letter ∷ sent) run one other = (one.0, both_below to sent run one.1 other)

-- what the count of the first target's letters says
pub record IsRun (rest : List Letter) (count : ℕ) : Type 0 where
  pub some : 0 < count
  pub bound : count ≤ length rest
  pub one : (k : ℕ) (d : Letter) → k < count → (get_or rest k d).to ≡ (get_or rest 0 d).to
  pub next : (d : Letter) → count < length rest → (get_or rest count d).to ≢ (get_or rest 0 d).to

abbrev head_or : Letter → List Letter → Letter
head_or d [] = d
head_or d (letter ∷ letters) = letter

after_first : (sent rest : List Letter) (d : Letter) → 0 < length rest → ComeAfter sent rest → AreBelow (get_or rest 0 d).to sent
after_first sent [] d some after = absurd (omega arith)
after_first sent (letter ∷ rest) d some after = after

comes_after : (sent rest : List Letter) (d : Letter) → (0 < length rest → AreBelow (get_or rest 0 d).to sent) → ComeAfter sent rest
comes_after sent [] d all = tt
comes_after sent (letter ∷ rest) d all = all (omega arith)

module _ (d : Letter) (sent rest : List Letter) (count : ℕ) (is : IsRun rest count) (after : ComeAfter sent rest) where
  some_left : 0 < length rest
  some_left = let some = is.some in let bound = is.bound in omega arith

  one_target : AllByRecursion (λ letter. letter.to ≡ (get_or rest 0 d).to) (take count rest)
  one_target =
      recursion_from_All (λ letter. letter.to ≡ (get_or rest 0 d).to) (take count rest)
      (λ k e below.
      let early : k < count = omega (arith, length-take-le count rest is.bound) in
      ap (λ (letter : Letter). letter.to) (get_or-take count rest k e early) ∙ is.one k e early ∙ ap (λ (letter : Letter). letter.to) (first e))
    where
      first : (e : Letter) → get_or rest 0 e ≡ get_or rest 0 d
      first e = from rest some_left
        where
          from : (letters : List Letter) → 0 < length letters → get_or letters 0 e ≡ get_or letters 0 d
          from [] none = absurd (omega arith)
          from (letter ∷ letters) some = refl

  pub run_after : IsRunAfter sent (take count rest)
  run_after = record { to = (get_or rest 0 d).to; one = one_target; before = after_first sent rest d some_left after }

  pub later_after : IsStrictlySortedBy target_cmp rest → ComeAfter (sent ++ take count rest) (drop count rest)
  later_after up =
      comes_after (sent ++ take count rest) (drop count rest) d
      (λ more.
      let inside : count < length rest = omega (arith, length-drop count rest) in
      let there : get_or (drop count rest) 0 d ≡ get_or rest count d = get_or-drop count rest 0 d ∙ ap (λ n. get_or rest n d) (omega arith) in
      let less : int_lt (get_or rest 0 d).to (get_or rest count d).to ≡ true =
      greater (get_or rest 0 d) (get_or rest count d) (Less-from_sorted target_cmp rest 0 count d up is.some inside) (is.next d inside) in
      rw there (both_below (get_or rest count d).to sent (take count rest) (all_less sent (get_or rest 0 d).to (get_or rest count d).to (after_first sent rest d some_left after) less)
      (run_less (take count rest) (get_or rest 0 d).to (get_or rest count d).to one_target less)))

pub run_left : (d : Letter) (letters : List Letter) (ids : List ℕ) (rest : List Letter) (count : ℕ) (before after : List Arrival) (is : IsRun rest count)
    → (left : AreLeft letters ids rest before) → after ≡ arrivals_from 0 (inboxes_of (left.sent ++ take count rest) ids)
    → AreLeft letters ids (drop count rest) after
run_left d letters ids rest count before after is left made = record {
  sent = left.sent ++ take count rest;
  whole = append_assoc left.sent (take count rest) (drop count rest) ∙ ap (λ xs. left.sent ++ xs) (take-append-drop count rest) ∙ left.whole;
  made = made;
  after = later_after d left.sent rest count is left.after left.sorted;
  sorted = sorted_rest count rest left.sorted;
}

-- before the first
none_sent : (row : ℕ) (ids : List ℕ) → arrivals_from row (inboxes_of [] ids) ≡ []
none_sent row [] = refl
none_sent row (id ∷ ids) = none_sent (row + 1) ids

first_left : (letters : List Letter) → ComeAfter [] letters
first_left [] = tt
first_left (letter ∷ letters) = tt

pub all_left : (letters : List Letter) (ids : List ℕ) (arrivals : List Arrival) → arrivals ≡ [] → IsStrictlySortedBy target_cmp letters → AreLeft letters ids letters arrivals
all_left letters ids arrivals none up = record {
  sent = [];
  whole = refl;
  made = none ∙ sym (none_sent 0 ids);
  after = first_left letters;
  sorted = up;
}

-- behind the last
pub none_left : (letters : List Letter) (ids : List ℕ) (rest : List Letter) (arrivals : List Arrival) → AreLeft letters ids rest arrivals → length rest ≡ 0
    → arrivals ≡ arrivals_from 0 (inboxes_of letters ids)
none_left letters ids rest arrivals left none =
    left.made
    ∙ ap (λ sent. arrivals_from 0 (inboxes_of sent ids)) (sym (append-nil left.sent) ∙ ap (λ xs. left.sent ++ xs) (sym (nil_from_length rest none)) ∙ left.whole)

-- ---- all parts

-- letters by target, to any target, bring what all letters by source bring
pub few_same : (letters sorted ordered : List Letter) (target_set : TargetSet) (ids : List (Vec ℕ Global)) → ((id : ℕ) → has target_set id ≡ true)
    → IsByTarget (filter (goes_into target_set) letters) sorted → IsBySource letters ordered
    → map (λ part. arrivals_from 0 (inboxes_of sorted part.items)) ids ≡ map (λ part. arrivals_from 0 (inboxes_of ordered part.items)) ids
few_same letters sorted ordered target_set [] all by by' = refl
few_same letters sorted ordered target_set (part ∷ ids) all by by' =
    let here = same_inboxes letters sorted ordered target_set part.items by by' (each part.items) in
    λ i. arrivals_from 0 (here i) ∷ few_same letters sorted ordered target_set ids all by by' i
  where
    each : (numbers : List ℕ) → AllByRecursion (λ id. has target_set id ≡ true) numbers
    each [] = tt
    each (n ∷ numbers) = (all n, each numbers)

abbrev messages : Arrival → ℕ
messages arrival = length arrival.inbox

one_part : (row : ℕ) (inboxes : List (List ℤ)) → sum_by messages (arrivals_from row inboxes) ≡ sum_by length inboxes
one_part row [] = refl
one_part row ([] ∷ inboxes) = omega (arith, one_part (row + 1) inboxes, sum_by-cons {X = List ℤ} length [] inboxes)
one_part row ((message ∷ rest) ∷ inboxes) =
    omega (
      arith,
      one_part (row + 1) inboxes,
      sum_by-cons {X = List ℤ} length (message ∷ rest) inboxes,
      sum_by-cons messages (record { row = row; inbox = message ∷ rest }) (arrivals_from (row + 1) inboxes),
    )

all_parts : (letters : List Letter) (ids : List (Vec ℕ Global)) (parts : List (Vec Arrival Global)) → map vec_items parts ≡ map (λ part. arrivals_from 0 (inboxes_of letters part.items)) ids
    → sum_by (λ part. sum_by messages part.items) parts ≡ sum_by length (inboxes_of letters (all_of ids))
all_parts letters [] [] same = refl
all_parts letters [] (part ∷ parts) same = cc
all_parts letters (part ∷ ids) [] same = cc
all_parts letters (own ∷ ids) (part ∷ parts) same =
    let here : part.items ≡ arrivals_from 0 (inboxes_of letters own.items) = cc in
    let rest = all_parts letters ids parts cc in
    let joined = ap (sum_by length) (map-append (inbox_of letters) own.items (all_of ids)) ∙ sum_by-append length (inboxes_of letters own.items) (inboxes_of letters (all_of ids)) in
    omega (arith, ap (sum_by messages) here, one_part 0 (inboxes_of letters own.items), rest, joined, sum_by-cons (λ (part : Vec Arrival Global). sum_by messages part.items) part parts)

-- each letter is in one inbox or goes to none of the ids
pub few_or_lost : (letters : List Letter) (ids : List (Vec ℕ Global)) (sorted : List Letter) (target_set : TargetSet) (parts : List (Vec Arrival Global))
    → IsDistinct are_one letters → IsDistinct nat_eq (all_of ids) → ((id : ℕ) → has target_set id ≡ true) → IsByTarget (filter (goes_into target_set) letters) sorted
    → map vec_items parts ≡ map (λ part. arrivals_from 0 (inboxes_of sorted part.items)) ids
    → sum_by (λ part. sum_by messages part.items) parts + dropped_of letters (all_of ids) ≡ length letters
few_or_lost letters ids sorted target_set parts differ apart all by same =
    let order = in_order letters differ in
    let here = all_parts order.0 ids parts (same ∙ few_same letters sorted order.0 target_set ids all by order.1) in
    let none = same_dropped letters order.0 [] order.1.same ∙ dropped_of_none letters in
    omega (arith, here, none, same_dropped letters order.0 (all_of ids) order.1.same, delivered_or_dropped order.0 [] (all_of ids) apart)
