-- Each letter goes to one id at most, where no id stands twice: those that go to none are all but the delivered ones.
use Rattle.std.proofs.Common.{◌≡◌, ◌+◌, ℕ, ℤ, pos, Bool, true, false, not, cond, ◌||◌, ◌<◌, take, get_or, List, [], ◌∷◌, ◌++◌, length, map, arith, append-nil, append_assoc, refl, ap, ◌∙◌, sum_by}
use Rattle.std.proofs.lemmas.Bool.Decides.{Decides-int_eq}
use Rattle.std.proofs.lemmas.Bool.{eqb-false}
use Rattle.std.proofs.lemmas.List.{length-map, map-append, take_more}
use Rattle.std.proofs.lemmas.List.Concat.{flat_map-append}
use Rattle.std.proofs.lemmas.List.Folds.{list_any-append}
use Rattle.std.proofs.lemmas.List.Sums.{sum_by-append, sum_by-cons, length-filter}
use Rattle.std.specs.List.{AllByRecursion, IsDistinct, list_any, count_by, flat_map}
use Rattle.std.specs.Prelude.{nat_eq, vec_items}
use Rattle.std.specs.declared.vec.Vec.{Vec}
use Rattle.std.proofs.Math.Bool.{or-false}
use Rattle.inbox.specs.declared.letters.Letter.{Letter}
use Rattle.inbox.specs.Merging.{goes_to, inbox_of, inboxes_of, dropped_of, all_of}
use Rattle.inbox.proofs.Delivery.{other_id}

-- what holds of each holds of one in the middle
middle : {X : Type 0} (P : X → Type 0) (xs : List X) (y : X) (ys : List X) → AllByRecursion P (xs ++ y ∷ ys) → P y
middle P [] y ys all = all.0
middle P (x ∷ xs) y ys all = middle P xs y ys all.1

-- one that stands once is none of those before it
apart_before : {X : Type 0} (e : X → X → Bool) (xs : List X) (y : X) (ys : List X) → IsDistinct e (xs ++ y ∷ ys) → AllByRecursion (λ x. e x y ≡ false) xs
unfolding IsDistinct
apart_before e [] y ys apart = tt
apart_before e (x ∷ xs) y ys apart = (middle (λ z. e x z ≡ false) xs y ys apart.0, apart_before e xs y ys apart.1)

none_other : (letter : Letter) (id : ℕ) (ids : List ℕ) → goes_to letter id ≡ true → AllByRecursion (λ other. nat_eq other id ≡ false) ids → list_any (goes_to letter) ids ≡ false
none_other letter id [] goes apart = refl
none_other letter id (other ∷ ids) goes apart =
    let to : letter.to ≡ pos id = (Decides-int_eq letter.to (pos id)).0 goes in
    let here : goes_to letter other ≡ false = rw to (other_id id other (eqb-false other id apart.0)) in
    rw here (none_other letter id ids goes apart.1)

-- a letter is delivered to one more id, or dropped as before
one_letter : (one other : Bool) → (one ≡ true → other ≡ false) → cond one 1 0 + cond (not (other || one)) 1 0 ≡ cond (not other) 1 0
one_letter true true either = cc (either refl)
one_letter true false either = refl
one_letter false true either = refl
one_letter false false either = refl

summed : {X : Type 0} (f g h : X → ℕ) → ((x : X) → f x + g x ≡ h x) → (xs : List X) → sum_by f xs + sum_by g xs ≡ sum_by h xs
summed f g h each [] = refl
summed f g h each (x ∷ xs) = omega (arith, each x, summed f g h each xs, sum_by-cons f x xs, sum_by-cons g x xs, sum_by-cons h x xs)

any_more : (letter : Letter) (ids : List ℕ) (id : ℕ) → list_any (goes_to letter) (ids ++ id ∷ []) ≡ (list_any (goes_to letter) ids || goes_to letter id)
any_more letter ids id = list_any-append (goes_to letter) ids (id ∷ []) ∙ ap (λ b. list_any (goes_to letter) ids || b) (or-false (goes_to letter id))

one_more : (letters : List Letter) (ids : List ℕ) (id : ℕ) → AllByRecursion (λ other. nat_eq other id ≡ false) ids → length (inbox_of letters id) + dropped_of letters (ids ++ id ∷ []) ≡ dropped_of letters ids
one_more letters ids id apart =
    let long : length (inbox_of letters id) ≡ count_by (λ letter. goes_to letter id) letters = length-map _ _ ∙ length-filter (λ letter. goes_to letter id) letters in
    rw long (summed (λ letter. cond (goes_to letter id) 1 0) (λ letter. cond (not (list_any (goes_to letter) (ids ++ id ∷ []))) 1 0) (λ letter. cond (not (list_any (goes_to letter) ids)) 1 0) (λ letter.
    rw (any_more letter ids id) (one_letter (goes_to letter id) (list_any (goes_to letter) ids) (λ goes. none_other letter id ids goes apart))) letters)

pub delivered_or_dropped : (letters : List Letter) (before ids : List ℕ) → IsDistinct nat_eq (before ++ ids) → sum_by length (inboxes_of letters ids) + dropped_of letters (before ++ ids) ≡ dropped_of letters before
delivered_or_dropped letters before [] apart = omega (arith, ap (dropped_of letters) (append-nil before))
delivered_or_dropped letters before (id ∷ ids) apart =
    let joined : (before ++ id ∷ []) ++ ids ≡ before ++ id ∷ ids = append_assoc before (id ∷ []) ids in
    let rest = delivered_or_dropped letters (before ++ id ∷ []) ids (rw joined apart) in
    let first = one_more letters before id (apart_before nat_eq before id ids apart) in
    let here = sum_by-cons length (inbox_of letters id) (inboxes_of letters ids) in
    omega (arith, rw joined at rest, first, here)

pub dropped_of_none : (letters : List Letter) → dropped_of letters [] ≡ length letters
dropped_of_none [] = refl
dropped_of_none (letter ∷ letters) = omega (arith, dropped_of_none letters, sum_by-cons (λ (letter : Letter). 1) letter letters)

module _ {X Z : Type 0} (lists : List (Vec X Z)) (i : ℕ) where
  pub all_of_more : (d : Vec X Z) → i < length lists → all_of (take (i + 1) lists) ≡ all_of (take i lists) ++ (get_or lists i d).items
  all_of_more d inside =
      ap all_of (take_more lists i d inside) ∙ flat_map-append vec_items (take i lists) (get_or lists i d ∷ [])
      ∙ ap (λ items. all_of (take i lists) ++ items) (append-nil (get_or lists i d).items)

-- what is delivered to all parts
pub delivered_to_all : {Y Z : Type 0} (letters : List Letter) (ids : List (Vec ℕ Z)) (parts : List (Vec (List ℤ) Y)) → map vec_items parts ≡ map (λ part. inboxes_of letters part.items) ids → sum_by (λ part. sum_by length part.items) parts ≡ sum_by length (inboxes_of letters (all_of ids))
delivered_to_all letters [] [] same = refl
delivered_to_all letters [] (part ∷ parts) same = cc
delivered_to_all letters (ids ∷ others) [] same = cc
delivered_to_all letters (ids ∷ others) (part ∷ parts) same =
    let here : part.items ≡ inboxes_of letters ids.items = cc in
    let rest = delivered_to_all letters others parts cc in
    let joined = ap (sum_by length) (map-append (inbox_of letters) ids.items (all_of others)) ∙ sum_by-append length (inboxes_of letters ids.items) (inboxes_of letters (all_of others)) in
    omega (arith, ap (sum_by length) here, rest, joined, sum_by-cons (λ part. sum_by length part.items) part parts)

pub dropped_of-flat_map : (sources : List ℕ) (sent_by : ℕ → List Letter) (ids : List ℕ) → dropped_of (flat_map sent_by sources) ids ≡ sum_by (λ source. dropped_of (sent_by source) ids) sources
dropped_of-flat_map [] sent_by ids = refl
dropped_of-flat_map (source ∷ sources) sent_by ids =
    let drops : Letter → ℕ = λ letter. cond (not (list_any (goes_to letter) ids)) 1 0 in
    omega (arith, sum_by-append drops (sent_by source) (flat_map sent_by sources), dropped_of-flat_map sources sent_by ids, sum_by-cons (λ source. dropped_of (sent_by source) ids) source sources)
