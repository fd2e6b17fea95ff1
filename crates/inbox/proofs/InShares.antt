-- Letters by share: what goes to an id is among the letters of its share's targets.
use Rattle.std.proofs.Common.{◌≡◌, ◌+◌, ◌<◌, ℕ, ℤ, Bool, true, false, List, [], ◌∷◌, ◌++◌, map, filter, take, get_or, length, sum_by, vec_items, vec_len, arith, refl, sym, ap, subst, ◌∙◌, cond, length-append, Global}
use Rattle.rayon.proofs.ListFacts.{AllZip-append}
use Rattle.std.proofs.lemmas.List.{take_more}
use Rattle.std.proofs.lemmas.List.Elements.{All-filter, All-from_recursion, filter-append, recursion_from_All}
use Rattle.std.proofs.lemmas.List.Sums.{sum_by-cons}
use Rattle.std.specs.List.{AllByRecursion, AllZip, IsDistinct, flat_map}
use Rattle.std.specs.List.Sorted.{IsStrictlySortedBy}
use Rattle.std.specs.Prelude.{nat_eq}
use Rattle.std.specs.declared.vec.Vec.{Vec}
use Rattle.inbox.specs.declared.letters.Letter.{Letter}
use Rattle.inbox.specs.declared.all_parts.Delivered.{Delivered}
use Rattle.inbox.specs.declared.all_parts.Filed.{Filed}
use Rattle.inbox.specs.declared.filing.PartBlocks.{PartBlocks}
use Rattle.inbox.specs.declared.shares.TargetSet.{TargetSet}
use Rattle.inbox.specs.declared.shares.Share.{Share}
use Rattle.inbox.specs.Merging.{are_one, all_of, IsBySource, inboxes_of, dropped_of}
use Rattle.inbox.specs.inside.Filing.{AreAllFiled, AreInBlocks, AreSomeOf, AreWithin, IsFiled, IsMadeFrom, IsMadeOf}
use Rattle.inbox.specs.inside.Shares.{has, goes_into, parts_of, AreDelivered, ArePutIn, IsDelivered, IsInboxIn, IsPutIn, inboxes_in}
use Rattle.inbox.specs.inside.Targets.{IsByTarget, target_cmp}
use Rattle.inbox.proofs.Concatenation.{each_append}
use Rattle.inbox.proofs.Counting.{all_of_more, delivered_or_dropped, delivered_to_all, dropped_of_none}
use Rattle.inbox.proofs.InOrder.{in_order}
use Rattle.inbox.proofs.Kept.{same_in_order, same_letters}
use Rattle.inbox.proofs.OneOrder.{same_dropped}

distinct_cond : {X : Type 0} (e : X → X → Bool) (b : Bool) (x : X) (xs : List X) → AllByRecursion (λ y. e x y ≡ false) xs → IsDistinct e xs → IsDistinct e (cond b (x ∷ xs) xs)
unfolding IsDistinct
distinct_cond e true x xs apart rest = (apart, rest)
distinct_cond e false x xs apart rest = rest

pub distinct_filter : {X : Type 0} (e : X → X → Bool) (p : X → Bool) (xs : List X) → IsDistinct e xs → IsDistinct e (filter p xs)
unfolding IsDistinct
distinct_filter e p [] apart = tt
distinct_filter e p (x ∷ xs) apart =
    distinct_cond e (p x) x (filter p xs) (recursion_from_All _ _ (All-filter p (λ y. e x y ≡ false) xs (All-from_recursion _ _ apart.0))) (distinct_filter e p xs apart.1)

-- what holds of each element of the front of a list, and of the next one
pub each_more : {X : Type 0} (P : X → Type 0) (xs : List X) (i : ℕ) (x : X) → i < length xs → x ≡ get_or xs i x → AllByRecursion P (take i xs) → P x → AllByRecursion P (take (i + 1) xs)
each_more P xs i x inside is all own = subst (AllByRecursion P) (sym (take_more xs i x inside)) (each_append P (take i xs) (get_or xs i x ∷ []) all (subst P is own, tt))

pub each_at : {X : Type 0} (P : X → Type 0) (xs : List X) (i : ℕ) (x : X) → i < length xs → x ≡ get_or xs i x → AllByRecursion P xs → P x
each_at P xs i x inside is all = subst P (sym is) (All-from_recursion P xs all i x inside)

-- the letters of one more list
pub filtered_more : {Z : Type 0} (p : Letter → Bool) (lists : List (Vec Letter Z)) (i : ℕ) (list : Vec Letter Z) (before after : List Letter) → i < length lists → list ≡ get_or lists i list → before ≡ filter p (all_of (take i lists)) → after ≡ before ++ filter p list.items → after ≡ filter p (all_of (take (i + 1) lists))
filtered_more p lists i list before after inside is earlier more =
    let grown : all_of (take (i + 1) lists) ≡ all_of (take i lists) ++ list.items = all_of_more lists i list inside ∙ ap (λ list. all_of (take i lists) ++ list.items) (sym is) in
    more ∙ ap (λ before. before ++ filter p list.items) earlier ∙ sym (filter-append p (all_of (take i lists)) list.items) ∙ ap (filter p) (sym grown)

-- of letters by target, what goes to each of these ids
made : (sorted : List Letter) (ids : List ℕ) (inboxes : List (List ℤ)) → IsStrictlySortedBy target_cmp sorted → AllZip (IsInboxIn sorted) ids inboxes → inboxes ≡ inboxes_of sorted ids
made sorted [] [] up zip = refl
made sorted [] (inbox ∷ inboxes) up zip = absurd zip
made sorted (id ∷ ids) [] up zip = absurd zip
made sorted (id ∷ ids) (inbox ∷ inboxes) up zip =
    let first = zip.0 up in
    let others = made sorted ids inboxes up zip.1 in
    λ i. first i ∷ others i

-- an id finds the same among the letters of a set of targets that has it and among all
pub same_inboxes : (letters sorted ordered : List Letter) (target_set : TargetSet) (ids : List ℕ) → IsByTarget (filter (goes_into target_set) letters) sorted → IsBySource letters ordered → AllByRecursion (λ id. has target_set id ≡ true) ids → inboxes_of sorted ids ≡ inboxes_of ordered ids
same_inboxes letters sorted ordered target_set [] by by' all = refl
same_inboxes letters sorted ordered target_set (id ∷ ids) by by' all =
    let first = ap (map (λ (letter : Letter). letter.value)) (same_letters letters sorted ordered target_set id all.0 by by') in
    let others = same_inboxes letters sorted ordered target_set ids by by' all.1 in
    λ i. first i ∷ others i

-- what was put into the inboxes of ids in the set of targets is what goes to them of all letters
pub put_is_delivered : (letters sorted : List Letter) (target_set : TargetSet) (ids : Vec ℕ Global) (delivered : Delivered) → IsByTarget (filter (goes_into target_set) letters) sorted → AllByRecursion (λ id. has target_set id ≡ true) ids.items → IsPutIn sorted ids.items delivered → IsDelivered letters ids delivered
put_is_delivered letters sorted target_set ids delivered by all put = record {
  inboxes = λ ordered by'. made sorted ids.items delivered.inboxes.items by.rising put.inboxes ∙ same_inboxes letters sorted ordered target_set ids.items by by' all;
  count = put.count;
}

-- the same of each part of a share
pub parts_put : (letters : List Letter) (target_set : TargetSet) (sorted : List Letter) → IsByTarget (filter (goes_into target_set) letters) sorted → (parts : List (Vec ℕ Global)) (all : List Delivered) → AreWithin target_set parts → AllZip (ArePutIn sorted) parts all → AllZip (IsDelivered letters) parts all
parts_put letters target_set sorted by [] [] within put = tt
parts_put letters target_set sorted by [] (delivered ∷ all) within put = absurd put
parts_put letters target_set sorted by (ids ∷ parts) [] within put = absurd put
parts_put letters target_set sorted by (ids ∷ parts) (delivered ∷ all) within put =
    (put_is_delivered letters sorted target_set ids delivered by within.0 put.0, parts_put letters target_set sorted by parts all within.1 put.1)

-- an id finds the same among the letters of a set of targets that has it, by source, and among all
same_in_blocks : (letters some sent ordered : List Letter) (target_set : TargetSet) (ids : List ℕ) → AreSomeOf letters target_set some → IsBySource some sent → IsBySource letters ordered → AllByRecursion (λ id. has target_set id ≡ true) ids → inboxes_of sent ids ≡ inboxes_of ordered ids
same_in_blocks letters some sent ordered target_set [] are by by' all = refl
same_in_blocks letters some sent ordered target_set (id ∷ ids) are by by' all =
    let first = ap (map (λ (letter : Letter). letter.value)) (same_in_order letters some sent ordered target_set id all.0 are by by') in
    let others = same_in_blocks letters some sent ordered target_set ids are by by' all.1 in
    λ i. first i ∷ others i

-- what is made of blocks is what goes to their ids of all letters
pub parts_made : (letters some : List Letter) (target_set : TargetSet) → AreSomeOf letters target_set some → (ids : List (Vec ℕ Global)) (parts : List PartBlocks) (all : List Delivered) → AreWithin target_set ids → AllZip (AreInBlocks some) ids parts → AllZip IsMadeFrom parts all → AllZip (IsDelivered letters) ids all
parts_made letters some target_set are [] [] [] within filed made = tt
parts_made letters some target_set are [] [] (delivered ∷ all) within filed made = absurd made
parts_made letters some target_set are [] (part ∷ parts) all within filed made = absurd filed
parts_made letters some target_set are (own ∷ ids) [] all within filed made = absurd filed
parts_made letters some target_set are (own ∷ ids) (part ∷ parts) [] within filed made = absurd made
parts_made letters some target_set are (own ∷ ids) (part ∷ parts) (delivered ∷ all) within filed made =
    let first : IsDelivered letters own delivered = record {
      inboxes = λ ordered by. made.0.inboxes some own filed.0 ∙ same_in_blocks letters some filed.0.sent ordered target_set own.items are filed.0.by by within.0;
      count = made.0.count;
    } in
    (first, parts_made letters some target_set are ids parts all within.1 filed.1 made.1)

pub all_made : (letters ordered : List Letter) → IsBySource letters ordered → (ids : List (Vec ℕ Global)) (all : List Delivered) → AllZip (IsDelivered letters) ids all → map vec_items (inboxes_in all) ≡ map (λ part. inboxes_of ordered part.items) ids
all_made letters ordered by [] [] zip = refl
all_made letters ordered by [] (part ∷ all) zip = absurd zip
all_made letters ordered by (ids ∷ others) [] zip = absurd zip
all_made letters ordered by (ids ∷ others) (part ∷ all) zip =
    let first = zip.0.inboxes ordered by in
    let rest = all_made letters ordered by others all zip.1 in
    λ i. first i ∷ rest i

all_shares : (letters : List Letter) (shares : List Share) (all : List (Vec Delivered Global)) → AllZip (AreDelivered letters) shares all → AllZip (IsDelivered letters) (flat_map parts_of shares) (all_of all)
all_shares letters [] [] zip = tt
all_shares letters [] (delivered ∷ all) zip = absurd zip
all_shares letters (share ∷ shares) [] zip = absurd zip
all_shares letters (share ∷ shares) (delivered ∷ all) zip =
    AllZip-append (IsDelivered letters) share.parts.now (flat_map parts_of shares) delivered.items (all_of all) zip.0 (all_shares letters shares all zip.1)

shares_made : (letters : List Letter) (shares : List Share) (filed : List Filed) (all : List (Vec Delivered Global)) → AllZip (IsFiled letters) shares filed → AllZip IsMadeOf filed all → AllZip (AreDelivered letters) shares all
shares_made letters [] [] [] own made = tt
shares_made letters [] [] (delivered ∷ all) own made = absurd made
shares_made letters [] (first ∷ filed) all own made = absurd own
shares_made letters (share ∷ shares) [] all own made = absurd own
shares_made letters (share ∷ shares) (first ∷ filed) [] own made = absurd made
shares_made letters (share ∷ shares) (first ∷ filed) (delivered ∷ all) own made =
    (made.0.made letters share own.0, shares_made letters shares filed all own.1 made.1)

-- what is made of all that is filed goes to all parts, one share after another
pub shared_out : (letters : List Letter) (ids : List (Vec ℕ Global)) (filed : List Filed) (by_share : List (Vec Delivered Global)) (all : List Delivered) → AllZip IsMadeOf filed by_share → all ≡ all_of by_share → AreAllFiled letters ids filed → AllZip (IsDelivered letters) ids all
shared_out letters ids filed by_share all made same are = rw (← are.whole, same) (all_shares letters are.shares by_share (shares_made letters are.shares filed by_share are.each made))

pub counted : {X Z : Type 0} (lists : List (Vec X Z)) → sum_by vec_len lists ≡ length (all_of lists)
counted [] = refl
counted (list ∷ lists) = omega (arith, list.ok.0, counted lists, sum_by-cons vec_len list lists, length-append list.items (all_of lists))

counts_in : (letters : List Letter) (ids : List (Vec ℕ Global)) (all : List Delivered) → AllZip (IsDelivered letters) ids all → sum_by (λ part. part.count) all ≡ sum_by (λ part. sum_by length part.items) (inboxes_in all)
counts_in letters [] [] zip = refl
counts_in letters [] (part ∷ all) zip = absurd zip
counts_in letters (part ∷ ids) [] zip = absurd zip
counts_in letters (part ∷ ids) (delivered ∷ all) zip =
    let rest = counts_in letters ids all zip.1 in
    omega (arith, zip.0.count, rest, sum_by-cons (λ (part : Delivered). part.count) delivered all, sum_by-cons (λ (part : Vec (List ℤ) Global). sum_by length part.items) delivered.inboxes (inboxes_in all))

-- each letter stands in one inbox or goes to none of the ids
pub delivered_or_lost : (letters : List Letter) (ids : List (Vec ℕ Global)) (all : List Delivered) → IsDistinct are_one letters → IsDistinct nat_eq (all_of ids) → AllZip (IsDelivered letters) ids all → sum_by (λ part. part.count) all + dropped_of letters (all_of ids) ≡ length letters
delivered_or_lost letters ids all differ apart zip =
    let order = in_order letters differ in
    let here = delivered_to_all order.0 ids (inboxes_in all) (all_made letters order.0 order.1 ids all zip) in
    let none = same_dropped letters order.0 [] order.1.same ∙ dropped_of_none letters in
    omega (arith, counts_in letters ids all zip, here, none, same_dropped letters order.0 (all_of ids) order.1.same, delivered_or_dropped order.0 [] (all_of ids) apart)
