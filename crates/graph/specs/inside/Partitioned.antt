-- A list cut into parts by the remainder of a key: together the parts are the list.
use Rattle.std.proofs.Common.{inl, inr, ◌≡◌, ℕ, zero, suc, Bool, true, false, ◌%◌, ◌<◌, List, [], ◌∷◌, ◌++◌, length, get_or, map, set, cond, refl, ap, sym, subst, ◌∙◌, arith, eqb, append_assoc}
use Rattle.std.specs.List.{range_with_len}
use Rattle.std.specs.List.Sorted.{IsPermutation}
use Rattle.std.proofs.lemmas.Bool.{ne_eqb}
use Rattle.std.proofs.lemmas.Bool.Decides.{eqb_tells}
use Rattle.std.proofs.lemmas.List.{append-nil, same_lists, get_or-set_same, get_or-set_other, length-set}
use Rattle.std.proofs.lemmas.List.Elements.{filter-append}
use Rattle.std.proofs.lemmas.List.FromFn.{get_or-map-range_with_len, length-map-range_with_len}
use Rattle.std.proofs.lemmas.List.Sorted.{IsPermutation-append_comm, IsPermutation-append_right, IsPermutation-refl, IsPermutation-trans, IsPermutation-append_left}
use Rattle.graph.specs.inside.Rising.{equal}
use Rattle.graph.specs.Partition.{joined, part_by, parts_by}

joined-push : {X : Type 0} (lists : List (List X)) (place : ℕ) (x : X) → place < length lists
    → IsPermutation (joined (set lists place (get_or lists place [] ++ x ∷ []))) (joined lists ++ x ∷ [])
joined-push [] place x below = absurd (omega arith)
joined-push (list ∷ lists) zero x below =
    subst (λ xs. IsPermutation ((list ++ x ∷ []) ++ joined lists) xs) (sym (append_assoc list (joined lists) (x ∷ [])))
    (subst (λ xs. IsPermutation xs (list ++ (joined lists ++ x ∷ []))) (sym (append_assoc list (x ∷ []) (joined lists)))
    (IsPermutation-append_right list (x ∷ joined lists) (joined lists ++ x ∷ []) (IsPermutation-append_comm (x ∷ []) (joined lists))))
joined-push (list ∷ lists) (suc place) x below =
    subst (λ xs. IsPermutation (list ++ joined (set lists place (get_or lists place [] ++ x ∷ []))) xs) (sym (append_assoc list (joined lists) (x ∷ [])))
    (IsPermutation-append_right list _ _ (joined-push lists place x (omega arith)))

part-push : {X : Type 0} (key : X → ℕ) (count part : ℕ) (xs : List X) (x : X)
    → part_by key count (xs ++ x ∷ []) part ≡ part_by key count xs part ++ cond (eqb (key x % count) part) (x ∷ []) []
part-push key count part xs x = filter-append (λ y. eqb (key y % count) part) xs (x ∷ [])

pub part_at : {X : Type 0} (key : X → ℕ) (count : ℕ) (xs : List X) (part : ℕ) (d : List X) → part < count
    → get_or (parts_by key count xs) part d ≡ part_by key count xs part
part_at key count xs part d below = get_or-map-range_with_len (part_by key count xs) 0 count part part d below (omega arith)

pushed_at : {X : Type 0} (key : X → ℕ) (count : ℕ) (xs : List X) (x : X) (part : ℕ) (d : List X) → key x % count < count → part < count
    → get_or (set (parts_by key count xs) (key x % count) (get_or (parts_by key count xs) (key x % count) [] ++ x ∷ [])) part d
    ≡ part_by key count (xs ++ x ∷ []) part
pushed_at key count xs x part d small below = elim (eqb_tells part (key x % count)) [
  | inl h ↦
      rw h.1 (get_or-set_same (parts_by key count xs) (key x % count) _ d (rw (length-map-range_with_len (part_by key count xs) 0 count) small)
      ∙ ap (λ ys. ys ++ x ∷ []) (part_at key count xs (key x % count) [] small)
      ∙ sym (part-push key count (key x % count) xs x
      ∙ ap (λ b. part_by key count xs (key x % count) ++ cond b (x ∷ []) []) (equal (key x % count) (key x % count) refl)))
  | inr h ↦
      get_or-set_other (parts_by key count xs) (key x % count) part _ d h.1
      ∙ part_at key count xs part d below
      ∙ sym (part-push key count part xs x
      ∙ ap (λ b. part_by key count xs part ++ cond b (x ∷ []) []) (ne_eqb (key x % count) part (λ e. h.1 (sym e)))
      ∙ append-nil (part_by key count xs part))
]

-- one element more, at the end of the part that it belongs to
pub parts-push : {X : Type 0} (key : X → ℕ) (count : ℕ) (xs : List X) (x : X) → key x % count < count
    → set (parts_by key count xs) (key x % count) (get_or (parts_by key count xs) (key x % count) [] ++ x ∷ [])
    ≡ parts_by key count (xs ++ x ∷ [])
parts-push key count xs x small =
    let long : length (set (parts_by key count xs) (key x % count) (get_or (parts_by key count xs) (key x % count) [] ++ x ∷ [])) ≡ count =
    length-set (parts_by key count xs) (key x % count) _ ∙ length-map-range_with_len (part_by key count xs) 0 count in
    same_lists _ _ (long ∙ sym (length-map-range_with_len (part_by key count (xs ++ x ∷ [])) 0 count))
    (λ part d short. let below : part < count = rw long at short in
    pushed_at key count xs x part d small below ∙ sym (part_at key count (xs ++ x ∷ []) part d below))

joined_none : {X : Type 0} (key : X → ℕ) (numbers : List ℕ) (count : ℕ) → joined (map (part_by key count []) numbers) ≡ []
joined_none key [] count = refl
joined_none key (n ∷ numbers) count = joined_none key numbers count

one_more : {X : Type 0} (key : X → ℕ) (count : ℕ) (xs : List X) (x : X) → key x % count < count
    → IsPermutation (joined (parts_by key count xs)) xs → IsPermutation (joined (parts_by key count (xs ++ x ∷ []))) (xs ++ x ∷ [])
one_more key count xs x small whole =
    let enough : key x % count < length (parts_by key count xs) = rw (length-map-range_with_len (part_by key count xs) 0 count) small in
    rw (← parts-push key count xs x small)
    (IsPermutation-trans _ _ _ (joined-push (parts_by key count xs) (key x % count) x enough)
    (IsPermutation-append_left (x ∷ []) (joined (parts_by key count xs)) xs whole))

whole_from : {X : Type 0} (key : X → ℕ) (count : ℕ) (before after : List X) → 0 < count
    → IsPermutation (joined (parts_by key count before)) before
    → IsPermutation (joined (parts_by key count (before ++ after))) (before ++ after)
whole_from key count before [] some whole = subst (λ xs. IsPermutation (joined (parts_by key count xs)) xs) (sym (append-nil before)) whole
whole_from key count before (x ∷ after) some whole =
    subst (λ xs. IsPermutation (joined (parts_by key count xs)) xs) (append_assoc before (x ∷ []) after)
    (whole_from key count (before ++ x ∷ []) after some (one_more key count before x (omega arith) whole))

-- the parts are together the list
pub parts_whole : {X : Type 0} (key : X → ℕ) (count : ℕ) (xs : List X) → 0 < count → IsPermutation (joined (parts_by key count xs)) xs
parts_whole key count xs some =
    whole_from key count [] xs some (subst (λ ys. IsPermutation ys []) (sym (joined_none key (range_with_len 0 count) count)) (IsPermutation-refl []))

either-map : {X Y : Type 0} (f : X → Y) (b : Bool) (x : X) (xs : List X) (ys : List Y) → map f xs ≡ ys → map f (cond b (x ∷ xs) xs) ≡ cond b (f x ∷ ys) ys
either-map f true x xs ys same = ap (λ zs. f x ∷ zs) same
either-map f false x xs ys same = same

-- the parts of a list's images
pub part_by-map : {X Y : Type 0} (f : X → Y) (key : Y → ℕ) (count part : ℕ) (xs : List X)
    → map f (part_by (λ x. key (f x)) count xs part) ≡ part_by key count (map f xs) part
part_by-map f key count part [] = refl
part_by-map f key count part (x ∷ xs) = either-map f (eqb (key (f x) % count) part) x _ _ (part_by-map f key count part xs)

parts_of-map : {X Y : Type 0} (f : X → Y) (key : Y → ℕ) (count : ℕ) (xs : List X) (numbers : List ℕ)
    → map (map f) (map (part_by (λ x. key (f x)) count xs) numbers) ≡ map (part_by key count (map f xs)) numbers
parts_of-map f key count xs [] = refl
parts_of-map f key count xs (n ∷ numbers) =
    ap (λ ys. ys ∷ map (map f) (map (part_by (λ x. key (f x)) count xs) numbers)) (part_by-map f key count n xs)
    ∙ ap (λ yss. part_by key count (map f xs) n ∷ yss) (parts_of-map f key count xs numbers)

pub parts_by-map : {X Y : Type 0} (f : X → Y) (key : Y → ℕ) (count : ℕ) (xs : List X)
    → map (map f) (parts_by (λ x. key (f x)) count xs) ≡ parts_by key count (map f xs)
parts_by-map f key count xs = parts_of-map f key count xs (range_with_len 0 count)
