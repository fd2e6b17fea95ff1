-- Parts of lists, and lines that are listed.
use Rattle.std.proofs.Common.{◌≡◌, ◌∙◌, ◌+◌, ◌++◌, ◌∷◌, ℕ, Bool, List, [], Option, ap, sym, refl, append_assoc, append-nil, map, cond}
use Rattle.std.specs.Borrow.{Bor}
use Rattle.std.specs.List.{count_by}
use Rattle.std.proofs.lemmas.List.{map-append}
use Rattle.std.proofs.lemmas.List.Sums.{sum_by-cons}
use Rattle.explanations.specs.Listing.{IsListing, IsStretch, is_numbered, listed}
use Rattle.explanations.specs.inside.Shown.{IsCut, texts}

-- ---- parts of a list

pub first_part : {T : Type 0} (all front back : List T) → all ≡ front ++ back → IsStretch all front
first_part all front back is = record { before = []; after = back; joined = is }

pub last_part : {T : Type 0} (all front back : List T) → all ≡ front ++ back → IsStretch all back
last_part all front back is = record { before = front; after = []; joined = is ∙ ap (λ xs. front ++ xs) (sym (append-nil back)) }

-- a part of a part is one
pub stretch_in : {T : Type 0} (all middle part : List T) → IsStretch all middle → IsStretch middle part → IsStretch all part
stretch_in all middle part first then = record {
  before = first.before ++ then.before;
  after = then.after ++ first.after;
  joined =
      first.joined
      ∙ ap (λ xs. first.before ++ (xs ++ first.after)) then.joined
      ∙ ap (λ xs. first.before ++ xs) (append_assoc then.before (part ++ then.after) first.after
      ∙ ap (λ xs. then.before ++ xs) (append_assoc part then.after first.after))
      ∙ sym (append_assoc first.before then.before (part ++ (then.after ++ first.after)));
}

pub stretch_map : {A B : Type 0} (f : A → B) (all part : List A) → IsStretch all part → IsStretch (map f all) (map f part)
stretch_map f all part is = record {
  before = map f is.before;
  after = map f is.after;
  joined =
      ap (map f) is.joined ∙ map-append f is.before (part ++ is.after)
      ∙ ap (λ xs. map f is.before ++ xs) (map-append f part is.after);
}

-- ---- numbers

count_of_map : {A B : Type 0} (p : B → Bool) (f : A → B) (xs : List A) → count_by p (map f xs) ≡ count_by (λ x. p (f x)) xs
count_of_map p f [] = refl
count_of_map p f (x ∷ xs) =
    sum_by-cons (λ y. cond (p y) 1 0) (f x) (map f xs)
    ∙ ap (λ n. cond (p (f x)) 1 0 + n) (count_of_map p f xs)
    ∙ sym (sum_by-cons (λ y. cond (p (f y)) 1 0) x xs)

pub listing_of : (body part : List (Bor (List ℕ))) (first : ℕ) (marked : Option ℕ) → IsCut body part first
    → IsListing (texts body) marked (listed marked first (texts part))
listing_of body part first marked cut = record {
  before = texts cut.before;
  part = texts part;
  after = texts cut.after;
  joined =
      ap texts cut.joined ∙ map-append (λ (l : Bor (List ℕ)). l.now) cut.before (part ++ cut.after)
      ∙ ap (λ xs. texts cut.before ++ xs) (map-append (λ (l : Bor (List ℕ)). l.now) part cut.after);
  printed = ap (λ n. listed marked n (texts part)) (cut.numbered ∙ sym (count_of_map is_numbered (λ (l : Bor (List ℕ)). l.now) cut.before));
}
