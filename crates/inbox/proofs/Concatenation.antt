-- What each source sent, one source after the other, is in order.
use Rattle.std.proofs.Common.{◌≡◌, ℕ, List, [], ◌∷◌, ◌++◌, All, arith, refl, sym, ◌∙◌}
use Rattle.std.proofs.lemmas.Bool.Decides.{nat_tests}
use Rattle.std.proofs.lemmas.List.Elements.{recursion_from_All}
use Rattle.std.specs.List.{AllByRecursion, flat_map}
use Rattle.std.specs.List.Sorted.{IsStrictlySortedBy}
use Rattle.std.specs.Ordering.{nat_cmp}
use Rattle.std.specs.declared.cmp.Ordering.{Ordering}
use Rattle.std.specs.declared.cmp.Ordering.TheVariants.{Less}
use Rattle.inbox.specs.declared.letters.Letter.{Letter}
use Rattle.inbox.specs.Merging.{source_cmp}

pub each_append : {X : Type 0} (P : X → Type 0) (xs ys : List X) → AllByRecursion P xs → AllByRecursion P ys → AllByRecursion P (xs ++ ys)
each_append P [] ys all all' = all'
each_append P (x ∷ xs) ys all all' = (all.0, each_append P xs ys all.1 all')

pub each_weaker : {X : Type 0} (P Q : X → Type 0) → ((x : X) → P x → Q x) → (xs : List X) → AllByRecursion P xs → AllByRecursion Q xs
each_weaker P Q gives [] all = tt
each_weaker P Q gives (x ∷ xs) all = (gives x all.0, each_weaker P Q gives xs all.1)

-- a list that rises before another that rises, each of the first before each of the second
pub sorted-append : {X : Type 0} (R : X → X → Ordering) (xs ys : List X) → IsStrictlySortedBy R xs → IsStrictlySortedBy R ys → AllByRecursion (λ x. AllByRecursion (λ y. R x y ≡ Less) ys) xs → IsStrictlySortedBy R (xs ++ ys)
unfolding IsStrictlySortedBy
sorted-append R [] ys up up' across = up'
sorted-append R (x ∷ xs) ys up up' across = (each_append (λ y. R x y ≡ Less) xs ys up.0 across.0, sorted-append R xs ys up.1 up' across.1)

by_number : (a b : Letter) → a.from ≡ b.from → nat_cmp a.seq b.seq ≡ Less → source_cmp a b ≡ Less
by_number a b same less = grind (arith, nat_tests)

by_source : (a b : Letter) → nat_cmp a.from b.from ≡ Less → source_cmp a b ≡ Less
by_source a b less = rw less refl

-- what one source sent
later_numbers : (source : ℕ) (a : Letter) (letters : List Letter) → a.from ≡ source → AllByRecursion (λ b. b.from ≡ source) letters → AllByRecursion (λ b. nat_cmp a.seq b.seq ≡ Less) letters → AllByRecursion (λ b. source_cmp a b ≡ Less) letters
later_numbers source a [] own all up = tt
later_numbers source a (b ∷ letters) own all up = (by_number a b (own ∙ sym all.0) up.0, later_numbers source a letters own all.1 up.1)

pub of_one_source : (source : ℕ) (letters : List Letter) → AllByRecursion (λ b. b.from ≡ source) letters → IsStrictlySortedBy (λ a b. nat_cmp a.seq b.seq) letters → IsStrictlySortedBy source_cmp letters
unfolding IsStrictlySortedBy
of_one_source source [] all up = tt
of_one_source source (a ∷ letters) all up = (later_numbers source a letters all.0 all.1 up.0, of_one_source source letters all.1 up.1)

-- what later sources sent
from_later : (source : ℕ) (sources : List ℕ) (sent_by : ℕ → List Letter) → ((source : ℕ) → All (λ letter. letter.from ≡ source) (sent_by source)) → AllByRecursion (λ other. nat_cmp source other ≡ Less) sources → AllByRecursion (λ b. nat_cmp source b.from ≡ Less) (flat_map sent_by sources)
from_later source [] sent_by own up = tt
from_later source (other ∷ sources) sent_by own up =
    each_append (λ b. nat_cmp source b.from ≡ Less) (sent_by other) (flat_map sent_by sources)
    (each_weaker (λ b. b.from ≡ other) (λ b. nat_cmp source b.from ≡ Less) (λ b is. rw is up.0) (sent_by other) (recursion_from_All _ _ (own other)))
    (from_later source sources sent_by own up.1)

pub concatenated : (sources : List ℕ) (sent_by : ℕ → List Letter) → IsStrictlySortedBy nat_cmp sources → ((source : ℕ) → All (λ letter. letter.from ≡ source) (sent_by source)) → ((source : ℕ) → IsStrictlySortedBy (λ a b. nat_cmp a.seq b.seq) (sent_by source)) → IsStrictlySortedBy source_cmp (flat_map sent_by sources)
unfolding IsStrictlySortedBy
concatenated [] sent_by up own numbered = tt
concatenated (source ∷ sources) sent_by up own numbered =
    let all : AllByRecursion (λ b. b.from ≡ source) (sent_by source) = recursion_from_All _ _ (own source) in
    let later : AllByRecursion (λ b. nat_cmp source b.from ≡ Less) (flat_map sent_by sources) = from_later source sources sent_by own up.0 in
    sorted-append source_cmp (sent_by source) (flat_map sent_by sources)
    (of_one_source source (sent_by source) all (numbered source))
    (concatenated sources sent_by up.1 own numbered)
    (each_weaker (λ b. b.from ≡ source) (λ a. AllByRecursion (λ b. source_cmp a b ≡ Less) (flat_map sent_by sources))
    (λ a is. each_weaker (λ b. nat_cmp source b.from ≡ Less) (λ b. source_cmp a b ≡ Less) (λ b less. by_source a b (rw is less)) (flat_map sent_by sources) later)
    (sent_by source) all)
