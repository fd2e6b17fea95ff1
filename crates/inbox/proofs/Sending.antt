-- The letters of outboxes, a source after another.
use Rattle.std.proofs.Common.{◌≡◌, ◌+◌, ◌<◌, ◌≤◌, ℕ, ℤ, Bool, true, false, cond, List, [], ◌∷◌, ◌++◌, filter, length, map, get_or, take, drop, sum_by, arith, refl, sym, ap, ◌∙◌, append-nil, append_assoc}
use Rattle.std.proofs.Math.Seq.{take-length}
use Rattle.std.proofs.lemmas.Bool.Decides.{nat_tests}
use Rattle.std.proofs.lemmas.List.{drop-append-le, drop_min, length-append, length-drop, length-map, length-take-le, map-append, take-append-le, take_min, take_more}
use Rattle.std.proofs.lemmas.List.Concat.{length-flat_map}
use Rattle.std.proofs.lemmas.List.Elements.{filter-append}
use Rattle.std.proofs.lemmas.List.FromFn.{length-enumerate_from}
use Rattle.std.specs.List.{AllByRecursion, enumerate_from}
use Rattle.std.specs.List.Sorted.{IsStrictlySortedBy}
use Rattle.std.specs.Ordering.{nat_cmp}
use Rattle.std.specs.Prelude.{min}
use Rattle.std.specs.declared.cmp.Ordering.TheVariants.{Less}
use Rattle.inbox.specs.declared.letters.Letter.{Letter}
use Rattle.inbox.specs.declared.outbox.Source.{Source}
use Rattle.inbox.specs.Merging.{letter_sent, letters_sent, sent_in, source_cmp}
use Rattle.inbox.specs.inside.Outboxes.{count_of, letters_of}
use Rattle.inbox.proofs.Concatenation.{of_one_source}

-- ---- the letters of one source

pub length_sent : (id : ℕ) (sends : List (ℤ × ℤ)) → length (letters_sent id sends) ≡ length sends
length_sent id sends = length-map (enumerate_from 0 sends) (letter_sent id) ∙ length-enumerate_from 0 sends

enumerate-push : {X : Type 0} (n : ℕ) (xs : List X) (x : X) → enumerate_from n (xs ++ x ∷ []) ≡ enumerate_from n xs ++ (n + length xs, x) ∷ []
enumerate-push n [] x = ap (λ (k : ℕ). (k, x) ∷ []) (omega arith)
enumerate-push n (y ∷ ys) x =
    let e : n + 1 + length ys ≡ n + length (y ∷ ys) = omega arith in
    ap (λ zs. (n, y) ∷ zs) (enumerate-push (n + 1) ys x ∙ ap (λ (k : ℕ). enumerate_from (n + 1) ys ++ (k, x) ∷ []) e)

-- one more message
pub sent_more : (id : ℕ) (sends : List (ℤ × ℤ)) (i : ℕ) (d : ℤ × ℤ) → i < length sends
    → letters_sent id (take (i + 1) sends) ≡ letters_sent id (take i sends) ++ letter_sent id (i, get_or sends i d) ∷ []
sent_more id sends i d inside =
    ap (letters_sent id) (take_more sends i d inside)
    ∙ ap (map (letter_sent id)) (enumerate-push 0 (take i sends) (get_or sends i d))
    ∙ map-append (letter_sent id) (enumerate_from 0 (take i sends)) ((0 + length (take i sends), get_or sends i d) ∷ [])
    ∙ ap (λ (k : ℕ). letters_sent id (take i sends) ++ letter_sent id (k, get_or sends i d) ∷ []) (omega (arith, length-take-le i sends (omega arith)))

of_one : (id n : ℕ) (sends : List (ℤ × ℤ)) → AllByRecursion (λ letter. letter.from ≡ id) (map (letter_sent id) (enumerate_from n sends))
of_one id n [] = tt
of_one id n (send ∷ sends) = (refl, of_one id (n + 1) sends)

less : (x y : ℕ) → x < y → nat_cmp x y ≡ Less
less x y below = grind (arith, nat_tests)

later : (id n m : ℕ) (sends : List (ℤ × ℤ)) → n < m → AllByRecursion (λ letter. nat_cmp n letter.seq ≡ Less) (map (letter_sent id) (enumerate_from m sends))
later id n m [] below = tt
later id n m (send ∷ sends) below = (less n m below, later id n (m + 1) sends (omega arith))

numbered : (id n : ℕ) (sends : List (ℤ × ℤ)) → IsStrictlySortedBy (λ a b. nat_cmp a.seq b.seq) (map (letter_sent id) (enumerate_from n sends))
unfolding IsStrictlySortedBy
numbered id n [] = tt
numbered id n (send ∷ sends) = (later id n (n + 1) sends (omega arith), numbered id (n + 1) sends)

pub sent_own : (id : ℕ) (sends : List (ℤ × ℤ)) → AllByRecursion (λ letter. letter.from ≡ id) (letters_sent id sends)
sent_own id sends = of_one id 0 sends

pub sent_rise : (id : ℕ) (sends : List (ℤ × ℤ)) → IsStrictlySortedBy source_cmp (letters_sent id sends)
sent_rise id sends = of_one_source id (letters_sent id sends) (sent_own id sends) (numbered id 0 sends)

-- those of its letters that pass a test, where one more is looked at and passes
pub one_passes : (p : Letter → Bool) (id : ℕ) (sends : List (ℤ × ℤ)) (i : ℕ) (d : ℤ × ℤ) (before : List Letter) → i < length sends → p (letter_sent id (i, get_or sends i d)) ≡ true
    → before ++ filter p (letters_sent id (take (i + 1) sends)) ≡ (before ++ filter p (letters_sent id (take i sends))) ++ letter_sent id (i, get_or sends i d) ∷ []
one_passes p id sends i d before inside is =
    let here = letter_sent id (i, get_or sends i d) in
    let earlier = letters_sent id (take i sends) in
    ap (λ letters. before ++ filter p letters) (sent_more id sends i d inside)
    ∙ ap (λ letters. before ++ letters) (filter-append p earlier (here ∷ []) ∙ ap (λ b. filter p earlier ++ cond b (here ∷ []) []) is)
    ∙ sym (append_assoc before (filter p earlier) (here ∷ []))

-- the same where it does not pass
pub one_fails : (p : Letter → Bool) (id : ℕ) (sends : List (ℤ × ℤ)) (i : ℕ) (d : ℤ × ℤ) (before : List Letter) → i < length sends → p (letter_sent id (i, get_or sends i d)) ≡ false
    → before ++ filter p (letters_sent id (take (i + 1) sends)) ≡ before ++ filter p (letters_sent id (take i sends))
one_fails p id sends i d before inside is =
    let here = letter_sent id (i, get_or sends i d) in
    let earlier = letters_sent id (take i sends) in
    ap (λ letters. before ++ filter p letters) (sent_more id sends i d inside)
    ∙ ap (λ letters. before ++ letters) (filter-append p earlier (here ∷ []) ∙ ap (λ b. filter p earlier ++ cond b (here ∷ []) []) is ∙ append-nil (filter p earlier))

-- ---- the letters of all sources

pub length_letters : (sources : List Source) (sends : List (ℤ × ℤ)) → count_of sources ≡ length sends → length (letters_of sources sends) ≡ length sends
length_letters [] sends counts = omega arith
length_letters (source ∷ sources) sends counts =
    let rest = length_letters sources (drop source.count sends) (omega (arith, length-drop source.count sends)) in
    omega (
      arith,
      rest,
      length-append (letters_sent source.id (take source.count sends)) (letters_of sources (drop source.count sends)),
      length_sent source.id (take source.count sends),
      length-take-le source.count sends (omega arith),
      length-drop source.count sends,
    )

pub count_more : (sources : List Source) (source : Source) → count_of (sources ++ source ∷ []) ≡ count_of sources + source.count
count_more [] source = omega arith
count_more (first ∷ sources) source = omega (arith, count_more sources source)

-- one more source
pub letters_more : (sources : List Source) (source : Source) (sends more : List (ℤ × ℤ)) → count_of sources ≡ length sends → source.count ≡ length more
    → letters_of (sources ++ source ∷ []) (sends ++ more) ≡ letters_of sources sends ++ letters_sent source.id more
letters_more [] source [] more counts count =
    append-nil (letters_sent source.id (take source.count more))
    ∙ ap (letters_sent source.id) (ap (λ n. take n more) count ∙ take-length more)
letters_more [] source (send ∷ sends) more counts count = absurd (omega arith)
letters_more (first ∷ sources) source sends more counts count =
    let inside : first.count ≤ length sends = omega arith in
    let own = letters_sent first.id (take first.count sends) in
    let rest = letters_more sources source (drop first.count sends) more (omega (arith, length-drop first.count sends)) count in
    (λ i. letters_sent first.id (take-append-le first.count sends more inside i) ++ letters_of (sources ++ source ∷ []) (drop-append-le first.count sends more inside i))
    ∙ ap (λ letters. own ++ letters) rest
    ∙ sym (append_assoc own (letters_of sources (drop first.count sends)) (letters_sent source.id more))

-- the first source's letters are split from the others
pub letters_split : (id count : ℕ) (sources : List Source) (sends : List (ℤ × ℤ))
    → letters_sent id (take (min count (length sends)) sends) ++ letters_of sources (drop (min count (length sends)) sends)
    ≡ letters_of (record { id = id; count = count } ∷ sources) sends
letters_split id count sources sends = λ i. letters_sent id (take_min count sends i) ++ letters_of sources (drop_min count sends i)

-- ---- the letters of all outboxes

pub length_sent_in : (outboxes : List (List Letter)) → sum_by length outboxes ≡ length (sent_in outboxes)
length_sent_in outboxes = sym (length-flat_map (λ (letters : List Letter). letters) outboxes)
