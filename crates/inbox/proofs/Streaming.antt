-- Letters of several lists or outboxes, taken a run after another: those taken, with those left, are all, and they are filed by source.
use Rattle.std.proofs.Common.{◌≡◌, ◌==◌, ◌<◌, ◌≤◌, ◌+◌, ℕ, zero, suc, ℤ, pos, Bool, false, List, [], ◌∷◌, ◌++◌, length, get_or, take, drop, arith, sym, ap, subst, ◌∙◌, append-nil, append_assoc, length-append}
use Rattle.std.proofs.Math.ListN.{set}
use Rattle.std.proofs.lemmas.Bool.Decides.{nat_tests}
use Rattle.std.proofs.lemmas.List.{get_or-take, length-take-le, take-append-drop, take_more}
use Rattle.std.proofs.lemmas.List.Concat.{flat_map-append}
use Rattle.std.proofs.lemmas.List.Elements.{recursion_from_All}
use Rattle.std.proofs.lemmas.List.Sorted.{IsPermutation-refl, IsPermutation-trans, IsPermutation-append_left, IsPermutation-append_right, IsPermutation-append_comm, length_permutation}
use Rattle.std.specs.List.{AllByRecursion, flat_map}
use Rattle.std.specs.List.Sorted.{IsPermutation, IsStrictlySortedBy}
use Rattle.std.specs.declared.cmp.Ordering.TheVariants.{Less}
use denote.Ref.{Bor}
use Rattle.inbox.specs.declared.slips.Slip.{Slip}
use Rattle.inbox.specs.declared.grid.Grid.{Grid}
use Rattle.inbox.specs.declared.letters.Letter.{Letter}
use Rattle.inbox.specs.declared.outbox.Unread.{Unread}
use Rattle.inbox.specs.declared.streams.Rest.TheVariants.{OfList, OfOutbox}
use Rattle.inbox.specs.declared.streams.Run.TheVariants.{Letters, Sends}
use Rattle.inbox.specs.declared.streams.Taken.{Taken}
use Rattle.inbox.specs.Merging.{IsBySource, letters_sent, source_cmp}
use Rattle.inbox.specs.inside.Blocks.{AreFiled}
use Rattle.inbox.specs.inside.Outboxes.{unread_letters}
use Rattle.inbox.specs.inside.Streams.{AreFiledSoFar, IsNextRun, IsTaken, run_letters}
use Rattle.inbox.proofs.Concatenation.{each_append, each_weaker, sorted-append}
use Rattle.inbox.proofs.Order.{rise_adjacent}
use Rattle.inbox.proofs.Sending.{length_sent, sent_own, sent_rise}

-- ---- lists, by what each shows

module _ {B X : Type 0} (shown : B → List X) where
  -- one more list
  pub one_more : (lists : List B) (i : ℕ) (list : B) → i < length lists → list ≡ get_or lists i list → flat_map shown (take (i + 1) lists) ≡ flat_map shown (take i lists) ++ shown list
  one_more lists i list inside is =
      ap (flat_map shown) (take_more lists i list inside)
      ∙ flat_map-append shown (take i lists) (get_or lists i list ∷ [])
      ∙ ap (λ items. flat_map shown (take i lists) ++ items) (append-nil (shown (get_or lists i list)) ∙ ap shown (sym is))

  -- a list that shows nothing
  pub none_more : (lists : List B) (i : ℕ) (d : B) → i < length lists → flat_map shown (take i lists) ≡ [] → shown (get_or lists i d) ≡ [] → flat_map shown (take (i + 1) lists) ≡ []
  none_more lists i d inside before none =
      ap (flat_map shown) (take_more lists i d inside)
      ∙ flat_map-append shown (take i lists) (get_or lists i d ∷ [])
      ∙ (λ k. before k ++ (none k ++ []))

  pub one_pushed : (lists : List B) (list : B) → flat_map shown (lists ++ list ∷ []) ≡ flat_map shown lists ++ shown list
  one_pushed lists list = flat_map-append shown lists (list ∷ []) ∙ ap (λ items. flat_map shown lists ++ items) (append-nil (shown list))

  -- a run is taken from the front of one list
  pub run_taken : (lists : List B) (place : ℕ) (rest others : B) (run : List X) → place < length lists → rest ≡ get_or lists place rest → run ++ shown others ≡ shown rest
      → IsPermutation (flat_map shown lists) (run ++ flat_map shown (set lists place others))
  run_taken [] place rest others run inside is cut = absurd (omega arith)
  run_taken (first ∷ lists) zero rest others run inside is cut =
      let later = flat_map shown lists in
      let same : shown first ++ later ≡ run ++ (shown others ++ later) = ap (λ items. items ++ later) (ap shown (sym is) ∙ sym cut) ∙ append_assoc run (shown others) later in
      subst (IsPermutation (shown first ++ later)) same (IsPermutation-refl (shown first ++ later))
  run_taken (first ∷ lists) (suc place) rest others run inside is cut =
      let own = shown first in
      let after = flat_map shown (set lists place others) in
      let further : IsPermutation (own ++ flat_map shown lists) (own ++ (run ++ after)) = IsPermutation-append_right own (flat_map shown lists) (run ++ after) (run_taken lists place rest others run (omega arith) is cut) in
      let turned : IsPermutation ((own ++ run) ++ after) ((run ++ own) ++ after) = IsPermutation-append_left after (own ++ run) (run ++ own) (IsPermutation-append_comm own run) in
      IsPermutation-trans _ _ _ further
      (subst (λ items. IsPermutation items (run ++ (own ++ after))) (append_assoc own run after)
      (subst (IsPermutation ((own ++ run) ++ after)) (append_assoc run own after) turned))

-- ---- one run

abbrev pub no_letter : Letter
no_letter = record { to = pos 0; from = 0; seq = 0; value = pos 0 }

pub not_none : (n : ℕ) (b : Bool) → b ≡ (n == 0) → b ≡ false → 0 < n
not_none n b is off = grind (arith, nat_tests)

-- what the length of a run says
pub record IsRun (letters : List Letter) (least count : ℕ) : Type 0 where
  pub bound : count ≤ length letters
  pub late : (d : Letter) → 0 < count → least ≤ (get_or letters 0 d).from
  pub own : (k : ℕ) (d : Letter) → k < count → (get_or letters k d).from ≡ (get_or letters 0 d).from
  pub rising : (k : ℕ) (d : Letter) → k + 1 < count → source_cmp (get_or letters k d) (get_or letters (k + 1) d) ≡ Less

module _ (letters : List Letter) (least count : ℕ) (is : IsRun letters least count) where
  each : (P : Letter → Type 0) → ((k : ℕ) (d : Letter) → k < count → P (get_or letters k d)) → AllByRecursion P (take count letters)
  each P holds =
      recursion_from_All P (take count letters)
      (λ k d below.
      let early : k < count = omega (arith, length-take-le count letters is.bound) in
      subst P (sym (get_or-take count letters k d early)) (holds k d early))

  rises : IsStrictlySortedBy source_cmp (take count letters)
  rises =
      rise_adjacent (take count letters)
      (λ k d inside.
      let next : k + 1 < count = omega (arith, length-take-le count letters is.bound) in
      let here : k < count = omega arith in
      rw (get_or-take count letters k d here, get_or-take count letters (k + 1) d next) (is.rising k d next))

  -- it is taken from the front of a list
  pub list_taken : (source : ℕ) (run others : Bor (List Letter)) → run.now ≡ take count letters → others.now ≡ drop count letters → 0 < count → ((d : Letter) → (get_or letters 0 d).from ≡ source)
      → IsTaken letters least (record { source = source; run = Letters run; rest = OfList others })
  list_taken source run others front back some of = record {
    some = omega (arith, ap length front, length-take-le count letters is.bound);
    whole = (λ i. front i ++ back i) ∙ take-append-drop count letters;
    rising = subst (IsStrictlySortedBy source_cmp) (sym front) rises;
    late = omega (arith, is.late no_letter some, of no_letter);
    own = subst (AllByRecursion (λ letter. letter.from ≡ source)) (sym front) (each (λ letter. letter.from ≡ source) (λ k d below. is.own k d below ∙ of d));
  }

-- a source's letters are taken from the front of an outbox
pub batch_taken : (letters : List Letter) (least source : ℕ) (sends : Bor (List (ℤ × ℤ))) (others : Unread) → letters_sent source sends.now ++ unread_letters others ≡ letters → 0 < length sends.now → least ≤ source
    → IsTaken letters least (record { source = source; run = Sends source sends; rest = OfOutbox others })
batch_taken letters least source sends others whole some late = record {
  some = omega (arith, some, length_sent source sends.now);
  whole = whole;
  rising = sent_rise source sends.now;
  late = late;
  own = sent_own source sends.now;
}

-- the next run of all lists or outboxes is that of one of them
pub next_taken : (left later letters : List Letter) (least : ℕ) (taken : Taken) → IsTaken letters least taken → IsPermutation left (run_letters taken.run ++ later) → IsNextRun left least (run_letters taken.run) later (taken.source + 1)
next_taken left later letters least taken is same = record {
  some = is.some;
  same = same;
  rising = is.rising;
  late = each_weaker (λ letter. letter.from ≡ taken.source) (λ letter. least ≤ letter.from) (λ letter own. omega (arith, own, is.late)) (run_letters taken.run) is.own;
  early = each_weaker (λ letter. letter.from ≡ taken.source) (λ letter. letter.from < taken.source + 1) (λ letter own. omega (arith, own)) (run_letters taken.run) is.own;
}

-- ---- all runs

lesser : (a b : Letter) (least : ℕ) → a.from < least → least ≤ b.from → source_cmp a b ≡ Less
lesser a b least before late = grind (arith, nat_tests)

grows : (run : List Letter) (least next : ℕ) → 0 < length run → AllByRecursion (λ letter. least ≤ letter.from) run → AllByRecursion (λ letter. letter.from < next) run → least ≤ next
grows [] least next some late early = absurd (omega arith)
grows (letter ∷ run) least next some late early = omega (arith, late.0, early.0)

-- nothing is filed yet
pub none_filed : (letters left : List Letter) (grid : Grid) (least : ℕ) (blocks : List (List Slip)) → left ≡ letters → AreFiled grid [] blocks → AreFiledSoFar letters grid left least blocks
unfolding IsStrictlySortedBy
none_filed letters left grid least blocks same filed = record {
  sent = [];
  same = subst (IsPermutation letters) (sym same) (IsPermutation-refl letters);
  rising = tt;
  early = tt;
  filed = filed;
}

-- a run is filed
pub more_filed : (letters : List Letter) (grid : Grid) (left : List Letter) (least : ℕ) (blocks : List (List Slip)) (run later : List Letter) (next : ℕ) (blocks' : List (List Slip))
    → AreFiledSoFar letters grid left least blocks → IsNextRun left least run later next → ((sent : List Letter) → AreFiled grid sent blocks → AreFiled grid (sent ++ run) blocks')
    → AreFiledSoFar letters grid later next blocks'
more_filed letters grid left least blocks run later next blocks' so_far is files =
    let up : least ≤ next = grows run least next is.some is.late is.early in
    record {
      sent = so_far.sent ++ run;
      same = subst (IsPermutation letters) (sym (append_assoc so_far.sent run later)) (IsPermutation-trans _ _ _ so_far.same (IsPermutation-append_right so_far.sent left (run ++ later) is.same));
      rising = sorted-append source_cmp so_far.sent run so_far.rising is.rising
          (each_weaker (λ a. a.from < least) (λ a. AllByRecursion (λ b. source_cmp a b ≡ Less) run)
          (λ a before. each_weaker (λ b. least ≤ b.from) (λ b. source_cmp a b ≡ Less) (λ b late. lesser a b least before late) run is.late)
          so_far.sent so_far.early);
      early = each_append (λ a. a.from < next) so_far.sent run (each_weaker (λ a. a.from < least) (λ a. a.from < next) (λ a before. omega (arith, before, up)) so_far.sent so_far.early) is.early;
      filed = files so_far.sent so_far.filed;
    }

-- each run leaves fewer letters
pub fewer_left : (left : List Letter) (least : ℕ) (run later : List Letter) (next : ℕ) → IsNextRun left least run later next → length later < length left
fewer_left left least run later next is = omega (arith, is.some, length_permutation left (run ++ later) is.same, length-append run later)

-- no letter is left
pub all_sent : (letters : List Letter) (grid : Grid) (left : List Letter) (least : ℕ) (blocks : List (List Slip)) → AreFiledSoFar letters grid left least blocks → left ≡ [] → (sent : List Letter) × IsBySource letters sent × AreFiled grid sent blocks
all_sent letters grid left least blocks so_far none =
    let sent = so_far.sent in
    let same : IsPermutation letters sent = subst (IsPermutation letters) (ap (λ items. sent ++ items) none ∙ append-nil sent) so_far.same in
    (sent, record { same = same; rising = so_far.rising }, so_far.filed)
