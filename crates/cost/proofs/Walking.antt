-- What a walk keeps.
use Rattle.std.proofs.Common.{◌≡◌, ◌≢◌, ℕ, zero, suc, ◌+◌, ◌<◌, ◌≤◌, min, below_more, ◌⊎◌, inl, inr, List, [], ◌∷◌, length, get_or, set, refl, sym, ap, subst, ◌∙◌, arith}
use Rattle.std.specs.Prelude.{sum_by}
use Rattle.std.proofs.Math.Path.{fun_ext}
use Rattle.std.proofs.lemmas.List.{get_or-set_same, get_or-set_other}
use Rattle.std.proofs.Math.ListN.{length-set}
use Rattle.std.proofs.lemmas.List.Sums.{sum_by-set}
use Rattle.std.proofs.lemmas.Bool.Decides.{eqb_tells}
use Rattle.cost.specs.declared.table.Mark.{Mark}
use Rattle.cost.specs.declared.table.Mark.TheVariants.{Unseen, Open, Done}
use Rattle.cost.specs.declared.outline.Outlines.{Outlines}
use Rattle.verified.specs.Calls.{Calls}
use Rattle.verified.specs.CallHeights.{most}
use Rattle.cost.specs.inside.Outline.{cap}
use Rattle.cost.specs.inside.Outlines.{outline_at, own_at, height_at, called, AreSizesOf}
use Rattle.cost.specs.Marks.{mark_at, rank_in, size_in, rank_at, size_at}
use Rattle.cost.specs.inside.Walks.{IsDone, unseen_weight, unseen, unfinished_weight, unfinished, Settled, Walked}
use Rattle.cost.proofs.Heights.{height_agree, height_within, most_within, capped_sum}

same_or_not : (a b : ℕ) → (a ≡ b) ⊎ (a ≢ b)
same_or_not a b = elim (eqb_tells a b) [ inl h ↦ inl h.1 | inr h ↦ inr h.1 ]

pub done_not_open : (m : Mark) → IsDone m → m ≡ Open → ⊥
done_not_open m d e = subst IsDone e d

pub done_not_unseen : (m : Mark) → IsDone m → m ≡ Unseen → ⊥
done_not_unseen m d e = subst IsDone e d

open_not_unseen : (m : Mark) → m ≡ Open → m ≡ Unseen → ⊥
open_not_unseen m d e = cc

-- what is unseen has a mark
pub has_mark : (ms : List Mark) (f : ℕ) → mark_at ms f ≡ Unseen → f < length ms
has_mark [] f e = absurd cc
has_mark (m ∷ ms) zero e = omega arith
has_mark (m ∷ ms) (suc f) e = let i = has_mark ms f e in omega (arith, i)

-- what stands among the calls is called
pub called_there : (os : Outlines) (f : ℕ) (xs : List ℕ) (k : ℕ) → xs ≡ called os f → k < length xs → Calls (called os) f (get_or xs k 0)
called_there os f xs k same h = subst (λ ys. (j : ℕ) × (j < length ys) × (get_or ys j 0 ≡ get_or xs k 0)) same (k, h, refl)

-- on the way: f is open, and the first k of its calls are done
pub record Walking (os : Outlines) (f : ℕ) (ms ns : List Mark) (xs : List ℕ) (k : ℕ) : Type 0 where
  pub settled : Settled os ns
  pub open_here : mark_at ns f ≡ Open
  pub kept : (g : ℕ) → (mark_at ms g ≡ Unseen → ⊥) → mark_at ns g ≡ mark_at ms g
  pub opened : (g : ℕ) → mark_at ns g ≡ Open → (g ≡ f → ⊥) → mark_at ms g ≡ Open
  pub fewer : unseen ns < unseen ms
  pub done : (j : ℕ) → j < k → IsDone (mark_at ns (get_or xs j 0))

-- what is unseen on the way was unseen at its beginning
pub unseen_before : (os : Outlines) (f : ℕ) (ms ns : List Mark) (xs : List ℕ) (k : ℕ) → Walking os f ms ns xs k → (g : ℕ) → mark_at ns g ≡ Unseen → mark_at ms g ≡ Unseen
unseen_before os f ms ns xs k w g e = by_mark (mark_at ms g) refl
  where
    by_mark : (m : Mark) → mark_at ms g ≡ m → mark_at ms g ≡ Unseen
    by_mark Unseen h = h
    by_mark Open h = let n : mark_at ms g ≡ Unseen → ⊥ = λ u. open_not_unseen (mark_at ms g) h u in sym (w.kept g n) ∙ e
    by_mark (Done rank size) h =
        let n : mark_at ms g ≡ Unseen → ⊥ = λ u. done_not_unseen (mark_at ms g) (subst IsDone (sym h) tt) u in sym (w.kept g n) ∙ e

-- on the way, once one more call is walked
pub goes_on : (os : Outlines) (f : ℕ) (ms ns after : List Mark) (xs : List ℕ) (k : ℕ) → Walking os f ms ns xs k → Walked os (get_or xs k 0) ns after → Walking os f ms after xs (k + 1)
goes_on os f ms ns after xs k w walked = record {
  settled = walked.settled;
  open_here = walked.kept f (open_not_unseen (mark_at ns f) w.open_here) ∙ w.open_here;
  kept = λ g seen. walked.kept g (λ e. seen (sym (w.kept g seen) ∙ e)) ∙ w.kept g seen;
  opened = λ g e other. w.opened g (walked.opened g e) other;
  fewer = omega (arith, w.fewer, walked.fewer);
  done = below_more (λ j. IsDone (mark_at after (get_or xs j 0))) k (λ j h.
      let d = w.done j h in
      subst IsDone (sym (walked.kept (get_or xs j 0) (done_not_unseen (mark_at ns (get_or xs j 0)) d))) d)
      walked.done;
}

module _ (os : Outlines) (f : ℕ) (ms : List Mark) (st : Settled os ms) (un : mark_at ms f ≡ Unseen) where
  at_f : mark_at (set ms f Open) f ≡ Open
  at_f = get_or-set_same ms f Open (Done 0 0) (has_mark ms f un)

  elsewhere : (g : ℕ) → g ≢ f → mark_at (set ms f Open) g ≡ mark_at ms g
  elsewhere g n = get_or-set_other ms f g Open (Done 0 0) n

  not_f : (g : ℕ) → (mark_at ms g ≡ Unseen → ⊥) → g ≢ f
  not_f g h e = h (ap (mark_at ms) e ∙ un)

  now_done : (g : ℕ) → IsDone (mark_at (set ms f Open) g) → g ≢ f
  now_done g d x = done_not_open (mark_at (set ms f Open) g) d (ap (mark_at (set ms f Open)) x ∙ at_f)

  was_done : (g : ℕ) → IsDone (mark_at (set ms f Open) g) → IsDone (mark_at ms g)
  was_done g d = subst IsDone (elsewhere g (now_done g d)) d

  still_done : (g : ℕ) → IsDone (mark_at ms g) → IsDone (mark_at (set ms f Open) g)
  still_done g d = subst IsDone (sym (elsewhere g (not_f g (done_not_unseen (mark_at ms g) d)))) d

  rank_same : (g : ℕ) → rank_at ms g ≡ rank_at (set ms f Open) g
  rank_same g = elim (same_or_not g f) [ inl x ↦ here x | inr n ↦ ap rank_in (sym (elsewhere g n)) ]
    where
      here : g ≡ f → rank_at ms g ≡ rank_at (set ms f Open) g
      here x = ap rank_in (ap (mark_at ms) x ∙ un) ∙ sym (ap rank_in (ap (mark_at (set ms f Open)) x ∙ at_f))

  ranks_same : rank_at ms ≡ rank_at (set ms f Open)
  ranks_same = fun_ext rank_same

  unfinished_same : unfinished (set ms f Open) ≡ unfinished ms
  unfinished_same =
      let e = sum_by-set unfinished_weight ms f Open (Done 0 0) (has_mark ms f un) in
      let w : unfinished_weight (get_or ms f (Done 0 0)) ≡ 1 = ap unfinished_weight un in
      omega (arith, e, w)

  settled_open : Settled os (set ms f Open)
  settled_open = record {
    long = length-set ms f Open ∙ st.long;
    closed = λ g h d c. still_done h (st.closed g h (was_done g d) c);
    high = λ g d. subst (λ (r : ℕ → ℕ). r g ≡ height_at r (outline_at os g)) ranks_same (st.high g (was_done g d));
    sized = λ s a g d. ap size_in (elsewhere g (now_done g d)) ∙ st.sized s a g (was_done g d);
    below = λ g. let b = st.below g in omega (arith, b, rank_same g, unfinished_same, length-set ms f Open);
  }

  fewer_open : unseen (set ms f Open) + 1 ≡ unseen ms
  fewer_open =
      let e = sum_by-set unseen_weight ms f Open (Done 0 0) (has_mark ms f un) in
      let w : unseen_weight (get_or ms f (Done 0 0)) ≡ 1 = ap unseen_weight un in
      omega (arith, e, w)

  pub begins : (xs : List ℕ) → Walking os f ms (set ms f Open) xs 0
  begins xs = record {
    settled = settled_open;
    open_here = at_f;
    kept = λ g h. elsewhere g (not_f g h);
    opened = λ g e n. sym (elsewhere g n) ∙ e;
    fewer = omega (arith, fewer_open);
    done = λ j h. absurd (omega arith);
  }

-- an open function stands among those that are not done
some_unfinished : (ns : List Mark) (f : ℕ) → mark_at ns f ≡ Open → f < length ns → 1 ≤ unfinished ns
some_unfinished ns f o lt =
    let e = sum_by-set unfinished_weight ns f (Done 0 0) (Done 0 0) lt in
    let w : unfinished_weight (get_or ns f (Done 0 0)) ≡ 1 = ap unfinished_weight o in
    omega (arith, e, w)

-- there is room for one rank more
pub room : (os : Outlines) (f : ℕ) (ns : List Mark) (xs : List ℕ) → Settled os ns → mark_at ns f ≡ Open → f < length ns → most (rank_at ns) xs + 1 ≤ length ns
room os f ns xs st o lt =
    let u = some_unfinished ns f o lt in
    let b = st.below f in
    let m = most_within (rank_at ns) xs (unfinished ns) (length ns) (omega (arith, b)) st.below in
    omega (arith, u, m)

module _ (os : Outlines) (f : ℕ) (ms ns : List Mark) (rank size : ℕ) (un : mark_at ms f ≡ Unseen) (lt : f < length ns) (xs : List ℕ) (k : ℕ) (same : xs ≡ called os f) (past : length xs ≤ k) (w : Walking os f ms ns xs k) (high : rank ≡ height_at (rank_at ns) (outline_at os f)) (sz : size ≡ min cap (own_at (outline_at os f) + sum_by (size_at ns) xs)) where
  abbrev after : List Mark
  after = set ns f (Done rank size)

  all_done : (g : ℕ) → Calls (called os) f g → IsDone (mark_at ns g)
  all_done g c =
      let e : get_or xs c.0 0 ≡ g = ap (λ ys. get_or ys c.0 0) same ∙ c.2 in
      let h : c.0 < k = omega (arith, c.1, ap length same, past) in
      subst (λ x. IsDone (mark_at ns x)) e (w.done c.0 h)

  now_f : mark_at after f ≡ Done rank size
  now_f = get_or-set_same ns f (Done rank size) (Done 0 0) lt

  beside : (g : ℕ) → g ≢ f → mark_at after g ≡ mark_at ns g
  beside g n = get_or-set_other ns f g (Done rank size) (Done 0 0) n

  done_beside : (g : ℕ) → IsDone (mark_at ns g) → g ≢ f
  done_beside g d x = done_not_open (mark_at ns g) d (ap (mark_at ns) x ∙ w.open_here)

  done_after : (g : ℕ) → IsDone (mark_at ns g) → IsDone (mark_at after g)
  done_after g d = subst IsDone (sym (beside g (done_beside g d))) d

  done_before : (g : ℕ) → g ≢ f → IsDone (mark_at after g) → IsDone (mark_at ns g)
  done_before g n d = subst IsDone (beside g n) d

  -- what a function that is done calls was done before
  calls_before : (g h : ℕ) → IsDone (mark_at after g) → Calls (called os) g h → IsDone (mark_at ns h)
  calls_before g h d c = elim (same_or_not g f) [ inl x ↦ all_done h (subst (λ a. Calls (called os) a h) x c) | inr n ↦ w.settled.closed g h (done_before g n d) c ]

  -- so its rank stays
  rank_beside : (g : ℕ) → IsDone (mark_at ns g) → rank_at ns g ≡ rank_at after g
  rank_beside g d = ap rank_in (sym (beside g (done_beside g d)))

  heights_same : (g : ℕ) → IsDone (mark_at after g) → height_at (rank_at ns) (outline_at os g) ≡ height_at (rank_at after) (outline_at os g)
  heights_same g d =
      height_agree (rank_at ns) (rank_at after) (outline_at os g) (λ j h. rank_beside (get_or (called os g) j 0) (calls_before g (get_or (called os g) j 0) d (j, h, refl)))

  new_high : (g : ℕ) → IsDone (mark_at after g) → rank_at after g ≡ height_at (rank_at after) (outline_at os g)
  new_high g d = elim (same_or_not g f) [ inl x ↦ here x | inr n ↦ ap rank_in (beside g n) ∙ w.settled.high g (done_before g n d) ∙ heights_same g d ]
    where
      here : g ≡ f → rank_at after g ≡ height_at (rank_at after) (outline_at os g)
      here x =
          ap rank_in (ap (mark_at after) x ∙ now_f) ∙ high ∙ ap (λ a. height_at (rank_at ns) (outline_at os a)) (sym x) ∙ heights_same g d

  new_sized : (s : ℕ → ℕ) → AreSizesOf os s → (g : ℕ) → IsDone (mark_at after g) → size_at after g ≡ min cap (s g)
  new_sized s a g d = elim (same_or_not g f) [ inl x ↦ here x | inr n ↦ ap size_in (beside g n) ∙ w.settled.sized s a g (done_before g n d) ]
    where
      whole : size ≡ min cap (s f)
      whole =
          sz ∙ ap (λ ys. min cap (own_at (outline_at os f) + sum_by (size_at ns) ys)) same ∙ capped_sum s (size_at ns) (own_at (outline_at os f)) (called os f) (λ j h. w.settled.sized s a (get_or (called os f) j 0) (all_done (get_or (called os f) j 0) (j, h, refl))) ∙ sym (a f)

      here : g ≡ f → size_at after g ≡ min cap (s g)
      here x = ap size_in (ap (mark_at after) x ∙ now_f) ∙ whole ∙ ap (λ b. min cap (s b)) (sym x)

  one_fewer : unfinished after + 1 ≡ unfinished ns
  one_fewer =
      let e = sum_by-set unfinished_weight ns f (Done rank size) (Done 0 0) lt in
      let v : unfinished_weight (get_or ns f (Done 0 0)) ≡ 1 = ap unfinished_weight w.open_here in
      omega (arith, e, v)

  new_below : (g : ℕ) → rank_at after g + unfinished after ≤ length after
  new_below g = elim (same_or_not g f) [ inl x ↦ here x | inr n ↦ there n ]
    where
      here : g ≡ f → rank_at after g + unfinished after ≤ length after
      here x =
          let e : rank_at after g ≡ rank = ap rank_in (ap (mark_at after) x ∙ now_f) in
          let b = w.settled.below f in
          let m = height_within (rank_at ns) (outline_at os f) (unfinished ns) (length ns) (omega (arith, b)) w.settled.below in
          omega (arith, e, high, m, one_fewer, length-set ns f (Done rank size))

      there : g ≢ f → rank_at after g + unfinished after ≤ length after
      there n =
          let e : rank_at after g ≡ rank_at ns g = ap rank_in (beside g n) in
          let b = w.settled.below g in
          omega (arith, e, b, one_fewer, length-set ns f (Done rank size))

  unseen_same : unseen after ≡ unseen ns
  unseen_same =
      let e = sum_by-set unseen_weight ns f (Done rank size) (Done 0 0) lt in
      let v : unseen_weight (get_or ns f (Done 0 0)) ≡ 0 = ap unseen_weight w.open_here in
      omega (arith, e, v)

  new_opened : (g : ℕ) → mark_at after g ≡ Open → mark_at ms g ≡ Open
  new_opened g e = elim (same_or_not g f) [ inl x ↦ here x | inr n ↦ w.opened g (sym (beside g n) ∙ e) n ]
    where
      here : g ≡ f → mark_at ms g ≡ Open
      here x = let y : Done rank size ≡ Open = sym now_f ∙ ap (mark_at after) (sym x) ∙ e in absurd cc

  pub ends : Walked os f ms after
  ends = record {
    settled = record {
      long = length-set ns f (Done rank size) ∙ w.settled.long;
      closed = λ g h d c. done_after h (calls_before g h d c);
      high = new_high;
      sized = new_sized;
      below = new_below;
    };
    done = subst IsDone (sym now_f) tt;
    kept = λ g n. beside g (λ x. n (ap (mark_at ms) x ∙ un)) ∙ w.kept g n;
    opened = new_opened;
    fewer = omega (arith, unseen_same, w.fewer);
  }
