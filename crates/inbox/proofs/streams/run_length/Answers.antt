use Rattle.std.proofs.Common.{◌≡◌, ◌<◌, ◌+◌, ◌-◌, ℕ, List, below_more, length, get_or, arith, ap, inl, inr, ◌∙◌}
use Rattle.std.proofs.lemmas.Bool.{cases_lt}
use Rattle.std.proofs.lemmas.List.{get_or_default}
use Rattle.std.specs.declared.cmp.Ordering.TheVariants.{Less}
use Rattle.inbox.specs.declared.letters.Letter.{Letter}
use Rattle.inbox.specs.Merging.{source_cmp}
use Rattle.inbox.proofs.streams.run_length.Goals as goal

-- a letter has the source of the first one if it has that of the letter before
from_one : (letters : List Letter) (index : ℕ) (d e : Letter) → index < length letters → (get_or letters index e).from ≡ (get_or letters (index - 1) e).from
    → (get_or letters (index - 1) d).from ≡ (get_or letters 0 d).from → (get_or letters index d).from ≡ (get_or letters 0 d).from
from_one letters index d e inside same before =
    let from = λ (letter : Letter). letter.from in
    ap from (get_or_default letters index d e inside) ∙ same ∙ ap from (get_or_default letters (index - 1) e d (omega arith)) ∙ before

-- what holds of two neighbours does not depend on what is read past the end
neighbours : (letters : List Letter) (index k : ℕ) (d e : Letter) → index < length letters → source_cmp (get_or letters (index - 1) e) (get_or letters index e) ≡ Less
    → k + 1 ≡ index → source_cmp (get_or letters k d) (get_or letters (k + 1) d) ≡ Less
neighbours letters index k d e inside less is =
    let before : k ≡ index - 1 = omega arith in
    rw (get_or_default letters k d e (omega arith), get_or_default letters (k + 1) d e (omega arith), is, before) less

pub loop-index-preserved : goal.loop-index-preserved
loop-index-preserved c =
    let letters = c.args.letters.now in
    let index = c.loop-index.index in
    let inside : index < length letters = c.loop-index-test.true in
    let goes = c.goes_on.ensures in
    record {
      own = λ k d h.
          let before = c.loop-index.invariant.own (index - 1) d (omega arith) in
          let here = from_one letters index d _ inside (goes.own c.if-not-goes_on.false) before in
          below_more (λ k. (get_or letters k d).from ≡ (get_or letters 0 d).from) index (λ k h. c.loop-index.invariant.own k d h) here k h;
      rising = λ k d h. elim (cases_lt (k + 1) index) [
        | inl below ↦ c.loop-index.invariant.rising k d below
        | inr last ↦ neighbours letters index k d _ inside (goes.rising c.if-not-goes_on.false) (omega arith)
      ];
    }
