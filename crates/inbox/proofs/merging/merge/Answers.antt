use Rattle.std.proofs.Common.{◌≡◌, ◌+◌, ◌++◌, ◌∷◌, [], ◌<◌, ℕ, not, cond, List, map, length, ap, sym, take, Bool, arith, rules, ◌∙◌}
use Rattle.std.proofs.lemmas.List.{length-map, length-take, map_more, take_all, take_at}
use Rattle.std.proofs.lemmas.List.Sums.{count_by-le-length, sum_by-append, sum_by-cons}
use Rattle.std.specs.List.{list_any}
use Rattle.inbox.specs.declared.letters.Letter.{Letter}
use Rattle.inbox.specs.Merging.{dropped_of, goes_to, inbox_of}
use Rattle.inbox.proofs.Delivery.{replicate-empty}
use Rattle.inbox.proofs.OneOrder.{same_dropped}
use Rattle.inbox.proofs.merging.merge.Goals as goal
use Rattle.inbox.proofs.merging.merge.Goals.{then-not-branch, else-not-branch}

pub loop-letter-init : goal.loop-letter-init
loop-letter-init c = record { inboxes = c.in_ok-inboxes.ensures ∙ replicate-empty c.args.ids.now; dropped = search rules }

-- one more letter, which is dropped or not
dropped_more : (sent : List Letter) (letter : Letter) (ids : List ℕ) (found : Bool) (before now : ℕ) → found ≡ list_any (goes_to letter) ids
    → before ≡ dropped_of sent ids → now ≡ before + cond (not found) 1 0 → now ≡ dropped_of (sent ++ letter ∷ []) ids
dropped_more sent letter ids found before now is was one =
    let drop : Bool → ℕ = λ found. cond (not found) 1 0 in
    let dropped : Letter → ℕ = λ letter. drop (list_any (goes_to letter) ids) in
    omega (arith, one, was, ap drop is, sum_by-append dropped sent (letter ∷ []), sum_by-cons dropped letter [])

pub loop-letter-preserved : goal.loop-letter-preserved
loop-letter-preserved c =
    let letters = c.deref-letter-items.result.now in
    let below : c.loop-letter.letter-index < length letters = omega arith in
    let sent : List Letter = map (λ letter. letter.now) (take c.loop-letter.letter-index letters) in
    let long : length c.deliver.new.inboxes ≡ c.loop-letter.inboxes.len = c.deliver.auto.inboxes ∙ c.deref_mut.ensures.len in
    let delivered = c.in_ok-deliver.ensures.delivered sent (c.deref_mut.ensures.value ∙ c.loop-letter.invariant.inboxes) in
    let counted : c.if-not-branch.dropped ≡ c.loop-letter.dropped + cond (not c.in_ok-deliver.field-0) 1 0 =
    elim c.if-not-branch.branch [
      | then-not-branch w ↦ rw w.if-not-branch.true w.dropped-is
      | else-not-branch w ↦ rw w.if-not-branch.false (omega (arith, w.dropped-is))
    ] in
    let more = map_more (λ letter. letter.now) letters c.loop-letter.letter-index _ below in
    record {
      inboxes = take_at c.deliver.new.inboxes _ _ long ∙ (delivered ∙ ap (λ sent. map (inbox_of sent) c.args.ids.now) (sym more));
      dropped = dropped_more sent _ c.args.ids.now _ _ _ c.in_ok-deliver.ensures.found c.loop-letter.invariant.dropped counted
          ∙ ap (λ sent. dropped_of sent c.args.ids.now) (sym more);
    }

pub deliver-requires-clause-one_each : goal.deliver-requires-clause-one_each
deliver-requires-clause-one_each c = ap length (c.deref_mut.ensures.value ∙ c.loop-letter.invariant.inboxes) ∙ length-map _ _

pub overflow_add-dropped : goal.overflow_add-dropped
overflow_add-dropped c =
    let letters = c.deref-letter-items.result.now in
    let seen = take c.loop-letter.letter-index letters in
    let most = count_by-le-length (λ letter. not (list_any (goes_to letter) c.args.ids.now)) (map (λ letter. letter.now) seen) in
    omega (
      arith,
      most,
      c.loop-letter.invariant.dropped,
      length-map seen (λ letter. letter.now),
      length-take c.loop-letter.letter-index letters,
      c.deref-letter-items.ensures.len,
    )

pub returns-clause-inboxes : goal.returns-clause-inboxes
returns-clause-inboxes c =
    let all = take_all c.loop-letter.letter-index c.deref-letter-items.result.now c.loop-letter-test.false ∙ c.deref-letter-items.ensures.value in
    let made = ap (λ letters. map (inbox_of (map (λ letter. letter.now) letters)) c.args.ids.now) all in
    (_, c.in_ok-ordered.ensures, c.loop-letter.invariant.inboxes ∙ made)

pub returns-clause-dropped : goal.returns-clause-dropped
returns-clause-dropped c =
    let all = take_all c.loop-letter.letter-index c.deref-letter-items.result.now c.loop-letter-test.false ∙ c.deref-letter-items.ensures.value in
    let counted = ap (λ letters. dropped_of (map (λ letter. letter.now) letters) c.args.ids.now) all in
    c.loop-letter.invariant.dropped ∙ counted ∙ same_dropped c.args.letters.now _ c.args.ids.now c.in_ok-ordered.ensures.same
