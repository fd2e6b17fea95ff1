use Rattle.std.proofs.Common.{◌≡◌, ℕ, List, map, vec_items, ap, sym, ◌∙◌, subst, eqb}
use Rattle.std.specs.List.{IsDistinct, flat_map, sum_by}
use Rattle.std.specs.List.Sorted.{IsPermutation}
use Rattle.std.proofs.lemmas.List.Folds.{flat_map-map}
use Rattle.std.proofs.lemmas.List.Sorted.{IsPermutation-map, IsPermutation-sym}
use Rattle.std.proofs.lemmas.Map.Keys.{sorted_from_strictly_increasing}
use Rattle.graph.specs.Partition.{joined}
use Rattle.inbox.specs.Merging.{IsBySource, all_of, sent_in, are_one, dropped_of}
use Rattle.inbox.specs.Merging.{inbox_of as letters_in}
use Rattle.superstep.specs.Superstep.{dropped_by, messages_to}
use Rattle.superstep.specs.Tasks.{VertexOutcome, outcomes_in}
use Rattle.superstep.specs.inside.Barrier.{IsSpread, left_id, left_ids}
use Rattle.superstep.proofs.Letters.{are_sent, drops_found, inbox_found, sent_by, spread_ids, spread_letters}
use Rattle.superstep.proofs.Spreading.{distinct_ids, found_in_order}
use Rattle.superstep.proofs.barrier_step.letters_are_spread.Goals as goal

module _ (c : goal.After-drops_add_up_over_sources) (lefts : List (List VertexOutcome)) (ordered : List VertexOutcome)
    (is : IsSpread (map vec_items c.args.ids.now) c.args.letters.now lefts ordered) where
  -- what all sent, one part after another
  all_letters : IsPermutation (flat_map (sent_by (joined lefts)) (left_ids (joined lefts))) (sent_in c.args.letters.now)
  all_letters = spread_letters _ _ lefts ordered is

  all_ids : all_of c.args.ids.now ≡ left_ids (joined lefts)
  all_ids = sym (flat_map-map (λ (list : List ℕ). list) vec_items c.args.ids.now) ∙ spread_ids _ _ lefts ordered is

  moved : IsPermutation (left_ids ordered) (left_ids (joined lefts))
  moved = IsPermutation-map left_id ordered (joined lefts) (IsPermutation-sym _ _ is.same)

  letters_apart : IsDistinct are_one (sent_in c.args.letters.now)
  letters_apart =
      c.letters_keep_their_order_in_any_lists.ensures.distinct _ _ all_letters
      (c.sources_send_in_any_order.ensures.distinct (left_ids ordered) (left_ids (joined lefts)) (sent_by (joined lefts))
      (are_sent (joined lefts)) (sorted_from_strictly_increasing (left_ids ordered) is.rising) moved)

  ids_apart : IsDistinct eqb (all_of c.args.ids.now)
  ids_apart = subst (λ xs. IsDistinct eqb xs) (sym all_ids) (distinct_ids (joined lefts) ordered is.rising is.same)

  in_order : IsBySource (sent_in c.args.letters.now) (flat_map (sent_by (joined lefts)) (left_ids ordered))
  in_order =
      c.letters_keep_their_order_in_any_lists.ensures.order _ _ _ all_letters
      (c.sources_send_in_any_order.ensures.ordered (left_ids ordered) (left_ids (joined lefts)) (sent_by (joined lefts))
      (are_sent (joined lefts)) (sorted_from_strictly_increasing (left_ids ordered) is.rising) moved)

  inbox_at : (id : ℕ) → letters_in (flat_map (sent_by (joined lefts)) (left_ids ordered)) id ≡ messages_to (outcomes_in ordered) id
  inbox_at id =
      c.inboxes_are_concatenated_by_source.ensures.inbox (left_ids ordered) (sent_by (joined lefts)) id
      ∙ inbox_found (joined lefts) ordered id (found_in_order (joined lefts) ordered is.rising is.same)

  all_dropped : dropped_of (sent_in c.args.letters.now) (all_of c.args.ids.now) ≡ sum_by (dropped_by (left_ids ordered)) (outcomes_in ordered)
  all_dropped =
      sym (c.letters_drop_alike_in_any_order.ensures.letters _ _ (all_of c.args.ids.now) all_letters)
      ∙ ap (dropped_of (flat_map (sent_by (joined lefts)) (left_ids (joined lefts)))) all_ids
      ∙ c.drops_add_up_over_sources.ensures (left_ids (joined lefts)) (sent_by (joined lefts)) (left_ids (joined lefts))
      ∙ drops_found (joined lefts) ordered (distinct_ids (joined lefts) ordered is.rising is.same) is.same (IsPermutation-sym _ _ moved)

pub returns-clause-apart : goal.returns-clause-apart
returns-clause-apart c = λ lefts ordered is. ids_apart c lefts ordered is

pub returns-clause-distinct : goal.returns-clause-distinct
returns-clause-distinct c = λ lefts ordered is. letters_apart c lefts ordered is

pub returns-clause-sent : goal.returns-clause-sent
returns-clause-sent c = λ lefts ordered is.
    (flat_map (sent_by (joined lefts)) (left_ids ordered), in_order c lefts ordered is, inbox_at c lefts ordered is)

pub returns-clause-dropped : goal.returns-clause-dropped
returns-clause-dropped c = λ lefts ordered is. all_dropped c lefts ordered is
