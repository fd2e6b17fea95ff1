-- The state after a superstep.
use Rattle.std.proofs.Common.{◌≡◌, ℕ, ℤ, suc, ◌+◌, ◌-◌, ◌^◌, ◌<◌, ◌≤◌, Bool, None, not, List, [], ◌∷◌, ◌++◌, length, map, refl, ap, sym, ◌∙◌, subst, arith, length-append}
use Rattle.std.specs.List.{range_with_len, sum, sum_by}
use Rattle.std.specs.List.Sorted.{IsPermutation, IsStrictlyIncreasing}
use Rattle.std.proofs.lemmas.List.{length-map}
use Rattle.std.proofs.lemmas.List.FromFn.{map-range_with_len_more}
use Rattle.std.proofs.lemmas.List.Sorted.{IsPermutation-map, sum_by-IsPermutation}
use Rattle.std.proofs.lemmas.List.Sums.{sum_by_push}
use Rattle.std.proofs.lemmas.Simd.{map-map}
use Rattle.semantics.specs.Call.{Outcome}
use Rattle.graph.specs.Entry.{ids}
use Rattle.graph.specs.Partition.{joined}
use Rattle.superstep.specs.declared.barrier_step.Gathered.{Gathered}
use Rattle.job_state.specs.declared.state.VertexState.{VertexState}
use Rattle.job_state.specs.declared.totals.Totals.{Totals}
use Rattle.job_state.specs.State.{IsState, capped, in_order, state_id}
use Rattle.superstep.specs.Folds.{aggregated}
use Rattle.superstep.specs.Snapshot.{row_ids}
use Rattle.superstep.specs.Superstep.{all_left, contributions_of, dropped_by, messages_to, left_by, row_after, units_left}
use Rattle.superstep.specs.PlainRun.{state_at, units_at}
use Rattle.superstep.specs.Job.{HasGraph, IsGraphOf, Meaning, Work}
use Rattle.job_state.specs.Settings.{first_bad}
use Rattle.job_state.specs.Ordering.{by_key}
use Rattle.superstep.specs.State.{HasIdsOf, ShowsAt, bare}
use Rattle.job_state.specs.Stamps.{DoneStamp}
use Rattle.superstep.specs.Tasks.{AreTrusted, IsRow, VertexOutcome, emptied, outcomes_in}
use Rattle.job_state.specs.Totals.{AreTotals, standing_of}
use Rattle.superstep.specs.Totals.{SumsAt}
use Rattle.job_state.specs.inside.Following.{Follows}
use Rattle.job_state.specs.inside.Filled.{filled}
use Rattle.superstep.specs.inside.Barrier.{IsGathered, IsSpread, all_filled, left_id, left_ids}
use Rattle.job_state.specs.inside.Rows.{IsKept}
use Rattle.superstep.proofs.Aggregating.{contributions_permuted}
use Rattle.superstep.proofs.Graphs.{few_states, lie_in_parts, one_graph, some_parts}
use Rattle.superstep.proofs.Letters.{joined_map}
use Rattle.job_state.proofs.Ordering.{by_key_is}
use Rattle.superstep.proofs.Rejoining.{is_spread, joined_spread, leaving, ordered, ordered_left, part_left, parts_ids}
use Rattle.superstep.proofs.Spreading.{ids_found}

-- ---- vertices

-- a vertex as it left itself, with its inbox
abbrev pub closed : (ℕ → List ℤ) → VertexOutcome → VertexState
closed inbox one = record { id = one.0; value = one.1.value; active = not one.1.halted; inbox = inbox one.0 }

part_filled : (inbox : ℕ → List ℤ) (left : List VertexOutcome) → filled (map emptied left, map inbox (left_ids left)) ≡ map (closed inbox) left
part_filled inbox [] = refl
part_filled inbox (one ∷ left) = ap (λ rest. closed inbox one ∷ rest) (part_filled inbox left)

parts_filled : (inbox : ℕ → List ℤ) (lefts : List (List VertexOutcome))
    → all_filled (map (map emptied) lefts) (map (λ left. map inbox (left_ids left)) lefts) ≡ map (map (closed inbox)) lefts
parts_filled inbox [] = refl
parts_filled inbox (left ∷ lefts) =
    ap (λ own. own ∷ all_filled (map (map emptied) lefts) (map (λ other. map inbox (left_ids other)) lefts)) (part_filled inbox left)
    ∙ ap (λ rest. map (closed inbox) left ∷ rest) (parts_filled inbox lefts)

-- there is an inbox for each vertex
pub along : (inbox : ℕ → List ℤ) (lefts : List (List VertexOutcome)) → map length (map (map emptied) lefts) ≡ map length (map (λ left. map inbox (left_ids left)) lefts)
along inbox [] = refl
along inbox (left ∷ lefts) =
    let own : length (map emptied left) ≡ length (map inbox (left_ids left)) =
    length-map left emptied ∙ sym (length-map left left_id) ∙ sym (length-map (left_ids left) inbox) in
    (λ i. own i ∷ along inbox lefts i)

pub closed_ids : (inbox : ℕ → List ℤ) (left : List VertexOutcome) → map state_id (map (closed inbox) left) ≡ left_ids left
closed_ids inbox left = map-map state_id (closed inbox) left

parts_closed_ids : (inbox : ℕ → List ℤ) (lefts : List (List VertexOutcome)) → map (map state_id) (map (map (closed inbox)) lefts) ≡ map left_ids lefts
parts_closed_ids inbox [] = refl
parts_closed_ids inbox (left ∷ lefts) =
    ap (λ own. own ∷ map (map state_id) (map (map (closed inbox)) lefts)) (closed_ids inbox left)
    ∙ ap (λ rest. left_ids left ∷ rest) (parts_closed_ids inbox lefts)

-- the vertices of all parts, by rising id
closed_in_order : (inbox : ℕ → List ℤ) (lefts : List (List VertexOutcome)) (ordered : List VertexOutcome) → IsPermutation (joined lefts) ordered
    → IsStrictlyIncreasing (left_ids ordered) → in_order (map (map (closed inbox)) lefts) ≡ map (closed inbox) ordered
closed_in_order inbox lefts ordered same rising =
    ap (by_key state_id) (joined_map (closed inbox) lefts)
    ∙ by_key_is state_id (map (closed inbox) (joined lefts)) (map (closed inbox) ordered) (IsPermutation-map (closed inbox) (joined lefts) ordered same)
    (subst (λ numbers. IsStrictlyIncreasing numbers) (sym (closed_ids inbox ordered)) rising)

-- ---- sums

told_more : (old new : Totals) (took lost : ℕ) → AreTotals old → Follows took lost old new → new.since + length new.by_superstep.items ≡ new.superstep
told_more old new took lost are later = omega (arith, are.told, later.superstep, later.since, ap length later.by_superstep, length-append old.by_superstep.items (took ∷ []))

sum_more : (old new : Totals) (took lost : ℕ) → Follows took lost old new → sum new.by_superstep.items ≡ sum old.by_superstep.items + took
sum_more old new took lost later = ap sum later.by_superstep ∙ sum_by_push (λ n. n) old.by_superstep.items took

capped_low : (told total took : ℕ) → capped told ≤ total → capped (told + took) ≤ capped (total + took)
capped_low told total took low = omega arith

capped_more : (told took : ℕ) → capped (capped told + took) ≡ capped (told + took)
capped_more told took = omega arith

pub totals_more : (old new : Totals) (took lost : ℕ) → AreTotals old → Follows took lost old new → AreTotals new
totals_more old new took lost are later = record {
  told = told_more old new took lost are later;
  least = rw (sum_more old new took lost later, later.units) (capped_low (sum old.by_superstep.items) old.units took are.least);
  all = λ since.
      later.units ∙ ap (λ n. capped (n + took)) (are.all (sym later.since ∙ since)) ∙ capped_more (sum old.by_superstep.items) took
      ∙ ap capped (sym (sum_more old new took lost later));
}

pub is_state : (totals : Totals) (aggregates : List ℤ) (vertices : List VertexState) → AreTotals totals → IsStrictlyIncreasing (map state_id vertices)
    → length vertices < 2 ^ 32 → IsState (standing_of totals aggregates vertices)
is_state totals aggregates vertices are rising few = record { rising = rising; few = few; told = are.told; least = are.least; all = are.all }

capped_inside : (before took : ℕ) → capped (before + capped took) ≡ capped (before + took)
capped_inside before took = omega arith

-- one superstep more is told
units_more : (f : ℕ → ℕ) (since s : ℕ) → since ≤ s → map f (range_with_len since (suc s - since)) ≡ map f (range_with_len since (s - since)) ++ f s ∷ []
units_more f since s up =
    let longer : suc s - since ≡ (s - since) + 1 = omega arith in
    ap (λ count. map f (range_with_len since count)) longer ∙ map-range_with_len_more f since (s - since) s (omega arith)

-- ---- where each state is the job's

aggregators_moved : (left moved : List VertexOutcome) → IsPermutation left moved → aggregated (contributions_of (outcomes_in left)) ≡ aggregated (contributions_of (outcomes_in moved))
aggregators_moved left moved same =
    contributions_permuted (outcomes_in left) (outcomes_in moved) (IsPermutation-map (λ (one : VertexOutcome). one.1) left moved same)

units_moved : (left moved : List VertexOutcome) → IsPermutation left moved → units_left (outcomes_in left) ≡ units_left (outcomes_in moved)
units_moved left moved same =
    sym (sum_by-IsPermutation (λ (outcome : Outcome). outcome.units) (outcomes_in left) (outcomes_in moved) (IsPermutation-map (λ (one : VertexOutcome). one.1) left moved same))

-- What the code makes of what all vertices left by rising id.
pub record IsNext (left : List VertexOutcome) (old new : Totals) (took lost : ℕ) (aggregates : List ℤ) (vertices : List VertexState) : Type 0 where
  pub took_all : took ≡ capped (units_left (outcomes_in left))
  pub lost_all : lost ≡ sum_by (dropped_by (left_ids left)) (outcomes_in left)
  pub given_all : aggregates ≡ aggregated (contributions_of (outcomes_in left))
  pub vertices_all : vertices ≡ map (closed (messages_to (outcomes_in left))) left
  pub later : Follows took lost old new
  pub sums : AreTotals old

pub next_shows : (work : Work) (meaning : Meaning work) (left : List VertexOutcome) (old new : Totals) (took lost : ℕ) (aggregates : List ℤ) (vertices : List VertexState)
    → left ≡ map (leaving meaning old.superstep) (state_at meaning.outcomes meaning.graph old.superstep).rows
    → IsNext left old new took lost aggregates vertices → SumsAt work meaning old
    → ShowsAt meaning.outcomes meaning.graph (suc old.superstep) (standing_of new aggregates vertices)
unfolding state_at
next_shows work meaning left old new took lost aggregates vertices from is at =
    let s = old.superstep in
    let before = state_at meaning.outcomes meaning.graph s in
    let outcomes : outcomes_in left ≡ all_left meaning.outcomes s before =
    ap outcomes_in from ∙ map-map (λ (one : VertexOutcome). one.1) (leaving meaning s) before.rows in
    let numbers : left_ids left ≡ row_ids before = ap left_ids from ∙ map-map left_id (leaving meaning s) before.rows in
    record {
      superstep = is.later.superstep ∙ omega arith;
      vertices = is.vertices_all
          ∙ (λ i. map (closed (messages_to (outcomes i))) (from i))
          ∙ map-map (closed (messages_to (all_left meaning.outcomes s before))) (leaving meaning s) before.rows
          ∙ sym (map-map bare (λ row. row_after (all_left meaning.outcomes s before) row (left_by meaning.outcomes s before row)) before.rows);
      aggregates = is.given_all ∙ ap (λ all. aggregated (contributions_of all)) outcomes;
      units = is.later.units ∙ (λ i. capped (at.units i + is.took_all i))
          ∙ capped_inside before.units (units_left (outcomes_in left)) ∙ ap (λ all. capped (before.units + units_left all)) outcomes;
      dropped = is.later.dropped ∙ (λ i. capped (at.dropped i + is.lost_all i))
          ∙ (λ i. capped (before.dropped + sum_by (dropped_by (numbers i)) (outcomes i)));
      by_superstep = is.later.by_superstep
          ∙ (λ i. at.by_superstep i ++ is.took_all i ∷ [])
          ∙ ap (λ all. map (units_at meaning.outcomes meaning.graph) (range_with_len old.since (s - old.since)) ++ capped (units_left all) ∷ []) outcomes
          ∙ sym (units_more (units_at meaning.outcomes meaning.graph) old.since s (omega (arith, is.sums.told)))
          ∙ ap (λ since. map (units_at meaning.outcomes meaning.graph) (range_with_len since (suc s - since))) (sym is.later.since);
    }

-- ---- the barrier

-- What it begins with, and what the parts left.
pub record IsReady (work now : Work) (honest : ℕ → Bool) (totals : Totals) (dones : List DoneStamp) (gathered : Gathered) : Type 0 where
  pub job : work ≡ now
  pub good : first_bad now.settings ≡ None
  pub graph : HasGraph now
  pub row : IsRow now.settings.parts totals.superstep dones
  pub sums : AreTotals totals
  pub parts : IsGathered work honest dones gathered

module _ (work now : Work) (honest : ℕ → Bool) (totals : Totals) (dones : List DoneStamp) (gathered : Gathered) (ready : IsReady work now honest totals dones gathered) where
  own_graph : IsGraphOf work ready.graph.0
  own_graph = subst (λ (of : Work). IsGraphOf of ready.graph.0) (sym ready.job) ready.graph.1

  own_row : IsRow work.settings.parts totals.superstep dones
  own_row = subst (λ (of : Work). IsRow of.settings.parts totals.superstep dones) (sym ready.job) ready.row

  own_some : 0 < work.settings.parts
  own_some = subst (λ (of : Work). 0 < of.settings.parts) (sym ready.job) (some_parts now.settings ready.good)

  -- what the vertices of each part left, and all of them by rising id
  abbrev pub lefts : List (List VertexOutcome)
  lefts = map part_left ready.parts.parts

  abbrev pub all : List VertexOutcome
  all = ordered ready.parts.parts ready.graph.0

  pub spreads : (numbers : List (List ℕ)) → numbers ≡ map ids now.parts → IsSpread numbers gathered.letters.items lefts all
  spreads numbers own =
      is_spread work honest totals.superstep dones gathered numbers ready.graph.0 own_some own_graph ready.parts own_row
      (own ∙ ap (λ (of : Work). map ids of.parts) (sym ready.job))

  -- the vertices as they left themselves
  pub all_left_empty : gathered.vertices.items ≡ map (map emptied) lefts
  all_left_empty = ready.parts.vertices ∙ sym (map-map (map emptied) part_left ready.parts.parts)

  lies : IsSpread (map ids now.parts) gathered.letters.items lefts all
  lies = spreads (map ids now.parts) refl

  -- What is made of it.
  pub record IsMade (found : List (List (List ℤ))) (lost : ℕ) (parts : List (List VertexState)) (later : Totals) : Type 0 where
    pub inboxes : found ≡ map (λ left. map (messages_to (outcomes_in all)) (left_ids left)) lefts
    pub dropped : lost ≡ sum_by (dropped_by (left_ids all)) (outcomes_in all)
    pub fills : map length gathered.vertices.items ≡ map length found → parts ≡ all_filled gathered.vertices.items found
    pub follows : Follows gathered.units lost totals later

  module _ (found : List (List (List ℤ))) (lost : ℕ) (parts : List (List VertexState)) (later : Totals) (made : IsMade found lost parts later) where
    -- the vertices of each part, each with its inbox
    are_closed : parts ≡ map (map (closed (messages_to (outcomes_in all)))) lefts
    are_closed =
        let left = all_left_empty in
        let each = ap (map length) left ∙ along (messages_to (outcomes_in all)) lefts ∙ sym (ap (map length) made.inboxes) in
        made.fills each ∙ (λ i. all_filled (left i) (made.inboxes i)) ∙ parts_filled (messages_to (outcomes_in all)) lefts

    pub next : IsNext all totals later gathered.units lost gathered.aggregators (in_order parts)
    next =
        let is = ready.parts in
        let rejoined = sym (joined_spread is.parts) in
        record {
          took_all = is.units ∙ ap (λ left. capped (units_left (outcomes_in left))) rejoined ∙ ap capped (units_moved (joined lefts) all lies.same);
          lost_all = made.dropped;
          given_all = is.aggregators ∙ ap (λ left. aggregated (contributions_of (outcomes_in left))) rejoined ∙ aggregators_moved (joined lefts) all lies.same;
          vertices_all = ap in_order are_closed ∙ closed_in_order (messages_to (outcomes_in all)) lefts all lies.same lies.rising;
          later = made.follows;
          sums = ready.sums;
        }

    next_ids : map state_id (in_order parts) ≡ ids ready.graph.0
    next_ids =
        ap (map state_id) next.vertices_all ∙ closed_ids (messages_to (outcomes_in all)) all ∙ ids_found (joined lefts) (ids ready.graph.0)

    pub next_is_kept : IsKept (standing_of later gathered.aggregators (in_order parts)) parts
    next_is_kept = record {
      state = is_state later gathered.aggregators (in_order parts) (totals_more totals later gathered.units lost ready.sums made.follows)
          (subst (λ numbers. IsStrictlyIncreasing numbers) (sym next_ids) ready.graph.1.proper.rising)
          (few_states ready.graph.0 (in_order parts) ready.graph.1.limits next_ids);
      parts = lie_in_parts work ready.graph.0 parts own_graph
          (ap (map (map state_id)) are_closed ∙ parts_closed_ids (messages_to (outcomes_in all)) lefts ∙ map-map left_ids part_left ready.parts.parts
          ∙ parts_ids work honest totals.superstep dones gathered ready.graph.0 own_graph ready.parts own_row);
    }

    pub next_is_at : AreTrusted honest dones → (meaning : Meaning work) → SumsAt work meaning totals
        → ShowsAt meaning.outcomes meaning.graph (suc totals.superstep) (standing_of later gathered.aggregators (in_order parts))
    next_is_at sure meaning at =
        next_shows work meaning all totals later gathered.units lost gathered.aggregators (in_order parts)
        (ordered_left work honest totals.superstep dones gathered ready.graph.0 meaning own_some own_graph sure ready.parts own_row) next at

    pub next_has_ids : HasIdsOf now (standing_of later gathered.aggregators (in_order parts))
    next_has_ids = λ other is. next_ids ∙ ap ids (one_graph now ready.graph.0 other (some_parts now.settings ready.good) ready.graph.1 is)
