-- What the parts left, gathered part by part.
use Rattle.std.proofs.Common.{◌≡◌, ℕ, ℤ, ◌+◌, Bool, List, [], ◌∷◌, ◌++◌, map, Some, refl, ap, sym, ◌∙◌, arith, subst}
use Rattle.std.specs.List.{AllByRecursion}
use Rattle.std.specs.List.Sorted.{IsPermutation}
use Rattle.std.proofs.lemmas.List.{append-nil, map-append}
use Rattle.std.proofs.lemmas.List.Concat.{flat_map-append}
use Rattle.std.proofs.lemmas.List.Sorted.{IsPermutation-append, IsPermutation-refl}
use Rattle.std.proofs.lemmas.List.Sums.{sum_by-append}
use Rattle.semantics.specs.Call.{Outcome}
use Rattle.graph.specs.Partition.{joined}
use Rattle.inbox.specs.declared.letters.Letter.{Letter}
use Rattle.superstep.specs.declared.barrier_step.Gathered.{Gathered}
use Rattle.job_state.specs.declared.state.VertexState.{VertexState}
use Rattle.job_state.specs.State.{capped, state_id}
use Rattle.superstep.specs.Folds.{aggregated}
use Rattle.verified.specs.Aggregators.{aggregator_starts}
use Rattle.superstep.specs.Superstep.{contributions_of, units_left}
use Rattle.superstep.specs.Job.{Work}
use Rattle.job_state.specs.Stamps.{DoneStamp}
use Rattle.superstep.specs.Tasks.{IsDone, VertexOutcome, emptied, letters_from, letters_of, outcomes_in}
use Rattle.superstep.specs.inside.Barrier.{IsGathered, IsPartLeft, PartLeft, left_ids, spread}
use Rattle.superstep.specs.inside.Uniting.{united}
use Rattle.superstep.proofs.Aggregating.{contributions_joined}

each_append : {X : Type 0} (P : X → Type 0) (xs ys : List X) → AllByRecursion P xs → AllByRecursion P ys → AllByRecursion P (xs ++ ys)
each_append P [] ys all all' = all'
each_append P (x ∷ xs) ys all all' = (all.0, each_append P xs ys all.1 all')

pub emptied_ids : (left : List VertexOutcome) → map state_id (map emptied left) ≡ left_ids left
emptied_ids [] = refl
emptied_ids (one ∷ left) = ap (λ rest. one.0 ∷ rest) (emptied_ids left)

spread_more : (parts : List PartLeft) (part : PartLeft) → spread (parts ++ part ∷ []) ≡ spread parts ++ part.1
spread_more parts part =
    flat_map-append (λ (one : PartLeft). one.1) parts (part ∷ []) ∙ ap (λ xs. spread parts ++ xs) (append-nil part.1)

outcomes_more : (first second : List VertexOutcome) → outcomes_in (first ++ second) ≡ outcomes_in first ++ outcomes_in second
outcomes_more first second = map-append (λ (one : VertexOutcome). one.1) first second

aggregators_more : (first second : List VertexOutcome) → aggregated (contributions_of (outcomes_in (first ++ second)))
    ≡ united (aggregated (contributions_of (outcomes_in first))) (aggregated (contributions_of (outcomes_in second)))
aggregators_more first second =
    ap (λ outcomes. aggregated (contributions_of outcomes)) (outcomes_more first second) ∙ contributions_joined (outcomes_in first) (outcomes_in second)

units_more : (first second : List VertexOutcome) → units_left (outcomes_in (first ++ second)) ≡ units_left (outcomes_in first) + units_left (outcomes_in second)
units_more first second =
    ap units_left (outcomes_more first second) ∙ sum_by-append (λ (outcome : Outcome). outcome.units) (outcomes_in first) (outcomes_in second)

-- the letters of one more part, behind the others
letters_more : (parts : List PartLeft) (part : PartLeft) (old : List (List Letter)) (own : List Letter) (new : List (List Letter))
    → IsPermutation (letters_of (spread parts)) (joined old) → IsPermutation (letters_of part.1) own → new ≡ old ++ own ∷ []
    → IsPermutation (letters_of (spread (parts ++ part ∷ []))) (joined new)
letters_more parts part old own new before is more =
    subst (λ (lists : List (List Letter)). IsPermutation (letters_of (spread (parts ++ part ∷ []))) (joined lists)) (sym more)
    (subst (λ (xs : List Letter). IsPermutation (letters_of (spread (parts ++ part ∷ []))) xs)
    (sym (flat_map-append (λ (list : List Letter). list) old (own ∷ []) ∙ ap (λ (xs : List Letter). joined old ++ xs) (append-nil own)))
    (subst (λ (xs : List Letter). IsPermutation xs (joined old ++ own))
    (sym (ap letters_of (spread_more parts part) ∙ flat_map-append (λ (one : VertexOutcome). letters_from one.0 one.1) (spread parts) part.1))
    (IsPermutation-append _ _ _ _ before is)))

pub capped_sum : (a b : ℕ) → capped (capped a + capped b) ≡ capped (a + b)
capped_sum a b = omega arith

-- What one more part has goes behind the others.
pub record HasMore (old new : Gathered) (units : ℕ) (vertices : List VertexState) (letters : List Letter) (given : List ℤ) : Type 0 where
  pub more_vertices : new.vertices.items ≡ old.vertices.items ++ vertices ∷ []
  pub more_letters : new.letters.items ≡ old.letters.items ++ letters ∷ []
  pub more_aggregators : new.aggregators ≡ united old.aggregators given
  pub more_units : new.units ≡ capped (old.units + units)

pub gathered_more : (work : Work) (honest : ℕ → Bool) (dones : List DoneStamp) (done : DoneStamp) (old new : Gathered)
    (vertices : List VertexState) (letters : List Letter) (given : List ℤ)
    → IsGathered work honest dones old → IsDone work honest done vertices letters given
    → HasMore old new done.units vertices letters given
    → IsGathered work honest (dones ++ done ∷ []) new
gathered_more work honest dones done old new vertices letters given before is more =
    let part : PartLeft = (done, is.left) in
    let own_ids : map state_id vertices ≡ left_ids is.left = ap (map state_id) is.comes.vertices ∙ emptied_ids is.left in
    record {
      parts = before.parts ++ part ∷ [];
      stamps = map-append (λ (one : PartLeft). one.0) before.parts (part ∷ []) ∙ ap (λ xs. xs ++ done ∷ []) before.stamps;
      each = each_append (IsPartLeft work honest) before.parts (part ∷ []) before.each
          (record { fits = is.fits ∙ ap Some own_ids; at = is.at }, tt);
      vertices = more.more_vertices ∙ ap (λ xs. xs ++ vertices ∷ []) before.vertices
          ∙ ap (λ (own : List VertexState). map (λ (one : PartLeft). map emptied one.1) before.parts ++ own ∷ []) is.comes.vertices
          ∙ sym (map-append (λ (one : PartLeft). map emptied one.1) before.parts (part ∷ []));
      letters = letters_more before.parts part old.letters.items letters new.letters.items before.letters is.comes.letters more.more_letters;
      aggregators = more.more_aggregators ∙ ap (λ xs. united xs given) before.aggregators
          ∙ ap (united (aggregated (contributions_of (outcomes_in (spread before.parts))))) is.comes.aggregators
          ∙ sym (aggregators_more (spread before.parts) is.left)
          ∙ ap (λ left. aggregated (contributions_of (outcomes_in left))) (sym (spread_more before.parts part));
      units = more.more_units ∙ ap (λ n. capped (n + done.units)) before.units
          ∙ ap (λ n. capped (capped (units_left (outcomes_in (spread before.parts))) + n)) is.comes.units
          ∙ capped_sum (units_left (outcomes_in (spread before.parts))) (units_left (outcomes_in is.left))
          ∙ ap capped (sym (units_more (spread before.parts) is.left))
          ∙ ap (λ left. capped (units_left (outcomes_in left))) (sym (spread_more before.parts part));
    }

-- nothing is gathered yet
pub gathered_none : (work : Work) (honest : ℕ → Bool) (gathered : Gathered) → gathered.vertices.items ≡ []
    → gathered.letters.items ≡ [] → gathered.aggregators ≡ aggregator_starts → gathered.units ≡ 0 → IsGathered work honest [] gathered
gathered_none work honest gathered no_vertices no_letters aggregators units = record {
  parts = [];
  stamps = refl;
  each = tt;
  vertices = no_vertices;
  letters = subst (λ xs. IsPermutation [] (joined xs)) (sym no_letters) (IsPermutation-refl []);
  aggregators = aggregators;
  units = units;
}
