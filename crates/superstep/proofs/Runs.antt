-- A run on one machine, superstep after superstep.
use Rattle.std.proofs.Common.{◌≡◌, ℕ, ◌<◌, not, List, [], ◌∷◌, length, get_or, map, refl, ap, sym, ◌∙◌, arith}
use Rattle.std.specs.Prelude.{◌||◌}
use Rattle.std.specs.List.{list_any, range_with_len}
use Rattle.std.proofs.lemmas.List.{get_or-map, length-map}
use Rattle.std.proofs.lemmas.List.FromFn.{get_or-map-range_with_len, length-map-range_with_len}
use Rattle.superstep.specs.declared.ending.JobEnd.{JobEnd}
use Rattle.job_state.specs.declared.state.VertexState.{VertexState}
use Rattle.superstep.specs.Snapshot.{Row, Snapshot, is_called, is_quiet, values_of}
use Rattle.superstep.specs.PlainRun.{state_at}
use Rattle.superstep.specs.Job.{Meaning, Work}
use Rattle.job_state.specs.State.{Standing, is_due, is_settled}
use Rattle.superstep.specs.State.{IsStateAt, ShowsAt, bare}
use Rattle.job_state.specs.Stamps.{DoneStamp}
use Rattle.superstep.specs.Tasks.{IsRow, SliceStamp, stamps_of}
use Rattle.job_state.specs.declared.totals.Totals.{Totals}
use Rattle.job_state.specs.Totals.{IsTotalsOf}
use Rattle.superstep.specs.Totals.{SumsAt}
use Rattle.superstep.specs.Ending.{HasStopped, IsEndIn, IsEndOf, states_values}
use Rattle.superstep.specs.inside.Running.{slice_of}

abbrev stamp_at : ℕ → ℕ → ℕ → SliceStamp
stamp_at epoch s part = record { epoch = epoch; superstep = s; part = part }

at_stamp : (epoch count s k : ℕ) (d : SliceStamp) → k < count → (get_or (stamps_of epoch s count) k d).superstep ≡ s
at_stamp epoch count s k d below = ap (λ (one : SliceStamp). one.superstep) (get_or-map-range_with_len (stamp_at epoch s) 0 count k k d below (omega arith))

long_stamps : (epoch count s : ℕ) → length (stamps_of epoch s count) ≡ count
long_stamps epoch count s = length-map-range_with_len (stamp_at epoch s) 0 count

parts_of_dones : (dones : List DoneStamp) → map (λ (done : DoneStamp). done.part) dones ≡ map (λ (one : SliceStamp). one.part) (map slice_of dones)
parts_of_dones [] = refl
parts_of_dones (done ∷ dones) = ap (λ xs. done.part ∷ xs) (parts_of_dones dones)

parts_back : (epoch s : ℕ) (parts : List ℕ) → map (λ (one : SliceStamp). one.part) (map (stamp_at epoch s) parts) ≡ parts
parts_back epoch s [] = refl
parts_back epoch s (part ∷ parts) = ap (λ xs. part ∷ xs) (parts_back epoch s parts)

-- what comes back of the slices of a superstep is one for each part
pub is_row : (epoch count s : ℕ) (dones : List DoneStamp) → map slice_of dones ≡ stamps_of epoch s count → IsRow count s dones
is_row epoch count s dones is = record {
  supersteps = λ k d below.
      ap (λ (one : SliceStamp). one.superstep)
      (sym (get_or-map slice_of dones k d (slice_of d) below) ∙ ap (λ (xs : List SliceStamp). get_or xs k (slice_of d)) is)
      ∙ at_stamp epoch count s k (slice_of d) (omega (arith, below, length-map dones slice_of, ap length is, long_stamps epoch count s));
  in_order = parts_of_dones dones ∙ ap (map (λ (one : SliceStamp). one.part)) is ∙ parts_back epoch s (range_with_len 0 count);
}

-- what is summed up in a state is what stands in it
pub sums : (work : Work) (meaning : Meaning work) (state : Standing) (totals : Totals) → IsTotalsOf state totals
    → ShowsAt meaning.outcomes meaning.graph state.superstep state → SumsAt work meaning totals
sums work meaning state totals of at =
    let here = ap (λ n. state_at meaning.outcomes meaning.graph n) of.superstep in
    record {
      units = of.units ∙ at.units ∙ sym (ap (λ (snapshot : Snapshot). snapshot.units) here);
      dropped = of.dropped ∙ at.dropped ∙ sym (ap (λ (snapshot : Snapshot). snapshot.dropped) here);
      by_superstep = rw (of.since, of.superstep) (of.by_superstep ∙ at.by_superstep);
    }

settled_rows : (rows : List Row) → list_any is_due (map bare rows) ≡ list_any is_called rows
settled_rows [] = refl
settled_rows (row ∷ rows) = ap (λ b. is_called row || b) (settled_rows rows)

-- nothing is to be called in a state exactly where nothing is in what it shows
pub settled : (work : Work) (state : Standing) (meaning : Meaning work) → IsStateAt work state.superstep state
    → is_settled state ≡ is_quiet (state_at meaning.outcomes meaning.graph state.superstep)
settled work state meaning at =
    ap (λ (vertices : List VertexState). not (list_any is_due vertices)) (at meaning).vertices
    ∙ ap not (settled_rows (state_at meaning.outcomes meaning.graph state.superstep).rows)

values_shown : (rows : List Row) → states_values (map bare rows) ≡ map (λ (row : Row). (row.id, row.value)) rows
values_shown [] = refl
values_shown (row ∷ rows) = ap (λ xs. (row.id, row.value) ∷ xs) (values_shown rows)

-- where the run stops, it has what the job ends with
pub has_ended : (work : Work) (state : Standing) (ended : JobEnd) → IsEndIn state ended → HasStopped work state → IsEndOf work ended
has_ended work state ended is stops = λ meaning.
    let come = stops.come in
    let last = stops.last in
    let at = come.at meaning in
    let s = state.superstep in
    let here = ap (λ n. state_at meaning.outcomes meaning.graph n) is.superstep in
    record {
      answer = record {
        ends = record {
          within = rw is.superstep come.within;
          quiet = rw is.superstep (sym (settled work state meaning come.at) ∙ sym is.how);
          busy = rw is.superstep (come.busy meaning);
          last = λ unfinished. is.superstep ∙ last (sym is.how ∙ unfinished);
        };
        values = is.values ∙ ap states_values at.vertices ∙ values_shown (state_at meaning.outcomes meaning.graph s).rows ∙ sym (ap values_of here);
        units = is.units ∙ at.units ∙ sym (ap (λ (snapshot : Snapshot). snapshot.units) here);
        dropped = is.dropped ∙ at.dropped ∙ sym (ap (λ (snapshot : Snapshot). snapshot.dropped) here);
      };
      by_superstep = rw (is.since, is.superstep) (is.by_superstep ∙ at.by_superstep);
    }
