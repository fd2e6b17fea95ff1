-- What the calls of a part leave is what the rows of that part leave in the plain run.
use Rattle.std.proofs.Common.{◌≡◌, ℕ, ℤ, zero, suc, ◌<◌, ◌%◌, Bool, true, false, List, [], ◌∷◌, ◌++◌, length, get_or, map, filter, take, drop, cond, eqb, Some, refl, ap, sym, ◌∙◌, subst, arith, append-nil}
use Rattle.std.specs.List.{All}
use Rattle.std.proofs.lemmas.List.{drop_all, get_or-map, length-map, take_all}
use Rattle.std.proofs.lemmas.List.Elements.{All-filter}
use Rattle.std.proofs.lemmas.List.FromFn.{length-map-range_with_len}
use Rattle.std.proofs.lemmas.Option.{get_or_from_slice_get, slice_get_within}
use Rattle.std.proofs.lemmas.Simd.{map-map}
use Rattle.semantics.specs.Call.{Outcome}
use Rattle.semantics.specs.Outcomes.{AreOutcomes, Given}
use Rattle.graph.specs.declared.parts.Part.{Part}
use Rattle.graph.specs.Parts.{part_entries}
use Rattle.graph.specs.declared.vertex.Vertex.{Vertex}
use Rattle.graph.specs.Entry.{Entry, entries_of, id_at, ids, part_of_graph}
use Rattle.graph.specs.inside.Partitioned.{part_at}
use Rattle.inbox.specs.declared.letters.Letter.{Letter}
use Rattle.compute.specs.declared.part_output.PartOutput.{PartOutput}
use Rattle.job_state.specs.declared.state.VertexState.{VertexState}
use Rattle.superstep.specs.declared.task.Shared.{Shared}
use Rattle.superstep.specs.Snapshot.{Row, Snapshot}
use Rattle.job_state.specs.State.{capped, state_id}
use Rattle.superstep.specs.Superstep.{all_left, left_by, row_after, units_left}
use Rattle.superstep.specs.PlainRun.{first_row, state_at}
use Rattle.superstep.specs.Job.{HasGraph, IsCount, IsGraphOf, Meaning, Work}
use Rattle.superstep.specs.State.{bare}
use Rattle.job_state.specs.Stamps.{DoneStamp}
use Rattle.superstep.specs.Tasks.{AreAggregatesAt, AreUnitsAt, FitsPart, IsDone, IsLeftAt, IsPartAt, VertexOutcome, emptied, outcomes_in, part_rows}
use Rattle.superstep.specs.inside.Barrier.{left_id}
use Rattle.compute.specs.inside.PartOutput.{CallsPart, rows_of}
use Rattle.superstep.specs.inside.Called.{HasProperIds, Tells, left_in, row_of}

-- the rows have the ids and the edges of these entries
abbrev pub Follows : List Entry → List Row → Type 0
Follows [] [] = Unit {0}
Follows [] (row ∷ rows) = ⊥
Follows (entry ∷ entries) [] = ⊥
Follows (entry ∷ entries) (row ∷ rows) = (entry.id ≡ row.id) × (entry.edges ≡ row.edges) × Follows entries rows

follows_first : (graph : List Entry) → Follows graph (map first_row graph)
follows_first [] = tt
follows_first (entry ∷ graph) = (refl, refl, follows_first graph)

follows_after : (left : List Outcome) (by : Row → Outcome) (graph : List Entry) (rows : List Row) → Follows graph rows
    → Follows graph (map (λ row. row_after left row (by row)) rows)
follows_after left by [] [] follows = tt
follows_after left by [] (row ∷ rows) follows = follows
follows_after left by (entry ∷ graph) [] follows = follows
follows_after left by (entry ∷ graph) (row ∷ rows) follows = (follows.0, follows.1, follows_after left by graph rows follows.2)

pub follows_at : (outcomes : Given → Outcome) (graph : List Entry) (s : ℕ) → Follows graph (state_at outcomes graph s).rows
unfolding state_at
follows_at outcomes graph zero = follows_first graph
follows_at outcomes graph (suc s) =
    let before = state_at outcomes graph s in
    follows_after (all_left outcomes s before) (left_by outcomes s before) graph before.rows (follows_at outcomes graph s)

follows_filter : (p : ℕ → Bool) (graph : List Entry) (rows : List Row) → Follows graph rows
    → Follows (filter (λ (entry : Entry). p entry.id) graph) (filter (λ (row : Row). p row.id) rows)
follows_filter p [] [] follows = tt
follows_filter p [] (row ∷ rows) follows = absurd follows
follows_filter p (entry ∷ graph) [] follows = absurd follows
follows_filter p (entry ∷ graph) (row ∷ rows) follows =
    let kept = filter (λ (e : Entry). p e.id) graph in
    let left = filter (λ (r : Row). p r.id) rows in
    let more = follows_filter p graph rows follows.2 in
    subst (λ (id : ℕ). Follows (cond (p id) (entry ∷ kept) kept) (cond (p row.id) (row ∷ left) left)) (sym follows.0)
    (elim (p row.id) as (λ b. Follows (cond b (entry ∷ kept) kept) (cond b (row ∷ left) left)) [ true ↦ (follows.0, follows.1, more) | false ↦ more ])

pub follows_length : (graph : List Entry) (rows : List Row) → Follows graph rows → length graph ≡ length rows
follows_length [] [] follows = refl
follows_length [] (row ∷ rows) follows = absurd follows
follows_length (entry ∷ graph) [] follows = absurd follows
follows_length (entry ∷ graph) (row ∷ rows) follows = ap suc (follows_length graph rows follows.2)

follows_rows : (graph : List Entry) (rows : List Row) → Follows graph rows → rows_of graph (map bare rows) ≡ rows
follows_rows [] [] follows = refl
follows_rows [] (row ∷ rows) follows = absurd follows
follows_rows (entry ∷ graph) [] follows = absurd follows
follows_rows (entry ∷ graph) (row ∷ rows) follows =
    ap (λ (edges : List (ℕ × ℤ)). row_of (record { id = row.id; value = entry.value; edges = edges }) (bare row) ∷ rows_of graph (map bare rows)) follows.1
    ∙ ap (λ rest. row ∷ rest) (follows_rows graph rows follows.2)

-- where the graph's part stands in the job
entries_at : (work : Work) (graph : List Entry) (part : ℕ) → IsGraphOf work graph → part < length work.parts
    → get_or work.parts part [] ≡ part_of_graph work.settings.parts graph part
entries_at work graph part is below =
    let count = work.settings.parts in
    ap (λ (parts : List (List Entry)). get_or parts part []) is.parts
    ∙ part_at id_at count graph part [] (omega (arith, ap length is.parts, length-map-range_with_len (part_of_graph count graph) 0 count))

-- the rows of a part are its entries with its vertices
pub rows_here : (work : Work) (meaning : Meaning work) (s part : ℕ) (vertices : List VertexState) → part < length work.parts → IsPartAt work s part vertices
    → rows_of (get_or work.parts part []) vertices ≡ part_rows work.settings.parts (state_at meaning.outcomes meaning.graph s) part
rows_here work meaning s part vertices below at =
    let count = work.settings.parts in
    let rows = part_rows count (state_at meaning.outcomes meaning.graph s) part in
    ap (λ (entries : List Entry). rows_of entries vertices) (entries_at work meaning.graph part meaning.is_graph below)
    ∙ ap (λ (states : List VertexState). rows_of (part_of_graph count meaning.graph part) states) (at meaning)
    ∙ follows_rows (part_of_graph count meaning.graph part) rows
    (follows_filter (λ n. eqb (n % count) part) meaning.graph (state_at meaning.outcomes meaning.graph s).rows (follows_at meaning.outcomes meaning.graph s))

same_left : (outcomes : Given → Outcome) (shared : Shared) (before : Snapshot) (rows : List Row) → shared.count ≡ length before.rows
    → shared.aggregated ≡ before.aggregates
    → map {B = VertexOutcome} (λ (row : Row). (row.id, left_in outcomes shared row)) rows
    ≡ map {B = VertexOutcome} (λ (row : Row). (row.id, left_by outcomes shared.superstep before row)) rows
same_left outcomes shared before rows counted same = rw (counted, same) refl

pub left_here : (work : Work) (part : ℕ) (shared : Shared) (vertices : List VertexState) (left : List VertexOutcome) → part < length work.parts
    → IsCount work shared.count → AreAggregatesAt work shared.superstep shared.aggregated → IsPartAt work shared.superstep part vertices
    → ((outcomes : Given → Outcome) → AreOutcomes work.«module» outcomes → Tells shared.verified.now outcomes)
    → ((outcomes : Given → Outcome) → Tells shared.verified.now outcomes
    → left ≡ map (λ (row : Row). (row.id, left_in outcomes shared row)) (rows_of (get_or work.parts part []) vertices))
    → IsLeftAt work shared.superstep part left
left_here work part shared vertices left below counted aggregates at told is = λ meaning.
    let s = shared.superstep in
    let before = state_at meaning.outcomes meaning.graph s in
    let many : shared.count ≡ length before.rows =
    counted meaning.graph meaning.is_graph ∙ follows_length meaning.graph before.rows (follows_at meaning.outcomes meaning.graph s) in
    is meaning.outcomes (told meaning.outcomes meaning.are)
    ∙ same_left meaning.outcomes shared before (rows_of (get_or work.parts part []) vertices) many (aggregates meaning)
    ∙ ap (λ (rows : List Row). map (λ (row : Row). (row.id, left_by meaning.outcomes s before row)) rows) (rows_here work meaning s part vertices below at)

pub fits_below : (work : Work) (part : ℕ) (vertices : List VertexState) → FitsPart work part vertices → part < length work.parts
fits_below work part vertices fits =
    let there = slice_get_within (map ids work.parts) part (map state_id vertices) fits in
    omega (arith, there, length-map work.parts ids)

-- a part that fits is one of those that the job keeps
pub below_here : (own work : Work) (parts : List Part) (part : ℕ) (vertices : List VertexState) → own ≡ work → map part_entries parts ≡ work.parts
    → FitsPart own part vertices → part < length parts
below_here own work parts part vertices which same fits =
    let all : map part_entries parts ≡ own.parts = same ∙ ap (λ (w : Work). w.parts) (sym which) in
    omega (arith, fits_below own part vertices fits, ap length all, length-map parts part_entries)

-- the entries of a part that the job keeps
pub entries_here : (own work : Work) (parts : List Part) (part : ℕ) (one : Part) (seen : List Vertex) (vertices : List VertexState) → own ≡ work
    → map part_entries parts ≡ work.parts → FitsPart own part vertices → one ≡ get_or parts part one → seen ≡ (get_or parts part one).vertices.items
    → entries_of seen ≡ get_or own.parts part []
entries_here own work parts part one seen vertices which same fits is read =
    let all : map part_entries parts ≡ own.parts = same ∙ ap (λ (w : Work). w.parts) (sym which) in
    ap entries_of read
    ∙ sym (get_or-map part_entries parts part one [] (below_here own work parts part vertices which same fits))
    ∙ ap (λ (lists : List (List Entry)). get_or lists part []) all

pub fits_ids : (work : Work) (part : ℕ) (vertices : List VertexState) → FitsPart work part vertices
    → ids (get_or work.parts part []) ≡ map state_id vertices
fits_ids work part vertices fits =
    sym (get_or-map ids work.parts part [] [] (fits_below work part vertices fits))
    ∙ get_or_from_slice_get (map ids work.parts) part (map state_id vertices) [] fits

pub proper_here : (work : Work) (part : ℕ) → HasGraph work → part < length work.parts → All HasProperIds (get_or work.parts part [])
proper_here work part graph below =
    let count = work.settings.parts in
    let all : All HasProperIds graph.0 = λ k d inside. record {
      id = graph.1.proper.ids_in_range k d inside;
      targets = graph.1.proper.targets_in_range k d inside;
    } in
    rw (entries_at work graph.0 part graph.1 below) (All-filter (λ (entry : Entry). eqb (entry.id % count) part) HasProperIds graph.0 all)

-- what the vertices leave has their ids
emptied_ids : (left : List VertexOutcome) → map state_id (map emptied left) ≡ map left_id left
emptied_ids [] = refl
emptied_ids (one ∷ left) = ap (λ numbers. one.0 ∷ numbers) (emptied_ids left)

pub fits_after : (work : Work) (part : ℕ) (before after : List VertexState) (left : List VertexOutcome) → FitsPart work part before → after ≡ map emptied left
    → map left_id left ≡ map state_id before → FitsPart work part after
fits_after work part before after left fits is same =
    fits ∙ ap Some (sym (ap (λ (states : List VertexState). map state_id states) is ∙ emptied_ids left ∙ same))

-- a whole vector, written as a slice
pub whole_slice : {X : Type 0} (old new : List X) (len : ℕ) → length new ≡ length old → len ≡ length old → take len (new ++ drop (length new) old) ≡ new
whole_slice {X} old new len same long =
    ap (λ (rest : List X). take len (new ++ rest)) (drop_all (length new) old (omega arith))
    ∙ ap (λ (xs : List X). take len xs) (append-nil new)
    ∙ take_all len new (omega arith)

-- What is kept of a part whose calls were run.
pub done_here : (work : Work) (honest : ℕ → Bool) (epoch part : ℕ) (shared : Shared) (before after : List VertexState) (all : PartOutput) → FitsPart work part before
    → CallsPart shared (get_or work.parts part []) before after all → (honest epoch ≡ true → IsPartAt work shared.superstep part before)
    → (honest epoch ≡ true → AreAggregatesAt work shared.superstep shared.aggregated) → IsCount work shared.count
    → ((outcomes : Given → Outcome) → AreOutcomes work.«module» outcomes → Tells shared.verified.now outcomes)
    → IsDone work honest (record { epoch = epoch; superstep = shared.superstep; part = part; units = all.units }) after all.letters all.aggregators
done_here work honest epoch part shared before after all fits calls at aggregates counted told = record {
  fits = fits_after work part before after calls.left fits calls.comes.vertices calls.ids;
  left = calls.left;
  comes = calls.comes;
  at = λ is. left_here work part shared before calls.left (fits_below work part before fits) counted (aggregates is) (at is) told calls.is;
}

-- its units are those of the calls
pub units_here : (work : Work) (honest : ℕ → Bool) (stamp : DoneStamp) (vertices : List VertexState) (letters : List Letter) (aggregators : List ℤ)
    → IsDone work honest stamp vertices letters aggregators → honest stamp.epoch ≡ true → AreUnitsAt work stamp.superstep stamp.part stamp.units
units_here work honest stamp vertices letters aggregators done sure = λ meaning.
    let before = state_at meaning.outcomes meaning.graph stamp.superstep in
    done.comes.units
    ∙ ap (λ (left : List VertexOutcome). capped (units_left (outcomes_in left))) (done.at sure meaning)
    ∙ ap (λ (outcomes : List Outcome). capped (units_left outcomes))
    (map-map (λ (one : VertexOutcome). one.1) (λ (row : Row). (row.id, left_by meaning.outcomes stamp.superstep before row)) (part_rows work.settings.parts before stamp.part))
