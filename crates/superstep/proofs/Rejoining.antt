-- What the parts left is what all vertices left.
use Rattle.std.proofs.Common.{◌≡◌, ℕ, zero, suc, ◌<◌, Bool, true, List, [], ◌∷◌, length, get_or, map, slice_get, Some, refl, ap, sym, ◌∙◌, subst}
use Rattle.std.specs.List.{AllByRecursion, range_with_len}
use Rattle.std.specs.List.Sorted.{IsPermutation, IsStrictlyIncreasing}
use Rattle.std.proofs.lemmas.List.{length-map}
use Rattle.std.proofs.lemmas.List.Elements.{recursion_from_All}
use Rattle.std.proofs.lemmas.List.Folds.{flat_map-map}
use Rattle.std.proofs.lemmas.List.FromFn.{fill_by_all, length-map-range_with_len}
use Rattle.std.proofs.lemmas.List.Sorted.{IsPermutation-map, IsPermutation-sym, IsPermutation-trans}
use Rattle.std.proofs.lemmas.Simd.{map-map}
use Rattle.semantics.specs.Call.{Outcome}
use Rattle.semantics.specs.Outcomes.{Given}
use Rattle.graph.specs.Entry.{Entry, id_at, ids, part_of_graph}
use Rattle.graph.specs.Partition.{joined, part_by, parts_by}
use Rattle.graph.specs.inside.Partitioned.{parts_whole}
use Rattle.graph.specs.inside.Rising.{rising_same}
use Rattle.superstep.specs.declared.barrier_step.Gathered.{Gathered}
use Rattle.superstep.specs.Snapshot.{Row, row_id, row_ids}
use Rattle.superstep.specs.Superstep.{all_left, left_by, row_after}
use Rattle.superstep.specs.PlainRun.{first_row, state_at}
use Rattle.superstep.specs.Job.{IsGraphOf, Meaning, Work}
use Rattle.job_state.specs.Stamps.{DoneStamp}
use Rattle.superstep.specs.Tasks.{AreTrusted, IsRow, VertexOutcome, letters_of, part_rows}
use Rattle.superstep.specs.inside.Barrier.{IsGathered, IsPartLeft, IsSpread, PartLeft, left_id, left_ids, spread}
use Rattle.superstep.proofs.Graphs.{whole}
use Rattle.superstep.proofs.Letters.{joined_map}
use Rattle.superstep.proofs.Spreading.{at_id, found_moved, ids_found}

-- ---- by the number of the part

abbrev pub part_left : PartLeft → List VertexOutcome
part_left part = part.1

abbrev part_number : PartLeft → ℕ
part_number part = part.0.part

by_number : {X : Type 0} (f : PartLeft → X) (F : ℕ → X) (parts : List PartLeft) → AllByRecursion (λ part. f part ≡ F (part_number part)) parts
    → map f parts ≡ map F (map part_number parts)
by_number f F [] all = refl
by_number f F (part ∷ parts) all = ap (λ x. x ∷ map f parts) all.0 ∙ ap (λ rest. F (part_number part) ∷ rest) (by_number f F parts all.1)

numbers : (s count : ℕ) (dones : List DoneStamp) (parts : List PartLeft) → map (λ (part : PartLeft). part.0) parts ≡ dones → IsRow count s dones
    → map part_number parts ≡ range_with_len 0 count
numbers s count dones parts stamps row =
    sym (map-map (λ (done : DoneStamp). done.part) (λ (part : PartLeft). part.0) parts)
    ∙ ap (map (λ (done : DoneStamp). done.part)) stamps ∙ row.in_order

-- ---- the ids

got : {X : Type 0} (xs : List X) (k : ℕ) (x d : X) → slice_get xs k ≡ Some x → get_or xs k d ≡ x
got [] k x d is = cc
got (y ∷ xs) zero x d is = cc
got (y ∷ xs) (suc k) x d is = got xs k x d is

each_fits : (work : Work) (honest : ℕ → Bool) (parts : List PartLeft) → AllByRecursion (IsPartLeft work honest) parts
    → AllByRecursion (λ part. left_ids part.1 ≡ get_or (map ids work.parts) (part_number part) []) parts
each_fits work honest [] all = tt
each_fits work honest (part ∷ parts) all =
    (sym (got (map ids work.parts) (part_number part) (left_ids part.1) [] all.0.fits), each_fits work honest parts all.1)

in_places : {X : Type 0} (xs : List X) (count : ℕ) (d : X) → length xs ≡ count → map (λ k. get_or xs k d) (range_with_len 0 count) ≡ xs
in_places xs count d long = sym (fill_by_all (λ k. get_or xs k d) xs count d long (λ k below. refl))

many_parts : (work : Work) (graph : List Entry) → IsGraphOf work graph → length (map ids work.parts) ≡ work.settings.parts
many_parts work graph is =
    length-map work.parts ids ∙ ap length is.parts ∙ length-map-range_with_len (part_of_graph work.settings.parts graph) 0 work.settings.parts

pub parts_ids : (work : Work) (honest : ℕ → Bool) (s : ℕ) (dones : List DoneStamp) (gathered : Gathered) (graph : List Entry) → IsGraphOf work graph
    → (is : IsGathered work honest dones gathered) → IsRow work.settings.parts s dones
    → map (λ (part : PartLeft). left_ids part.1) is.parts ≡ map ids work.parts
parts_ids work honest s dones gathered graph is_graph is row =
    by_number (λ part. left_ids part.1) (λ k. get_or (map ids work.parts) k []) is.parts (each_fits work honest is.parts is.each)
    ∙ ap (map (λ k. get_or (map ids work.parts) k [])) (numbers s work.settings.parts dones is.parts is.stamps row)
    ∙ in_places (map ids work.parts) work.settings.parts [] (many_parts work graph is_graph)

pub joined_spread : (parts : List PartLeft) → joined (map part_left parts) ≡ spread parts
joined_spread parts = flat_map-map (λ (left : List VertexOutcome). left) part_left parts

-- all of them have the ids of the graph
pub all_ids : (work : Work) (honest : ℕ → Bool) (s : ℕ) (dones : List DoneStamp) (gathered : Gathered) (graph : List Entry) → 0 < work.settings.parts
    → IsGraphOf work graph → (is : IsGathered work honest dones gathered) → IsRow work.settings.parts s dones
    → IsPermutation (left_ids (joined (map part_left is.parts))) (ids graph)
all_ids work honest s dones gathered graph some is_graph is row =
    let same : left_ids (joined (map part_left is.parts)) ≡ ids (joined work.parts) =
    sym (joined_map left_id (map part_left is.parts))
    ∙ ap joined (map-map left_ids part_left is.parts ∙ parts_ids work honest s dones gathered graph is_graph is row)
    ∙ joined_map id_at work.parts in
    subst (λ numbers. IsPermutation numbers (ids graph)) (sym same)
    (IsPermutation-map id_at (joined work.parts) graph (whole work graph some is_graph))

-- what all left, by rising id
abbrev pub ordered : List PartLeft → List Entry → List VertexOutcome
ordered parts graph = map (at_id (joined (map part_left parts))) (ids graph)

pub is_spread : (work : Work) (honest : ℕ → Bool) (s : ℕ) (dones : List DoneStamp) (gathered : Gathered) (numbers : List (List ℕ)) (graph : List Entry) → 0 < work.settings.parts
    → IsGraphOf work graph → (is : IsGathered work honest dones gathered) → IsRow work.settings.parts s dones
    → numbers ≡ map ids work.parts
    → IsSpread numbers gathered.letters.items (map part_left is.parts) (ordered is.parts graph)
is_spread work honest s dones gathered numbers graph some is_graph is row own = record {
  ids = own ∙ sym (parts_ids work honest s dones gathered graph is_graph is row) ∙ sym (map-map left_ids part_left is.parts);
  letters = subst (λ left. IsPermutation (letters_of left) (joined gathered.letters.items)) (sym (joined_spread is.parts)) is.letters;
  same = found_moved (joined (map part_left is.parts)) (ids graph) is_graph.proper.rising (all_ids work honest s dones gathered graph some is_graph is row);
  rising = subst (λ numbers. IsStrictlyIncreasing numbers) (sym (ids_found (joined (map part_left is.parts)) (ids graph))) is_graph.proper.rising;
}

-- ---- where each state is the job's

-- the ids of what stands before a superstep are those of the graph
pub state_ids : (outcomes : Given → Outcome) (graph : List Entry) (s : ℕ) → row_ids (state_at outcomes graph s) ≡ ids graph
unfolding state_at
state_ids outcomes graph zero = map-map row_id first_row graph
state_ids outcomes graph (suc s) =
    let before = state_at outcomes graph s in
    map-map row_id (λ row. row_after (all_left outcomes s before) row (left_by outcomes s before row)) before.rows ∙ state_ids outcomes graph s

-- what the vertex of a row leaves
abbrev pub leaving : {work : Work} → Meaning work → ℕ → Row → VertexOutcome
leaving meaning s row = (row.id, left_by meaning.outcomes s (state_at meaning.outcomes meaning.graph s) row)

abbrev rows_at : {work : Work} → Meaning work → ℕ → List Row
rows_at meaning s = (state_at meaning.outcomes meaning.graph s).rows

abbrev left_at : (work : Work) → Meaning work → ℕ → ℕ → List VertexOutcome
left_at work meaning s part = map (leaving meaning s) (part_rows work.settings.parts (state_at meaning.outcomes meaning.graph s) part)

each_left : (work : Work) (honest : ℕ → Bool) (meaning : Meaning work) (s : ℕ) (parts : List PartLeft)
    → AllByRecursion (λ (done : DoneStamp). honest done.epoch ≡ true) (map (λ (part : PartLeft). part.0) parts)
    → AllByRecursion (IsPartLeft work honest) parts → AllByRecursion (λ (done : DoneStamp). done.superstep ≡ s) (map (λ (part : PartLeft). part.0) parts)
    → AllByRecursion (λ part. part.1 ≡ left_at work meaning s (part_number part)) parts
each_left work honest meaning s [] sure all at = tt
each_left work honest meaning s (part ∷ parts) sure all at =
    (subst (λ t. part.1 ≡ left_at work meaning t (part_number part)) at.0 (all.0.at sure.0 meaning), each_left work honest meaning s parts sure.1 all.1 at.1)

parts_left : (work : Work) (honest : ℕ → Bool) (s : ℕ) (dones : List DoneStamp) (gathered : Gathered) (meaning : Meaning work) → AreTrusted honest dones
    → (is : IsGathered work honest dones gathered) → IsRow work.settings.parts s dones
    → map part_left is.parts ≡ map (map (leaving meaning s)) (parts_by row_id work.settings.parts (rows_at meaning s))
parts_left work honest s dones gathered meaning sure is row =
    let at = subst (λ stamps. AllByRecursion (λ (done : DoneStamp). done.superstep ≡ s) stamps) (sym is.stamps) (recursion_from_All _ dones row.supersteps) in
    let trusted = subst (λ stamps. AllByRecursion (λ (done : DoneStamp). honest done.epoch ≡ true) stamps) (sym is.stamps) (recursion_from_All _ dones sure) in
    by_number part_left (left_at work meaning s) is.parts (each_left work honest meaning s is.parts trusted is.each at)
    ∙ ap (map (left_at work meaning s)) (numbers s work.settings.parts dones is.parts is.stamps row)
    ∙ sym (map-map (map (leaving meaning s)) (part_by row_id work.settings.parts (rows_at meaning s)) (range_with_len 0 work.settings.parts))

-- by rising id, they are what the vertices of the rows leave
pub ordered_left : (work : Work) (honest : ℕ → Bool) (s : ℕ) (dones : List DoneStamp) (gathered : Gathered) (graph : List Entry) (meaning : Meaning work)
    → 0 < work.settings.parts → IsGraphOf work graph → AreTrusted honest dones → (is : IsGathered work honest dones gathered) → IsRow work.settings.parts s dones
    → ordered is.parts graph ≡ map (leaving meaning s) (rows_at meaning s)
ordered_left work honest s dones gathered graph meaning some is_graph sure is row =
    let rows = rows_at meaning s in
    let spread_out = is_spread work honest s dones gathered (map ids work.parts) graph some is_graph is row refl in
    let rejoined : joined (map part_left is.parts) ≡ map (leaving meaning s) (joined (parts_by row_id work.settings.parts rows)) =
    ap joined (parts_left work honest s dones gathered meaning sure is row) ∙ joined_map (leaving meaning s) (parts_by row_id work.settings.parts rows) in
    let moved : IsPermutation (joined (map part_left is.parts)) (map (leaving meaning s) rows) =
    subst (λ left. IsPermutation left (map (leaving meaning s) rows)) (sym rejoined)
    (IsPermutation-map (leaving meaning s) _ rows (parts_whole row_id work.settings.parts rows some)) in
    let same_ids : left_ids (map (leaving meaning s) rows) ≡ ids meaning.graph =
    map-map left_id (leaving meaning s) rows ∙ state_ids meaning.outcomes meaning.graph s in
    rising_same left_id (ordered is.parts graph) (map (leaving meaning s) rows) spread_out.rising
    (subst (λ numbers. IsStrictlyIncreasing numbers) (sym same_ids) meaning.is_graph.proper.rising)
    (IsPermutation-trans _ _ _ (IsPermutation-sym _ _ spread_out.same) moved)
