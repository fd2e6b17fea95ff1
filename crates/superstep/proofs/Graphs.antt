-- A job's graph, by its parts.
use Rattle.std.proofs.Common.{◌≡◌, ◌^◌, Bool, ℕ, ◌+◌, ◌<◌, ◌≤◌, ◌∙◌, List, [], ◌∷◌, ◌++◌, Global, Vec, vec_items, None, ap, arith, eqb, filter, get_or, length, map, rules, subst, sym, take, ◌%◌}
use Rattle.std.specs.List.{All, AllByRecursion, range_with_len}
use Rattle.std.specs.List.Sorted.{IsPermutation, IsStrictlyIncreasing}
use Rattle.std.specs.Ordering.{nat_cmp}
use Rattle.std.proofs.lemmas.List.{length-map, map-append, take_more}
use Rattle.std.proofs.lemmas.List.Elements.{All-from_recursion}
use Rattle.std.proofs.lemmas.List.Kept.{IsStrictlySortedBy-filter}
use Rattle.std.proofs.lemmas.List.Sorted.{IsPermutation-sym, IsPermutation-trans}
use Rattle.std.proofs.lemmas.Map.Keys.{IsStrictlyIncreasing-from_sorted, sorted_from_strictly_increasing}
use Rattle.graph.proofs.Vertices.{ids_entries}
use Rattle.graph.specs.Entry.{Entry, FitsLimits, id_at, ids, vertex_id}
use Rattle.graph.specs.Parts.{part_entries}
use Rattle.graph.specs.declared.parts.Part.{Part}
use Rattle.graph.specs.Partition.{joined, part_by, parts_by}
use Rattle.graph.specs.inside.Partitioned.{parts_by-map, parts_whole}
use Rattle.graph.specs.inside.Rising.{rising_same}
use Rattle.superstep.specs.Job.{IsGraphOf, Work}
use Rattle.job_state.specs.Settings.{first_bad}
use Rattle.job_state.specs.State.{in_order, state_id}
use Rattle.job_state.specs.declared.state.VertexState.{VertexState}
use Rattle.job_state.specs.declared.settings.Settings.{Settings}
use Rattle.job_state.proofs.Ordering.{parts_are_kept}

-- there is a part
pub some_parts : (settings : Settings) → first_bad settings ≡ None → 0 < settings.parts
some_parts settings good = search rules

-- the graph is, but for the order, what stands in its parts
pub whole : (work : Work) (graph : List Entry) → 0 < work.settings.parts → IsGraphOf work graph → IsPermutation (joined work.parts) graph
whole work graph some is = rw is.parts (parts_whole id_at work.settings.parts graph some)

-- there is one graph with these parts
pub one_graph : (work : Work) (first second : List Entry) → 0 < work.settings.parts → IsGraphOf work first → IsGraphOf work second → first ≡ second
one_graph work first second some a b =
    rising_same id_at first second a.proper.rising b.proper.rising
    (IsPermutation-trans _ _ _ (IsPermutation-sym _ _ (whole work first some a)) (whole work second some b))

-- there are no more than 256 parts
pub few_parts : (settings : Settings) → first_bad settings ≡ None → settings.parts ≤ 256
few_parts settings good = search rules

-- a number of 32 bits counts vertices that have the graph's ids
pub few_states : (graph : List Entry) (vertices : List VertexState) → FitsLimits graph → map state_id vertices ≡ ids graph → length vertices < 2 ^ 32
few_states graph vertices limits same =
    omega (arith, limits.vertices, length-map vertices state_id, length-map graph id_at, ap length same)

ids_by_part : (work : Work) (graph : List Entry) → IsGraphOf work graph → map ids work.parts ≡ parts_by (λ n. n) work.settings.parts (ids graph)
ids_by_part work graph is = ap (map ids) is.parts ∙ parts_by-map id_at (λ n. n) work.settings.parts graph

rising_filter : (p : ℕ → Bool) (xs : List ℕ) → IsStrictlyIncreasing xs → IsStrictlyIncreasing (filter p xs)
rising_filter p xs up =
    IsStrictlyIncreasing-from_sorted (filter p xs) (IsStrictlySortedBy-filter nat_cmp p xs (sorted_from_strictly_increasing xs up))

parts_rise : (count : ℕ) (xs parts : List ℕ) → IsStrictlyIncreasing xs → AllByRecursion IsStrictlyIncreasing (map (part_by (λ n. n) count xs) parts)
parts_rise count xs [] up = tt
parts_rise count xs (part ∷ parts) up = (rising_filter (λ n. eqb (n % count) part) xs up, parts_rise count xs parts up)

each_rises : (lists : List (Vec ℕ Global)) → AllByRecursion IsStrictlyIncreasing (map vec_items lists) → AllByRecursion (λ list. IsStrictlyIncreasing list.items) lists
each_rises [] all = tt
each_rises (list ∷ lists) all = (all.0, each_rises lists all.1)

-- the ids of each part rise
pub ids_rise : (work : Work) (graph : List Entry) (numbers : List (Vec ℕ Global)) → IsGraphOf work graph → map vec_items numbers ≡ map ids work.parts
    → All (λ list. IsStrictlyIncreasing list.items) numbers
ids_rise work graph numbers is same =
    All-from_recursion (λ (list : Vec ℕ Global). IsStrictlyIncreasing list.items) numbers
    (each_rises numbers
    (subst (λ (lists : List (List ℕ)). AllByRecursion IsStrictlyIncreasing lists) (sym (same ∙ ids_by_part work graph is))
    (parts_rise work.settings.parts (ids graph) (range_with_len 0 work.settings.parts) is.proper.rising)))

-- vertices that lie as those of the job's parts lie in the parts that they belong to
pub lie_in_parts : (work : Work) (graph : List Entry) (parts : List (List VertexState)) → IsGraphOf work graph → map (map state_id) parts ≡ map ids work.parts
    → parts ≡ parts_by state_id (length parts) (in_order parts)
lie_in_parts work graph parts is same =
    parts_are_kept state_id work.settings.parts (ids graph) parts is.proper.rising (same ∙ ids_by_part work graph is)

-- the ids of one more part's vertices
pub numbered_more : (parts : List Part) (i : ℕ) (part : Part) (all : List (Vec ℕ Global)) (own : Vec ℕ Global) → i < length parts → part ≡ get_or parts i part
    → own.items ≡ map vertex_id part.vertices.items → map vec_items all ≡ map ids (map part_entries (take i parts))
    → map vec_items (all ++ own ∷ []) ≡ map ids (map part_entries (take (i + 1) parts))
numbered_more parts i part all own inside is mine before =
    let earlier = take i parts in
    map-append vec_items all (own ∷ [])
    ∙ (λ k. before k ++ (mine ∙ sym (ids_entries part.vertices.items)) k ∷ [])
    ∙ sym (map-append ids (map part_entries earlier) (part_entries part ∷ []))
    ∙ ap (map ids) (sym (map-append part_entries earlier (part ∷ [])))
    ∙ ap (λ xs. map ids (map part_entries xs)) (ap (λ x. earlier ++ x ∷ []) is ∙ sym (take_more parts i part inside))
