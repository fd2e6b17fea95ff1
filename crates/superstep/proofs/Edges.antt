-- The edges of a job's graph, part by part.
use Rattle.std.proofs.Common.{◌≡◌, ◌+◌, ◌-◌, ◌^◌, ◌<◌, ◌∙◌, ℕ, List, [], ◌∷◌, ap, arith, get_or, length, map, min, None, refl, sym, take}
use Rattle.std.specs.Prelude.{sum_by}
use Rattle.std.proofs.lemmas.List.Sorted.{sum_by-IsPermutation}
use Rattle.std.proofs.lemmas.List.Sums.{sum_by-append, sum_by-cons, sum_by_more}
use Rattle.graph.specs.Entry.{Entry, edge_count, entries_of, entry_of}
use Rattle.graph.specs.Parts.{part_entries}
use Rattle.graph.specs.Partition.{joined}
use Rattle.graph.specs.declared.parts.Part.{Part}
use Rattle.graph.specs.declared.vertex.Vertex.{Vertex}
use Rattle.superstep.specs.Job.{IsGraphOf, Work}
use Rattle.job_state.specs.Settings.{first_bad}
use Rattle.superstep.specs.inside.Opening.{edges_at}
use Rattle.superstep.proofs.Graphs.{some_parts, whole}

abbrev pub edges_of : Part → ℕ
edges_of part = sum_by edges_at part.vertices.items

abbrev edges_from : Entry → ℕ
edges_from entry = length entry.edges

-- a sum with a limit, with one more term
pub sum_more : {X : Type 0} (f : X → ℕ) (xs : List X) (i : ℕ) (x : X) (old term new : ℕ) → i < length xs → x ≡ get_or xs i x
    → old ≡ min (sum_by f (take i xs)) (2 ^ 64 - 1) → term ≡ min (f x) (2 ^ 64 - 1) → new ≡ min (old + term) (2 ^ 64 - 1)
    → new ≡ min (sum_by f (take (i + 1) xs)) (2 ^ 64 - 1)
sum_more f xs i x old term new below is was here told =
    let more : sum_by f (take (i + 1) xs) ≡ sum_by f (take i xs) + f x =
    sum_by_more f xs i x below ∙ ap (λ y. sum_by f (take i xs) + f y) (sym is) in
    omega arith

edges_entries : (vertices : List Vertex) → sum_by edges_at vertices ≡ edge_count (entries_of vertices)
edges_entries [] = refl
edges_entries (vertex ∷ vertices) =
    sum_by-cons edges_at vertex vertices
    ∙ ap (λ n. edges_at vertex + n) (edges_entries vertices)
    ∙ sym (sum_by-cons edges_from (entry_of vertex) (entries_of vertices))

edges_joined : (parts : List Part) → sum_by edges_of parts ≡ edge_count (joined (map part_entries parts))
edges_joined [] = refl
edges_joined (part ∷ parts) =
    sum_by-cons edges_of part parts
    ∙ ap (λ n. edges_of part + n) (edges_joined parts)
    ∙ ap (λ n. n + edge_count (joined (map part_entries parts))) (edges_entries part.vertices.items)
    ∙ sym (sum_by-append edges_from (part_entries part) (joined (map part_entries parts)))

-- the edges of all parts are those of the graph
pub edges_whole : (work : Work) (graph : List Entry) (parts : List Part) → first_bad work.settings ≡ None → IsGraphOf work graph → map part_entries parts ≡ work.parts
    → sum_by edges_of parts ≡ edge_count graph
edges_whole work graph parts good is same =
    edges_joined parts
    ∙ ap (λ (lists : List (List Entry)). edge_count (joined lists)) same
    ∙ sym (sum_by-IsPermutation edges_from (joined work.parts) graph (whole work graph (some_parts work.settings good) is))
