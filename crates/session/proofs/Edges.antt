-- How many edges vertices have.
use Rattle.std.proofs.Common.{◌≡◌, ◌∙◌, ◌+◌, ℕ, List, [], ◌∷◌, length, refl, ap, sym}
use Rattle.std.specs.Prelude.{sum_by}
use Rattle.std.proofs.lemmas.List.Sums.{sum_by-cons}
use Rattle.graph.specs.declared.vertex.Vertex.{Vertex}
use Rattle.graph.specs.Entry.{Entry, edge_count, entries_of, entry_of}

abbrev pub edges_at : Vertex → ℕ
edges_at vertex = length vertex.edges.items

pub edge_count-entries : (vertices : List Vertex) → edge_count (entries_of vertices) ≡ sum_by edges_at vertices
edge_count-entries [] = refl
edge_count-entries (vertex ∷ vertices) =
    sum_by-cons (λ (entry : Entry). length entry.edges) (entry_of vertex) (entries_of vertices)
    ∙ ap (λ n. length vertex.edges.items + n) (edge_count-entries vertices)
    ∙ sym (sum_by-cons edges_at vertex vertices)
