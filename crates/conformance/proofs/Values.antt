-- The ids of values that are taken of vertices.
use Rattle.std.proofs.Common.{◌≡◌, List, [], ◌∷◌, map, ℕ, ℤ, refl, ap}
use Rattle.std.specs.List.Sorted.{IsStrictlyIncreasing}
use Rattle.graph.specs.declared.vertex.Vertex.{Vertex}
use Rattle.graph.specs.Entry.{IsProper, entries_of, ids}
use Rattle.graph.specs.Print.{id_in}

abbrev pub values_of : List Vertex → List (ℕ × ℤ)
values_of vertices = map (λ vertex. (vertex.id, vertex.value)) vertices

same_ids : (vertices : List Vertex) → map id_in (values_of vertices) ≡ ids (entries_of vertices)
same_ids [] = refl
same_ids (vertex ∷ vertices) = ap (λ others. vertex.id ∷ others) (same_ids vertices)

pub rising_values : (vertices : List Vertex) (values : List (ℕ × ℤ)) → IsProper (entries_of vertices) → values ≡ values_of vertices → IsStrictlyIncreasing (map id_in values)
rising_values vertices values proper same = rw (ap (map id_in) same) (rw (same_ids vertices) proper.rising)
