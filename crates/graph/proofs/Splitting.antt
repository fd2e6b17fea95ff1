-- Elements, one after another, in the parts that they belong to, and vertices in the parts of their graph.
use Rattle.std.proofs.Common.{◌≡◌, ℕ, ◌+◌, ◌%◌, ◌<◌, List, [], ◌∷◌, ◌++◌, Global, Vec, vec_items, length, get_or, map, set, ap, sym, ◌∙◌, arith}
use Rattle.std.specs.List.{flat_map, range_with_len}
use Rattle.std.specs.List.Sorted.{IsNonDecreasing, IsPermutation}
use Rattle.std.proofs.lemmas.List.{get_or-map, length-map, map-append, map-set}
use Rattle.std.proofs.lemmas.List.Folds.{flat_map-map}
use Rattle.std.proofs.lemmas.List.FromFn.{length-map-range_with_len, map-range_with_len_more}
use Rattle.std.proofs.lemmas.List.Sorted.{IsPermutation-map}
use Rattle.graph.specs.declared.parts.Part.{Part}
use Rattle.graph.specs.declared.vertex.Vertex.{Vertex}
use Rattle.graph.specs.Partition.{part_by, parts_by}
use Rattle.graph.specs.inside.Partitioned.{parts_by-map, parts_whole, parts-push}
use Rattle.graph.specs.Entry.{Entry, IsProper, entries_of, entry_of, id_at, parts_of, vertex_id}
use Rattle.graph.specs.Parts.{part_entries}
use Rattle.graph.specs.inside.Rising.{order_is}
use Rattle.graph.proofs.Vertices.{ids_entries}

-- a count of parts, all empty, and one more
pub empty_more : {X : Type 0} (key : X → ℕ) (count part : ℕ) (parts : List (Vec X Global)) (empty : Vec X Global)
    → map vec_items parts ≡ map (part_by key count []) (range_with_len 0 part) → empty.items ≡ []
    → map vec_items (parts ++ empty ∷ []) ≡ map (part_by key count []) (range_with_len 0 (part + 1))
empty_more {X} key count part parts empty before none =
    map-append vec_items parts (empty ∷ [])
    ∙ ap (λ xs. xs ++ vec_items empty ∷ []) before
    ∙ ap (λ (xs : List X). map (part_by key count []) (range_with_len 0 part) ++ xs ∷ []) none
    ∙ sym (map-range_with_len_more (part_by key count []) 0 part part (omega arith))

-- each element has its part
pub cut_room : {X : Type 0} (key : X → ℕ) (count : ℕ) (parts : List (Vec X Global)) (xs : List X) (place : ℕ)
    → map vec_items parts ≡ parts_by key count xs → place < count → place < length parts
cut_room key count parts xs place is below =
    omega (arith, length-map parts vec_items, ap length is, length-map-range_with_len (part_by key count xs) 0 count)

-- one element more, in its part
pub cut_next : {X : Type 0} (key : X → ℕ) (count place : ℕ) (parts : List (Vec X Global)) (old new : Vec X Global) (xs : List X) (x : X)
    → map vec_items parts ≡ parts_by key count xs → place ≡ key x % count → place < count
    → old ≡ get_or parts place old → new.items ≡ old.items ++ x ∷ []
    → map vec_items (set parts place new) ≡ parts_by key count (xs ++ x ∷ [])
cut_next key count place parts old new xs x before at below is pushed =
    let room : place < length parts = cut_room key count parts xs place before below in
    let there : get_or (map vec_items parts) place [] ≡ old.items = get_or-map vec_items parts place old [] room ∙ ap vec_items (sym is) in
    map-set vec_items parts place new
    ∙ ap (λ ys. set (map vec_items parts) place ys) (pushed ∙ ap (λ ys. ys ++ x ∷ []) (sym there))
    ∙ ap (λ yss. set yss place (get_or yss place [] ++ x ∷ [])) before
    ∙ rw at (parts-push key count xs x (rw at at below))

-- the parts of a graph
pub split_is : (count : ℕ) (split : List Part) (parts : List (Vec Vertex Global)) (vertices : List Vertex)
    → map part_entries split ≡ map entries_of (map vec_items parts) → map vec_items parts ≡ parts_by vertex_id count vertices
    → map part_entries split ≡ parts_of count (entries_of vertices)
split_is count split parts vertices same cut = same ∙ ap (map entries_of) cut ∙ parts_by-map entry_of id_at count vertices

pub split_whole : (count : ℕ) (split : List Part) (graph : List Entry) → 0 < count → map part_entries split ≡ parts_of count graph
    → IsPermutation (flat_map part_entries split) graph
split_whole count split graph some is =
    rw (← flat_map-map (λ (list : List Entry). list) part_entries split, is) (parts_whole id_at count graph some)

-- the vertices of a graph's parts, one after another and then by id, are the graph
pub joins_to : (parts : List Part) (together sorted : List Vertex) (graph : List Entry) → IsProper graph → IsPermutation (flat_map part_entries parts) graph
    → entries_of together ≡ flat_map part_entries parts → IsPermutation together sorted → IsNonDecreasing (map vertex_id sorted)
    → entries_of sorted ≡ graph
joins_to parts together sorted graph proper whole e same ordered =
    order_is id_at (entries_of together) (entries_of sorted) graph (IsPermutation-map entry_of together sorted same) (rw (ids_entries sorted) ordered)
    (rw e whole) proper.rising
