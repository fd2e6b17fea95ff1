-- One line after another: what was collected of the lines so far.
use Rattle.std.proofs.Common.{◌≡◌, ℕ, ℤ, ◌+◌, ◌<◌, ◌≤◌, true, List, [], ◌∷◌, ◌++◌, length, map, take, drop, get_or}
use Rattle.std.proofs.Common.{ap, refl, sym, ◌∙◌, arith, length-append}
use Rattle.std.specs.List.{enumerate_from}
use Rattle.std.specs.Str.Lines.{lines}
use Rattle.std.proofs.lemmas.List.{append-nil, map-append, take_more, take-append-drop, get_or-map, get_or_append_left, take_all, length-map}
use Rattle.std.proofs.lemmas.List.Elements.{All-push}
use Rattle.std.proofs.lemmas.List.FromFn.{length-enumerate_from, get_or-enumerate_from}
use Rattle.std.proofs.lemmas.Grind.{flat_map-append}
use Rattle.graph.specs.declared.collect.Collected.{Collected}
use Rattle.graph.specs.declared.line.Line.{Line}
use Rattle.graph.specs.declared.line.Line.TheVariants as line
use Rattle.graph.specs.declared.vertex.Edge.{Edge}
use Rattle.graph.specs.Entry.{entry_of}
use Rattle.graph.specs.inside.Collected.{AddsEdge, AddsLine, AddsVertex, CanBeSaid, IsFullOfEdges, IsFullOfVertices, RefusesLine, Says, bare}
use Rattle.graph.specs.Line.{is_good, line_of}
use Rattle.graph.specs.Said.{all_declared, all_edges, declared_by, lines_of, said_by}

-- what can be said, can be said of its first lines
can_front : (front rest : List Line) → CanBeSaid (front ++ rest) → CanBeSaid front
can_front front rest can = record {
  good = λ k d below. rw get_or_append_left at (can.good k d (omega (arith, length-append front rest)));
  within = record {
    vertices = omega (arith, can.within.vertices, ap length (flat_map-append declared_by front rest), length-append (all_declared front) (all_declared rest));
    edges = omega (arith, can.within.edges, ap length (flat_map-append said_by front rest), length-append (all_edges front) (all_edges rest));
  };
}

-- the next line says this
pub record Comes (lines : List Line) (read : ℕ) (said : Line) : Type 0 where
  pub short : read < length lines
  pub stands : get_or lines read said ≡ said

pub line_comes : (text : List ℕ) (read index : ℕ) (line : List ℕ) (said : Line) → read < length (enumerate_from 0 (lines text))
    → ◌≡◌ {A = ℕ × List ℕ} (index, line) (get_or (enumerate_from 0 (lines text)) read (index, line)) → said ≡ line_of line → Comes (lines_of text) read said
line_comes text read index line said short item e =
    let some : read < length (lines text) = omega (arith, length-enumerate_from 0 (lines text)) in
    let both : ◌≡◌ {A = ℕ × List ℕ} (index, line) (0 + read, get_or (lines text) read line) = item ∙ get_or-enumerate_from 0 (lines text) read (index, line) some in
    let here : line ≡ get_or (lines text) read line = ap (λ (p : ℕ × List ℕ). p.1) both in
    record {
      short = rw (length-map (lines text) line_of) some;
      stands = get_or-map line_of (lines text) read line said some ∙ ap line_of (sym here) ∙ sym e;
    }

taken : (lines : List Line) (read : ℕ) (said : Line) → Comes lines read said → take (read + 1) lines ≡ take read lines ++ said ∷ []
taken lines read said comes = take_more lines read said comes.short ∙ ap (λ l. take read lines ++ l ∷ []) comes.stands

pub says_next : (lines : List Line) (read : ℕ) (said : Line) (old new : Collected) → Comes lines read said → Says (take read lines) old
    → ((before : List Line) → Says before old → Says (before ++ said ∷ []) new) → Says (take (read + 1) lines) new
says_next lines read said old new comes says step = rw (taken lines read said comes) (step (take read lines) says)

pub fails_next : (lines : List Line) (read : ℕ) (said : Line) (old : Collected) → Comes lines read said → Says (take read lines) old
    → ((before : List Line) → Says before old → CanBeSaid (before ++ said ∷ []) → ⊥) → CanBeSaid lines → ⊥
fails_next lines read said old comes says fails can =
    fails (take read lines) says (rw (taken lines read said comes) at (can_front (take (read + 1) lines) (drop (read + 1) lines) (rw (take-append-drop (read + 1) lines) can)))

-- all lines were read
pub says_all : (text : List ℕ) (read : ℕ) (collected : Collected) → Says (take read (lines_of text)) collected
    → read ≡ length (enumerate_from 0 (lines text)) → Says (lines_of text) collected
says_all text read collected says all =
    let past : length (lines_of text) ≤ read = omega (arith, length-enumerate_from 0 (lines text), length-map (lines text) line_of) in
    rw take_all at says

declared_more : (before : List Line) (line : Line) → all_declared (before ++ line ∷ []) ≡ all_declared before ++ all_declared (line ∷ [])
declared_more before line = flat_map-append declared_by before (line ∷ [])

edges_more : (before : List Line) (line : Line) → all_edges (before ++ line ∷ []) ≡ all_edges before ++ all_edges (line ∷ [])
edges_more before line = flat_map-append said_by before (line ∷ [])

count_vertices : (before : List Line) (old : Collected) → Says before old → length old.vertices.items ≡ length (all_declared before)
count_vertices before old says =
    sym (length-map old.vertices.items entry_of) ∙ ap length says.vertices ∙ length-map (all_declared before) bare

-- a vertex for which there is room is added
pub vertex_added : (id : ℕ) (value : ℤ) (edges : List (ℕ × ℤ)) (old new : Collected) → edges ≡ []
    → AddsVertex old new (record { id = id; value = value; edges = edges }) → AddsLine (line.Vertex id value) old new
vertex_added id value edges old new none adds = λ before says.
    let vertices = declared_more before (line.Vertex id value) in
    let longer = length-append (all_declared before) ((id, value) ∷ []) in
    let others : all_edges (before ++ line.Vertex id value ∷ []) ≡ all_edges before =
    edges_more before (line.Vertex id value) ∙ append-nil (all_edges before) in
    record {
      can = record {
        good = All-push (λ each. is_good each ≡ true) before (line.Vertex id value) says.can.good refl;
        within = record {
          vertices = omega (arith, adds.room, count_vertices before old says, ap length vertices, longer);
          edges = omega (arith, says.can.within.edges, ap length others);
        };
      };
      vertices =
          adds.vertices
          ∙ (λ i. says.vertices i ++ record { id = id; value = value; edges = none i } ∷ [])
          ∙ sym (map-append bare (all_declared before) ((id, value) ∷ []))
          ∙ ap (map bare) (sym vertices);
      edges = adds.edges ∙ says.edges ∙ sym others;
    }

-- an edge for which there is room is added
pub edge_added : (from target : ℕ) (value : ℤ) (old new : Collected) → AddsEdge old new (record { from = from; target = target; value = value })
    → AddsLine (line.Edge from target value) old new
edge_added from target value old new adds = λ before says.
    let edge : Edge = record { from = from; target = target; value = value } in
    let edges = edges_more before (line.Edge from target value) in
    let others : all_declared (before ++ line.Edge from target value ∷ []) ≡ all_declared before =
    declared_more before (line.Edge from target value) ∙ append-nil (all_declared before) in
    record {
      can = record {
        good = All-push (λ each. is_good each ≡ true) before (line.Edge from target value) says.can.good refl;
        within = record {
          vertices = omega (arith, says.can.within.vertices, ap length others);
          edges = omega (arith, adds.room, ap length says.edges, ap length edges, length-append (all_edges before) (edge ∷ []));
        };
      };
      vertices = adds.vertices ∙ says.vertices ∙ ap (map bare) (sym others);
      edges = adds.edges ∙ (λ i. says.edges i ++ edge ∷ []) ∙ sym edges;
    }

-- a vertex for which there is no room is refused
pub vertex_refused : (id : ℕ) (value : ℤ) (old : Collected) → IsFullOfVertices old → RefusesLine (line.Vertex id value) old
vertex_refused id value old full = λ before says can.
    let all = ap length (declared_more before (line.Vertex id value)) in
    omega (arith, full, can.within.vertices, count_vertices before old says, all, length-append (all_declared before) ((id, value) ∷ []))

-- an edge for which there is no room is refused
pub edge_refused : (from target : ℕ) (value : ℤ) (old : Collected) → IsFullOfEdges old → RefusesLine (line.Edge from target value) old
edge_refused from target value old full = λ before says can.
    let edge : Edge = record { from = from; target = target; value = value } in
    let all = ap length (edges_more before (line.Edge from target value)) in
    omega (arith, full, can.within.edges, ap length says.edges, all, length-append (all_edges before) (edge ∷ []))
