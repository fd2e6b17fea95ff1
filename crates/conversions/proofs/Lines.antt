-- The lines of an edge list, read one after another.
use Rattle.std.proofs.Common.{◌≡◌, ℕ, ◌+◌, ◌<◌, ◌≤◌, Bool, List, [], ◌∷◌, ◌++◌, length, get_or, take, true, refl, ap, sym, subst, ◌∙◌, arith, append_assoc}
use Rattle.std.specs.List.{All, enumerate_from}
use Rattle.std.specs.Str.Lines.{lines}
use Rattle.std.proofs.lemmas.List.{append-nil, get_or-map, length-map, take_all, take_more}
use Rattle.std.proofs.lemmas.List.Elements.{All-push}
use Rattle.std.proofs.lemmas.List.FromFn.{get_or-enumerate_from, length-enumerate_from}
use Rattle.std.proofs.lemmas.Grind.{flat_map-append}
use Rattle.graph.specs.declared.edge_list.edges.Edges.{Edges}
use Rattle.graph.specs.declared.edge_list.line.Form.{Form}
use Rattle.graph.specs.declared.edge_list.line.Line.{Line}
use Rattle.graph.specs.edge_list.Line.{line_of}
use Rattle.graph.specs.edge_list.Said.{all_edges, edges_of, is_good, lines_of}
use Rattle.graph.specs.inside.Adding.{Adds}

-- the next line says this
pub record Comes (all : List Line) (read : ℕ) (said : Line) : Type 0 where
  pub short : read < length all
  pub stands : get_or all read said ≡ said

pub line_comes : (form : Form) (text : List ℕ) (read index : ℕ) (line : List ℕ) (said : Line) → read < length (enumerate_from 0 (lines text))
    → ◌≡◌ {A = ℕ × List ℕ} (index, line) (get_or (enumerate_from 0 (lines text)) read (index, line)) → said ≡ line_of form line
    → Comes (lines_of form text) read said
line_comes form text read index line said short item e =
    let some : read < length (lines text) = omega (arith, length-enumerate_from 0 (lines text)) in
    let both : ◌≡◌ {A = ℕ × List ℕ} (index, line) (0 + read, get_or (lines text) read line) = item ∙ get_or-enumerate_from 0 (lines text) read (index, line) some in
    let here : line ≡ get_or (lines text) read line = ap (λ (p : ℕ × List ℕ). p.1) both in
    record {
      short = rw (length-map (lines text) (line_of form)) some;
      stands = get_or-map (line_of form) (lines text) read line said some ∙ ap (line_of form) (sym here) ∙ sym e;
    }

taken : (all : List Line) (read : ℕ) (said : Line) → Comes all read said → take (read + 1) all ≡ take read all ++ said ∷ []
taken all read said comes = take_more all read said comes.short ∙ ap (λ line. take read all ++ line ∷ []) comes.stands

-- the edges of one line more
edges_more : (both_ways : Bool) (all : List Line) (read : ℕ) (said : Line) → Comes all read said
    → all_edges both_ways (take (read + 1) all) ≡ all_edges both_ways (take read all) ++ edges_of both_ways said
edges_more both_ways all read said comes =
    ap (all_edges both_ways) (taken all read said comes)
    ∙ flat_map-append (edges_of both_ways) (take read all) (said ∷ [])
    ∙ ap (λ edges. all_edges both_ways (take read all) ++ edges) (append-nil (edges_of both_ways said))

pub adds_none : (both_ways : Bool) (all : List Line) (edges : Edges) → Adds (all_edges both_ways (take 0 all)) edges edges
adds_none both_ways all edges = record { items = sym (append-nil edges.items.items); both_ways = refl; most = refl }

pub adds_next : (all : List Line) (read : ℕ) (said : Line) (first old new : Edges) → Comes all read said
    → Adds (all_edges first.both_ways (take read all)) first old → Adds (edges_of old.both_ways said) old new
    → Adds (all_edges first.both_ways (take (read + 1) all)) first new
adds_next all read said first old new comes had adds = record {
  items =
      adds.items
      ∙ ap (λ edges. edges ++ edges_of old.both_ways said) had.items
      ∙ append_assoc first.items.items (all_edges first.both_ways (take read all)) (edges_of old.both_ways said)
      ∙ ap (λ edges. first.items.items ++ edges)
      (ap (λ both. all_edges first.both_ways (take read all) ++ edges_of both said) had.both_ways ∙ sym (edges_more first.both_ways all read said comes));
  both_ways = adds.both_ways ∙ had.both_ways;
  most = adds.most ∙ had.most;
}

-- all lines were read
pub adds_all : (form : Form) (text : List ℕ) (read : ℕ) (first last : Edges)
    → Adds (all_edges first.both_ways (take read (lines_of form text))) first last → read ≡ length (enumerate_from 0 (lines text))
    → Adds (all_edges first.both_ways (lines_of form text)) first last
adds_all form text read first last adds all =
    let past : length (lines_of form text) ≤ read = omega (arith, length-enumerate_from 0 (lines text), length-map (lines text) (line_of form)) in
    rw take_all at adds

-- ---- each line is good

pub good_next : (all : List Line) (read : ℕ) (said : Line) → Comes all read said → All (λ line. is_good line ≡ true) (take read all)
    → is_good said ≡ true → All (λ line. is_good line ≡ true) (take (read + 1) all)
good_next all read said comes had good =
    subst (All (λ line. is_good line ≡ true)) (sym (taken all read said comes))
    (All-push (λ line. is_good line ≡ true) (take read all) said had good)

pub good_all : (form : Form) (text : List ℕ) (read : ℕ) → All (λ line. is_good line ≡ true) (take read (lines_of form text))
    → read ≡ length (enumerate_from 0 (lines text)) → All (λ line. is_good line ≡ true) (lines_of form text)
good_all form text read good all =
    let past : length (lines_of form text) ≤ read = omega (arith, length-enumerate_from 0 (lines text), length-map (lines text) (line_of form)) in
    rw take_all at good
