-- An edge and then its reverse.
use Rattle.std.proofs.Common.{◌≡◌, ◌≢◌, Bool, true, [], ◌∷◌, ◌++◌, Result, Ok, Err, OnOk, refl, ap, sym, ◌∙◌, append_assoc}
use Rattle.std.proofs.lemmas.Bool.{ne_eqb}
use Rattle.graph.specs.declared.vertex.Edge.{Edge}
use Rattle.graph.specs.declared.edge_list.edges.Edges.{Edges}
use Rattle.graph.specs.edge_list.Said.{back, both_of}
use Rattle.graph.specs.inside.Adding.{Adds}

both_are : (both_ways : Bool) (edge : Edge) → both_ways ≡ true → edge.from ≢ edge.target → both_of both_ways edge ≡ edge ∷ back edge ∷ []
both_are both_ways edge both other = rw both (rw (ne_eqb edge.from edge.target other) refl)

both_added : (edge : Edge) (old between new : Edges) → between.both_ways ≡ true → edge.from ≢ edge.target
    → Adds (edge ∷ []) old between → Adds (back edge ∷ []) between new → Adds (both_of old.both_ways edge) old new
both_added edge old between new both other first second = record {
  items =
      second.items
      ∙ ap (λ edges. edges ++ back edge ∷ []) first.items
      ∙ append_assoc old.items.items (edge ∷ []) (back edge ∷ [])
      ∙ ap (λ edges. old.items.items ++ edges) (sym (both_are old.both_ways edge (sym first.both_ways ∙ both) other));
  both_ways = second.both_ways ∙ first.both_ways;
  most = second.most ∙ first.most;
}

pub adds_both : {F : Type 0} (r : Result (Unit {0}) F) (edge : Edge) (old between new : Edges) → between.both_ways ≡ true → edge.from ≢ edge.target
    → Adds (edge ∷ []) old between → OnOk r (Adds (back edge ∷ []) between new) → OnOk r (Adds (both_of old.both_ways edge) old new)
adds_both (Ok _) edge old between new both other first second = both_added edge old between new both other first second
adds_both (Err _) edge old between new both other first second = second
