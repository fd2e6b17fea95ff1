use Rattle.std.proofs.Common.{List, subst, sym, ◌∙◌}
use Rattle.graph.specs.Entry.{Entry, FitsLimits, IsProper}
use Rattle.graph.proofs.Splitting.{joins_to}
use Rattle.graph.proofs.parts.join.Goals as goal

pub from_vertices-requires : goal.from_vertices-requires
from_vertices-requires c =
    let same = joins_to c.args.parts.items c.in_ok-vertices.vertices.items c.sort_by_id.new.elements.items c.requires.0 c.requires.1 c.requires.3
    c.in_ok-vertices.ensures c.sort_by_id.ensures.permutation c.sort_by_id.ensures.sorted in
    record {
      proper = subst (λ (graph : List Entry). IsProper graph) (sym same) c.requires.1;
      limits = subst (λ (graph : List Entry). FitsLimits graph) (sym same) c.requires.2;
    }

pub returns : goal.returns
returns c = λ graph proper whole.
    c.from_vertices.ensures ∙ joins_to c.args.parts.items c.in_ok-vertices.vertices.items c.sort_by_id.new.elements.items graph proper whole
    c.in_ok-vertices.ensures c.sort_by_id.ensures.permutation c.sort_by_id.ensures.sorted
