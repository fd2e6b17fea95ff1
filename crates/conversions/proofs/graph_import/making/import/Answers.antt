use Rattle.std.proofs.Common.{◌≡◌, ◌≤◌, arith, length, map, subst, sym}
use Rattle.std.specs.Prelude.{string_bytes}
use Rattle.graph.specs.declared.vertex.TheConstants.{MAX_EDGES, MAX_VERTICES}
use Rattle.graph.specs.Graph.{IsGraphText, IsWithinLimits}
use Rattle.conversions.specs.graph_import.Graph.{AreIdsOf, ends, graph_of, graph_text, valued, weighed}
use Rattle.conversions.specs.graph_import.Import.{GivesValues}
use Rattle.conversions.proofs.Whole.{whole}
use Rattle.conversions.proofs.graph_import.making.import.Goals as goal

pub returns : goal.returns
returns c =
    let reading = c.in_ok-reading.reading in
    let edges = reading.edges.items.items in
    let ids = c.in_ok-ids.ids.items in
    let shares = c.args.plan.share in
    let values = c.in_ok-text.ensures.0 in
    let are = subst (λ said. AreIdsOf (ends reading.declared said) ids) c.deref.ensures.value c.in_ok-ids.ensures in
    let gives = subst (λ known. GivesValues known c.args.plan values) c.deref-2.ensures.value c.in_ok-text.ensures.2 in
    let printed = subst (λ known. string_bytes c.in_ok-text.text ≡ graph_text (map (valued values) known) (weighed shares edges))
    c.deref-2.ensures.value c.in_ok-text.ensures.3 in
    let few_ids : length ids ≤ MAX_VERTICES = omega (arith, c.len.ensures, c.if-len-gt-MAX_VERTICES.false, c.in_ok-ids.ids.ok.0) in
    let few_edges : length edges ≤ MAX_EDGES = omega (arith, reading.edges.within, c.in_ok-reading.ensures.most, reading.edges.items.ok.0) in
    let both = whole reading.declared edges ids values shares reading.small reading.edges.in_range are c.in_ok-text.ensures.1 few_ids few_edges in
    record {
      declared = reading.declared;
      edges = edges;
      read = c.in_ok-reading.ensures.read;
      ids = ids;
      are_ids = are;
      values = values;
      gives = gives;
      printed = printed;
      means = subst (λ text. IsGraphText text (graph_of (map (valued values) ids) (weighed shares edges))) (sym printed) both.0;
      within = subst IsWithinLimits (sym printed) both.1;
      vertex_count = omega (arith, c.len-2.ensures, c.in_ok-ids.ids.ok.0);
      edge_count = omega (arith, c.len-3.ensures, reading.edges.items.ok.0);
    }
