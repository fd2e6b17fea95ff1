use Rattle.std.proofs.Common.{◌≡◌, ◌∙◌, ◌++◌, ap, refl, subst, true}
use Rattle.std.specs.List.{All}
use Rattle.conversions.specs.graph_import.Import.{list_form}
use Rattle.graph.specs.edge_list.Said.{all_edges, is_good, lines_of}
use Rattle.conversions.proofs.graph_import.making.read_lines.Goals as goal

pub returns-in_ok-read_list-in-None-clause-read : goal.returns-in_ok-read_list-in-None-clause-read
returns-in_ok-read_list-in-None-clause-read c = λ numbered.
    let text = c.args.text.now in
    let read = c.in-Some.form in
    let same : read ≡ list_form c.args.plan = c.in-Some.ensures in
    let added = c.in_ok-read_list-in-None.ensures.added in
    record {
      good = subst (λ form. All (λ line. is_good line ≡ true) (lines_of form text)) same c.in_ok-read_list-in-None.ensures.good;
      said =
          added.items
          ∙ ap (λ items. items ++ all_edges c.args.edges.now.both_ways (lines_of read text)) c.requires.edges
          ∙ ap (λ both. all_edges both (lines_of read text)) c.requires.both_ways
          ∙ ap (λ form. all_edges c.args.plan.undirected (lines_of form text)) same;
      none_declared = refl;
    }
