use Rattle.std.proofs.Common.{codes, refl}
use Rattle.command_line.specs.inside.Matches.{rows_in}
use Rattle.command_line.proofs.Entries.{asks_graph, lacking, text_given, text_read}
use Rattle.command_line.proofs.command_line.import_asked.Goals.{in_default-via-in-Some+in_default, in_default-via-in_default}
use Rattle.command_line.proofs.command_line.import_asked.Goals as goal

pub returns-in-Some-Some : goal.returns-in-Some-Some
returns-in-Some-Some c = (
  refl,
  record {
    edges_path = text_given c.args.entries.now (codes "edges") c.get_str.result c.in-Some-Some.edges c.get_str.ensures c.in-Some-Some.is-0;
    graph_path = text_given c.args.entries.now (codes "binary") c.get_str-2.result c.in-Some-Some.graph c.get_str-2.ensures c.in-Some-Some.is-1;
    undirected = c.is_set.ensures;
    value = text_read c.args.entries.now (codes "value") c.get_str-in-Some-Some.result c.get_str-in-Some-Some.ensures;
    source = text_read c.args.entries.now (codes "source") c.get_str-in-Some-Some-2.result c.get_str-in-Some-Some-2.ensures;
    weight = text_read c.args.entries.now (codes "weight") c.get_str-in-Some-Some-3.result c.get_str-in-Some-Some-3.ensures;
    share = c.is_set-in-Some-Some.ensures;
    names = text_read c.args.entries.now (codes "names") c.get_str-in-Some-Some-4.result c.get_str-in-Some-Some-4.ensures;
  },
)

pub returns-in_default : goal.returns-in_default
returns-in_default c = λ asked asks.
    let gives = asks_graph (rows_in c.args.entries.now) asked asks in
    elim c.in_default.branch [
      | in_default-via-in-Some+in_default w ↦ lacking c.args.entries.now (codes "binary") c.get_str-2.result c.get_str-2.ensures w.in_default.is-1 gives.0.graph gives.1.graph_path
      | in_default-via-in_default w ↦ lacking c.args.entries.now (codes "edges") c.get_str.result c.get_str.ensures w.in_default.is-0 gives.0.edges gives.1.edges_path
    ]
