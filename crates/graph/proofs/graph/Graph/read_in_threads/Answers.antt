use Rattle.graph.specs.Said.{lines_of}
use Rattle.graph.proofs.Counting.{said_fits}
use Rattle.graph.proofs.Ranges.{said_proper}
use Rattle.graph.proofs.Texts.{says_one}
use Rattle.graph.proofs.graph.Graph.read_in_threads.Goals as goal

pub invariant_of-result : goal.invariant_of-result
invariant_of-result g c =
    let are = c.in_ok-vertices.ensures.found in
    (said_proper c.args.text.now _ are.means, said_fits (lines_of c.args.text.now) _ are.means are.within)

pub returns-clause-only : goal.returns-clause-only
returns-clause-only g c = λ graph said within. says_one (lines_of c.args.text.now) _ graph c.in_ok-vertices.ensures.found.means said
