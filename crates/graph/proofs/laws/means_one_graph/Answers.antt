use Rattle.graph.specs.Said.{lines_of}
use Rattle.graph.proofs.Counting.{said_fits}
use Rattle.graph.proofs.Ranges.{said_proper}
use Rattle.graph.proofs.Texts.{says_one}
use Rattle.graph.proofs.laws.means_one_graph.Goals as goal

pub returns-clause-one : goal.returns-clause-one
returns-clause-one c = λ text first second a b. says_one (lines_of text) first second a b

pub returns-clause-proper : goal.returns-clause-proper
returns-clause-proper c = λ text graph said. said_proper text graph said

pub returns-clause-limits : goal.returns-clause-limits
returns-clause-limits c = λ text graph said within. said_fits (lines_of text) graph said within
