use Rattle.std.proofs.Common.{Fits, arith, rules, w32}
use Rattle.std.proofs.Math.Facts.{Fits-lt-pow}
use Rattle.checkpoint.proofs.Sound.{told_length, vertices_length}
use Rattle.checkpoint.proofs.reading.read_content.Goals as goal

pub state_in-requires-clause-told : goal.state_in-requires-clause-told
state_in-requires-clause-told c =
    told_length c.args.version c.in_ok-head.head.superstep c.in_ok-head.rest.now _ c.in_ok-since.ensures

pub state_in-requires-clause-few : goal.state_in-requires-clause-few
state_in-requires-clause-few c =
    let small : Fits w32 c.in_ok-count.count = search rules in
    omega (arith, Fits-lt-pow small, vertices_length c.in_ok-count.count c.in_ok-count.rest.now _ c.in_ok-vertices.ensures)
