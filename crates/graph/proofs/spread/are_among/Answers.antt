use Rattle.std.proofs.Common.{arith}
use Rattle.std.specs.List.{All}
use Rattle.rayon.specs.Lists.{chunks_of}
use Rattle.rayon.proofs.ToStd.{chunks_of-concat, slice-all-iff}
use Rattle.graph.specs.inside.Placed.{HasEnds}
use Rattle.graph.proofs.Spreading.{all_in_chunks}
use Rattle.graph.proofs.spread.are_among.Goals as goal

pub returns : goal.returns
returns g c =
    let found = c.all.ensures in
    let shown = rw (c.par_chunks.ensures.size, c.par_chunks.ensures.slice) at found.1 in
    let chunks = chunks_of 4096 c.args.edges.now in
    let each = slice-all-iff found.0 chunks shown (All (HasEnds c.args.ids.now)) c.all.result found.2 in
    let whole = all_in_chunks (HasEnds c.args.ids.now) chunks c.args.edges.now (chunks_of-concat 4096 c.args.edges.now (omega arith)) in
    (λ yes. whole.0 (each.0 yes), λ all. each.1 (whole.1 all))
