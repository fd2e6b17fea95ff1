use Rattle.std.proofs.Common.{◌-◌, arith}
use Rattle.graph.specs.Entry.{entries_of, ids}
use Rattle.graph.proofs.Vertices.{id_in_place, length_ids, not_rising, rising_more}
use Rattle.graph.proofs.rising.are_rising.Goals as goal

pub returns-then-next-last : goal.returns-then-next-last
returns-then-next-last c =
    let here = id_in_place c.args.vertices.now c.loop-index.index c.index-vertices-index-in-loop-index.result (omega arith) in
    let before = id_in_place c.args.vertices.now (c.loop-index.index - 1) c.index-vertices-index.result (omega arith) in
    let count = length_ids c.args.vertices.now in
    (λ bad. absurd (cc), λ rise. absurd (not_rising (ids (entries_of c.args.vertices.now)) c.loop-index.index (omega arith) (omega arith) (omega arith) rise))

pub loop-index-preserved : goal.loop-index-preserved
loop-index-preserved c =
    let here = id_in_place c.args.vertices.now c.loop-index.index c.index-vertices-index-in-loop-index.result (omega arith) in
    let before = id_in_place c.args.vertices.now (c.loop-index.index - 1) c.index-vertices-index.result (omega arith) in
    rising_more (ids (entries_of c.args.vertices.now)) c.loop-index.index (omega arith) c.loop-index.invariant (omega arith)
