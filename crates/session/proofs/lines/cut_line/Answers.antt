use Rattle.std.proofs.Common.{◌<◌, ◌∙◌, length, arith, sym}
use Rattle.session.proofs.Feeds.{begins, behind, no_line}
use Rattle.session.proofs.lines.cut_line.Goals as goal

pub returns-then-place-bytes-clause-cut : goal.returns-then-place-bytes-clause-cut
returns-then-place-bytes-clause-cut c = no_line c.args.bytes.now (sym c.feed_place-place.ensures.place ∙ c.if-place-bytes.true)

pub returns-clause-cut : goal.returns-clause-cut
returns-clause-cut c =
    let within : c.feed_place-place.result < length c.args.bytes.now = omega arith in
    begins c.args.bytes.now c.split_at.result.0.now _ c.feed_place-place.result c.feed_place-place.ensures.place within
    c.split_at.ensures.front (behind c.args.bytes.now c.split_at.result.1.now c.feed_place-place.result c.split_at.ensures.back)
