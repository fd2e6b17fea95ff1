use Rattle.std.proofs.Common.{◌+◌}
use Rattle.graph.proofs.InPieces.{cut_apart, cut_lines}
use Rattle.graph.proofs.pieces.cut_after_line.Goals as goal

pub returns : goal.returns
returns c =
    let found = rw c.as_bytes.ensures.value at c.in_ok-feed.ensures in
    cut_apart c.args.text.now (c.in_ok-feed.feed + 1) c.split_at_checked.result (cut_lines c.args.text.now c.in_ok-feed.feed found.0 found.1)
    c.split_at_checked.ensures.front c.split_at_checked.ensures.back
