use Rattle.std.proofs.Common.{◌≡◌, ◌+◌, drop}
use Rattle.std.specs.List.{position_or_len}
use Rattle.session.specs.Lines.{is_feed}
use Rattle.session.proofs.lines.feed_place.Given as goal

abbrev pub invariant-loop-place : goal.invariant-loop-place
invariant-loop-place l = position_or_len is_feed l.bytes ≡ l.place + position_or_len is_feed (drop l.place l.bytes)
