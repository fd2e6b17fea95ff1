use Rattle.std.proofs.Common.{rules}
use Rattle.session.proofs.Feeds.{found_later, found_nowhere}
use Rattle.session.proofs.lines.feed_place.Goals as goal

pub loop-place-preserved : goal.loop-place-preserved
loop-place-preserved c = found_later c.args.bytes.now c.loop-place.place 0 c.loop-place-test.true (search rules) c.loop-place.invariant

pub returns-clause-place : goal.returns-clause-place
returns-clause-place c = found_nowhere c.args.bytes.now c.loop-place.place c.loop-place-test.false c.loop-place.invariant
