use Rattle.std.proofs.Common.{◌≡◌, ap, arith, length}
use Rattle.inbox.specs.inside.Slips.{joined}
use Rattle.inbox.proofs.Messages.{length-joined}
use Rattle.inbox.proofs.slips.Slips.len.Goals as goal

pub returns : goal.returns
returns c =
    let places = c.self.inside.places.items in
    let values = c.self.inside.values.items in
    let whole : length (joined places values) ≡ length c.args.self.now = ap length c.self.view_is in
    omega (arith, whole, length-joined places values c.self.invariant, c.len.ensures, c.self.inside.places.ok)
