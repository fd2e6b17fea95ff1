use Rattle.std.proofs.Common.{arith, ap, length}
use Rattle.inbox.proofs.Sending.{length_letters}
use Rattle.inbox.proofs.outbox.Outbox.len.Goals as goal

pub returns : goal.returns
returns c =
    let inside = c.self.inside in
    omega (arith, c.len.ensures, inside.sends.ok, length_letters inside.sources.items inside.sends.items c.self.invariant, ap length c.self.view_is)
