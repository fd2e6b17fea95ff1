use Rattle.std.proofs.Common.{refl}
use Rattle.hub_ends.specs.Messages.{closes}
use Rattle.hub_ends.proofs.Byes.{open_after}
use Rattle.hub_ends.proofs.pass.TickPass.tick.Goals as goal

pub invariant_of-self-clause-open : goal.invariant_of-self-clause-open
invariant_of-self-clause-open g c =
    open_after closes c.send.result _ _ _ c.send.ensures.sent c.send.ensures.err c.args.self.now.open refl
