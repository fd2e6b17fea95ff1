use Rattle.std.proofs.Common.{reverse, sym, subst}
use Rattle.interp.specs.inside.Place.{HasOperandRoom}
use Rattle.interp.proofs.Stacked.{spare_in}
use Rattle.interp.proofs.walk.Walk.arrive.Goals as goal

pub carry-requires-clause-spare : goal.carry-requires-clause-spare
carry-requires-clause-spare c =
    let i = c.self.inside in
    c.fall.ensures.spare (spare_in (reverse i.entries.items) i.operands i.locals.below.values c.self.invariant (subst HasOperandRoom (sym c.self.view_is) c.requires.spare))

pub carry-requires-in-Some-Frame-clause-spare : goal.carry-requires-in-Some-Frame-clause-spare
carry-requires-in-Some-Frame-clause-spare c =
    let i = c.self.inside in
    c.fall-in-Some-Frame.ensures.spare (spare_in (reverse i.entries.items) i.operands i.locals.below.values c.self.invariant (subst HasOperandRoom (sym c.self.view_is) c.requires.spare))
