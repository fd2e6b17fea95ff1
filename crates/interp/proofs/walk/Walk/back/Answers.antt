use Rattle.std.proofs.Common.{reverse, sym, subst}
use Rattle.interp.specs.inside.Place.{HasOperandRoom}
use Rattle.interp.proofs.Stacked.{spare_out, spare_in}
use Rattle.interp.proofs.walk.Walk.back.Goals as goal

pub arrive-requires-clause-spare : goal.arrive-requires-clause-spare
arrive-requires-clause-spare c =
    let i = c.self.inside in
    let spare = spare_in (reverse i.entries.items) i.operands i.locals.below.values c.self.invariant (subst HasOperandRoom (sym c.self.view_is) c.requires.spare) in
    spare_out (reverse c.unwind_all.new.entries.items) c.unwind_all.new.operands i.locals.below.values c.unwind_all.ensures.ordered (c.unwind_all.ensures.spare spare)
