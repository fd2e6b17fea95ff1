use Rattle.std.proofs.Common.{refl, sym, subst}
use Rattle.interp.specs.inside.Meaning.{standing_of}
use Rattle.interp.specs.inside.Place.{HasEntryRoom}
use Rattle.interp.proofs.Stacked.{room_for_one}
use Rattle.interp.proofs.walk.Walk.open.Goals as goal

pub push_entry-requires : goal.push_entry-requires
push_entry-requires c =
    let i = c.self.inside in
    let h = subst HasEntryRoom (sym c.self.view_is) c.requires in
    room_for_one i.entries.items i.operands.below.values i.locals.below.values i.entries.len i.entries.cap (standing_of i) i.entries.ok.0 refl refl h
