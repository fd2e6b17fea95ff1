use Rattle.std.proofs.Common.{◌≤◌, Some, length, reverse, take, refl, ap, sym, ◌∙◌, subst, arith, length-append, rules}
use Rattle.std.proofs.lemmas.List.{length-map, length-reverse, length-take}
use Rattle.wasm_ast.specs.declared.types.Value.TheVariants.{I64}
use Rattle.verified.specs.View.{code_of}
use Rattle.semantics.specs.Machine.{enter}
use Rattle.interp.specs.inside.Cells.{celled}
use Rattle.interp.specs.inside.Going.{goes_on}
use Rattle.interp.specs.inside.Meaning.{standing_of}
use Rattle.interp.specs.inside.Place.{HasFrameRoom, state_of}
use Rattle.interp.proofs.Asking.{enter_asks}
use Rattle.interp.proofs.Stacked.{held_is, room_for_one}
use Rattle.interp.proofs.walk.Walk.enter_typed.Goals as goal

pub topmost-requires : goal.topmost-requires
topmost-requires c =
    let s = standing_of c.self.inside in
    let asked = enter_asks (celled c.args.definition.function.now) c.args.func_type.now s.values (code_of c.args.code.now) s.entries (state_of s c.args.count) (ap (goes_on (enter (celled c.args.definition.function.now) (Some c.args.func_type.now)) (code_of c.args.code.now) c.args.count) c.self.view_is ∙ c.requires.goes) in
    subst (λ n. n ≤ length s.values) (search rules) asked

pub open-requires : goal.open-requires
open-requires c =
    let i = c.self.inside in
    let h = subst HasFrameRoom (sym c.self.view_is) c.requires.room in
    let held = held_is (reverse i.entries.items) i.operands.below.values i.locals.below.values c.self.invariant in
    let top = ap length c.topmost.ensures in
    let a = length-map c.topmost.result.now I64 in
    let n = length c.as_slice-arguments.result.now in
    let b = length-reverse (take n i.operands.here) in
    let d = length-take n i.operands.here in
    let count = ap length c.as_slice-arguments.ensures in
    omega (arith, h.locals, held, top, a, b, d, count, c.requires.few)

pub add-requires : goal.add-requires
add-requires c =
    let i = c.self.inside in
    let h = subst HasFrameRoom (sym c.self.view_is) c.requires.room in
    let held = held_is (reverse i.entries.items) i.operands.below.values i.locals.below.values c.self.invariant in
    let top = ap length c.topmost.ensures in
    let n = length c.as_slice-arguments.result.now in
    let a = length-map c.topmost.result.now I64 in
    let b = length-reverse (take n i.operands.here) in
    let d = length-take n i.operands.here in
    let count = ap length c.as_slice-arguments.ensures in
    let here = ap (λ s. length s.here) c.open.ensures in
    let below = ap (λ s. length s.below.values) c.open.ensures in
    let room = ap (λ s. s.below.room) c.open.ensures in
    let both = length-append i.locals.below.values i.locals.here in
    let types = ap length c.as_slice-2.ensures in
    omega (arith, h.locals, held, top, a, b, d, count, here, below, room, both, types, c.requires.few)

pub push_entry-requires : goal.push_entry-requires
push_entry-requires c =
    let i = c.self.inside in
    let h = subst HasFrameRoom (sym c.self.view_is) c.requires.room in
    room_for_one i.entries.items i.operands.below.values i.locals.below.values i.entries.len i.entries.cap (standing_of i) i.entries.ok.0 refl refl h.entries
