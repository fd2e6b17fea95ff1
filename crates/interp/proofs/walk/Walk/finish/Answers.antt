use Rattle.std.proofs.Common.{◌≡◌, ◌+◌, refl, sym, ◌∙◌, subst, arith}
use Rattle.wasm_ast.specs.Code.{Code}
use Rattle.verified.specs.View.{code_of}
use Rattle.semantics.specs.Machine.{Done, run}
use Rattle.interp.specs.inside.Cells.{cell_advance, in_width}
use Rattle.interp.specs.inside.Place.{at, hosted, running, state_of}
use Rattle.interp.specs.inside.Walk.{BeginsAgain, Follows, IsWithinRoom, SendsFrom, max_count}
use Rattle.interp.proofs.Following.{again_falls, again_follows, again_room, cell_goes, cell_room, falls_on, finishes_on, follows_on, frame_room}
use Rattle.interp.proofs.Hosting.{goes_without, turned_hosted}
use Rattle.interp.proofs.Sending.{on_any}
use Rattle.interp.proofs.walk.Walk.finish.Goals as goal

pub go_on-requires-clause-leads : goal.go_on-requires-clause-leads
go_on-requires-clause-leads c =
    let m = c.args.program.module.now in
    let leads = c.requires.ends.leads in
    record {
      leads = record { from = leads.from; follows = c.turns.invariant.follows leads.from leads.follows leads.ends; ends = leads.ends };
      low = λ n. subst (λ r. IsWithinRoom r (run m n leads.from)) (sym c.turns.invariant.room) (c.requires.ends.low n);
    }

pub turn-requires-clause-fits : goal.turn-requires-clause-fits
turn-requires-clause-fits c =
    let leads = c.requires.ends.leads in
    let here = at (hosted c.go_on.new.self c.go_on.new.host) (code_of c.in_ok-stop.stop.code.now) c.in_ok-stop.stop.count in
    let follows = c.in_ok-stop.ensures.passes leads.from (c.turns.invariant.follows leads.from leads.follows leads.ends) leads.ends in
    let within = cell_room c.args.program.module.now leads.from here follows max_count leads.ends in
    omega (arith, within)

pub turn-requires-clause-goes : goal.turn-requires-clause-goes
turn-requires-clause-goes c =
    let leads = c.requires.ends.leads in
    let here = at (hosted c.go_on.new.self c.go_on.new.host) (code_of c.in_ok-stop.stop.code.now) c.in_ok-stop.stop.count in
    let follows = c.in_ok-stop.ensures.passes leads.from (c.turns.invariant.follows leads.from leads.follows leads.ends) leads.ends in
    goes_without c.go_on.new.host c.args.program.module.now c.args.program.calls.now c.requires.calls c.go_on.new.self (code_of c.in_ok-stop.stop.code.now) c.in_ok-stop.ensures.stops c.in_ok-stop.stop.count
    (cell_goes c.args.program.module.now leads.from here follows max_count leads.ends)

pub turn-requires-clause-room : goal.turn-requires-clause-room
turn-requires-clause-room c =
    let leads = c.requires.ends.leads in
    let follows = c.in_ok-stop.ensures.passes leads.from (c.turns.invariant.follows leads.from leads.follows leads.ends) leads.ends in
    let room = frame_room c.args.program.module.now leads.from (hosted c.go_on.new.self c.go_on.new.host) (code_of c.in_ok-stop.stop.code.now) c.in_ok-stop.stop.count _ (c.go_on.ensures.room ∙ c.turns.invariant.room) follows c.requires.ends.low in
    record { entries = room.entries; operands = room.operands; locals = room.locals }

pub overflow_add-count : goal.overflow_add-count
overflow_add-count c =
    let m = c.args.program.module.now in
    let leads = c.requires.ends.leads in
    let here = at (hosted c.go_on.new.self c.go_on.new.host) (code_of c.in_ok-stop.stop.code.now) c.in_ok-stop.stop.count in
    let follows = c.in_ok-stop.ensures.passes leads.from (c.turns.invariant.follows leads.from leads.follows leads.ends) leads.ends in
    let turned = turned_hosted c.go_on.new.host c.args.program.module.now c.args.program.calls.now c.requires.calls c.go_on.new.self (code_of c.in_ok-stop.stop.code.now) c.in_ok-stop.ensures.stops c.in_ok-stop.stop.count c.turn.result c.turn.new.self c.turn.ensures.turned in
    let again : BeginsAgain (cell_advance in_width m (running here)) c.in-Again.body.now (hosted c.turn.new.self c.go_on.new.host) c.in-Again.counted = rw c.in-Again.is at turned in
    let room = again_room m leads.from here follows max_count leads.ends c.in-Again.body.now (hosted c.turn.new.self c.go_on.new.host) c.in-Again.counted again in
    omega (arith, room)

pub turns-init : goal.turns-init
turns-init c = record { follows = λ from follows ends. follows; room = refl }

pub turns-smaller-in-Next : goal.turns-smaller-in-Next
turns-smaller-in-Next c =
    let here = at (hosted c.go_on.new.self c.go_on.new.host) (code_of c.in_ok-stop.stop.code.now) c.in_ok-stop.stop.count in
    let next = at (hosted c.turn.new.self c.go_on.new.host) (code_of c.in-Next.next.now) c.in-Next.counted in
    let turned = turned_hosted c.go_on.new.host c.args.program.module.now c.args.program.calls.now c.requires.calls c.go_on.new.self (code_of c.in_ok-stop.stop.code.now) c.in_ok-stop.ensures.stops c.in_ok-stop.stop.count c.turn.result c.turn.new.self c.turn.ensures.turned in
    let step : cell_advance in_width c.args.program.module.now (running here) ≡ running next = rw c.in-Next.is at turned in
    let leads = c.requires.ends.leads in
    let follows = c.in_ok-stop.ensures.passes leads.from (c.turns.invariant.follows leads.from leads.follows leads.ends) leads.ends in
    let less = falls_on c.args.program.module.now leads.from here follows max_count leads.ends next step in
    omega (arith, less, c.in_ok-stop.ensures.closer)

pub turns-preserved-in-Next : goal.turns-preserved-in-Next
turns-preserved-in-Next c =
    let here = at (hosted c.go_on.new.self c.go_on.new.host) (code_of c.in_ok-stop.stop.code.now) c.in_ok-stop.stop.count in
    let next = at (hosted c.turn.new.self c.go_on.new.host) (code_of c.in-Next.next.now) c.in-Next.counted in
    let turned = turned_hosted c.go_on.new.host c.args.program.module.now c.args.program.calls.now c.requires.calls c.go_on.new.self (code_of c.in_ok-stop.stop.code.now) c.in_ok-stop.ensures.stops c.in_ok-stop.stop.count c.turn.result c.turn.new.self c.turn.ensures.turned in
    let step : cell_advance in_width c.args.program.module.now (running here) ≡ running next = rw c.in-Next.is at turned in
    record {
      follows = λ from follows ends. follows_on c.args.program.module.now from here (c.in_ok-stop.ensures.passes from (c.turns.invariant.follows from follows ends) ends) max_count ends next step;
      room = c.turn.ensures.room ∙ c.go_on.ensures.room ∙ c.turns.invariant.room;
    }

pub turns-smaller : goal.turns-smaller
turns-smaller c =
    let m = c.args.program.module.now in
    let leads = c.requires.ends.leads in
    let here = at (hosted c.go_on.new.self c.go_on.new.host) (code_of c.in_ok-stop.stop.code.now) c.in_ok-stop.stop.count in
    let follows = c.in_ok-stop.ensures.passes leads.from (c.turns.invariant.follows leads.from leads.follows leads.ends) leads.ends in
    let turned = turned_hosted c.go_on.new.host c.args.program.module.now c.args.program.calls.now c.requires.calls c.go_on.new.self (code_of c.in_ok-stop.stop.code.now) c.in_ok-stop.ensures.stops c.in_ok-stop.stop.count c.turn.result c.turn.new.self c.turn.ensures.turned in
    let again : BeginsAgain (cell_advance in_width m (running here)) c.in-Again.body.now (hosted c.turn.new.self c.go_on.new.host) c.in-Again.counted = rw c.in-Again.is at turned in
    let less = again_falls m leads.from here follows max_count leads.ends c.in-Again.body.now (hosted c.turn.new.self c.go_on.new.host) c.in-Again.counted again in
    omega (arith, less, c.in_ok-stop.ensures.closer)

pub turns-preserved : goal.turns-preserved
turns-preserved c =
    let m = c.args.program.module.now in
    let here = at (hosted c.go_on.new.self c.go_on.new.host) (code_of c.in_ok-stop.stop.code.now) c.in_ok-stop.stop.count in
    let turned = turned_hosted c.go_on.new.host c.args.program.module.now c.args.program.calls.now c.requires.calls c.go_on.new.self (code_of c.in_ok-stop.stop.code.now) c.in_ok-stop.ensures.stops c.in_ok-stop.stop.count c.turn.result c.turn.new.self c.turn.ensures.turned in
    let again : BeginsAgain (cell_advance in_width m (running here)) c.in-Again.body.now (hosted c.turn.new.self c.go_on.new.host) c.in-Again.counted = rw c.in-Again.is at turned in
    record {
      follows = λ from follows ends.
          let on = again_follows m from here (c.in_ok-stop.ensures.passes from (c.turns.invariant.follows from follows ends) ends) max_count ends c.in-Again.body.now (hosted c.turn.new.self c.go_on.new.host) c.in-Again.counted again in
          subst (λ (k : Code). Follows m from (at (hosted c.turn.new.self c.go_on.new.host) k (c.in-Again.counted + 1))) (sym c.as_slice-rest.ensures) on;
      room = c.turn.ensures.room ∙ c.go_on.ensures.room ∙ c.turns.invariant.room;
    }

pub returns-in-Finished-clause-concludes : goal.returns-in-Finished-clause-concludes
returns-in-Finished-clause-concludes c =
    let here = at (hosted c.go_on.new.self c.go_on.new.host) (code_of c.in_ok-stop.stop.code.now) c.in_ok-stop.stop.count in
    let final = state_of (hosted c.turn.new.self c.go_on.new.host) c.in-Finished.counted in
    let turned = turned_hosted c.go_on.new.host c.args.program.module.now c.args.program.calls.now c.requires.calls c.go_on.new.self (code_of c.in_ok-stop.stop.code.now) c.in_ok-stop.ensures.stops c.in_ok-stop.stop.count c.turn.result c.turn.new.self c.turn.ensures.turned in
    let step : cell_advance in_width c.args.program.module.now (running here) ≡ Done final = rw c.in-Finished.is at turned in
    λ from follows ends. finishes_on c.args.program.module.now from here (c.in_ok-stop.ensures.passes from (c.turns.invariant.follows from follows ends) ends) max_count ends final step

pub returns-in-Finished-clause-room : goal.returns-in-Finished-clause-room
returns-in-Finished-clause-room c = c.turn.ensures.room ∙ c.go_on.ensures.room ∙ c.turns.invariant.room

pub returns-in_err-stop-clause-sends : goal.returns-in_err-stop-clause-sends
returns-in_err-stop-clause-sends c =
    let all : SendsFrom c.args.program.module.now (at (hosted c.args.self.now c.args.host.now) (code_of c.args.code.now) 0) max_count = λ from follows ends.
    c.in_err-stop.ensures.sends from (c.turns.invariant.follows from follows ends) ends in
    on_any _ _ all
