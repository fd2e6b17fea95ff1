use Rattle.std.proofs.Common.{◌≡◌, false, true, refl, subst, sym, ◌∙◌}
use Rattle.std.specs.Prelude.{string_bytes}
use Rattle.std.specs.BTreeMap.{get_by_text}
use Rattle.session.specs.inside.Answered.{IsSet, is_waiting}
use Rattle.session.specs.inside.Seen.{maps_of}
use Rattle.session.specs.Replies.{not_waiting_line}
use Rattle.session.proofs.Answering.{copied_some, job_ran, run_again, sound_of}
use Rattle.session.proofs.sessions.run_job.Goals as goal

pub returns-then-not-is_waiting : goal.returns-then-not-is_waiting
returns-then-not-is_waiting g c =
    let maps = maps_of c.args.session.now in
    let name = c.args.name.now in
    let held = c.in-Some.held.now in
    let ran : is_waiting held.state ≡ false = sym c.is_waiting.ensures ∙ c.if-not-is_waiting.true in
    run_again (g.N.Runner.runs c.args.runner.now) maps name not_waiting_line held
    (copied_some c.get.result c.in-Some.held (maps.jobs name) c.get.ensures.value c.in-Some.is) ran refl

pub set_state-requires : goal.set_state-requires
set_state-requires g c =
    let maps = maps_of c.args.session.now in
    let name = c.args.name.now in
    sound_of maps.jobs name c.in-Some.held.now c.run-end.result c.state_of.result
    (copied_some c.get.result c.in-Some.held (maps.jobs name) c.get.ensures.value c.in-Some.is) c.run-end.ensures.answer c.state_of.ensures

pub returns-in-Ok : goal.returns-in-Ok
returns-in-Ok g c =
    let maps = maps_of c.args.session.now in
    let name = c.args.name.now in
    let held = c.in-Some.held.now in
    let waits : is_waiting held.state ≡ true = sym c.is_waiting.ensures ∙ c.if-not-is_waiting.false in
    job_ran (g.N.Runner.runs c.args.runner.now) maps name (string_bytes c.in-Ok.text) held c.run-end.result (get_by_text c.set_state.new.jobs)
    (copied_some c.get.result c.in-Some.held (maps.jobs name) c.get.ensures.value c.in-Some.is) waits c.run-end.ensures.end c.run-end.ensures.answer
    c.in-Ok.ensures
    (subst (IsSet maps.jobs (get_by_text c.set_state.new.jobs) name) c.state_of.ensures c.set_state.ensures)
