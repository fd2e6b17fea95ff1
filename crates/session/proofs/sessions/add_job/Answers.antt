use Rattle.std.proofs.Common.{◌∙◌, refl, sym}
use Rattle.std.specs.BTreeMap.{get_by_text}
use Rattle.session.specs.inside.SeenLines.{reply_text}
use Rattle.session.specs.inside.Seen.{maps_of}
use Rattle.session.proofs.Answering.{copied_none, copied_some, job_named, job_refused, job_taken, job_without_graph, job_without_module}
use Rattle.session.proofs.sessions.add_job.Goals as goal

pub returns-in-Ok : goal.returns-in-Ok
returns-in-Ok c =
    let maps = maps_of c.args.session.now in
    job_named maps c.args.name.now c.args.«module».now c.args.graph.now c.args.settings (reply_text c.name_job.result) c.in-Some.verified.now
    c.in-Some-get.graph.now c.in-Ok.job (get_by_text c.name_job.new.jobs) (sym c.is_held.ensures ∙ c.if-is_held.false)
    (copied_some c.get.result c.in-Some.verified (maps.modules c.args.«module».now) c.get.ensures.value c.in-Some.is)
    (copied_some c.get-2.result c.in-Some-get.graph (maps.graphs c.args.graph.now) c.get-2.ensures.value c.in-Some-get.is)
    c.in-Ok.ensures c.name_job.ensures

pub returns-then-is_held : goal.returns-then-is_held
returns-then-is_held c =
    job_taken (maps_of c.args.session.now) c.args.name.now c.args.«module».now c.args.graph.now c.args.settings _
    (sym c.is_held.ensures ∙ c.if-is_held.true) refl

pub returns-in_default : goal.returns-in_default
returns-in_default c =
    let maps = maps_of c.args.session.now in
    job_without_module maps c.args.name.now c.args.«module».now c.args.graph.now c.args.settings _ (sym c.is_held.ensures ∙ c.if-is_held.false)
    (copied_none c.get.result (maps.modules c.args.«module».now) c.get.ensures.value c.in_default.is) refl

pub returns-in_default-get : goal.returns-in_default-get
returns-in_default-get c =
    let maps = maps_of c.args.session.now in
    job_without_graph maps c.args.name.now c.args.«module».now c.args.graph.now c.args.settings _ (sym c.is_held.ensures ∙ c.if-is_held.false)
    (copied_none c.get-2.result (maps.graphs c.args.graph.now) c.get-2.ensures.value c.in_default-get.is) refl

pub returns-in-Err : goal.returns-in-Err
returns-in-Err c =
    let maps = maps_of c.args.session.now in
    job_refused maps c.args.name.now c.args.«module».now c.args.graph.now c.args.settings (reply_text c.in-Err.reply) c.in-Some.verified.now
    c.in-Some-get.graph.now (sym c.is_held.ensures ∙ c.if-is_held.false)
    (copied_some c.get.result c.in-Some.verified (maps.modules c.args.«module».now) c.get.ensures.value c.in-Some.is)
    (copied_some c.get-2.result c.in-Some-get.graph (maps.graphs c.args.graph.now) c.get-2.ensures.value c.in-Some-get.is)
    c.in-Err.ensures
