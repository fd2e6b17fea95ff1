use Rattle.std.proofs.Common.{◌≡◌, ℕ, List, subst, sym}
use Rattle.sources.specs.Disk.{Disk}
use Rattle.session.specs.declared.command.Command.{Command}
use Rattle.session.specs.Maps.{Maps}
use Rattle.session.specs.Runs.{Runs}
use Rattle.session.specs.Transcript.{IsReplyTo}
use Rattle.session.specs.inside.Seen.{maps_of}
use Rattle.session.specs.inside.SeenLines.{asked, reply_text}
use Rattle.session.proofs.sessions.answer.Goals as goal

-- the reply to the command that was met is one to the command
replies : (disk : Disk) (runs : Runs) (maps after : Maps) (command met : Command) (reply : List ℕ) → command ≡ met
    → IsReplyTo disk runs maps (asked met) reply after → IsReplyTo disk runs maps (asked command) reply after
replies disk runs maps after command met reply is told = subst (λ (c : Command). IsReplyTo disk runs maps (asked c) reply after) (sym is) told

pub returns-in-AddModule-clause-answered : goal.returns-in-AddModule-clause-answered
returns-in-AddModule-clause-answered g c =
    replies (g.F.Files.disk c.args.files.now) (g.N.Runner.runs c.args.runner.now) (maps_of c.args.session.now) (maps_of c.add_module.new.session)
    c.args.command _ (reply_text c.add_module.result) c.in-AddModule.is c.add_module.ensures.answered

pub returns-in-AddGraph-clause-answered : goal.returns-in-AddGraph-clause-answered
returns-in-AddGraph-clause-answered g c =
    replies (g.F.Files.disk c.args.files.now) (g.N.Runner.runs c.args.runner.now) (maps_of c.args.session.now) (maps_of c.add_graph.new.session)
    c.args.command _ (reply_text c.add_graph.result) c.in-AddGraph.is c.add_graph.ensures.answered

pub returns-in-AddJob-clause-answered : goal.returns-in-AddJob-clause-answered
returns-in-AddJob-clause-answered g c =
    replies (g.F.Files.disk c.args.files.now) (g.N.Runner.runs c.args.runner.now) (maps_of c.args.session.now) (maps_of c.add_job.new.session)
    c.args.command _ (reply_text c.add_job.result) c.in-AddJob.is c.add_job.ensures

pub returns-in-Run-clause-answered : goal.returns-in-Run-clause-answered
returns-in-Run-clause-answered g c =
    replies (g.F.Files.disk c.args.files.now) (g.N.Runner.runs c.args.runner.now) (maps_of c.args.session.now) (maps_of c.run_job.new.session)
    c.args.command _ (reply_text c.run_job.result) c.in-Run.is c.run_job.ensures

pub returns-in-Status-clause-answered : goal.returns-in-Status-clause-answered
returns-in-Status-clause-answered g c =
    replies (g.F.Files.disk c.args.files.now) (g.N.Runner.runs c.args.runner.now) (maps_of c.args.session.now) (maps_of c.args.session.now)
    c.args.command _ (reply_text c.report_status.result) c.in-Status.is c.report_status.ensures

pub returns-in-Values-clause-answered : goal.returns-in-Values-clause-answered
returns-in-Values-clause-answered g c =
    replies (g.F.Files.disk c.args.files.now) (g.N.Runner.runs c.args.runner.now) (maps_of c.args.session.now) (maps_of c.args.session.now)
    c.args.command _ (reply_text c.report_values.result) c.in-Values.is c.report_values.ensures

pub returns-in-Drop-clause-answered : goal.returns-in-Drop-clause-answered
returns-in-Drop-clause-answered g c =
    replies (g.F.Files.disk c.args.files.now) (g.N.Runner.runs c.args.runner.now) (maps_of c.args.session.now) (maps_of c.drop_named.new.session)
    c.args.command _ (reply_text c.drop_named.result) c.in-Drop.is c.drop_named.ensures
