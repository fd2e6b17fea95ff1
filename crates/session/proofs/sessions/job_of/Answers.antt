use Rattle.std.proofs.Common.{◌≡◌, Some}
use Rattle.job_state.specs.Settings.{first_bad}
use Rattle.sources.specs.declared.fault.CommandFault.TheVariants as command
use Rattle.sources.specs.Jobs.{RefusesSettings}
use Rattle.session.specs.inside.SeenLines.{reply_text}
use Rattle.session.proofs.Answering.{told_of}
use Rattle.session.proofs.sessions.job_of.Goals as goal

pub returns-in-Some : goal.returns-in-Some
returns-in-Some c =
    let bad : first_bad c.args.settings ≡ Some c.in-Some.setting = cc in
    told_of (RefusesSettings c.args.settings) (command.Settings c.in-Some.setting) (reply_text c.refusal.result) bad c.refusal.ensures
