use Rattle.std.proofs.Common.{refl}
use Rattle.std.specs.Prelude.{string_bytes}
use Rattle.std.specs.BTreeMap.{get_by_text}
use Rattle.session.specs.inside.SeenLines.{reply_text}
use Rattle.session.proofs.Answering.{names_job, names_no_job}
use Rattle.session.proofs.sessions.name_job.Goals as goal

pub returns-in-Ok : goal.returns-in-Ok
returns-in-Ok c =
    names_job c.args.name.now c.args.job _ (get_by_text c.args.jobs.now) (get_by_text c.named.new.map) (string_bytes c.in-Ok.text) (reply_text c.named.result)
    c.in-Ok.ensures c.named.ensures refl refl

pub returns-in-Err : goal.returns-in-Err
returns-in-Err c = names_no_job c.args.name.now c.args.job (get_by_text c.args.jobs.now)
