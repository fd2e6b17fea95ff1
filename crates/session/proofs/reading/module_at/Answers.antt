use Rattle.sources.specs.Reading.{IsRefusedAt}
use Rattle.sources.specs.Source.{RefusesLoad}
use Rattle.session.specs.inside.SeenLines.{reply_text}
use Rattle.session.proofs.Answering.{told_of}
use Rattle.session.proofs.reading.module_at.Goals as goal

pub returns-in-Err-clause-found : goal.returns-in-Err-clause-found
returns-in-Err-clause-found g c =
    told_of (IsRefusedAt (g.F.Files.disk c.args.files.now) c.args.path.now RefusesLoad) c.in-Err.fault (reply_text c.refusal.result)
    c.in-Err.ensures.found c.refusal.ensures
