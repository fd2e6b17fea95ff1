use Rattle.sources.specs.Reading.{IsNoGraphAt}
use Rattle.session.specs.inside.SeenLines.{reply_text}
use Rattle.session.proofs.Answering.{told_of}
use Rattle.session.proofs.reading.graph_at.Goals as goal

pub returns-in-Err-clause-found : goal.returns-in-Err-clause-found
returns-in-Err-clause-found g c =
    told_of (IsNoGraphAt (g.F.Files.disk c.args.files.now) c.args.path.now) c.in-Err.fault (reply_text c.refusal.result)
    c.in-Err.ensures.found c.refusal.ensures
