use Rattle.session.specs.inside.SeenLines.{reply_text}
use Rattle.session.specs.inside.Seen.{maps_of}
use Rattle.session.proofs.Answering.{copied_some, values_told}
use Rattle.session.proofs.sessions.report_values.Goals as goal

pub returns-in-Some : goal.returns-in-Some
returns-in-Some c =
    let maps = maps_of c.args.session.now in
    let name = c.args.name.now in
    values_told maps name (reply_text c.values_of.result) c.in-Some.held.now (copied_some c.get.result c.in-Some.held (maps.jobs name) c.get.ensures.value c.in-Some.is)
    c.values_of.ensures
