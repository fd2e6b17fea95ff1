use Rattle.session.specs.inside.SeenLines.{reply_text}
use Rattle.session.specs.inside.Seen.{maps_of}
use Rattle.session.specs.Replies.{status_line}
use Rattle.session.proofs.Answering.{copied_some, reply_of, status_told}
use Rattle.session.proofs.sessions.report_status.Goals as goal

pub returns-in-Some : goal.returns-in-Some
returns-in-Some c =
    let maps = maps_of c.args.session.now in
    let name = c.args.name.now in
    let held = c.in-Some.held.now in
    status_told maps name (reply_text c.of.result) held (copied_some c.get.result c.in-Some.held (maps.jobs name) c.get.ensures.value c.in-Some.is)
    (reply_of (status_line name held.state) c.status_text.result c.of.result c.status_text.ensures c.of.ensures)
