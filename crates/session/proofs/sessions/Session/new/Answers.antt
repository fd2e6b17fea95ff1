use Rattle.session.proofs.Names.{empty_maps}
use Rattle.session.proofs.sessions.Session.new.Goals as goal

pub returns : goal.returns
returns c = empty_maps c.new.result c.new-2.result c.new-3.result c.new.ensures.empty c.new-2.ensures.empty c.new-3.ensures.empty
