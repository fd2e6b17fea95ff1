use Rattle.std.proofs.Common.{◌∙◌}
use Rattle.std.proofs.lemmas.Iterator.{YieldsList-from_zip, items_from_collect}
use Rattle.std.proofs.lemmas.Iterator.Adapters.{YieldsList-from_vec}
use Rattle.std.proofs.lemmas.Iterator.Consumers.{YieldsList-at}
use Rattle.superstep.proofs.barrier_step.paired.Goals as goal

pub returns : goal.returns
returns c =
    let vertices = YieldsList-from_vec c.args.vertices.items c.into_iter.ensures.rest (c.into_iter.ensures.len ∙ c.args.vertices.ok.0) in
    let inboxes = YieldsList-from_vec c.args.inboxes.items c.zip.ensures.second.0 (c.zip.ensures.second.1 ∙ c.args.inboxes.ok.0) in
    items_from_collect _ c.collect.ensures.ran (YieldsList-from_zip (YieldsList-at c.zip.ensures.first vertices) inboxes)
