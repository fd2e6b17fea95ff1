use Rattle.std.proofs.Common.{inr}
use Rattle.std.proofs.lemmas.Result.{IfOk-weaker}
use Rattle.sources.specs.Source.{content, is_text}
use Rattle.explanations.proofs.Modules.{within_by}
use Rattle.explanations.proofs.module_place.seen_of.Goals as goal

pub seen_in-requires : goal.seen_in-requires
seen_in-requires c = within_by (is_text c.args.source.now) (content c.args.source.now) c.in-Ok.«module» c.in-Ok.ensures.found

pub returns-in-Ok : goal.returns-in-Ok
returns-in-Ok c = IfOk-weaker c.seen_in.result _ _ (λ seen shows. inr (record {
  m = c.in-Ok.«module»;
  means = c.in-Ok.ensures.found;
  shows = shows;
})) c.seen_in.ensures
