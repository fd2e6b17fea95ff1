use Rattle.std.proofs.Common.{inr}
use Rattle.std.proofs.lemmas.Result.{IfOk-weaker}
use Rattle.explanations.specs.inside.Shown.{texts}
use Rattle.explanations.proofs.Listings.{stretch_map}
use Rattle.explanations.proofs.module_place.place_text.Goals as goal

pub returns-in-Some-body : goal.returns-in-Some-body
returns-in-Some-body c = IfOk-weaker c.body_text.result _ _ (λ told shows. inr (inr (record {
  body = texts c.in-Some-body.body.now;
  inside = stretch_map (λ l. l.now) c.args.printed.now.lines.items c.in-Some-body.body.now c.in-Some-body.ensures;
  heading = shows.heading;
  listing = shows.listing;
  is_listing = shows.is_listing;
  joined = shows.joined;
}))) c.body_text.ensures
