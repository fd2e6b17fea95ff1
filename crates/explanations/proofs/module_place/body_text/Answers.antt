use Rattle.std.proofs.Common.{◌∙◌, string_bytes}
use Rattle.std.proofs.lemmas.Result.{IfOk-weaker}
use Rattle.explanations.specs.Listing.{listed}
use Rattle.explanations.specs.inside.Shown.{texts}
use Rattle.explanations.proofs.Listings.{listing_of}
use Rattle.explanations.proofs.module_place.body_text.Goals as goal

pub returns : goal.returns
returns c =
    let part = c.push_around.ensures in
    IfOk-weaker c.finish.result _ _ (λ told whole. record {
      heading = string_bytes c.push_heading.new.text.text;
      listing = listed c.args.instruction part.first (texts part.part);
      is_listing = listing_of c.args.body.now part.part part.first c.args.instruction part.cut;
      joined = whole.1 ∙ (part.gains whole.0).1;
    }) c.finish.ensures.text
