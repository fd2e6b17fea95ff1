use Rattle.explanations.proofs.listing.push_around.Goals as goal

pub returns : goal.returns
returns c = record {
  part = c.shown_of-shown.result.lines.now;
  first = c.shown_of-shown.result.first;
  cut = c.shown_of-shown.ensures.cut;
  gains = c.push_lines.ensures;
}
