use Rattle.std.proofs.Common.{◌∙◌, string_bytes}
use Rattle.std.proofs.lemmas.Result.{IfOk-weaker}
use Rattle.explanations.proofs.module_place.import_text.Goals as goal

pub returns : goal.returns
returns c = IfOk-weaker c.finish.result _ _ (λ told whole. (
  string_bytes c.push_import_heading.new.text.text,
  whole.1 ∙ (c.push_whole.ensures whole.0).1,
)) c.finish.ensures.text
