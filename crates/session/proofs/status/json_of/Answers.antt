use Rattle.std.proofs.Common.{◌∙◌, ap}
use Rattle.std.proofs.lemmas.Result.{IfOk-weaker}
use Rattle.serde_json.specs.Written.{compact_text, has_float}
use Rattle.session.proofs.Floats.{status-no_float}
use Rattle.session.proofs.status.json_of.Goals as goal

pub returns : goal.returns
returns c =
    let same = c.in_ok-status.ensures in
    let plain = ap has_float same ∙ status-no_float c.args.name.now c.args.state.now in
    IfOk-weaker c.to_string.result _ _ (λ json told. told plain ∙ ap compact_text same) c.to_string.ensures.text
