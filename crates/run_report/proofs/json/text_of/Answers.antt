use Rattle.std.proofs.Common.{◌∙◌, ◌≤◌, Some, ap, subst, sym}
use Rattle.std.proofs.lemmas.Result.{IfOk-weaker}
use Rattle.serde_json.specs.Data.{Data, depth}
use Rattle.serde_json.specs.Read.{max_depth}
use Rattle.serde_json.specs.Written.{compact_text, has_float}
use Rattle.run_report.proofs.Depths.{report_flat, report_whole}
use Rattle.run_report.proofs.json.text_of.Goals as goal

pub returns-clause-compact : goal.returns-clause-compact
returns-clause-compact c =
    let same = c.in_ok-value.ensures in
    let whole = ap has_float same ∙ report_whole c.args.files c.args.report.now in
    IfOk-weaker c.to_string.result _ _ (λ json told. told whole ∙ ap compact_text same) c.to_string.ensures.text

pub returns-clause-reads_back : goal.returns-clause-reads_back
returns-clause-reads_back c =
    let same = c.in_ok-value.ensures in
    let flat = subst (λ (d : Data). depth d ≤ max_depth) (sym same) (report_flat c.args.files c.args.report.now) in
    IfOk-weaker c.to_string.result _ _ (λ json told. told flat ∙ ap Some same) c.to_string.ensures.reads_back
