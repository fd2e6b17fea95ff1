use Rattle.std.proofs.Common.{◌∙◌, Some, [], ◌∷◌, ◌++◌, ap, sym}
use Rattle.run_report.specs.Tally.{closed, with_dropped}
use Rattle.run_report.proofs.Closing.{closed-last}
use Rattle.run_report.proofs.tally.close.Goals as goal

pub returns : goal.returns
returns c =
    let others = c.in-Some.others.now in
    let last = c.in-Some.last.now in
    ap (λ rest. others ++ with_dropped last rest ∷ []) c.rest_behind-last.ensures
    ∙ sym (closed-last others last (Some c.args.dropped))
    ∙ ap (λ all. closed all (Some c.args.dropped)) (sym c.in-Some.ensures.cases.0)
