use Rattle.std.proofs.Common.{◌∙◌, ◌||◌, ap₂, sym}
use Rattle.std.proofs.lemmas.List.Folds.{list_any_more}
use Rattle.command_line.specs.CommandLine.{is_signed}
use Rattle.command_line.specs.inside.Matches.{rows_in}
use Rattle.command_line.proofs.command_line.any_has_plus.Goals as goal

pub loop-name-preserved : goal.loop-name-preserved
loop-name-preserved c =
    list_any_more (λ s. is_signed (rows_in c.args.entries.now) s.now) c.args.names.now c.loop-name.name-index _ c.loop-name-test.true
    ∙ ap₂ ◌||◌ c.loop-name.invariant (sym c.begins_with_plus.ensures ∙ c.if-begins_with_plus.false)
