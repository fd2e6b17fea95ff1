use Rattle.std.proofs.Common.{map, ap, ◌∙◌}
use Rattle.std.proofs.lemmas.Result.{IfOk-weaker}
use Rattle.inbox.specs.declared.letters.Letter.{Letter}
use Rattle.inbox.proofs.all_parts.inbox_at.Goals as goal

pub returns : goal.returns
returns c =
    IfOk-weaker c.inbox_with.result _ _ (λ inbox made up. made ∙ ap (map (λ (letter : Letter). letter.value)) (c.run_to-mine.ensures up))
    c.inbox_with.ensures
