use Rattle.std.proofs.Common.{◌∙◌, ◌++◌, ap, arith, filter}
use Rattle.std.proofs.lemmas.Grind.{common_steps}
use Rattle.std.proofs.lemmas.List.{take_all}
use Rattle.std.proofs.lemmas.List.Elements.{filter_more}
use Rattle.inbox.specs.inside.Shares.{goes_into}
use Rattle.inbox.proofs.mail.copy_list.Goals as goal

pub loop-letter-preserved : goal.loop-letter-preserved
loop-letter-preserved c = grind (arith, common_steps, filter_more)

pub returns : goal.returns
returns c =
    let all = take_all c.loop-letter.letter-index c.args.list.now c.loop-letter-test.false in
    c.loop-letter.invariant ∙ ap (λ list. c.args.letters.now.items ++ filter (goes_into c.args.targets) list) all
