use Rattle.std.proofs.Common.{◌∙◌, ◌++◌, ◌∷◌, [], ap, get_or, map, rules, sym, w64}
use Rattle.std.proofs.lemmas.Int.{to_z-of_z}
use Rattle.std.proofs.lemmas.List.{map_more, take_all}
use Rattle.inbox.specs.declared.letters.Letter.{Letter}
use Rattle.inbox.proofs.SideBySide.{no_letter}
use Rattle.inbox.proofs.all_parts.inbox_with.Goals as goal
use mir.Val.{SFits}

pub loop-letter-preserved : goal.loop-letter-preserved
loop-letter-preserved c =
    let letters = c.args.letters.now in
    let letter = get_or letters c.loop-letter.letter-index no_letter in
    let fits : SFits w64 letter.value = search rules in
    let pushed = simp to_z-of_z at c.in_ok-push.ensures.ok in
    let more = map_more (λ (letter : Letter). letter.value) letters c.loop-letter.letter-index no_letter c.loop-letter-test.true in
    pushed ∙ ap (λ inbox. inbox ++ letter.value ∷ []) c.loop-letter.invariant ∙ sym more

pub returns : goal.returns
returns c =
    let all = take_all c.loop-letter.letter-index c.args.letters.now c.loop-letter-test.false in
    c.loop-letter.invariant ∙ ap (map (λ (letter : Letter). letter.value)) all
