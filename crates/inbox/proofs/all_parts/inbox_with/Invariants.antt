use Rattle.std.proofs.Common.{◌≡◌, map, take}
use Rattle.inbox.proofs.all_parts.inbox_with.Given as goal

abbrev pub invariant-loop-letter : goal.invariant-loop-letter
invariant-loop-letter l = l.inbox ≡ map (λ letter. letter.value) (take l.letter-index l.letters)
