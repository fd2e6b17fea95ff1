use Rattle.std.proofs.Common.{◌≡◌, ◌++◌, filter, take}
use Rattle.inbox.specs.inside.Shares.{goes_into}
use Rattle.inbox.proofs.mail.copy_list.Given as goal

abbrev pub invariant-loop-letter : goal.invariant-loop-letter
invariant-loop-letter l = l.letters.items ≡ l.fn.letters.items ++ filter (goes_into l.targets) (take l.letter-index l.list)
