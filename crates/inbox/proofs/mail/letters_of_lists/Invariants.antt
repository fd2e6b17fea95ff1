use Rattle.std.proofs.Common.{◌≡◌, filter, take}
use Rattle.inbox.specs.Merging.{all_of}
use Rattle.inbox.specs.inside.Shares.{goes_into}
use Rattle.inbox.proofs.mail.letters_of_lists.Given as goal

abbrev pub invariant-loop-list : goal.invariant-loop-list
invariant-loop-list l = l.letters.items ≡ filter (goes_into l.targets) (all_of (take l.list-index l.lists))
