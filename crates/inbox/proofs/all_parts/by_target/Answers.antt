use Rattle.std.proofs.Common.{filter}
use Rattle.std.specs.List.Sorted.{IsPermutation}
use Rattle.std.proofs.lemmas.Map.Keys.{IsDistinct-IsPermutation}
use Rattle.inbox.specs.Merging.{are_one}
use Rattle.inbox.specs.inside.Mail.{letters_in}
use Rattle.inbox.specs.inside.Shares.{goes_into}
use Rattle.inbox.proofs.Order.{are_one-flips}
use Rattle.inbox.proofs.ByTarget.{rises_by_target}
use Rattle.inbox.proofs.InShares.{distinct_filter}
use Rattle.inbox.proofs.all_parts.by_target.Goals as goal

pub returns : goal.returns
returns c =
    let letters = letters_in c.args.mail in
    let within = goes_into c.args.targets in
    let sorted = c.sort.new.self.items in
    let same : IsPermutation (filter within letters) sorted = rw (← c.in_ok-letters.ensures) c.in_ok-sort.ensures.permutation in
    let apart = IsDistinct-IsPermutation are_one are_one-flips (filter within letters) sorted same (distinct_filter are_one within letters c.requires) in
    record { same = same; rising = rises_by_target sorted c.in_ok-sort.ensures.sorted apart }
