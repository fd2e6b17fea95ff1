use Rattle.std.proofs.Common.{filter, rules}
use Rattle.std.proofs.lemmas.List.Sorted.{answers_always}
use Rattle.std.proofs.lemmas.Map.Keys.{IsDistinct-IsPermutation}
use Rattle.std.specs.List.Sorted.{IsPermutation}
use Rattle.inbox.specs.Merging.{are_one}
use Rattle.inbox.specs.inside.Mail.{letters_in}
use Rattle.inbox.specs.inside.Shares.{goes_into}
use Rattle.inbox.proofs.InShares.{distinct_filter}
use Rattle.inbox.proofs.Order.{are_one-flips, rise}
use Rattle.inbox.proofs.all_parts.sorted_by_source.Goals as goal

pub returns : goal.returns
returns c =
    let letters = letters_in c.args.mail in
    let within = goes_into c.args.targets in
    let sorted = c.sort_by_key.new.self.items in
    let up = c.in_ok-sort_by_key.ensures.sorted (λ letter. (letter.from, letter.seq)) (answers_always _ _ _ (λ f a r g h. search rules)) in
    let same : IsPermutation (filter within letters) sorted = rw (← c.in_ok-letters.ensures) c.in_ok-sort_by_key.ensures.permutation in
    let apart = IsDistinct-IsPermutation are_one are_one-flips (filter within letters) sorted same (distinct_filter are_one within letters c.requires) in
    record { same = same; rising = rise sorted up apart }
