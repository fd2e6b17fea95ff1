use Rattle.std.proofs.Common.{◌≡◌, map, rules}
use Rattle.std.proofs.lemmas.Iterator.{YieldsList-from_slice}
use Rattle.std.proofs.lemmas.Iterator.Consumers.{map_from_collect}
use Rattle.std.proofs.lemmas.Result.{IfOk-at_ok}
use Rattle.std.specs.List.Sorted.{IsPermutation}
use Rattle.std.proofs.lemmas.Map.Keys.{IsDistinct-IsPermutation}
use Rattle.inbox.specs.Merging.{are_one}
use Rattle.std.proofs.lemmas.List.Sorted.{answers_always, IsPermutation-map}
use Rattle.inbox.proofs.Order.{rises, are_one-flips}
use Rattle.inbox.proofs.merging.by_source.Goals as goal

pub returns : goal.returns
returns c =
    let up = c.sort_unstable_by_key.ensures.sorted (λ letter. (letter.now.from, letter.now.seq)) (answers_always _ _ _ (λ f a r g h. search rules)) in
    let held : map (λ letter. letter.now) c.in_ok-ordered.ordered.items ≡ c.args.letters.now =
    IfOk-at_ok _ c.in_ok-ordered.was (map_from_collect _ c.collect.ensures.ran (YieldsList-from_slice c.args.letters.now cc)) in
    let same : IsPermutation c.args.letters.now (map (λ letter. letter.now) c.sort_unstable_by_key.new.self.items) =
    rw (← held) (IsPermutation-map (λ letter. letter.now) _ _ c.sort_unstable_by_key.ensures.permutation) in
    record { same = same; rising = rises (λ letter. letter.now) _ up (IsDistinct-IsPermutation are_one are_one-flips _ _ same c.requires) }
