use Rattle.std.proofs.Common.{◌≡◌, ◌∙◌, ap, drop, sym, take}
use Rattle.std.proofs.lemmas.List.{take_rest}
use Rattle.std.proofs.lemmas.List.Sums.{prefix_len_is}
use Rattle.std.specs.List.{prefix_len}
use Rattle.inbox.specs.Merging.{goes_to}
use Rattle.inbox.proofs.SideBySide.{letters_found, no_letter}
use Rattle.inbox.proofs.all_parts.run_to.Goals as goal

pub returns : goal.returns
returns c = λ up.
    let letters = c.args.letters.now in
    let id = c.args.id in
    let start = c.start_from-start.result in
    let rest = drop start letters in
    let counted = rw (take_rest letters start) at c.count_to-count.ensures in
    let count : prefix_len (λ letter. goes_to letter id) rest ≡ c.count_to-count.result = prefix_len_is (λ letter. goes_to letter id) rest c.count_to-count.result no_letter counted.bound (λ k early. counted.own k no_letter early) (counted.next no_letter) in
    rw (take_rest letters start) (ap (λ n. take n rest) (sym count) ∙ letters_found id letters start up c.start_from-start.ensures.bound (c.start_from-start.ensures.found up))
