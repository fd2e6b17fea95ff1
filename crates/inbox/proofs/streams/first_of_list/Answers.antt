use Rattle.std.proofs.Common.{◌<◌, length, arith, ap, sym, ◌∙◌}
use Rattle.std.proofs.lemmas.List.{get_or_default}
use Rattle.inbox.specs.declared.letters.Letter.{Letter}
use Rattle.inbox.proofs.Streaming.{IsRun, list_taken, no_letter, not_none}
use Rattle.inbox.proofs.streams.first_of_list.Goals as goal

pub returns : goal.returns
returns c =
    let letters = c.args.letters.now in
    let count = c.run_length.result in
    let run = c.split_at.result.0.now in
    let is : IsRun letters c.args.least count = record {
      bound = c.run_length.ensures.bound;
      late = c.run_length.ensures.late;
      own = c.run_length.ensures.own;
      rising = c.run_length.ensures.rising;
    } in
    let some : 0 < count = omega (arith, not_none (length run) c.is_empty.result c.is_empty.ensures c.if-is_empty.false, c.split_at.ensures.front_len) in
    list_taken letters c.args.least count is _ c.split_at.result.0 c.split_at.result.1 c.split_at.ensures.front c.split_at.ensures.back some
    (λ d. ap (λ (letter : Letter). letter.from) (get_or_default letters 0 d no_letter (omega (arith, some, c.run_length.ensures.bound)) ∙ sym (c.split_at.ensures.by_index.1 0 no_letter some)))
