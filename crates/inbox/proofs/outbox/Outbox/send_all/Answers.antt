use Rattle.std.proofs.Common.{◌++◌, ◌∷◌, [], arith, ap, length, length-append, refl, ◌∙◌}
use Rattle.inbox.specs.declared.outbox.Source.{Source}
use Rattle.inbox.specs.Merging.{letters_sent}
use Rattle.inbox.specs.inside.Outboxes.{count_of, letters_of}
use Rattle.inbox.proofs.Sending.{count_more, letters_more}
use Rattle.inbox.proofs.outbox.Outbox.send_all.Goals as goal

pub invariant_of-self-2 : goal.invariant_of-self-2
invariant_of-self-2 c =
    let inside = c.self.inside in
    let more = c.args.sends.now in
    let source : Source = record { id = c.args.id; count = length more } in
    let sources = c.in_ok-push.ensures.items ∙ ap (λ sources. sources ++ source ∷ []) c.in_ok-reserve.ensures.items in
    omega (
      arith,
      c.self.invariant,
      ap count_of sources,
      count_more inside.sources.items source,
      ap length c.in_ok-extend_from_slice.ensures.items,
      length-append inside.sends.items more,
    )

pub returns-clause-ok : goal.returns-clause-ok
returns-clause-ok c =
    let inside = c.self.inside in
    let more = c.args.sends.now in
    let source : Source = record { id = c.args.id; count = length more } in
    let sources = c.in_ok-push.ensures.items ∙ ap (λ sources. sources ++ source ∷ []) c.in_ok-reserve.ensures.items in
    (λ i. letters_of (sources i) (c.in_ok-extend_from_slice.ensures.items i))
    ∙ letters_more inside.sources.items source inside.sends.items more c.self.invariant refl
    ∙ ap (λ letters. letters ++ letters_sent c.args.id more) c.self.view_is
