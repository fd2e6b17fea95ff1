use Rattle.std.proofs.Common.{◌≡◌, ◌++◌, ◌∷◌, [], ℤ, Vec, Global, pos, filter, get_or, ap, rules, sym, to_z, of_z, w64, ◌∙◌}
use Rattle.std.proofs.lemmas.Int.{to_z-of_z}
use Rattle.std.proofs.lemmas.List.{take_all}
use Rattle.inbox.specs.declared.letters.Letter.{Letter}
use Rattle.inbox.specs.Merging.{letter_sent, letters_sent}
use Rattle.inbox.specs.inside.Shares.{goes_into}
use Rattle.inbox.proofs.Sending.{one_fails, one_passes}
use Rattle.inbox.proofs.outbox.copy_batch.Goals as goal
use Rattle.inbox.proofs.outbox.copy_batch.Goals.{then-takes+in_ok-push, else-takes}

pub loop-seq-preserved : goal.loop-seq-preserved
loop-seq-preserved c =
    let id = c.args.batch.id in
    let sends = c.args.batch.sends.now in
    let seq = c.loop-seq.seq in
    let within = goes_into c.args.targets in
    let before = c.args.letters.now.items in
    let send : ℤ × ℤ = get_or sends seq (pos 0, pos 0) in
    let to : to_z w64 (of_z w64 send.0) ≡ send.0 = search (rules, to_z-of_z) in
    let value : to_z w64 (of_z w64 send.1) ≡ send.1 = search (rules, to_z-of_z) in
    let made : Letter = record { to = to_z w64 (of_z w64 send.0); from = id; seq = seq; value = to_z w64 (of_z w64 send.1) } in
    let same : made ≡ letter_sent id (seq, send) = λ i. record { to = to i; from = id; seq = seq; value = value i } in
    let tested : c.takes.result ≡ within (letter_sent id (seq, send)) = c.takes.ensures ∙ ap within same in
    elim c.if-takes.branch [
      | then-takes+in_ok-push w ↦
          ap (λ (letters : Vec Letter Global). letters.items) w.letters-is
          ∙ w.in_ok-push.ensures.items
          ∙ (λ i. c.loop-seq.invariant i ++ same i ∷ [])
          ∙ sym (one_passes within id sends seq (pos 0, pos 0) before c.loop-seq-test.true (sym tested ∙ w.if-takes.true))
      | else-takes w ↦
          ap (λ (letters : Vec Letter Global). letters.items) w.letters-is
          ∙ c.loop-seq.invariant
          ∙ sym (one_fails within id sends seq (pos 0, pos 0) before c.loop-seq-test.true (sym tested ∙ w.if-takes.false))
    ]

pub returns : goal.returns
returns c =
    let all = take_all c.loop-seq.seq c.args.batch.sends.now c.loop-seq-test.false in
    c.loop-seq.invariant ∙ ap (λ sends. c.args.letters.now.items ++ filter (goes_into c.args.targets) (letters_sent c.args.batch.id sends)) all
