use Rattle.std.proofs.Common.{◌≡◌, ◌++◌, ◌∷◌, [], of_z, to_z, w64, arith, rules, sym, ◌∙◌}
use Rattle.std.proofs.lemmas.Int.{to_z-of_z}
use Rattle.std.proofs.lemmas.List.{take_all}
use Rattle.inbox.proofs.inboxes.Inbox.push.Goals as goal

pub returns-in_ok-push-in-Here-clause-ok : goal.returns-in_ok-push-in-Here-clause-ok
returns-in_ok-push-in-Here-clause-ok c =
    let here = c.in-Here.here in
    let same : c.in_ok-messages-in-Here.messages.items ≡ here.messages = c.in_ok-messages-in-Here.ensures.items in
    let whole = sym (take_all here.count here.messages (search (rules, arith))) ∙ rw c.in-Here.is at c.self.view_is in
    let value : to_z w64 (of_z w64 c.args.message) ≡ c.args.message = search (rules, to_z-of_z) in
    let now : c.match-self-2.self ≡ c.push.new.self.items = search rules in
    now ∙ c.in_ok-push-in-Here.ensures.items ∙ (λ i. (same ∙ whole) i ++ value i ∷ [])
