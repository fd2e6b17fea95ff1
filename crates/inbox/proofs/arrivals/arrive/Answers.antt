use Rattle.std.proofs.Common.{◌≡◌, ◌++◌, ◌∷◌, [], ℤ, List, ap, sym, ◌∙◌, subst, false}
use Rattle.std.specs.List.{list_any}
use Rattle.std.specs.Ordering.{int_eq}
use Rattle.std.specs.Prelude.{pos}
use Rattle.inbox.specs.declared.arrivals.Arrival.{Arrival}
use Rattle.inbox.specs.Arrivals.{arrivals_from}
use Rattle.inbox.specs.Merging.{inboxes_of}
use Rattle.inbox.proofs.Arriving.{first_goes, run_found, run_lost}
use Rattle.inbox.proofs.arrivals.arrive.Goals as goal

pub returns-in_ok-push : goal.returns-in_ok-push
returns-in_ok-push c = λ sent is was.
    let run = c.args.run.now in
    let ids = c.args.ids.now in
    c.in_ok-push.ensures.items
    ∙ ap (λ (before : List Arrival). before ++ record { row = c.in-Some.row; inbox = c.in_ok-inbox.inbox } ∷ []) was
    ∙ ap (λ (inbox : List ℤ). arrivals_from 0 (inboxes_of sent ids) ++ record { row = c.in-Some.row; inbox = inbox } ∷ []) c.in_ok-inbox.ensures
    ∙ sym (run_found sent run is.to ids c.in-Some.row c.requires.rising c.requires.some is.one is.before c.in-Some.ensures.inside
    (first_goes run is.to _ is.one c.requires.some ∙ c.in-Some.ensures.found))

pub returns-in_default : goal.returns-in_default
returns-in_default c = λ sent is was.
    let run = c.args.run.now in
    let ids = c.args.ids.now in
    let none = subst (λ (to : ℤ). list_any (λ other. int_eq to (pos other)) ids ≡ false) (sym (first_goes run is.to _ is.one c.requires.some)) c.in_default.ensures.none in
    was ∙ ap (arrivals_from 0) (sym (run_lost sent run is.to ids is.one none))
