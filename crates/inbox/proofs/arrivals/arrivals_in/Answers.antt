use Rattle.std.proofs.Common.{◌++◌, List, length, pos, ap, sym, subst, ◌∙◌}
use Rattle.std.proofs.lemmas.Map.Views.{exact_unsigned_eq}
use Rattle.inbox.specs.declared.letters.Letter.{Letter}
use Rattle.inbox.specs.Arrivals.{arrivals_from}
use Rattle.inbox.specs.Merging.{inboxes_of}
use Rattle.inbox.specs.inside.Runs.{AreLeft, IsRunAfter}
use Rattle.inbox.proofs.Arriving.{IsRun, all_left, none_left, run_after, run_left}
use Rattle.inbox.proofs.arrivals.arrivals_in.Goals as goal

abbrev no_letter : Letter
no_letter = record { to = pos 0; from = 0; seq = 0; value = pos 0 }

pub loop-rest-init : goal.loop-rest-init
loop-rest-init c = all_left c.args.letters.now c.args.ids.now c.new-arrivals.result.items c.new-arrivals.ensures.items c.requires.sorted

pub loop-rest-preserved : goal.loop-rest-preserved
loop-rest-preserved c =
    let letters = c.args.letters.now in
    let ids = c.args.ids.now in
    let rest = c.loop-rest.rest.now in
    let count = c.run_length.result in
    let left = c.loop-rest.invariant in
    let is : IsRun rest count = record {
      some = c.run_length.ensures.some;
      bound = c.run_length.ensures.bound;
      one = c.run_length.ensures.one;
      next = c.run_length.ensures.next;
    } in
    let run = subst (λ (xs : List Letter). IsRunAfter left.sent xs) (sym c.split_at.ensures.front) (run_after no_letter left.sent rest count is left.after) in
    let made = c.in_ok-arrive.ensures left.sent run left.made ∙ ap (λ (xs : List Letter). arrivals_from 0 (inboxes_of (left.sent ++ xs) ids)) c.split_at.ensures.front in
    subst (λ (xs : List Letter). AreLeft letters ids xs c.arrive.new.arrivals.items) (sym c.split_at.ensures.back)
    (run_left no_letter letters ids rest count c.loop-rest.arrivals.items c.arrive.new.arrivals.items is left made)

pub returns : goal.returns
returns c =
    none_left c.args.letters.now c.args.ids.now c.loop-rest.rest.now c.loop-rest.arrivals.items c.loop-rest.invariant
    (exact_unsigned_eq (length c.loop-rest.rest.now) 0 (sym c.loop-rest-test.ensures))
