use Rattle.std.proofs.Common.{refl, rules, sym}
use Rattle.session.proofs.Names.{ends_as}
use Rattle.session.proofs.sessions.set_state.Goals as goal

pub invariant_of-held : goal.invariant_of-held
invariant_of-held c = record { sound = c.requires c.in-Some.held.now (sym c.in-Some.ensures.value) }

pub returns-in-Some : goal.returns-in-Some
returns-in-Some c =
    ends_as c.args.name.now c.args.jobs.now c.get_mut.follows.lender c.args.state c.in-Some.held.now _ (sym c.in-Some.ensures.value)
    (λ last. (c.get_mut.follows.holds last).3 (search rules)) refl refl
