-- The settings and the ids that a book begins with.
use Rattle.std.proofs.Common.{◌≡◌, ◌<◌, ◌≤◌, ◌^◌, ℕ, List, map, None, sym, subst, ◌∙◌, rules, arith}
use Rattle.job_state.specs.declared.settings.Settings.{Settings}
use Rattle.job_state.specs.Settings.{first_bad}
use Rattle.superstep.specs.Job.{HasGraph, Work}
use Rattle.job_state.specs.State.{Standing, state_id}
use Rattle.superstep.specs.State.{HasIdsOf, IsStateAt}
use Rattle.book.specs.Saving.{IsFullStateAt}
use Rattle.book.specs.inside.Book.{AreIdsOf}

most_parts : (settings : Settings) → first_bad settings ≡ None → settings.parts ≤ 256
most_parts settings good = search rules

most_workers : (settings : Settings) → first_bad settings ≡ None → settings.workers ≤ 64
most_workers settings good = search rules

pub few_parts : (settings : Settings) → first_bad settings ≡ None → settings.parts ≤ 2 ^ 20
few_parts settings good = let x = most_parts settings good in omega (arith, x)

pub few_workers : (settings : Settings) → first_bad settings ≡ None → settings.workers ≤ 2 ^ 20
few_workers settings good = let x = most_workers settings good in omega (arith, x)

least_every : (settings : Settings) → first_bad settings ≡ None → 1 ≤ settings.every
least_every settings good = search rules

pub some_every : (settings : Settings) → first_bad settings ≡ None → 0 < settings.every
some_every settings good = let x = least_every settings good in omega (arith, x)

least_limit : (settings : Settings) → first_bad settings ≡ None → 1 ≤ settings.limit
least_limit settings good = search rules

pub some_limit : (settings : Settings) → first_bad settings ≡ None → 0 < settings.limit
some_limit settings good = let x = least_limit settings good in omega (arith, x)

-- the ids of a state that has those of the graph
pub first_ids : (work : Work) (state : Standing) (own : List ℕ) → HasGraph work → own ≡ map state_id state.vertices → HasIdsOf work state → AreIdsOf work own
first_ids work state own graph is has = record {
  those = λ other same. λ any is_graph. same ∙ is ∙ has any is_graph;
  only = λ other has_other. has_other graph.0 graph.1 ∙ sym (has graph.0 graph.1) ∙ sym is;
}

-- the state before superstep 0 is the job's
pub full_first : (work own : Work) (state : Standing) → own ≡ work → IsStateAt own 0 state → state.since ≡ 0 → IsFullStateAt work 0 state
full_first work own state same first since = record { at = subst (λ (w : Work). IsStateAt w 0 state) same first; since = since }
