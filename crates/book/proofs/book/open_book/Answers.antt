use Rattle.std.proofs.Common.{◌≡◌, ◌<◌, ℕ, Bor, sym, ap, ◌∙◌, subst, map}
use Rattle.std.proofs.lemmas.Simd.{map-map}
use Rattle.superstep.specs.Job.{Work}
use Rattle.job_state.specs.State.{state_id}
use Rattle.superstep.specs.State.{HasIdsOf}
use Rattle.job_state.specs.declared.state.VertexState.{VertexState}
use Rattle.book.specs.Book.{IsQuietAt}
use Rattle.book.specs.Saving.{IsFullStateAt}
use Rattle.book.specs.inside.Book.{AreIdsOf}
use Rattle.book.specs.inside.Recovery.{IsFirst}
use Rattle.book.proofs.Kept
use Rattle.book.proofs.Opening.{few_parts, few_workers, first_ids, full_first, some_every, some_limit}
use Rattle.book.proofs.book.open_book.Goals as goal

abbrev now : Bor VertexState → VertexState
now vertex = vertex.now

abbrev id_of : Bor VertexState → ℕ
id_of vertex = state_id vertex.now

pub new-requires-clause-parts : goal.new-requires-clause-parts
new-requires-clause-parts g c = few_parts c.settings.result (rw c.settings.ensures.settings c.settings.ensures.good)

pub new-requires-clause-workers : goal.new-requires-clause-workers
new-requires-clause-workers g c = few_workers c.settings.result (rw c.settings.ensures.settings c.settings.ensures.good)

pub new-requires-clause-every : goal.new-requires-clause-every
new-requires-clause-every g c = some_every c.settings.result (rw c.settings.ensures.settings c.settings.ensures.good)

pub hold_opened-requires-clause-at : goal.hold_opened-requires-clause-at
hold_opened-requires-clause-at g c = λ sure.
    let state = c.in_ok-state.state in
    subst (λ n. IsFullStateAt g.J.Origin.work n state) (sym c.in_ok-state.ensures.superstep) (full_first g.J.Origin.work c.args.job.now state (sym c.requires.job) c.in_ok-state.ensures.first c.in_ok-state.ensures.since)

pub invariant_of-result : goal.invariant_of-result
invariant_of-result g c =
    let work = g.J.Origin.work in
    let job = c.args.job.now in
    let state = c.in_ok-state.state in
    let own : job ≡ work = sym c.requires.job in
    let graph = c.settings.ensures.graph in
    let ids =
    c.in_ok-ids.ensures ∙ ap (map id_of) c.deref.ensures.value ∙ sym (map-map state_id now c.in_ok-in_order.field-0.items)
    ∙ ap (map state_id) c.in_ok-in_order.ensures.same in
    rw c.in_ok-control.ensures (Kept.book_opened work g.J.Origin.honest job c.settings.result c.in_ok-ids.ids.items c.in_ok-job_data.job_data c.is_quiet-quiet.result state own
    (c.settings.ensures.settings ∙ ap (λ (w : Work). w.settings) own)
    (subst (λ (w : Work). 0 < w.settings.limit) own (some_limit job.settings c.settings.ensures.good))
    (subst (λ (w : Work). AreIdsOf w c.in_ok-ids.ids.items) own (first_ids job state c.in_ok-ids.ids.items graph ids c.in_ok-state.ensures.ids))
    (subst (λ (w : Work). HasIdsOf w state) own c.in_ok-state.ensures.ids)
    c.in_ok-state.ensures.superstep
    (λ sure. full_first work job state own c.in_ok-state.ensures.first c.in_ok-state.ensures.since)
    c.is_quiet-quiet.ensures
    (subst (λ (w : Work). IsFirst w.settings.parts c.is_quiet-quiet.result state c.in_ok-job_data.job_data) own c.in_ok-job_data.ensures))

pub returns : goal.returns
returns g c =
    let work = g.J.Origin.work in
    let state = c.in_ok-state.state in (
      c.is_quiet-quiet.result,
      subst (λ q. IsQuietAt work 0 q) (sym c.is_quiet-quiet.ensures) (Kept.settled_quiet work 0 state (full_first work c.args.job.now state (sym c.requires.job) c.in_ok-state.ensures.first c.in_ok-state.ensures.since)),
      rw (← c.settings.ensures.settings) c.in_ok-control.ensures,
    )
