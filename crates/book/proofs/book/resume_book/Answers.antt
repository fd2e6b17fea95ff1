use Rattle.std.proofs.Common.{◌≡◌, true, sym, ap, ◌∙◌, subst, arith}
use Rattle.superstep.specs.Job.{Work}
use Rattle.control.specs.Machine.{Machine}
use Rattle.book.specs.inside.Book.{AreIdsOf}
use Rattle.book.specs.inside.Recovery.{has_room}
use Rattle.book.proofs.Beginning.{is_begun, keeps_resumed}
use Rattle.book.proofs.Kept.{book_begun}
use Rattle.book.proofs.Opening.{few_parts, few_workers, some_every}
use Rattle.book.proofs.book.resume_book.Goals as goal

pub resumed-requires-clause-parts : goal.resumed-requires-clause-parts
resumed-requires-clause-parts g c = few_parts c.settings.result (rw c.settings.ensures.settings c.settings.ensures.good)

pub resumed-requires-clause-workers : goal.resumed-requires-clause-workers
resumed-requires-clause-workers g c = few_workers c.settings.result (rw c.settings.ensures.settings c.settings.ensures.good)

pub resumed-requires-clause-every : goal.resumed-requires-clause-every
resumed-requires-clause-every g c = some_every c.settings.result (rw c.settings.ensures.settings c.settings.ensures.good)

pub put_back-job_data-requires-clause-keep : goal.put_back-job_data-requires-clause-keep
put_back-job_data-requires-clause-keep g c =
    let k = c.args.keep.now in
    let honest = g.J.Origin.honest in
    let first = λ (sure : honest c.in_ok-control.control.epoch ≡ true). subst (λ (x : Machine). honest x.epoch ≡ true) c.in_ok-control.ensures sure in
    keeps_resumed g.J.Origin.work (λ epoch. honest c.in_ok-control.control.epoch) (g.K.Keep.honest k) (g.K.Keep.saved k) (g.K.Keep.may_load k) c.settings.result c.args.superstep c.in_ok-control.control
    c.in_ok-control.ensures c.requires.saved (λ sure. c.requires.trusts (first sure)) (λ sure. c.requires.left (first sure))

pub invariant_of-result : goal.invariant_of-result
invariant_of-result g c =
    let work = g.J.Origin.work in
    let job = c.args.job.now in
    let own : job ≡ work = sym c.requires.job in
    let t = c.put_back-job_data.ensures.told in
    book_begun work g.J.Origin.honest job c.settings.result c.args.superstep c.in_ok-control.control c.put_back-job_data.new.control c.in_ok-ids.ids.items c.put_back-job_data.result t.0 (has_room c.put_back-job_data.result) job.settings.parts
    own
    (subst (λ (w : Work). AreIdsOf w c.in_ok-ids.ids.items) own c.in_ok-ids.ensures)
    (c.settings.ensures.settings ∙ ap (λ (w : Work). w.settings) own)
    (rw c.settings.ensures.settings c.requires.early)
    (λ sure. (c.requires.left sure).busy)
    c.in_ok-control.ensures
    t.1
    (ap (λ (w : Work). w.settings.parts) own)
    c.put_back-job_data.ensures.held

pub returns : goal.returns
returns g c =
    let work = g.J.Origin.work in
    let job = c.args.job.now in
    let own : job ≡ work = sym c.requires.job in
    let before = c.args.keep.now in
    let after = c.put_back-job_data.new.keep in
    let t = c.put_back-job_data.ensures.told in
    let first = λ (sure : g.J.Origin.honest 1 ≡ true). g.J.Origin.lasts 1 0 (omega arith) sure in
    is_begun work g.J.Origin.honest (g.K.Keep.honest before) (g.K.Keep.honest after) (g.K.Keep.saved before) (g.K.Keep.saved after) (g.K.Keep.may_load before) (g.K.Keep.may_load after) (g.K.Keep.faults before) (g.K.Keep.faults after) c.settings.result c.args.superstep c.in_ok-control.control c.put_back-job_data.new.control t.0 (has_room c.put_back-job_data.result)
    (c.settings.ensures.settings ∙ ap (λ (w : Work). w.settings) own)
    c.in_ok-control.ensures
    t.1
    t.2
    (keeps_resumed work g.J.Origin.honest (g.K.Keep.honest before) (g.K.Keep.saved before) (g.K.Keep.may_load before) c.settings.result c.args.superstep c.in_ok-control.control c.in_ok-control.ensures c.requires.saved (λ sure. c.requires.trusts (first sure)) (λ sure. c.requires.left (first sure)))
