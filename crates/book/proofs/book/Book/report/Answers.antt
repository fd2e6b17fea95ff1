use Rattle.std.proofs.Common.{◌≡◌, true, sym, subst}
use Rattle.control.specs.Machine.{Machine, has_answer}
use Rattle.book.specs.Book.{IsReport}
use Rattle.book.specs.inside.Book.{HoldsData, IsWhole}
use Rattle.book.proofs.Reports.{has_whole, reports}
use Rattle.book.proofs.book.Book.report.Goals as goal

pub into_state-state-requires : goal.into_state-state-requires
into_state-state-requires g c =
    let i = c.self.inside in
    has_whole g.J.Origin.work g.J.Origin.honest i.control i.job_data c.self.invariant.held (subst (λ (m : Machine). has_answer m.ending ≡ true) (sym c.self.view_is) c.requires)

pub returns-in-Ok-clause-report : goal.returns-in-Ok-clause-report
returns-in-Ok-clause-report g c =
    let work = g.J.Origin.work in
    let honest = g.J.Origin.honest in
    let i = c.self.inside in
    let x : IsWhole work honest i.control c.into_state-state.result = subst (λ h. HoldsData work honest i.control h) c.into_state-state.ensures c.self.invariant.held in
    subst (λ m. IsReport work honest m c.in-Ok.report) c.self.view_is (reports work honest i.control c.into_state-state.result c.in-Ok.report x c.self.invariant.reached c.in-Ok.ensures)
