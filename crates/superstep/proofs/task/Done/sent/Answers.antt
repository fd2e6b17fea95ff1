use Rattle.std.proofs.Common.{◌≡◌, ℕ, length, subst, sym, true}
use Rattle.job_state.specs.Stamps.{DoneStamp}
use Rattle.superstep.specs.Tasks.{IsSentAt}
use Rattle.superstep.proofs.SentLetters.{sent_here}
use Rattle.superstep.proofs.task.Done.sent.Goals as goal

pub returns : goal.returns
returns g c = λ sure.
    let work = g.J.Origin.work in
    let honest = g.J.Origin.honest in
    let stamp : DoneStamp = record { epoch = c.self.inside.epoch; superstep = c.self.inside.superstep; part = c.self.inside.part; units = c.self.inside.units } in
    let count : length c.self.inside.letters ≡ c.len.result = sym c.len.ensures in
    subst (λ (own : DoneStamp). IsSentAt work own.superstep own.part c.len.result) c.self.view_is
    (subst (λ (n : ℕ). IsSentAt work stamp.superstep stamp.part n) count
    (sent_here work honest stamp c.self.inside.vertices c.self.inside.letters c.self.inside.aggregators c.self.invariant
    (subst (λ (own : DoneStamp). honest own.epoch ≡ true) (sym c.self.view_is) sure)))
