use Rattle.std.proofs.Common.{◌≡◌, subst, sym, true}
use Rattle.superstep.specs.Found.{IsFoundAt}
use Rattle.superstep.specs.Tasks.{SliceStamp}
use Rattle.superstep.proofs.FoundRows.{found_here}
use Rattle.superstep.proofs.slice.Slice.found.Goals as goal

pub returns : goal.returns
returns g c = λ sure.
    let work = g.J.Origin.work in
    let honest = g.J.Origin.honest in
    let stamp : SliceStamp = record { epoch = c.self.inside.epoch; superstep = c.self.inside.superstep; part = c.self.inside.part } in
    subst (λ (own : SliceStamp). IsFoundAt work own.superstep own.part c.found.result) c.self.view_is
    (found_here work honest stamp c.self.inside.vertices c.found.result c.self.invariant
    (subst (λ (own : SliceStamp). honest own.epoch ≡ true) (sym c.self.view_is) sure) c.found.ensures)
