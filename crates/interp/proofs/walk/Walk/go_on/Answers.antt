use Rattle.std.proofs.Common.{◌≡◌, length, reverse, sym, ap, ◌∙◌, subst, arith}
use Rattle.verified.specs.View.{code_of}
use Rattle.interp.specs.inside.Meaning.{entries_of, standing_of}
use Rattle.interp.specs.inside.Place.{at, hosted}
use Rattle.interp.specs.inside.Straight.{amid, spot}
use Rattle.interp.specs.inside.Walk.{Follows, SendsFrom, max_count}
use Rattle.interp.proofs.Sending.{on_any}
use Rattle.interp.proofs.Stacked.{beneath_is}
use Rattle.interp.proofs.walk.Walk.go_on.Goals as goal

pub go_straight-requires-clause-leads : goal.go_straight-requires-clause-leads
go_straight-requires-clause-leads c =
    let m = c.args.program.module.now in
    let a = c.self.inside in
    let d = c.requires.leads.leads in
    let same = ap (λ s. s.room.operands) c.self.view_is in
    let under = beneath_is (reverse a.entries.items) a.operands.below.values a.locals.below.values c.self.invariant in
    record {
      entries = (standing_of a).entries;
      leads = record { from = d.from; follows = subst (λ t. Follows m d.from (at (hosted t c.args.host.now) (code_of c.args.code.now) c.args.count)) (sym c.self.view_is) d.follows; ends = d.ends };
      low = λ n. let few = (c.requires.leads.low n).few_operands in omega (arith, few, same, under);
    }

pub returns-clause-passes : goal.returns-clause-passes
returns-clause-passes c =
    let m = c.args.program.module.now in
    let a = c.self.inside in
    let g = c.go_straight in
    let stop = c.in_ok-stop.stop in
    let rs = reverse a.entries.items in
    let ls : entries_of rs a.operands.below.values a.locals.below.values ≡ entries_of rs g.new.operands.below.values g.new.locals.below.values =
    ap (λ b. entries_of rs b.values a.locals.below.values) (sym c.in_ok-stop.ensures.below) ∙ ap (λ b. entries_of rs g.new.operands.below.values b.values) (sym c.in_ok-stop.ensures.locals_below) in
    λ from follows ends.
    let here = subst (λ t. Follows m from (at (hosted t c.args.host.now) (code_of c.args.code.now) c.args.count)) (sym c.self.view_is) follows in
    subst (λ l. Follows m from (amid (spot g.new.operands.here (code_of stop.code.now) g.new.locals.here g.new.globals.here g.new.bytes g.new.host stop.count) l)) ls (c.in_ok-stop.ensures.passes (standing_of a).entries from here ends)

pub returns-clause-closer : goal.returns-clause-closer
returns-clause-closer c =
    let a = c.self.inside in
    let g = c.go_straight in
    let stop = c.in_ok-stop.stop in
    let rs = reverse a.entries.items in
    let ls : entries_of rs a.operands.below.values a.locals.below.values ≡ entries_of rs g.new.operands.below.values g.new.locals.below.values =
    ap (λ b. entries_of rs b.values a.locals.below.values) (sym c.in_ok-stop.ensures.below) ∙ ap (λ b. entries_of rs g.new.operands.below.values b.values) (sym c.in_ok-stop.ensures.locals_below) in
    omega (arith, ap (λ l. length l) ls, ap (λ s. length s.entries) c.self.view_is, c.in_ok-stop.ensures.more)

pub returns-in_err-stop-clause-sends : goal.returns-in_err-stop-clause-sends
returns-in_err-stop-clause-sends c =
    let m = c.args.program.module.now in
    let all : SendsFrom m (at (hosted c.args.self.now c.args.host.now) (code_of c.args.code.now) c.args.count) max_count = λ from follows ends.
    let here = subst (λ t. Follows m from (at (hosted t c.args.host.now) (code_of c.args.code.now) c.args.count)) (sym c.self.view_is) follows in
    c.in_err-stop.ensures.sends (standing_of c.self.inside).entries from here ends in
    on_any _ _ all
