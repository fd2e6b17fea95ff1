use Rattle.std.proofs.Common.{List, drop, take, ap, ◌∙◌}
use Rattle.wasm_ast.specs.declared.types.Value.{Value}
use Rattle.interp.specs.inside.Split.{Below, Split}
use Rattle.interp.proofs.Stored.{stored_take}
use Rattle.interp.proofs.locals.Locals.close.Goals as goal

pub returns-clause-here : goal.returns-clause-here
returns-clause-here c =
    ap (λ l. drop c.args.base l) (stored_take c.self.inside.base c.self.inside.cells.items c.truncate.new.self.items c.truncate.ensures.items) ∙ ap (λ s. drop c.args.base s.below.values) c.self.view_is

pub returns-clause-below : goal.returns-clause-below
returns-clause-below c =
    let below : List Value → Below = λ l. record { values = take c.args.base l; room = c.self.inside.room } in
    let cut : Split → Below = λ s. record { values = take c.args.base s.below.values; room = s.below.room } in
    ap below (stored_take c.self.inside.base c.self.inside.cells.items c.truncate.new.self.items c.truncate.ensures.items) ∙ ap cut c.self.view_is
