use Rattle.std.proofs.Common.{◌≡◌, ◌+◌, ◌-◌, ◌≤◌, get_or, length, ap, ◌∙◌, arith}
use Rattle.wasm_ast.specs.declared.types.Value.TheVariants.{I64}
use Rattle.interp.proofs.Parts.{here_long, popped_is}
use Rattle.interp.proofs.OperandStacks.{floor_held, has_spare, held, held_long, held_top}
use Rattle.interp.proofs.operands.Operands.pop.Goals as goal

pub overflow_sub-below : goal.overflow_sub-below
overflow_sub-below c =
    let a = c.self.inside in
    omega (arith, here_long (length a.cells.items) a.floor (held a.top a.cells.items) c.args.self.now c.self.view_is, held_long a.top a.cells.items c.self.invariant.1, c.requires)

pub invariant_of-self : goal.invariant_of-self
invariant_of-self c =
    let a = c.self.inside in
    let l = here_long (length a.cells.items) a.floor (held a.top a.cells.items) c.args.self.now c.self.view_is in
    let h = held_long a.top a.cells.items c.self.invariant.1 in
    (omega (arith, l, h, c.requires), omega (arith, c.self.invariant.1))

pub returns-clause-popped : goal.returns-clause-popped
returns-clause-popped c =
    let a = c.self.inside in
    let cells = a.cells.items in
    let l = here_long (length a.cells.items) a.floor (held a.top cells) c.args.self.now c.self.view_is in
    let h = held_long a.top cells c.self.invariant.1 in
    let e : a.top ≡ a.top - 1 + 1 = omega (arith, l, h, c.requires) in
    let f : a.floor ≤ a.top - 1 = omega (arith, l, h, c.requires) in
    let g : a.top - 1 ≤ length cells = omega (arith, c.self.invariant.1) in
    let v : c.index.result.now ≡ get_or cells (a.top - 1) c.index.result.now = c.index.ensures in
    popped_is (length a.cells.items) a.floor (held a.top cells) (held (a.top - 1) cells) (I64 c.index.result.now) c.args.self.now c.self.view_is (floor_held a.floor (a.top - 1) cells f g)
    (ap (λ k. held k cells) e ∙ held_top (a.top - 1) cells c.index.result.now (omega (arith, l, h, c.requires, c.self.invariant.1)) v)

pub returns-clause-spare : goal.returns-clause-spare
returns-clause-spare c =
    let a = c.self.inside in
    let cells = a.cells.items in
    let l = here_long (length cells) a.floor (held a.top cells) c.args.self.now c.self.view_is in
    let h = held_long a.top cells c.self.invariant.1 in
    has_spare (length cells) a.floor (a.top - 1) cells (omega (arith, l, h, c.requires)) (omega (arith, c.self.invariant.1)) (omega (arith, l, h, c.requires, c.self.invariant.1))
