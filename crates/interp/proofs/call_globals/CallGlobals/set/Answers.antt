use Rattle.std.proofs.Common.{◌<◌, ◌++◌, ◌∷◌, [], List, ℕ, length, sym, subst, arith}
use Rattle.std.specs.Prelude.{slice_set, vec_capacity}
use Rattle.wasm_ast.specs.declared.types.Value.{Value}
use Rattle.wasm_ast.specs.declared.types.Value.TheVariants.{I64}
use Rattle.interp.specs.inside.Renewed.{AreRenewed}
use Rattle.interp.proofs.Renewing.{noted}
use Rattle.interp.proofs.call_globals.CallGlobals.set.Goals as goal

pub invariant_of-self : goal.invariant_of-self
invariant_of-self c =
    let a = c.self.inside in
    let pushed = c.push_reserved.ensures in
    let less : length a.numbers.items < length a.here = omega (arith, c.if-len.true, c.len.ensures, c.len-2.ensures, c.set.ensures.kept, a.numbers.ok.0) in
    let n = noted a.initial a.here a.numbers.items (vec_capacity a.numbers) c.args.number (I64 c.args.cell) c.self.invariant less in
    let room = vec_capacity c.push_reserved.new.self in
    let n1 = subst (λ (k : ℕ). AreRenewed a.initial (slice_set a.here c.args.number (I64 c.args.cell)) (a.numbers.items ++ c.args.number ∷ []) k) (sym pushed.capacity) n in
    let n2 = subst (λ (ns : List ℕ). AreRenewed a.initial (slice_set a.here c.args.number (I64 c.args.cell)) ns room) (sym pushed.items) n1 in
    subst (λ (vs : List Value). AreRenewed a.initial vs c.push_reserved.new.self.items room) (sym c.set.ensures.set) n2
