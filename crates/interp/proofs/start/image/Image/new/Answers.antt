use Rattle.std.proofs.Common.{◌≡◌, List, Option, Some, IsSome, length, refl, sym, ap, ◌∙◌, subst}
use Rattle.wasm_ast.specs.declared.types.Value.{Value}
use Rattle.wasm_ast.specs.declared.module.Global.{Global}
use Rattle.wasm_ast.specs.declared.module.Module.{Module}
use Rattle.semantics.specs.Start.{initial_globals}
use Rattle.interp.specs.inside.Begun.{AreInitial, cell_memory_laid}
use Rattle.interp.proofs.Resetting.{memory_is, memory_there}
use Rattle.interp.proofs.Beginnings.{has_initial}
use Rattle.interp.proofs.start.image.Image.new.Goals as goal

pub initial_cells-requires : goal.initial_cells-requires
initial_cells-requires c =
    let told = c.module-module.ensures in
    let has = has_initial c.args.verified.now told.typed told.bounded in
    let same = c.as_slice.ensures ∙ ap (λ (k : Module). k.globals) told.value in
    subst (λ (o : Option (List Value)). IsSome o) (sym (ap initial_globals same ∙ has.initial_values)) refl

pub write_memory-requires-clause-there : goal.write_memory-requires-clause-there
write_memory-requires-clause-there c =
    let m = c.args.verified.now in
    let told = c.module-module.ensures in
    let cells = c.in_ok-globals.globals in
    let same = c.as_slice.ensures ∙ ap (λ (k : Module). k.globals) told.value in
    let a = subst (λ (gs : List Global). AreInitial gs cells) same c.in_ok-globals.ensures.initial in
    subst (λ (k : Module). IsSome (cell_memory_laid cells k)) (sym told.value) (memory_there m (has_initial m told.typed told.bounded) cells a)

pub invariant_of-result : goal.invariant_of-result
invariant_of-result c =
    let m = c.args.verified.now in
    let told = c.module-module.ensures in
    let cells = c.in_ok-globals.globals in
    let bytes = c.write_memory.new.memory in
    let same = c.as_slice.ensures ∙ ap (λ (k : Module). k.globals) told.value in
    let a = subst (λ (gs : List Global). AreInitial gs cells) same c.in_ok-globals.ensures.initial in
    let laid = subst (λ (k : Module). cell_memory_laid cells k ≡ Some bytes) told.value c.write_memory.ensures.laid in
    record {
      globals = a;
      bytes = memory_is m (has_initial m told.typed told.bounded) cells a bytes laid;
      long = c.in_ok-globals.ensures.long ∙ ap length same;
      count = c.write_memory.ensures.kept ∙ c.in_ok-memory.ensures.kept;
    }
