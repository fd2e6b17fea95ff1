-- The opening of a loop, where there is an item: three instructions at once.
use Rattle.std.proofs.Common.{◌≡◌, ℕ, ◌+◌, List, ◌∷◌, Option, Some, slice_get, refl, sym, ◌∙◌, subst, arith}
use Rattle.wasm_ast.specs.declared.types.Value.TheVariants.{I64}
use Rattle.wasm_ast.specs.declared.plain.Branch.TheVariants as branch
use Rattle.wasm_ast.specs.declared.module.Module.{Module}
use Rattle.wasm_ast.specs.Code.{Code}
use Rattle.wasm_ast.specs.Code as code
use Rattle.verified.specs.Weights.{host_units}
use Rattle.verified.specs.declared.body.FlatInstr.TheVariants as flat
use Rattle.verified.specs.Host.{Host}
use Rattle.verified.specs.declared.imports.HostCall.{HostCall}
use Rattle.semantics.specs.Configuration.{tick}
use Rattle.interp.specs.inside.Acts.{state}
use Rattle.interp.specs.inside.Cells.{cell_effect, in_width}
use Rattle.interp.specs.inside.Meaning.{AreImports}
use Rattle.interp.specs.inside.Straight.{GoesIn, Passes, Spot, Takes, eqz, spot}
use Rattle.interp.proofs.Passing.{effect_past, host_goes_beside, passes_past, past_zero}

pub goes_in : (m : Module) (calls : List HostCall) → AreImports calls m → (whole body : Code) (f l : ℕ) → whole ≡ code.call f (code.plain eqz (code.branch (branch.BrIf l) body)) → (call : Option HostCall) → call ≡ slice_get calls f → (old new : Host) → Takes call old new → GoesIn m whole old body new 4
goes_in m calls imports whole body f l begins call found old new takes most count values locals globals bytes =
    let units = host_units (Some takes.which) in
    let left = code.branch (branch.BrIf l) body in
    let tested = code.plain eqz left in
    let first : Spot = spot values whole locals globals bytes old count in
    let second : Spot = spot (I64 1 ∷ values) tested locals globals bytes new (count + units) in
    let third : Spot = spot (I64 0 ∷ values) left locals globals bytes new (count + units + 1) in
    let last : Spot = spot values body locals globals bytes new (count + units + 1 + 1) in
    let past = past_zero m (flat.BrIf l) new 0 (I64 0 ∷ values) values refl refl refl body most (count + units + 1) locals globals bytes in
    let asks = host_goes_beside m calls imports f takes.which (sym takes.is ∙ found) values (I64 1 ∷ values) old new (takes.acts values) tested most count locals globals bytes in
    let one : Passes m most first second = subst (λ (k : Code). Passes m most (spot values k locals globals bytes old count) second) (sym begins) asks in
    let tests : Passes m most second third = effect_past m most second third (cell_effect in_width eqz (I64 1 ∷ values) (tick 1 second.state)) (count + units + 1) (λ ls. refl) refl in
    let two : Passes m most first third = passes_past m most first second third one tests in
    let three : Passes m most first last = passes_past m most first third last two past in
    let n : count + units + 1 + 1 ≡ count + 4 = omega (arith, takes.counts) in
    subst (λ (k : ℕ). Passes m most first (spot values body locals globals bytes new k)) n three
