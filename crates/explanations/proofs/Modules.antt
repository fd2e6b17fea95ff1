-- What is shown of a source's module.
use Rattle.std.proofs.Common.{true, false, Bool, List, ℕ}
use Rattle.wasm_ast.specs.declared.module.Module.{Module}
use Rattle.wasm_ast.specs.Limits.{IsWithinLimits}
use Rattle.sources.specs.Modules.{MeansBy}

pub within_by : (is_text : Bool) (content : List ℕ) (m : Module) → MeansBy is_text content m → IsWithinLimits m
within_by true content m means = means.within
within_by false content m means = means.limited
