-- The functions that each function of a module calls. Numbers are function indices, the imports first (Core 1.0,
-- 2.5.1).
use Rattle.std.specs.Prelude.{◌≡◌, ℕ, ◌-◌, ◌<◌, List, [], ◌∷◌, ◌++◌, length, slice_get, slice_index, nat_lt, Option, Some, None, if◌then◌else◌}
use Rattle.std.specs.Option.{option_map}
use Rattle.wasm_ast.specs.declared.module.Function.{Function}
use Rattle.wasm_ast.specs.declared.module.Module.{Module}
use Rattle.wasm_ast.specs.Code.{Code, end, plain, branch, call, call_indirect, unreachable, block, loop, choice}
use Rattle.wasm_ast.specs.Limits.{imported_functions}

-- the functions that the code calls directly (2.4.5), one for each call instruction, in order
abbrev pub calls_of : Code → List ℕ
calls_of end = []
calls_of (plain p rest) = calls_of rest
calls_of (branch b rest) = calls_of rest
calls_of (call f rest) = f ∷ calls_of rest
calls_of (call_indirect t rest) = calls_of rest
calls_of (unreachable rest) = calls_of rest
calls_of (block t body rest) = calls_of body ++ calls_of rest
calls_of (loop t body rest) = calls_of body ++ calls_of rest
calls_of (choice t body other rest) = calls_of body ++ (calls_of other ++ calls_of rest)

-- the body of the function with this index; none for an imported function or an index that names no function
abbrev pub body_of : Module → ℕ → Option Code
body_of m f =
    if nat_lt f (imported_functions m.imports) then None else
    option_map (λ (g : Function). g.body) (slice_get m.functions (f - imported_functions m.imports))

abbrev pub calls_in : Option Code → List ℕ
calls_in None = []
calls_in (Some body) = calls_of body

-- the functions that each function calls
abbrev pub callees : Module → ℕ → List ℕ
callees m f = calls_in (body_of m f)

-- f calls g, where `calls` returns the functions that each function calls
abbrev pub Calls : (ℕ → List ℕ) → ℕ → ℕ → Type 0
Calls calls f g = (k : ℕ) × (k < length (calls f)) × (slice_index (calls f) k ≡ g)
