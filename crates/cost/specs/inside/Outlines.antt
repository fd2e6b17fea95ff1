-- The outlines of a module's functions, which the walk reads.
use Rattle.std.specs.Prelude.{◌≡◌, ℕ, ◌+◌, ◌-◌, ◌≤◌, min, List, [], map, sum_by, length, slice_get, nat_lt, Option, Some, None, if◌then◌else◌}
use Rattle.wasm_ast.specs.declared.module.Function.{Function}
use Rattle.wasm_ast.specs.declared.module.Module.{Module}
use Rattle.wasm_ast.specs.Limits.{imported_functions, max_functions}
use Rattle.cost.specs.declared.outline.Outlines.{Outlines}
use Rattle.cost.specs.inside.Outline.{Summary, nothing, with_code, cap}
use Rattle.verified.specs.CallHeights.{most}

-- the outline of each body
abbrev pub outlines_of : Module → List Function → List Summary
outlines_of m fs = map (λ (f : Function). with_code m nothing f.body) fs

-- the outlines are those of the module's functions
pub record AreOutlines (m : Module) (os : Outlines) : Type 0 where
  pub imported : os.imported ≡ imported_functions m.imports
  pub defined : os.defined.items ≡ outlines_of m m.functions
  pub count : os.imported + length os.defined.items ≤ max_functions

abbrev pub count_of : Outlines → ℕ
count_of os = os.imported + length os.defined.items

-- the outline of the function with this index, where it has a body
abbrev pub outline_at : Outlines → ℕ → Option Summary
outline_at os f = if nat_lt f os.imported then None else slice_get os.defined.items (f - os.imported)

abbrev pub calls_at : Option Summary → List ℕ
calls_at None = []
calls_at (Some o) = o.calls

abbrev pub own_at : Option Summary → ℕ
own_at None = 0
own_at (Some o) = o.own

abbrev pub height_at : (ℕ → ℕ) → Option Summary → ℕ
height_at rank None = 0
height_at rank (Some o) = 1 + most rank o.calls

-- the functions that each function calls
abbrev pub called : Outlines → ℕ → List ℕ
called os f = calls_at (outline_at os f)

-- each function's size is its outline's own units plus the sizes of its calls, where counts stop at the cap
abbrev pub AreSizesOf : Outlines → (ℕ → ℕ) → Type 0
AreSizesOf os sizes =
    (f : ℕ) → min cap (sizes f) ≡ min cap (own_at (outline_at os f) + sum_by sizes (called os f))
