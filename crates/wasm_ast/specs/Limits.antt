-- Limits on the size of a module. They are this engine's own: the standard leaves them to each implementation
-- (Core 1.0, A.2).
use Rattle.std.specs.Prelude.{ℕ, ◌+◌, ◌-◌, ◌≤◌, ⊤, Bool, true, false, List, length, count_by, Option, Some, None, slice_get}
use Rattle.std.specs.List.{AllByRecursion}
use Rattle.wasm_ast.specs.declared.types.FuncType.{FuncType}
use Rattle.wasm_ast.specs.declared.plain.Memory.{Memory}
use Rattle.wasm_ast.specs.declared.plain.Memory.TheVariants as memory
use Rattle.wasm_ast.specs.declared.plain.Plain.{Plain}
use Rattle.wasm_ast.specs.declared.plain.Plain.TheVariants as leaf
use Rattle.wasm_ast.specs.declared.plain.Branch.{Branch}
use Rattle.wasm_ast.specs.declared.plain.Branch.TheVariants as jump
use Rattle.wasm_ast.specs.declared.module.ImportDescription.{ImportDescription}
use Rattle.wasm_ast.specs.declared.module.ImportDescription.TheVariants as import
use Rattle.wasm_ast.specs.declared.module.Import.{Import}
use Rattle.wasm_ast.specs.declared.module.Function.{Function}
use Rattle.wasm_ast.specs.declared.module.Global.{Global}
use Rattle.wasm_ast.specs.declared.module.Element.{Element}
use Rattle.wasm_ast.specs.declared.module.Data.{Data}
use Rattle.wasm_ast.specs.declared.module.Module.{Module}
use Rattle.wasm_ast.specs.Code.{Code, end, plain, branch, call, call_indirect, unreachable, block, loop, choice}

-- ---- the numbers

-- the most bytes of a module's binary form
abbrev pub max_module_bytes : ℕ
max_module_bytes = 1048576

-- the most functions of a module, imports included
abbrev pub max_functions : ℕ
max_functions = 1024

-- the most parameters of a function type
abbrev pub max_parameters : ℕ
max_parameters = 1024

-- the most results of a function type
abbrev pub max_results : ℕ
max_results = 1024

-- the most parameters and locals of a function together
abbrev pub max_locals : ℕ
max_locals = 1024

-- the most labels of a `br_table`, not counting its default
abbrev pub max_labels : ℕ
max_labels = 1024

-- the deepest nesting of blocks, loops and ifs
abbrev pub max_nesting : ℕ
max_nesting = 128

-- the largest exponent of an alignment
abbrev pub max_align : ℕ
max_align = 31

-- ---- instructions

abbrev pub IsMemoryWithin : Memory → Type 0
IsMemoryWithin (memory.Load op argument) = argument.align ≤ max_align
IsMemoryWithin (memory.Store op argument) = argument.align ≤ max_align
IsMemoryWithin memory.Size = ⊤
IsMemoryWithin memory.Grow = ⊤

abbrev pub IsPlainWithin : Plain → Type 0
IsPlainWithin (leaf.Memory op) = IsMemoryWithin op
IsPlainWithin _ = ⊤

abbrev pub IsBranchWithin : Branch → Type 0
IsBranchWithin (jump.BrTable labels default) = length labels ≤ max_labels
IsBranchWithin _ = ⊤

-- at most this many blocks, loops and ifs are inside each other, and each instruction is within the limits
abbrev pub IsCodeWithin : ℕ → Code → Type 0
IsCodeWithin levels end = ⊤
IsCodeWithin levels (plain p rest) = IsPlainWithin p × IsCodeWithin levels rest
IsCodeWithin levels (branch b rest) = IsBranchWithin b × IsCodeWithin levels rest
IsCodeWithin levels (call f rest) = IsCodeWithin levels rest
IsCodeWithin levels (call_indirect t rest) = IsCodeWithin levels rest
IsCodeWithin levels (unreachable rest) = IsCodeWithin levels rest
IsCodeWithin levels (block t body rest) = (1 ≤ levels) × IsCodeWithin (levels - 1) body × IsCodeWithin levels rest
IsCodeWithin levels (loop t body rest) = (1 ≤ levels) × IsCodeWithin (levels - 1) body × IsCodeWithin levels rest
IsCodeWithin levels (choice t body other rest) =
    (1 ≤ levels) × IsCodeWithin (levels - 1) body × IsCodeWithin (levels - 1) other × IsCodeWithin levels rest

-- a body, an initial value or an offset
abbrev pub IsBodyWithin : Code → Type 0
IsBodyWithin body = IsCodeWithin max_nesting body

-- ---- modules

abbrev pub IsTypeWithin : FuncType → Type 0
IsTypeWithin t = (length t.parameters ≤ max_parameters) × (length t.results ≤ max_results)

abbrev pub length_of_parameters : Option FuncType → ℕ
length_of_parameters None = 0
length_of_parameters (Some t) = length t.parameters

-- how many parameters the type with this index has: 0 where the index names no type
abbrev pub parameters_of : List FuncType → ℕ → ℕ
parameters_of types type_number = length_of_parameters (slice_get types type_number)

-- a function of a module that has these types
abbrev pub IsFunctionWithin : List FuncType → Function → Type 0
IsFunctionWithin types f = (parameters_of types f.type_number + length f.locals ≤ max_locals) × IsBodyWithin f.body

abbrev pub is_function_description : ImportDescription → Bool
is_function_description (import.Function type_number) = true
is_function_description _ = false

abbrev pub is_function : Import → Bool
is_function i = is_function_description i.description

-- how many of the imports are functions
abbrev pub imported_functions : List Import → ℕ
imported_functions imports = count_by is_function imports

pub record IsWithinLimits (m : Module) : Type 0 where
  pub types : AllByRecursion IsTypeWithin m.types
  pub count : imported_functions m.imports + length m.functions ≤ max_functions
  pub functions : AllByRecursion (IsFunctionWithin m.types) m.functions
  pub globals : AllByRecursion (λ (g : Global). IsBodyWithin g.initial) m.globals
  pub elements : AllByRecursion (λ (e : Element). IsBodyWithin e.offset) m.elements
  pub segments : AllByRecursion (λ (d : Data). IsBodyWithin d.offset) m.data
