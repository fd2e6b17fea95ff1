-- What stays the same of a module that is rewritten: all but the bodies of its functions.
use Rattle.std.specs.Prelude.{◌≡◌, ℕ, List, map}
use Rattle.wasm_ast.specs.declared.types.ValType.{ValType}
use Rattle.wasm_ast.specs.declared.module.Function.{Function}
use Rattle.wasm_ast.specs.declared.module.Module.{Module}
use Rattle.wasm_ast.specs.Limits.{IsWithinLimits}
use Rattle.verified.specs.Modules.{IsTyped}
use Rattle.verified.specs.Profile.{IsBounded}

-- a function without its body: the number of its type, and its locals
abbrev pub outside_of : Function → ℕ × List ValType
outside_of f = (f.type_number, f.locals)

-- the same functions but for their bodies
abbrev pub SameOutside : (given made : List Function) → Type 0
SameOutside given made = map outside_of made ≡ map outside_of given

-- the same module but for the bodies of functions
pub record KeepsModule (given made : Module) : Type 0 where
  pub types : made.types ≡ given.types
  pub imports : made.imports ≡ given.imports
  pub functions : SameOutside given.functions made.functions
  pub tables : made.tables ≡ given.tables
  pub memories : made.memories ≡ given.memories
  pub globals : made.globals ≡ given.globals
  pub exports : made.exports ≡ given.exports
  pub start : made.start ≡ given.start
  pub elements : made.elements ≡ given.elements
  pub segments : made.data ≡ given.data

-- what is known of the module that a valid one is rewritten to
pub record IsFitOf (given made : Module) : Type 0 where
  pub kept : KeepsModule given made
  pub typed : IsTyped made
  pub within : IsWithinLimits made
  -- a module in the bounded profile stays as it is
  pub unchanged : IsBounded given → made ≡ given
