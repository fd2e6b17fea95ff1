-- The last two instructions of a loop, and labels counted in 32 bits.
use Rattle.std.specs.Prelude.{◌≡◌, ℕ, ◌-◌, ◌^◌, Option}
use Rattle.wasm_ast.specs.declared.plain.Branch.TheVariants as branch
use Rattle.wasm_ast.specs.declared.body.Instr.{Instr}
use Rattle.wasm_ast.specs.declared.body.Instr.TheVariants as instr
use Rattle.wasm_ast.specs.Code.{Code}
use Rattle.wasm_ast.specs.Limits.{IsCodeWithin}
use Rattle.verified.specs.declared.imports.HostCall.{HostCall}
use Rattle.verified.specs.Shapes.{TakesItem}

-- the first instruction takes an item, and the second goes back to the loop where there was one
pub record GoesBackWithItem (calls : ℕ → Option HostCall) (first second : Instr) : Type 0 where
  pub function : ℕ
  pub is_call : first ≡ instr.Call function
  pub takes : TakesItem (calls function)
  pub is_back : second ≡ instr.Branch (branch.BrIf 0)

-- the scope of the code keeps the label's number below 2 ^ 32
abbrev pub LabelFits : ℕ → Code → Type 0
LabelFits label c = IsCodeWithin (2 ^ 32 - 1 - label) c
