-- What one flat instruction did that is straight.
use Rattle.std.specs.Prelude.{◌≡◌, ◌≤◌, ℕ, List, length, map, Bool, false, Option, Some, None}
use Rattle.wasm_ast.specs.declared.types.Value.{Value}
use Rattle.wasm_ast.specs.declared.types.Value.TheVariants.{I64}
use Rattle.wasm_ast.specs.declared.module.Module.{Module}
use Rattle.wasm_ast.specs.declared.plain.Plain.{Plain}
use Rattle.wasm_ast.specs.Code.{Code}
use Rattle.verified.specs.declared.body.FlatInstr.{FlatInstr}
use Rattle.verified.specs.View.{then_code}
use Rattle.verified.specs.Weights.{plain_units}
use Rattle.verified.specs.Host.{Host}
use Rattle.verified.specs.declared.imports.HostCall.{HostCall}
use Rattle.interp.specs.declared.plain.Acted.{Acted}
use Rattle.interp.specs.inside.Acts.{ActsOn}
use Rattle.interp.specs.inside.Cells.{cell_effect, in_width}
use Rattle.interp.specs.inside.Going.{plain_asks}
use Rattle.interp.specs.inside.Kept.{count_kept}
use Rattle.interp.specs.inside.OperandStack.{operand_stack}
use Rattle.interp.specs.inside.Renewed.{Renewed}
use Rattle.interp.specs.inside.Straight.{GoesBeside, SendsBeside, beside_asks, is_straight}

-- what it requires; the option is its plain instruction
abbrev pub flat_asks : List HostCall → Option Plain → FlatInstr → (values locals globals : List Value) → (bytes : List ℕ) → Bool
flat_asks calls None first vs locals globals bytes = beside_asks calls first vs
flat_asks calls (Some p) first vs locals globals bytes = plain_asks p vs locals globals bytes

-- it did what this instruction of the syntax does
pub record PlainDid (p : Plain) (by : Acted) (top : ℕ) (cells cells_after locals locals_after : List ℕ) (globals globals_after : Renewed) (bytes bytes_after : List ℕ) : Type 0 where
  pub acts : ActsOn (cell_effect in_width p) (operand_stack cells top) (operand_stack cells_after by.top) (map I64 locals) (map I64 locals_after) globals.here globals_after.here bytes bytes_after
  pub units : by.units ≡ plain_units p
  pub within : by.top ≤ length cells_after
  pub kept_globals : globals_after.initial ≡ globals.initial
  pub kept_bytes : count_kept bytes_after ≡ count_kept bytes

-- it called the host, or popped a zero
pub record BesideDid (m : Module) (first : FlatInstr) (by : Acted) (top : ℕ) (cells cells_after locals locals_after : List ℕ) (globals globals_after : Renewed) (bytes bytes_after : List ℕ) (host host_after : Host) : Type 0 where
  pub goes : GoesBeside m first (operand_stack cells top) host (operand_stack cells_after by.top) host_after by.units
  pub within : by.top ≤ length cells_after
  pub same_locals : locals_after ≡ locals
  pub same_globals : globals_after ≡ globals
  pub same_bytes : bytes_after ≡ bytes

abbrev pub FlatDid : Module → Option Plain → FlatInstr → Acted → (top : ℕ) → (cells cells_after locals locals_after : List ℕ) → (globals globals_after : Renewed) → (bytes bytes_after : List ℕ) → (host host_after : Host) → Type 0
FlatDid m None first by top cells cells_after locals locals_after globals globals_after bytes bytes_after host host_after =
    BesideDid m first by top cells cells_after locals locals_after globals globals_after bytes bytes_after host host_after
FlatDid m (Some p) first by top cells cells_after locals locals_after globals globals_after bytes bytes_after host host_after =
    PlainDid p by top cells cells_after locals locals_after globals globals_after bytes bytes_after × (host_after ≡ host)

-- straight code ends at the instruction, and nothing was done
pub record Stops (calls : List HostCall) (first : FlatInstr) (cells cells_after locals locals_after : List ℕ) (globals globals_after : Renewed) (bytes bytes_after : List ℕ) (host host_after : Host) : Type 0 where
  pub stops : (rest : Code) → is_straight calls (then_code first rest) ≡ false
  pub same_cells : cells_after ≡ cells
  pub same_locals : locals_after ≡ locals
  pub same_globals : globals_after ≡ globals
  pub same_bytes : bytes_after ≡ bytes
  pub same_host : host_after ≡ host

-- each run that passes here sends something, or contributes to an aggregator
pub record Fails (m : Module) (first : FlatInstr) (values : List Value) (host : Host) (globals globals_after : Renewed) (bytes bytes_after : List ℕ) : Type 0 where
  pub sends : SendsBeside m first values host
  pub same_globals : globals_after ≡ globals
  pub same_bytes : bytes_after ≡ bytes
