-- Straight instructions: the control entries stay, whatever they are.
use Rattle.std.specs.Prelude.{◌≡◌, ℕ, ◌+◌, ◌<◌, ◌≤◌, List, ◌∷◌, Bool, false, true, Option, Some, None, slice_get}
use Rattle.std.specs.Option.{is_some}
use Rattle.wasm_ast.specs.declared.types.Value.{Value}
use Rattle.wasm_ast.specs.declared.types.Value.TheVariants.{I64}
use Rattle.wasm_ast.specs.declared.types.ValType.TheVariants as val_type
use Rattle.wasm_ast.specs.declared.numeric.Numeric.TheVariants as numeric
use Rattle.wasm_ast.specs.declared.plain.Branch.TheVariants as branch
use Rattle.wasm_ast.specs.declared.plain.Plain.{Plain}
use Rattle.wasm_ast.specs.declared.plain.Plain.TheVariants as plain
use Rattle.wasm_ast.specs.declared.module.Module.{Module}
use Rattle.wasm_ast.specs.Code.{Code}
use Rattle.wasm_ast.specs.Code as code
use Rattle.verified.specs.declared.body.FlatInstr.{FlatInstr}
use Rattle.verified.specs.declared.body.FlatInstr.TheVariants as flat
use Rattle.verified.specs.View.{then_code}
use Rattle.verified.specs.Weights.{host_units}
use Rattle.verified.specs.Host.{Host}
use Rattle.verified.specs.declared.imports.HostCall.{HostCall}
use Rattle.semantics.specs.Configuration.{State}
use Rattle.semantics.specs.Heights.{beneath, operands}
use Rattle.semantics.specs.Machine.{ControlEntry, run}
use Rattle.interp.specs.declared.plain.Acted.{Acted}
use Rattle.interp.specs.inside.Acts.{ActsOnHost, state}
use Rattle.interp.specs.inside.Cells.{cell_call, in_width, narrowed}
use Rattle.interp.specs.inside.Going.{call_asks, has_tops}
use Rattle.interp.specs.inside.Place.{Place}
use Rattle.interp.specs.inside.Walk.{Arrives, Leads, SendsFrom}

-- a place without its entries
pub record Spot : Type 0 where
  pub values : List Value
  pub code : Code
  pub state : State

abbrev pub spot : (values : List Value) → Code → (locals globals : List Value) → (bytes : List ℕ) → Host → (count : ℕ) → Spot
spot values code locals globals bytes host count =
    record { values = values; code = code; state = state locals globals bytes host count }

abbrev pub amid : Spot → List ControlEntry → Place
amid s ls = record { values = s.values; code = s.code; entries = ls; state = s.state }

-- A run over values passes here, with some entries round it. Besides the operands of those there is room for `free`
-- operands, and always for one more than there are.
pub record LeadsAmid (m : Module) (s : Spot) (most free : ℕ) : Type 0 where
  pub entries : List ControlEntry
  pub leads : Leads m (amid s entries) most
  pub low : (n : ℕ) → operands (run m n leads.from) < beneath entries + free

-- each run over values that passes the one place passes the other, with any entries round both, if it ends within
-- this many units
abbrev pub Passes : Module → (most : ℕ) → (s t : Spot) → Type 0
Passes m most s t = (ls : List ControlEntry) → Arrives m most (amid s ls) (amid t ls)

-- each run over values that passes here, with any entries round it, sends something, or contributes to an aggregator
abbrev pub SendsAmid : Module → (most : ℕ) → Spot → Type 0
SendsAmid m most s = (ls : List ControlEntry) → SendsFrom m (amid s ls) most

-- the code begins with a straight instruction, where these host calls are imported
abbrev pub is_straight : List HostCall → Code → Bool
is_straight calls (code.plain p is) = true
is_straight calls (code.call f is) = is_some (slice_get calls f)
is_straight calls _ = false

-- an instruction that only pops its operand where that is 0: a `br_if`, or an `if` with nothing to do for 0
abbrev pub is_end : Code → Bool
is_end code.end = true
is_end _ = false

abbrev pub skips_zero : FlatInstr → Bool
skips_zero (flat.BrIf l) = true
skips_zero (flat.If t body other) = is_end other
skips_zero _ = false

-- what an instruction requires that calls the host, or only pops a zero
abbrev pub host_asks : Option HostCall → List Value → Bool
host_asks None vs = true
host_asks (Some c) vs = call_asks c vs

abbrev pub beside_asks : List HostCall → FlatInstr → List Value → Bool
beside_asks calls (flat.Call f) vs = host_asks (slice_get calls f) vs
beside_asks calls (flat.BrIf l) vs = has_tops 1 vs
beside_asks calls (flat.If t body other) vs = has_tops 1 vs
beside_asks calls _ vs = true

-- each run over values that passes the instruction with these operands and this host passes the code after it with
-- those, this many units later
abbrev pub GoesBeside : Module → FlatInstr → (old : List Value) → (host : Host) → (new : List Value) → (host_after : Host) → (units : ℕ) → Type 0
GoesBeside m first old host new host_after units =
    (rest : Code) (most count : ℕ) (locals globals : List Value) (bytes : List ℕ)
    → Passes m most (spot old (then_code first rest) locals globals bytes host count) (spot new rest locals globals bytes host_after (count + units))

-- each such run sends something, or contributes to an aggregator
abbrev pub SendsBeside : Module → FlatInstr → (old : List Value) → Host → Type 0
SendsBeside m first old host =
    (rest : Code) (most count : ℕ) (locals globals : List Value) (bytes : List ℕ)
    → SendsAmid m most (spot old (then_code first rest) locals globals bytes host count)

-- a zero was the topmost operand
pub record PopsZero (old new : List Value) (acted : Acted) (room : ℕ) : Type 0 where
  pub cell : ℕ
  pub popped : old ≡ I64 cell ∷ new
  pub zero : narrowed val_type.I32 cell ≡ 0
  pub units : acted.units ≡ 1
  pub within : acted.top ≤ room

-- the opening of a loop after the call that takes an item: `i32.eqz` and `br_if`
abbrev pub eqz : Plain
eqz = plain.Numeric (numeric.Eqz val_type.I32)

abbrev pub IsEqz : FlatInstr → Type 0
IsEqz i = i ≡ flat.I32Eqz

abbrev pub IsBranchIf : FlatInstr → Type 0
IsBranchIf i = (l : ℕ) × (i ≡ flat.BrIf l)

abbrev pub IsTest : (whole body : Code) → Type 0
IsTest whole body = (l : ℕ) × (whole ≡ code.plain eqz (code.branch (branch.BrIf l) body))

-- the call takes an item, whatever the operands are
pub record Takes (call : Option HostCall) (old new : Host) : Type 0 where
  pub which : HostCall
  pub is : call ≡ Some which
  pub counts : host_units (Some which) ≡ 2
  pub acts : (vs : List Value) → ActsOnHost (cell_call in_width which) vs (I64 1 ∷ vs) old new

-- each run over values that passes the one code, with any operands, passes the other this many units later
abbrev pub GoesIn : Module → (whole : Code) → (old : Host) → (rest : Code) → (new : Host) → (units : ℕ) → Type 0
GoesIn m whole old rest new units =
    (most count : ℕ) (values locals globals : List Value) (bytes : List ℕ)
    → Passes m most (spot values whole locals globals bytes old count) (spot values rest locals globals bytes new (count + units))
