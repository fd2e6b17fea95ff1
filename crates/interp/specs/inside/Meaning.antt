-- The meaning of the walk's lists.
use Rattle.std.specs.Prelude.{◌≡◌, ℕ, ◌-◌, ◌≤◌, List, [], ◌∷◌, map, length, take, drop, reverse, vec_capacity, Vec, Bool, false, Option, Some, None}
use Rattle.std.specs.Borrow.{Bor}
use Rattle.wasm_ast.specs.declared.types.Value.{Value}
use Rattle.wasm_ast.specs.declared.module.Module.{Module}
use Rattle.wasm_ast.specs.Code.{Code}
use Rattle.wasm_ast.specs.Code as code
use Rattle.verified.specs.View.{code_of}
use Rattle.verified.specs.declared.imports.HostCall.{HostCall}
use Rattle.semantics.specs.Machine as machine
use Rattle.interp.specs.inside.Kept.{count_kept}
use Rattle.interp.specs.inside.Place.{Room, Standing, no_host}
use Rattle.interp.specs.inside.Renewed.{Renewed}
use Rattle.interp.specs.inside.Split.{Split}
use Rattle.interp.specs.declared.control_entry.ControlEntry.{ControlEntry}
use Rattle.interp.specs.declared.control_entry.ControlEntry.TheVariants as control
use Rattle.interp.specs.declared.control_entry.Form.{Form}
use Rattle.interp.specs.declared.control_entry.Form.TheVariants as form
use Rattle.interp.specs.declared.program.Callee.{Callee}
use Rattle.interp.specs.declared.program.Callee.TheVariants as callee
use Rattle.interp.specs.declared.walk.Walk.TheInside.{Inside}

-- ---- functions

abbrev pub callee_of : Callee → machine.Callee
callee_of (callee.Host call) = machine.host (Some call)
callee_of (callee.Defined d) = machine.defined d.function.now

-- the body in flat form is that of the function
abbrev pub HasOwnBody : Callee → Type 0
HasOwnBody (callee.Host call) = Unit {0}
HasOwnBody (callee.Defined d) = d.body.now ≡ d.function.now.body

abbrev pub host_callee : HostCall → machine.Callee
host_callee call = machine.host (Some call)

-- the calls are those that the imports of the module bring in
abbrev pub AreImports : List HostCall → Module → Type 0
AreImports calls m = machine.imported_functions m.imports ≡ map host_callee calls

-- ---- entries

-- whether a branch to the label may keep the topmost operand, and the code at which it goes on
abbrev pub keeps_of : Form → Bool
keeps_of (form.Block keeps) = keeps
keeps_of (form.Loop block_type body) = false

abbrev pub target_of : Form → (after : Code) → Code
target_of (form.Block keeps) after = after
target_of (form.Loop block_type body) after = code.loop block_type body.now after

-- the machine's entries, innermost first, with the operands and the locals below the innermost entry
abbrev pub entries_of : List ControlEntry → List Value → List Value → List machine.ControlEntry
entries_of [] vs ls = []
entries_of (control.Label what floor after ∷ rs) vs ls =
    machine.Label (keeps_of what) (take (length vs - floor) vs) (target_of what (code_of after.now)) (code_of after.now) ∷ entries_of rs (drop (length vs - floor) vs) ls
entries_of (control.Frame keeps floor base after ∷ rs) vs ls =
    machine.Frame keeps (drop base ls) (take (length vs - floor) vs) (code_of after.now) ∷ entries_of rs (drop (length vs - floor) vs) (take base ls)

-- the floors of each entry are at or below those of the entries above it, and the outermost floor is the bottom
abbrev pub Ordered : List ControlEntry → ℕ → ℕ → Type 0
Ordered [] vs ls = (vs ≡ 0) × (ls ≡ 0)
Ordered (control.Label what floor after ∷ rs) vs ls = (floor ≤ vs) × Ordered rs floor ls
Ordered (control.Frame keeps floor base after ∷ rs) vs ls = (floor ≤ vs) × (base ≤ ls) × Ordered rs floor base

-- the entries of a walk as they are stored, the innermost last
abbrev pub AreNested : List ControlEntry → (operands locals : Split) → Type 0
AreNested entries operands locals = Ordered (reverse entries) (length operands.below.values) (length locals.below.values)

abbrev pub entries_round : List ControlEntry → (operands locals : Split) → List machine.ControlEntry
entries_round entries operands locals = entries_of (reverse entries) operands.below.values locals.below.values

-- where the operands of the enclosing entry begin, if the innermost entry is a label
abbrev pub floor_of : List ControlEntry → Option ℕ
floor_of [] = None
floor_of (control.Label what floor after ∷ rs) = Some floor
floor_of (control.Frame keeps floor base after ∷ rs) = None

-- the body of the loop whose label is the innermost entry
abbrev pub loop_of : List ControlEntry → Option (Bor Code)
loop_of [] = None
loop_of (control.Label (form.Block keeps) floor after ∷ rs) = None
loop_of (control.Label (form.Loop block_type body) floor after ∷ rs) = Some body
loop_of (control.Frame keeps floor base after ∷ rs) = None

-- the room in the lists of a walk
abbrev pub room_of : {A : Type 0} → Vec ControlEntry A → (operands locals : Split) → (globals : Renewed) → (bytes : List ℕ) → Room
room_of entries operands locals globals bytes =
    record { entries = vec_capacity entries; operands = operands.below.room; locals = locals.below.room; globals = globals.initial; bytes = count_kept bytes }

abbrev pub standing_of : Inside → Standing
standing_of a = record {
  values = a.operands.here;
  entries = entries_of (reverse a.entries.items) a.operands.below.values a.locals.below.values;
  locals = a.locals.here;
  globals = a.globals.here;
  memory = a.memory;
  host = no_host;
  room = room_of a.entries a.operands a.locals a.globals a.memory;
}

abbrev pub IsOrdered : Inside → Type 0
IsOrdered a = Ordered (reverse a.entries.items) (length a.operands.below.values) (length a.locals.below.values)
