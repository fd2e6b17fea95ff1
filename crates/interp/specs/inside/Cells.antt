-- The machine over cells, which have no type: a cell is the i64 of its number. An instruction reads its operands as
-- the types that it takes, an i32 from the lowest 32 bits, and its result is a cell. There is no step to a result
-- that the test `may` refuses. A proof requires a step with results of any width, and yields one with results within
-- their width. The memory is the list of its kept bytes, and a load or a store of other bytes traps.
use Rattle.std.specs.Prelude.{List, [], ◌∷◌, ◌+◌, ◌%◌, ◌^◌, ℕ, map, slice_get, nat_lt, Bool, true, Option, Some, None, false, if◌then◌else◌}
use Rattle.wasm_ast.specs.declared.types.ValType.{ValType}
use Rattle.wasm_ast.specs.declared.types.ValType.TheVariants as val_type
use Rattle.wasm_ast.specs.declared.types.Value.{Value}
use Rattle.wasm_ast.specs.declared.types.Value.TheVariants.{I32, I64}
use Rattle.wasm_ast.specs.declared.numeric.Numeric.{Numeric}
use Rattle.wasm_ast.specs.declared.plain.Memory.{Memory}
use Rattle.wasm_ast.specs.declared.plain.Memory.TheVariants as memory
use Rattle.wasm_ast.specs.declared.plain.Plain.{Plain}
use Rattle.wasm_ast.specs.declared.plain.Plain.TheVariants as plain
use Rattle.wasm_ast.specs.declared.plain.Branch.{Branch}
use Rattle.wasm_ast.specs.declared.plain.Branch.TheVariants as branch
use Rattle.wasm_ast.specs.declared.module.Function.{Function}
use Rattle.wasm_ast.specs.declared.module.Module.{Module}
use Rattle.wasm_ast.specs.Code.{Code}
use Rattle.wasm_ast.specs.Code as code
use Rattle.wasm_ast.specs.NumericTypes.{numeric_takes}
use Rattle.wasm_ast.specs.Values.{zero_of}
use Rattle.wasm_ast.specs.Widths.{load_width, store_type, store_width}
use Rattle.verified.specs.declared.imports.HostCall.{HostCall}
use Rattle.verified.specs.declared.imports.HostCall.TheVariants as call
use Rattle.verified.specs.Memory.{number_of}
use Rattle.semantics.specs.Configuration.{State, Effect, Gives, Traps, Misses, tick}
use Rattle.semantics.specs.Effects.{value, effect, load_effect, numeric_effect, popped, store_effect, variable_effect, memory_effect, call_effect}
use Rattle.interp.specs.inside.Kept.{kept_read, kept_write, masked}
use Rattle.interp.specs.inside.Place.{Place}
use Rattle.semantics.specs.Machine.{Machine, Running, Done, Trapped, Stuck, ControlEntry, Label, Frame, Callee, host, defined, functions_of, after_effect, arm, enter, has_result, leave, next_units, take_branch, taking}

-- ---- values as cells

abbrev pub cell_of : Value → Value
cell_of (I32 n) = I64 n
cell_of (I64 n) = I64 n

-- a state over cells; its memory has only the marked bytes
abbrev pub cells_state : List Bool → State → State
cells_state ms st =
    record st { locals = map cell_of st.locals; globals = map cell_of st.globals; memory = masked ms st.memory }

abbrev pub cells_entry : ControlEntry → ControlEntry
cells_entry (Label keeps vs target after) = Label keeps (map cell_of vs) target after
cells_entry (Frame keeps locals vs after) = Frame keeps (map cell_of locals) (map cell_of vs) after

abbrev pub cells : List Bool → Machine → Machine
cells ms (Running vs is ls st) = Running (map cell_of vs) is (map cells_entry ls) (cells_state ms st)
cells ms (Done st) = Done (cells_state ms st)
cells ms (Trapped count) = Trapped count
cells ms (Stuck count) = Stuck count

abbrev pub cells_place : List Bool → Place → Place
cells_place ms p =
    record { values = map cell_of p.values; code = p.code; entries = map cells_entry p.entries; state = cells_state ms p.state }

-- ---- what instructions do to cells

-- the number of a cell, read as a type
abbrev pub narrowed : ValType → ℕ → ℕ
narrowed val_type.I32 n = n % 2 ^ 32
narrowed val_type.I64 n = n

-- the topmost operands, read as these types
abbrev pub seen : List ValType → List Value → List Value
seen [] vs = vs
seen (t ∷ ts) [] = []
seen (t ∷ ts) (v ∷ vs) = value t (narrowed t (number_of v)) ∷ seen ts vs

-- the two tests of a result: one accepts any, the other those within the width of their type
abbrev pub of_any_width : Value → Bool
of_any_width v = true

abbrev pub in_width : Value → Bool
in_width (I32 n) = nat_lt n (2 ^ 32)
in_width (I64 n) = true

-- the topmost operand becomes a cell, if the test accepts it
abbrev pub topped : (Value → Bool) → Effect → Effect
topped may (Gives [] st) = Gives [] st
topped may (Gives (v ∷ vs) st) = if may v then Gives (cell_of v ∷ vs) st else Misses
topped may Traps = Traps
topped may Misses = Misses

abbrev pub cell_numeric : (Value → Bool) → Numeric → List Value → State → Effect
cell_numeric may op vs st = topped may (numeric_effect op (seen (numeric_takes op) vs) st)

-- the effect on a memory with kept bytes
abbrev pub kept_effect : Memory → List Value → State → Effect
kept_effect (memory.Load op a) vs st =
    popped val_type.I32 vs (λ i us. load_effect op (kept_read (i + a.offset) (load_width op) st.memory) us st)
kept_effect (memory.Store op a) vs st =
    popped (store_type op) vs (λ n us. popped val_type.I32 us (λ i ws.
    store_effect (kept_write (i + a.offset) (store_width op) n st.memory) ws st))
kept_effect op vs st = memory_effect op vs st

abbrev pub cell_memory : (Value → Bool) → Memory → List Value → State → Effect
cell_memory may (memory.Load op a) vs st = topped may (kept_effect (memory.Load op a) (seen (val_type.I32 ∷ []) vs) st)
cell_memory may (memory.Store op a) vs st = kept_effect (memory.Store op a) (seen (store_type op ∷ val_type.I32 ∷ []) vs) st
cell_memory may memory.Size vs st = topped may (memory_effect memory.Size vs st)
cell_memory may memory.Grow vs st = Misses

abbrev pub cell_effect : (Value → Bool) → Plain → List Value → State → Effect
cell_effect may plain.Nop vs st = effect plain.Nop vs st
cell_effect may plain.Drop vs st = effect plain.Drop vs st
cell_effect may plain.Select vs st = effect plain.Select (seen (val_type.I32 ∷ []) vs) st
cell_effect may (plain.Const v) vs st = topped may (effect (plain.Const v) vs st)
cell_effect may (plain.Numeric op) vs st = cell_numeric may op vs st
cell_effect may (plain.Variable op) vs st = variable_effect op vs st
cell_effect may (plain.Memory op) vs st = cell_memory may op vs st

-- the types of the arguments of a host call, the topmost first
abbrev pub call_takes : HostCall → List ValType
call_takes call.SetValue = val_type.I64 ∷ []
call_takes call.Send = val_type.I64 ∷ val_type.I64 ∷ []
call_takes call.Aggregate = val_type.I64 ∷ val_type.I32 ∷ []
call_takes call.Aggregated = val_type.I32 ∷ []
call_takes _ = []

-- ids, values and the like are i64 already
abbrev pub cell_call : (Value → Bool) → HostCall → List Value → State → Effect
cell_call may call.NextMessage vs st = topped may (call_effect call.NextMessage vs st)
cell_call may call.NextEdge vs st = topped may (call_effect call.NextEdge vs st)
cell_call may c vs st = call_effect c (seen (call_takes c) vs) st

-- ---- steps

abbrev pub branch_takes : Branch → List ValType
branch_takes (branch.Br l) = []
branch_takes (branch.BrIf l) = val_type.I32 ∷ []
branch_takes (branch.BrTable labels other) = val_type.I32 ∷ []
branch_takes branch.Return = []

abbrev pub cell_branch : Branch → List Value → Code → List ControlEntry → State → Machine
cell_branch b vs is ls st = take_branch b (seen (branch_takes b) vs) is ls st

-- the locals of a function all begin as the cell 0
abbrev pub as_cells : List ValType → List ValType
as_cells ts = map (λ _. val_type.I64) ts

abbrev pub zero_cells : List ValType → List Value
zero_cells ts = map zero_of (as_cells ts)

abbrev pub celled : Function → Function
celled f = record f { locals = as_cells f.locals }

abbrev pub cell_host : (Value → Bool) → Option HostCall → List Value → State → Effect
cell_host may None vs st = Misses
cell_host may (Some c) vs st = cell_call may c vs st

abbrev pub cell_take_call : (Value → Bool) → Module → Option Callee → List Value → Code → List ControlEntry → State → Machine
cell_take_call may m None vs is ls st = Stuck st.count
cell_take_call may m (Some (host c)) vs is ls st = after_effect (cell_host may c vs st) is ls st.count
cell_take_call may m (Some (defined f)) vs is ls st = enter (celled f) (slice_get m.types f.type_number) vs is ls st

abbrev pub cell_next : (Value → Bool) → Module → List Value → Code → List ControlEntry → State → Machine
cell_next may m vs code.end ls st = leave vs ls st
cell_next may m vs (code.plain p is) ls st = after_effect (cell_effect may p vs st) is ls st.count
cell_next may m vs (code.branch b is) ls st = cell_branch b vs is ls st
cell_next may m vs (code.call f is) ls st = cell_take_call may m (slice_get (functions_of m) f) vs is ls st
cell_next may m vs (code.call_indirect t is) ls st = Stuck st.count
cell_next may m vs (code.unreachable is) ls st = Trapped st.count
cell_next may m vs (code.block t body is) ls st = Running [] body (Label (has_result t) vs is is ∷ ls) st
cell_next may m vs (code.loop t body is) ls st = Running [] body (Label false vs (code.loop t body is) is ∷ ls) st
cell_next may m vs (code.choice t body other is) ls st =
    taking (seen (val_type.I32 ∷ []) vs) st.count (λ n us. Running [] (arm n body other) (Label (has_result t) us is is ∷ ls) st)

abbrev pub cell_advance : (Value → Bool) → Module → Machine → Machine
cell_advance may m (Running vs code.end ls st) = leave vs ls st
cell_advance may m (Running vs next ls st) = cell_next may m vs next ls (tick (next_units m next) st)
cell_advance may m (Done st) = Done st
cell_advance may m (Trapped count) = Trapped count
cell_advance may m (Stuck count) = Stuck count
