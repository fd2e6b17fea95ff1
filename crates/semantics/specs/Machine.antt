-- The machine (Core 1.0, 4.2 and 4.4): a configuration, one step of reduction, and a number of steps.
use Rattle.std.specs.Prelude.{ℕ, zero, suc, List, [], ◌∷◌, ◌++◌, map, reverse, take, drop, length, slice_get, nat_le, Bool, true, false, Option, Some, None, if◌then◌else◌}
use Rattle.wasm_ast.specs.declared.types.ValType.{ValType}
use Rattle.wasm_ast.specs.declared.types.ValType.TheVariants as val_type
use Rattle.wasm_ast.specs.declared.types.FuncType.{FuncType}
use Rattle.wasm_ast.specs.declared.types.Value.{Value}
use Rattle.wasm_ast.specs.declared.plain.Branch.{Branch}
use Rattle.wasm_ast.specs.declared.plain.Branch.TheVariants as branch
use Rattle.wasm_ast.specs.declared.body.Instr.TheVariants as instr
use Rattle.wasm_ast.specs.declared.module.Import.{Import}
use Rattle.wasm_ast.specs.declared.module.ImportDescription.{ImportDescription}
use Rattle.wasm_ast.specs.declared.module.ImportDescription.TheVariants as import
use Rattle.wasm_ast.specs.declared.module.Function.{Function}
use Rattle.wasm_ast.specs.declared.module.Module.{Module}
use Rattle.wasm_ast.specs.Code.{Code}
use Rattle.wasm_ast.specs.Code as code
use Rattle.verified.specs.Weights.{units_of}
use Rattle.wasm_ast.specs.Values.{zero_of}
use Rattle.verified.specs.declared.imports.HostCall.{HostCall}
use Rattle.verified.specs.Imports.{call_named}
use Rattle.verified.specs.Operands.{pop}
use Rattle.semantics.specs.Configuration.{State, with_locals, tick, Effect, Gives, Traps, Misses}
use Rattle.semantics.specs.Effects.{effect, call_effect}

-- ---- the configuration (4.2.12, 4.2.13)

-- a control entry round the running sequence: a label or a frame, with the operands below it and the code after it
pub data ControlEntry : Type 0 where
  -- a branch to it goes on at `target`, and may keep the topmost operand; its end goes on at `after`
  Label : (keeps : Bool) (values : List Value) (target after : Code) → ControlEntry
  -- `locals` are those of the caller; `keeps` says whether there is a result
  Frame : (keeps : Bool) (locals : List Value) (values : List Value) (after : Code) → ControlEntry

-- The operands and the code of the innermost entry come first, the topmost operand first. The frame of `compute`,
-- which was called from outside, has no entry: it is round all entries.
pub data Machine : Type 0 where
  Running : (values : List Value) (code : Code) (entries : List ControlEntry) (state : State) → Machine
  Done : State → Machine
  -- `count` is the number of units so far
  Trapped : (count : ℕ) → Machine
  Stuck : (count : ℕ) → Machine

-- ---- functions by number, imports first (2.5.1)

pub data Callee : Type 0 where
  -- what an import brings in, if the host has it
  host : Option HostCall → Callee
  defined : Function → Callee

abbrev pub function_import : Import → ImportDescription → List Callee → List Callee
function_import i (import.Function t) others = host (call_named i.module i.name) ∷ others
function_import i (import.Table t) others = others
function_import i (import.Memory t) others = others
function_import i (import.Global t) others = others

abbrev pub imported_functions : List Import → List Callee
imported_functions [] = []
imported_functions (i ∷ is) = function_import i i.description (imported_functions is)

abbrev pub functions_of : Module → List Callee
functions_of m = imported_functions m.imports ++ map defined m.functions

-- ---- branches (4.4.5)

-- the topmost operand
abbrev pub first : List Value → Option Value
first [] = None
first (v ∷ vs) = Some v

-- pushes an operand, where one is kept
abbrev pub carry : Bool → Option Value → List Value → Option (List Value)
carry false top below = Some below
carry true None below = None
carry true (Some v) below = Some (v ∷ below)

-- goes on with these operands, if they exist
abbrev pub landed : Option (List Value) → Code → List ControlEntry → State → Machine
landed None is ls st = Stuck st.count
landed (Some vs) is ls st = Running vs is ls st

-- goes on at the innermost label or frame, with an operand; the outermost frame is the end
abbrev pub arrive : Option Value → List ControlEntry → State → Machine
arrive top [] st = Done st
arrive top (Label keeps below target after ∷ ls) st = landed (carry keeps top below) target ls st
arrive top (Frame keeps locals below after ∷ ls) st = landed (carry keeps top below) after ls (with_locals st locals)

-- branches to a label; a frame is a label too, and no label is beyond it
abbrev pub jump : ℕ → Option Value → List ControlEntry → State → Machine
jump zero top ls st = arrive top ls st
jump (suc l) top [] st = Stuck st.count
jump (suc l) top (Label keeps below target after ∷ ls) st = jump l top ls st
jump (suc l) top (Frame keeps locals below after ∷ ls) st = Stuck st.count

-- returns from the innermost frame
abbrev pub back : Option Value → List ControlEntry → State → Machine
back top [] st = arrive top [] st
back top (Label keeps below target after ∷ ls) st = back top ls st
back top (Frame keeps locals below after ∷ ls) st = arrive top (Frame keeps locals below after ∷ ls) st

-- the end of a sequence
abbrev pub leave : List Value → List ControlEntry → State → Machine
leave vs [] st = Done st
leave vs (Label keeps below target after ∷ ls) st = Running (vs ++ below) after ls st
leave vs (Frame keeps locals below after ∷ ls) st = Running (vs ++ below) after ls (with_locals st locals)

-- the label at a place of a branch table, or the default for all places past its end
abbrev pub label_of : List ℕ → ℕ → ℕ → ℕ
label_of [] n other = other
label_of (l ∷ ls) zero other = l
label_of (l ∷ ls) (suc n) other = label_of ls n other

-- pops an i32
abbrev pub taking : List Value → ℕ → (ℕ → List Value → Machine) → Machine
taking vs count go = pop (Stuck count) val_type.I32 vs go

abbrev pub branch_unless_zero : ℕ → ℕ → List Value → Code → List ControlEntry → State → Machine
branch_unless_zero zero l vs is ls st = Running vs is ls st
branch_unless_zero (suc n) l vs is ls st = jump l (first vs) ls st

abbrev pub take_branch : Branch → List Value → Code → List ControlEntry → State → Machine
take_branch (branch.Br l) vs is ls st = jump l (first vs) ls st
take_branch (branch.BrIf l) vs is ls st = taking vs st.count (λ n us. branch_unless_zero n l us is ls st)
take_branch (branch.BrTable labels other) vs is ls st =
    taking vs st.count (λ n us. jump (label_of labels n other) (first us) ls st)
take_branch branch.Return vs is ls st = back (first vs) ls st

-- ---- blocks (4.4.5)

abbrev pub has_result : Option ValType → Bool
has_result None = false
has_result (Some t) = true

-- the first sequence for a number other than 0, and the second for 0
abbrev pub arm : ℕ → Code → Code → Code
arm zero then_body else_body = else_body
arm (suc n) then_body else_body = then_body

-- ---- calls (4.4.7)

abbrev pub gives_one : List ValType → Bool
gives_one [] = false
gives_one (t ∷ ts) = true

-- enters a function of this type in its frame; its arguments are the topmost operands, the lowest first, before its
-- other locals
abbrev pub enter : Function → Option FuncType → List Value → Code → List ControlEntry → State → Machine
enter f None vs is ls st = Stuck st.count
enter f (Some t) vs is ls st =
    if nat_le (length t.parameters) (length vs)
    then Running [] f.body (Frame (gives_one t.results) st.locals (drop (length t.parameters) vs) is ∷ ls)
    (with_locals st (reverse (take (length t.parameters) vs) ++ map zero_of f.locals))
    else Stuck st.count

abbrev pub after_effect : Effect → Code → List ControlEntry → ℕ → Machine
after_effect (Gives vs st) is ls count = Running vs is ls st
after_effect Traps is ls count = Trapped count
after_effect Misses is ls count = Stuck count

abbrev pub host_effect : Option HostCall → List Value → State → Effect
host_effect None vs st = Misses
host_effect (Some call) vs st = call_effect call vs st

abbrev pub take_call : Module → Option Callee → List Value → Code → List ControlEntry → State → Machine
take_call m None vs is ls st = Stuck st.count
take_call m (Some (host call)) vs is ls st = after_effect (host_effect call vs st) is ls st.count
take_call m (Some (defined f)) vs is ls st = enter f (slice_get m.types f.type_number) vs is ls st

-- ---- steps

-- the units of the next instruction
abbrev pub next_units : Module → Code → ℕ
next_units m code.end = 0
next_units m (code.plain p rest) = units_of m (instr.Plain p)
next_units m (code.branch b rest) = units_of m (instr.Branch b)
next_units m (code.call f rest) = units_of m (instr.Call f)
next_units m (code.call_indirect t rest) = units_of m (instr.CallIndirect t)
next_units m (code.unreachable rest) = units_of m instr.Unreachable
next_units m (code.block t body rest) = units_of m (instr.Block t body)
next_units m (code.loop t body rest) = units_of m (instr.Loop t body)
next_units m (code.choice t body other rest) = units_of m (instr.If t body other)

-- takes the next instruction, which was counted; there is no step for `call_indirect`
abbrev pub take_next : Module → List Value → Code → List ControlEntry → State → Machine
take_next m vs code.end ls st = leave vs ls st
take_next m vs (code.plain p is) ls st = after_effect (effect p vs st) is ls st.count
take_next m vs (code.branch b is) ls st = take_branch b vs is ls st
take_next m vs (code.call f is) ls st = take_call m (slice_get (functions_of m) f) vs is ls st
take_next m vs (code.call_indirect t is) ls st = Stuck st.count
take_next m vs (code.unreachable is) ls st = Trapped st.count
take_next m vs (code.block t body is) ls st = Running [] body (Label (has_result t) vs is is ∷ ls) st
take_next m vs (code.loop t body is) ls st = Running [] body (Label false vs (code.loop t body is) is ∷ ls) st
take_next m vs (code.choice t body other is) ls st =
    taking vs st.count (λ n us. Running [] (arm n body other) (Label (has_result t) us is is ∷ ls) st)

-- One step. Taking an instruction from its sequence counts its units. Leaving a label or a frame counts nothing.
abbrev pub advance : Module → Machine → Machine
advance m (Running vs code.end ls st) = leave vs ls st
advance m (Running vs next ls st) = take_next m vs next ls (tick (next_units m next) st)
advance m (Done st) = Done st
advance m (Trapped count) = Trapped count
advance m (Stuck count) = Stuck count

-- this many steps
abbrev pub run : Module → ℕ → Machine → Machine
run m zero x = x
run m (suc n) x = run m n (advance m x)

-- a run is over where the machine is done, has trapped, or has no step
abbrev pub IsOver : Machine → Type 0
IsOver (Running vs is ls st) = ⊥
IsOver (Done st) = Unit {0}
IsOver (Trapped count) = Unit {0}
IsOver (Stuck count) = Unit {0}
