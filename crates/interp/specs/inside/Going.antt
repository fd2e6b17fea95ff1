-- That there is a step that does not trap, and what its parts require.
use Rattle.std.specs.Prelude.{ℕ, zero, suc, ◌+◌, List, [], ◌∷◌, length, Bool, true, false, ◌&&◌, not, nat_lt, slice_get}
use Rattle.std.specs.Option.{is_some}
use Rattle.wasm_ast.specs.declared.types.ValType.{ValType}
use Rattle.wasm_ast.specs.declared.types.ValType.TheVariants as val_type
use Rattle.wasm_ast.specs.declared.types.Value.{Value}
use Rattle.wasm_ast.specs.declared.numeric.Division.{Division}
use Rattle.wasm_ast.specs.declared.numeric.Numeric.{Numeric}
use Rattle.wasm_ast.specs.declared.numeric.Numeric.TheVariants as numeric
use Rattle.wasm_ast.specs.declared.plain.Memory.{Memory}
use Rattle.wasm_ast.specs.declared.plain.Memory.TheVariants as memory
use Rattle.wasm_ast.specs.declared.plain.Variable.{Variable}
use Rattle.wasm_ast.specs.declared.plain.Variable.TheVariants as variable
use Rattle.wasm_ast.specs.declared.plain.Plain.{Plain}
use Rattle.wasm_ast.specs.declared.plain.Plain.TheVariants as plain
use Rattle.wasm_ast.specs.Code.{Code}
use Rattle.wasm_ast.specs.Numeric.{bits_of}
use Rattle.semantics.specs.Operations.{division_traps}
use Rattle.wasm_ast.specs.Widths.{load_width, store_width}
use Rattle.verified.specs.declared.call.TheConstants.{AGGREGATORS}
use Rattle.verified.specs.declared.imports.HostCall.{HostCall}
use Rattle.verified.specs.declared.imports.HostCall.TheVariants as call
use Rattle.verified.specs.Memory.{number_of}
use Rattle.semantics.specs.Configuration.{State}
use Rattle.semantics.specs.Machine.{Machine, Running, Done, Trapped, Stuck, ControlEntry, Label, Frame}
use Rattle.interp.specs.inside.Cells.{narrowed}
use Rattle.interp.specs.inside.Kept.{is_kept}
use Rattle.interp.specs.inside.Place.{Standing, state_of}

-- the machine runs or is done
abbrev pub is_going : Machine → Bool
is_going (Running vs is ls st) = true
is_going (Done st) = true
is_going (Trapped count) = false
is_going (Stuck count) = false

-- a part of the walk goes on from this place
abbrev pub goes_on : (List Value → Code → List ControlEntry → State → Machine) → Code → (count : ℕ) → Standing → Bool
goes_on step code count s = is_going (step s.values code s.entries (state_of s count))

-- this many labels are innermost
abbrev pub has_labels : ℕ → List ControlEntry → Bool
has_labels zero ls = true
has_labels (suc l) [] = false
has_labels (suc l) (Label keeps values target after ∷ ls) = has_labels l ls
has_labels (suc l) (Frame keeps locals values after ∷ ls) = false

-- ---- operands, the topmost first

-- there are this many operands
abbrev pub has_tops : ℕ → List Value → Bool
has_tops zero vs = true
has_tops (suc n) [] = false
has_tops (suc n) (v ∷ vs) = has_tops n vs

-- this holds of the topmost number, read as a type, or of the one below it
abbrev pub of_top : ValType → (ℕ → Bool) → List Value → Bool
of_top t p [] = true
of_top t p (v ∷ vs) = p (narrowed t (number_of v))

abbrev pub of_next : ValType → (ℕ → Bool) → List Value → Bool
of_next t p [] = true
of_next t p (v ∷ vs) = of_top t p vs

-- the topmost number divides the one below it without a trap
abbrev pub divides : ValType → Division → List Value → Bool
divides t op [] = true
divides t op (v ∷ vs) = of_top t (λ n. not (division_traps (bits_of t) op n (narrowed t (number_of v)))) vs

-- ---- what instructions ask

abbrev pub numeric_asks : Numeric → List Value → Bool
numeric_asks (numeric.Eqz t) vs = has_tops 1 vs
numeric_asks (numeric.Comparison t op) vs = has_tops 2 vs
numeric_asks (numeric.Unary t op) vs = has_tops 1 vs
numeric_asks (numeric.Binary t op) vs = has_tops 2 vs
numeric_asks (numeric.Division t op) vs = has_tops 2 vs && divides t op vs
numeric_asks (numeric.Conversion op) vs = has_tops 1 vs

abbrev pub variable_asks : Variable → (values locals globals : List Value) → Bool
variable_asks (variable.LocalGet x) vs locals globals = is_some (slice_get locals x)
variable_asks (variable.LocalSet x) vs locals globals = nat_lt 0 (length vs) && nat_lt x (length locals)
variable_asks (variable.LocalTee x) vs locals globals = nat_lt 0 (length vs) && nat_lt x (length locals)
variable_asks (variable.GlobalGet x) vs locals globals = is_some (slice_get globals x)
variable_asks (variable.GlobalSet x) vs locals globals = nat_lt 0 (length vs) && nat_lt x (length globals)

-- the bytes of an access exist and are kept, at an address
abbrev pub reaches : (offset width : ℕ) → (bytes : List ℕ) → ℕ → Bool
reaches offset width bytes i = is_kept (i + offset) width bytes

abbrev pub memory_asks : Memory → List Value → (bytes : List ℕ) → Bool
memory_asks (memory.Load op a) vs bytes =
    has_tops 1 vs && of_top val_type.I32 (reaches a.offset (load_width op) bytes) vs
memory_asks (memory.Store op a) vs bytes =
    has_tops 2 vs && of_next val_type.I32 (reaches a.offset (store_width op) bytes) vs
memory_asks memory.Size vs bytes = true
memory_asks memory.Grow vs bytes = false

abbrev pub plain_asks : Plain → (values locals globals : List Value) → (bytes : List ℕ) → Bool
plain_asks plain.Nop vs locals globals bytes = true
plain_asks plain.Drop vs locals globals bytes = nat_lt 0 (length vs)
plain_asks plain.Select vs locals globals bytes = has_tops 3 vs
plain_asks (plain.Const v) vs locals globals bytes = true
plain_asks (plain.Numeric op) vs locals globals bytes = numeric_asks op vs
plain_asks (plain.Variable op) vs locals globals bytes = variable_asks op vs locals globals
plain_asks (plain.Memory op) vs locals globals bytes = memory_asks op vs bytes

-- a host call requires its arguments, and that the number of an aggregator is in range
abbrev pub call_asks : HostCall → List Value → Bool
call_asks call.SetValue vs = has_tops 1 vs
call_asks call.Send vs = has_tops 2 vs
call_asks call.Aggregate vs = has_tops 2 vs && of_next val_type.I32 (λ slot. nat_lt slot AGGREGATORS) vs
call_asks call.Aggregated vs = has_tops 1 vs && of_top val_type.I32 (λ slot. nat_lt slot AGGREGATORS) vs
call_asks _ vs = true
