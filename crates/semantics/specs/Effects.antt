-- The effect of each instruction that neither branches nor calls (Core 1.0, 4.4.1 to 4.4.4), and of each host call.
use Rattle.std.specs.Prelude.{ℕ, zero, suc, ◌+◌, ◌/◌, List, [], ◌∷◌, slice_get, slice_set, length, nat_lt, Option, Some, None, if◌then◌else◌}
use Rattle.wasm_ast.specs.declared.types.ValType.{ValType}
use Rattle.wasm_ast.specs.declared.types.ValType.TheVariants as val_type
use Rattle.wasm_ast.specs.declared.types.Value.{Value}
use Rattle.wasm_ast.specs.declared.types.Value.TheVariants.{I32, I64}
use Rattle.wasm_ast.specs.declared.numeric.Division.{Division}
use Rattle.wasm_ast.specs.declared.numeric.Numeric.{Numeric}
use Rattle.wasm_ast.specs.declared.numeric.Numeric.TheVariants as numeric
use Rattle.wasm_ast.specs.declared.plain.Load.{Load}
use Rattle.wasm_ast.specs.declared.plain.Memory.{Memory}
use Rattle.wasm_ast.specs.declared.plain.Memory.TheVariants as memory
use Rattle.wasm_ast.specs.declared.plain.Variable.{Variable}
use Rattle.wasm_ast.specs.declared.plain.Variable.TheVariants as variable
use Rattle.wasm_ast.specs.declared.plain.Plain.{Plain}
use Rattle.wasm_ast.specs.declared.plain.Plain.TheVariants as plain
use Rattle.wasm_ast.specs.Numeric.{bits_of, truth, conversion_from, conversion_to}
use Rattle.semantics.specs.Operations.{eqz_value, comparison_holds, unary_value, binary_value, division_traps, division_value, conversion_value}
use Rattle.wasm_ast.specs.Widths.{load_width, load_type, store_width, store_type}
use Rattle.verified.specs.declared.imports.HostCall.{HostCall}
use Rattle.verified.specs.Effects.{HostEffect, host_effect}
use Rattle.verified.specs.Effects as host
use Rattle.verified.specs.Operands.{pop}
use Rattle.verified.specs.Memory.{page}
use Rattle.semantics.specs.Configuration.{State, with_locals, with_globals, with_memory, with_host, Effect, Gives, Traps, Misses}
use Rattle.semantics.specs.Memory.{loaded, read, write}

-- a number as an operand of a type
abbrev pub value : ValType → ℕ → Value
value val_type.I32 n = I32 n
value val_type.I64 n = I64 n

-- pops a number of a type, and goes on with it
abbrev pub popped : ValType → List Value → (ℕ → List Value → Effect) → Effect
popped t vs go = pop Misses t vs go

-- ---- numbers (4.4.1)

abbrev pub division_effect : ValType → Division → ℕ → ℕ → List Value → State → Effect
division_effect t op x y vs st =
    if division_traps (bits_of t) op x y then Traps else Gives (value t (division_value (bits_of t) op x y) ∷ vs) st

abbrev pub numeric_effect : Numeric → List Value → State → Effect
numeric_effect (numeric.Eqz t) vs st = popped t vs (λ x us. Gives (I32 (eqz_value x) ∷ us) st)
numeric_effect (numeric.Comparison t op) vs st =
    popped t vs (λ y us. popped t us (λ x ws. Gives (I32 (truth (comparison_holds (bits_of t) op x y)) ∷ ws) st))
numeric_effect (numeric.Unary t op) vs st = popped t vs (λ x us. Gives (value t (unary_value (bits_of t) op x) ∷ us) st)
numeric_effect (numeric.Binary t op) vs st =
    popped t vs (λ y us. popped t us (λ x ws. Gives (value t (binary_value (bits_of t) op x y) ∷ ws) st))
numeric_effect (numeric.Division t op) vs st = popped t vs (λ y us. popped t us (λ x ws. division_effect t op x y ws st))
numeric_effect (numeric.Conversion op) vs st =
    popped (conversion_from op) vs (λ x us. Gives (value (conversion_to op) (conversion_value op x) ∷ us) st)

-- ---- any operands (4.4.2)

abbrev pub discard : List Value → State → Effect
discard [] st = Misses
discard (v ∷ vs) st = Gives vs st

abbrev pub pick : ℕ → Value → Value → Value
pick zero first second = second
pick (suc n) first second = first

-- the two operands have one type
abbrev pub select : ℕ → List Value → State → Effect
select n (I32 b ∷ I32 a ∷ vs) st = Gives (pick n (I32 a) (I32 b) ∷ vs) st
select n (I64 b ∷ I64 a ∷ vs) st = Gives (pick n (I64 a) (I64 b) ∷ vs) st
select n _ st = Misses

-- ---- variables (4.4.3)

abbrev pub pushed : Option Value → List Value → State → Effect
pushed None vs st = Misses
pushed (Some v) vs st = Gives (v ∷ vs) st

-- the value becomes that of the local, if there is such a local
abbrev pub local_set : ℕ → Value → List Value → State → Effect
local_set x v vs st =
    if nat_lt x (length st.locals) then Gives vs (with_locals st (slice_set st.locals x v)) else Misses

-- the same for a global
abbrev pub global_set : ℕ → Value → List Value → State → Effect
global_set x v vs st =
    if nat_lt x (length st.globals) then Gives vs (with_globals st (slice_set st.globals x v)) else Misses

abbrev pub variable_effect : Variable → List Value → State → Effect
variable_effect (variable.LocalGet x) vs st = pushed (slice_get st.locals x) vs st
variable_effect (variable.LocalSet x) [] st = Misses
variable_effect (variable.LocalSet x) (v ∷ vs) st = local_set x v vs st
variable_effect (variable.LocalTee x) [] st = Misses
variable_effect (variable.LocalTee x) (v ∷ vs) st = local_set x v (v ∷ vs) st
variable_effect (variable.GlobalGet x) vs st = pushed (slice_get st.globals x) vs st
variable_effect (variable.GlobalSet x) [] st = Misses
variable_effect (variable.GlobalSet x) (v ∷ vs) st = global_set x v vs st

-- ---- the memory (4.4.4)

-- the effect of a load by the number that was read, if all its bytes exist
abbrev pub load_effect : Load → Option ℕ → List Value → State → Effect
load_effect op None vs st = Traps
load_effect op (Some n) vs st = Gives (value (load_type op) (loaded op n) ∷ vs) st

-- the effect of a store by the memory after the write, if all bytes exist
abbrev pub store_effect : Option (List ℕ) → List Value → State → Effect
store_effect None vs st = Traps
store_effect (Some bytes) vs st = Gives vs (with_memory st bytes)

abbrev pub memory_effect : Memory → List Value → State → Effect
memory_effect (memory.Load op a) vs st = popped val_type.I32 vs (λ i us. load_effect op (read (i + a.offset) (load_width op) st.memory) us st)
memory_effect (memory.Store op a) vs st =
    popped (store_type op) vs (λ n us. popped val_type.I32 us (λ i ws.
    store_effect (write (i + a.offset) (store_width op) n st.memory) ws st))
memory_effect memory.Size vs st = Gives (I32 (length st.memory / page) ∷ vs) st
-- no memory grows
memory_effect memory.Grow vs st = Misses

-- ---- all of them

abbrev pub effect : Plain → List Value → State → Effect
effect plain.Nop vs st = Gives vs st
effect plain.Drop vs st = discard vs st
effect plain.Select vs st = popped val_type.I32 vs (λ n us. select n us st)
effect (plain.Const v) vs st = Gives (v ∷ vs) st
effect (plain.Numeric op) vs st = numeric_effect op vs st
effect (plain.Variable op) vs st = variable_effect op vs st
effect (plain.Memory op) vs st = memory_effect op vs st

-- ---- calls of the host (4.4.7)

-- the effect of a host call on the operands and the host; the rest of the state stays
abbrev pub lifted : State → HostEffect → Effect
lifted st (host.Gives vs h) = Gives vs (with_host st h)
lifted st host.Traps = Traps
lifted st host.Misses = Misses

abbrev pub call_effect : HostCall → List Value → State → Effect
call_effect c vs st = lifted st (host_effect c vs st.host)
