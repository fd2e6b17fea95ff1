-- The first configuration of a compute call (Core 1.0, 4.5.4 and 4.5.5), for the modules that have one.
use Rattle.std.specs.Prelude.{◌≡◌, ℕ, List, [], ◌∷◌, map, replicate, slice_get, Option, Some, None}
use Rattle.std.specs.Option.{option_and_then}
use Rattle.wasm_ast.specs.declared.types.Value.{Value}
use Rattle.wasm_ast.specs.declared.types.Value.TheVariants.{I32, I64}
use Rattle.wasm_ast.specs.declared.plain.Plain.{Plain}
use Rattle.wasm_ast.specs.declared.plain.Plain.TheVariants as plain
use Rattle.wasm_ast.specs.declared.plain.Variable.{Variable}
use Rattle.wasm_ast.specs.declared.plain.Variable.TheVariants as variable
use Rattle.wasm_ast.specs.declared.module.Function.{Function}
use Rattle.wasm_ast.specs.declared.module.Global.{Global}
use Rattle.wasm_ast.specs.declared.module.Data.{Data}
use Rattle.wasm_ast.specs.declared.module.Module.{Module}
use Rattle.wasm_ast.specs.Code.{Code}
use Rattle.wasm_ast.specs.Code as code
use Rattle.wasm_ast.specs.Values.{zero_of}
use Rattle.verified.specs.declared.call.CallInput.{CallInput}
use Rattle.verified.specs.Host.{Host, host_of}
use Rattle.verified.specs.Compute.{exported_compute}
use Rattle.verified.specs.Memory.{memory_bytes}
use Rattle.verified.specs.Profile.{ImportsHostCalls, NoStart, NoElements, plain_type}
use Rattle.semantics.specs.Configuration.{State}
use Rattle.semantics.specs.Memory.{laid}
use Rattle.semantics.specs.Machine.{Machine, Running, defined, functions_of}

-- ---- constant expressions (3.3.7)

abbrev pub constant_variable : List Value → Variable → Option Value
constant_variable globals (variable.GlobalGet x) = slice_get globals x
constant_variable globals (variable.LocalGet x) = None
constant_variable globals (variable.LocalSet x) = None
constant_variable globals (variable.LocalTee x) = None
constant_variable globals (variable.GlobalSet x) = None

abbrev pub constant_plain : List Value → Plain → Option Value
constant_plain globals (plain.Const v) = Some v
constant_plain globals (plain.Variable op) = constant_variable globals op
constant_plain globals plain.Nop = None
constant_plain globals plain.Drop = None
constant_plain globals plain.Select = None
constant_plain globals (plain.Numeric op) = None
constant_plain globals (plain.Memory op) = None

-- the value of an expression, by the values of the globals
abbrev pub constant_value : List Value → Code → Option Value
constant_value globals (code.plain p code.end) = constant_plain globals p
constant_value globals _ = None

-- ---- globals and memory as the call begins

abbrev pub before : Option Value → Option (List Value) → Option (List Value)
before None vs = None
before (Some v) None = None
before (Some v) (Some vs) = Some (v ∷ vs)

-- the initial value of each global; no global is imported, so the expressions name none
abbrev pub initial_globals : List Global → Option (List Value)
initial_globals [] = Some []
initial_globals (g ∷ gs) = before (constant_value [] g.initial) (initial_globals gs)

abbrev pub laid_at : Option Value → List ℕ → List ℕ → Option (List ℕ)
laid_at None segment bytes = None
laid_at (Some (I64 n)) segment bytes = None
laid_at (Some (I32 n)) segment bytes = laid n segment bytes

-- writes a segment over the bytes, where it has an offset and is within them
abbrev pub segment_laid : List Value → Data → List ℕ → Option (List ℕ)
segment_laid globals d bytes = laid_at (constant_value globals d.offset) d.bytes bytes

-- writes the segments, in order
abbrev pub laid_in : List Value → List Data → List ℕ → Option (List ℕ)
laid_in globals [] bytes = Some bytes
laid_in globals (d ∷ ds) bytes =
    option_and_then (λ laid. laid_in globals ds laid) (segment_laid globals d bytes)

-- the bytes of the one memory, if there is one (3.4.10): zeros, and the segments over them
abbrev pub initial_memory : List Value → Module → Option (List ℕ)
initial_memory globals m = laid_in globals m.data (replicate (memory_bytes m) 0)

-- ---- the start

-- What each call of the module begins with, whatever its input. A module without it is not called.
pub record Begins (m : Module) (function : Function) (globals : List Value) (bytes : List ℕ) : Type 0 where
  pub imports : ImportsHostCalls m
  pub no_start : NoStart m
  pub no_elements : NoElements m
  -- the function that the module defines and exports as `compute`, without parameters and results
  pub number : ℕ
  pub exported : exported_compute m.exports ≡ Some number
  pub is_defined : slice_get (functions_of m) number ≡ Some (defined function)
  pub func_type : slice_get m.types function.type_number ≡ Some plain_type
  pub initial_values : initial_globals m.globals ≡ Some globals
  pub initial_bytes : initial_memory globals m ≡ Some bytes

-- the frame of the function over them: no operands, and each local 0 (4.4.7)
abbrev pub state_from : Function → List Value → List ℕ → Host → State
state_from function globals bytes host = record {
  locals = map zero_of function.locals;
  globals = globals;
  memory = bytes;
  host = host;
  count = 0;
}

-- this is the first configuration of a call that finds the vertex like this
pub record StartsFrom (m : Module) (host : Host) (first : Machine) : Type 0 where
  pub function : Function
  pub globals : List Value
  pub bytes : List ℕ
  pub begins : Begins m function globals bytes
  pub is : first ≡ Running [] function.body [] (state_from function globals bytes host)

-- the same for the input of a call
abbrev pub start_state : Function → List Value → List ℕ → CallInput → State
start_state function globals bytes input = state_from function globals bytes (host_of input)

abbrev pub Starts : Module → CallInput → Machine → Type 0
Starts m input first = StartsFrom m (host_of input) first
