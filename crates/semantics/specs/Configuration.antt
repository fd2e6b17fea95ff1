-- The state that instructions change besides the operands (Core 1.0, 4.2), and the effect of one of them.
use Rattle.std.specs.Prelude.{ℕ, ◌+◌, List}
use Rattle.wasm_ast.specs.declared.types.Value.{Value}
use Rattle.verified.specs.Host.{Host}

-- the locals of the running function, the globals, the bytes of the memory, the host, and the units so far
pub record State : Type 0 where
  pub locals : List Value
  pub globals : List Value
  pub memory : List ℕ
  pub host : Host
  pub count : ℕ

abbrev pub with_locals : State → List Value → State
with_locals st locals = record st { locals = locals }

abbrev pub with_globals : State → List Value → State
with_globals st globals = record st { globals = globals }

abbrev pub with_memory : State → List ℕ → State
with_memory st «memory» = record st { memory = «memory» }

abbrev pub with_host : State → Host → State
with_host st host = record st { host = host }

-- this many units more
abbrev pub tick : ℕ → State → State
tick units st = record st { count = st.count + units }

-- the effect of an instruction on the operands, the topmost first, and the state
pub data Effect : Type 0 where
  Gives : (values : List Value) (state : State) → Effect
  Traps : Effect
  -- an operand is missing or of the wrong type, or a number names nothing
  Misses : Effect
