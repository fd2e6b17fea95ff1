-- Values and states that fit the types of code.
use Rattle.std.specs.Prelude.{◌≡◌, ℕ, ◌+◌, List, [], ◌∷◌, length, map, Option, Some, None}
use Rattle.wasm_ast.specs.declared.types.ValType.{ValType}
use Rattle.wasm_ast.specs.declared.types.GlobalType.{GlobalType}
use Rattle.wasm_ast.specs.declared.types.Value.{Value}
use Rattle.wasm_ast.specs.declared.module.Module.{Module}
use Rattle.wasm_ast.specs.Values.{type_of}
use Rattle.verified.specs.Host.{Host}
use Rattle.verified.specs.Spaces.{spaces_of}
use Rattle.verified.specs.Kinds.{Kind, Any, Is}
use Rattle.verified.specs.Memory.{memory_bytes}
use Rattle.semantics.specs.Configuration.{State}
use Rattle.semantics.specs.Effects.{value}

-- a value of the type, or the known constant
abbrev pub HasKind : Value → Kind → Type 0
HasKind v (Any t) = type_of v ≡ t
HasKind v (Is t n) = v ≡ value t n

abbrev pub HasKinds : List Value → List Kind → Type 0
HasKinds [] [] = Unit {0}
HasKinds [] (k ∷ ks) = ⊥
HasKinds (v ∷ vs) [] = ⊥
HasKinds (v ∷ vs) (k ∷ ks) = HasKind v k × HasKinds vs ks

abbrev pub HasTypes : List Value → List ValType → Type 0
HasTypes [] [] = Unit {0}
HasTypes [] (t ∷ ts) = ⊥
HasTypes (v ∷ vs) [] = ⊥
HasTypes (v ∷ vs) (t ∷ ts) = (type_of v ≡ t) × HasTypes vs ts

-- the operand is there and has the type, if there is one
abbrev pub IsTop : Option ValType → Option Value → Type 0
IsTop None top = Unit {0}
IsTop (Some t) None = ⊥
IsTop (Some t) (Some v) = type_of v ≡ t

abbrev pub global_types : Module → List ValType
global_types m = map (λ (g : GlobalType). g.value) (spaces_of m).globals

-- locals and globals have their types, and the memory is as long as at the beginning
pub record Sound (m : Module) (locals : List ValType) (st : State) : Type 0 where
  pub locals_typed : HasTypes st.locals locals
  pub globals_typed : HasTypes st.globals (global_types m)
  pub bytes_there : length st.memory ≡ memory_bytes m

-- the number of messages and edges that were not taken yet
abbrev pub items_left : Host → ℕ
items_left h = length h.messages + length h.edges
