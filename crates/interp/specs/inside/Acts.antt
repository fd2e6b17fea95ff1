-- What an instruction did to the operands, the topmost first, and to the parts of the state, in terms of the machine.
use Rattle.std.specs.Prelude.{◌≡◌, ℕ, List}
use Rattle.wasm_ast.specs.declared.types.Value.{Value}
use Rattle.verified.specs.Host.{Host}
use Rattle.semantics.specs.Configuration.{State, Effect, Gives}

abbrev pub state : List Value → List Value → List ℕ → Host → ℕ → State
state locals globals bytes host count =
    record { locals = locals; globals = globals; memory = bytes; host = host; count = count }

-- the state stays as it is
abbrev pub ActsAlone : (List Value → State → Effect) → (old new : List Value) → Type 0
ActsAlone e old new = (st : State) → e old st ≡ Gives new st

-- it changes the locals and the globals; the rest of the state stays
abbrev pub ActsOnVariables : (List Value → State → Effect) → (old new locals locals_after globals globals_after : List Value) → Type 0
ActsOnVariables e old new locals locals_after globals globals_after =
    (bytes : List ℕ) (host : Host) (count : ℕ)
    → e old (state locals globals bytes host count) ≡ Gives new (state locals_after globals_after bytes host count)

abbrev pub ActsOnBytes : (List Value → State → Effect) → (old new : List Value) → (bytes bytes_after : List ℕ) → Type 0
ActsOnBytes e old new bytes bytes_after =
    (locals globals : List Value) (host : Host) (count : ℕ)
    → e old (state locals globals bytes host count) ≡ Gives new (state locals globals bytes_after host count)

-- it changes all except the host
abbrev pub ActsOn : (List Value → State → Effect) → (old new locals locals_after globals globals_after : List Value) → (bytes bytes_after : List ℕ) → Type 0
ActsOn e old new locals locals_after globals globals_after bytes bytes_after =
    (host : Host) (count : ℕ)
    → e old (state locals globals bytes host count) ≡ Gives new (state locals_after globals_after bytes_after host count)

-- it changes the host
abbrev pub ActsOnHost : (List Value → State → Effect) → (old new : List Value) → (host host_after : Host) → Type 0
ActsOnHost e old new host host_after =
    (locals globals : List Value) (bytes : List ℕ) (count : ℕ)
    → e old (state locals globals bytes host count) ≡ Gives new (state locals globals bytes host_after count)
