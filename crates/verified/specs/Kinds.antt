-- What is known of operands, and what instructions require of them.
use Rattle.std.specs.Prelude.{◌≡◌, ◌≢◌, ℕ, ◌+◌, ◌<◌, ◌≤◌, List, [], ◌∷◌, Option, Some, None}
use Rattle.wasm_ast.specs.declared.types.ValType.{ValType}
use Rattle.wasm_ast.specs.declared.types.ValType.TheVariants.{I32, I64}
use Rattle.verified.specs.declared.call.TheConstants.{AGGREGATORS}
use Rattle.verified.specs.declared.requirements.Premise.{Premise}
use Rattle.verified.specs.declared.requirements.Premise.TheVariants.{Reaches, Divides, DividesSigned, IsSlot}
use Rattle.verified.specs.declared.requirements.Requirement.{Requirement}
use Rattle.verified.specs.declared.requirements.Requirement.TheVariants.{Value, Constant}

-- an operand: some value of a type, or a known constant of it
pub data Kind : Type 0 where
  Any : ValType → Kind
  Is : ValType → ℕ → Kind

-- the first may be forgotten to the second
abbrev pub Forgets : Kind → Kind → Type 0
Forgets (Any s) (Any t) = s ≡ t
Forgets (Any s) (Is t n) = ⊥
Forgets (Is s m) (Any t) = s ≡ t
Forgets (Is s m) (Is t n) = (s ≡ t) × (m ≡ n)

abbrev pub AllForget : List Kind → List Kind → Type 0
AllForget [] [] = Unit {0}
AllForget [] (j ∷ js) = ⊥
AllForget (k ∷ ks) [] = ⊥
AllForget (k ∷ ks) (j ∷ js) = Forgets k j × AllForget ks js

-- -1 of a type, read unsigned
abbrev pub minus_one : ValType → ℕ
minus_one I32 = 4294967295
minus_one I64 = 18446744073709551615

-- the constant meets the premise in a memory of this many bytes; nothing wraps
abbrev pub Met : ℕ → ValType → Premise → ℕ → Type 0
Met bytes t (Reaches offset width) address = address + offset + width ≤ bytes
Met bytes t Divides n = n ≢ 0
Met bytes t DividesSigned n = (n ≢ 0) × (n ≢ minus_one t)
Met bytes t IsSlot n = n < AGGREGATORS

-- The operand meets the requirement. A known constant is not a value of which only the type is known, until it is
-- forgotten to one.
abbrev pub Meets : ℕ → Requirement → Kind → Type 0
Meets bytes (Value t) (Any s) = s ≡ t
Meets bytes (Value t) (Is s n) = ⊥
Meets bytes (Constant t p) (Any s) = ⊥
Meets bytes (Constant t p) (Is s n) = (s ≡ t) × Met bytes t p n

-- the topmost operands meet the requirements, and `below` is the rest
abbrev pub AllMeet : ℕ → List Requirement → List Kind → List Kind → Type 0
AllMeet bytes [] from below = from ≡ below
AllMeet bytes (w ∷ ws) [] below = ⊥
AllMeet bytes (w ∷ ws) (k ∷ ks) below = Meets bytes w k × AllMeet bytes ws ks below

-- no requirement, or one operand of which only the type matters
abbrev pub requirements : Option ValType → List Requirement
requirements None = []
requirements (Some t) = Value t ∷ []

abbrev pub kinds : Option ValType → List Kind
kinds None = []
kinds (Some t) = Any t ∷ []
