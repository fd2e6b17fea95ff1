-- The typing of code (Core 1.0, 3.3), with one rule for each instruction. Operands are lists, the topmost first.
use Rattle.std.specs.Prelude.{◌≡◌, ℕ, List, [], ◌∷◌, ◌++◌, ◌≤◌, ◌<◌, ◌^◌, length, reverse, Option, Some, None, slice_get}
use Rattle.wasm_ast.specs.declared.types.ValType.{ValType}
use Rattle.wasm_ast.specs.declared.types.ValType.TheVariants.{I32}
use Rattle.wasm_ast.specs.declared.types.FuncType.{FuncType}
use Rattle.wasm_ast.specs.declared.types.GlobalType.{GlobalType}
use Rattle.wasm_ast.specs.declared.types.Mutability.TheVariants.{Variable as IsVariable}
use Rattle.wasm_ast.specs.declared.plain.Variable.{Variable}
use Rattle.wasm_ast.specs.declared.plain.Variable.TheVariants as variable
use Rattle.wasm_ast.specs.declared.plain.Memory.{Memory}
use Rattle.wasm_ast.specs.declared.plain.Memory.TheVariants as memory
use Rattle.wasm_ast.specs.declared.plain.Plain.{Plain}
use Rattle.wasm_ast.specs.declared.plain.Plain.TheVariants as plain
use Rattle.wasm_ast.specs.declared.plain.Branch.{Branch}
use Rattle.wasm_ast.specs.declared.plain.Branch.TheVariants as branch
use Rattle.wasm_ast.specs.Code.{Code}
use Rattle.wasm_ast.specs.Code as code
use Rattle.wasm_ast.specs.NumericTypes.{numeric_takes, numeric_gives}
use Rattle.wasm_ast.specs.Values.{type_of}
use Rattle.verified.specs.Spaces.{Spaces, function_type, first_type}
use Rattle.wasm_ast.specs.Widths.{load_type, load_width, store_type, store_width}

-- The context of an instruction (3.1.1): the index spaces, the types of the locals, and the types that branches and
-- returns take. The type of the innermost label comes first.
pub record Context : Type 0 where
  pub spaces : Spaces
  pub locals : List ValType
  pub labels : List (Option ValType)
  pub outcome : Option ValType

abbrev pub with_label : Option ValType → Context → Context
with_label t c = record c { labels = t ∷ c.labels }

-- nothing, or one operand
abbrev pub operands_of : Option ValType → List ValType
operands_of None = []
operands_of (Some t) = t ∷ []

-- [taken] -> [given]; the operands below are unchanged
abbrev pub Changes : List ValType → List ValType → List ValType → List ValType → Type 0
Changes taken given from to = (below : List ValType) × (from ≡ taken ++ below) × (to ≡ given ++ below)

-- [any.., taken] -> [any..]: the code after it is unreachable, and any operands may be there
abbrev pub Leaves : List ValType → List ValType → Type 0
Leaves taken from = (below : List ValType) × (from ≡ taken ++ below)

-- ---- variables (3.3.3)

abbrev pub VariableTyped : Context → Variable → List ValType → List ValType → Type 0
VariableTyped c (variable.LocalGet x) from to =
    (t : ValType) × (slice_get c.locals x ≡ Some t) × Changes [] (t ∷ []) from to
VariableTyped c (variable.LocalSet x) from to =
    (t : ValType) × (slice_get c.locals x ≡ Some t) × Changes (t ∷ []) [] from to
VariableTyped c (variable.LocalTee x) from to =
    (t : ValType) × (slice_get c.locals x ≡ Some t) × Changes (t ∷ []) (t ∷ []) from to
VariableTyped c (variable.GlobalGet x) from to =
    (g : GlobalType) × (slice_get c.spaces.globals x ≡ Some g) × Changes [] (g.value ∷ []) from to
VariableTyped c (variable.GlobalSet x) from to =
    (g : GlobalType) × (slice_get c.spaces.globals x ≡ Some g) × ((g.mutability ≡ IsVariable) × Changes (g.value ∷ []) [] from to)

-- ---- memory (3.3.4)

-- there is a memory
abbrev pub HasMemory : Context → Type 0
HasMemory c = 0 < length c.spaces.memories

abbrev pub MemoryTyped : Context → Memory → List ValType → List ValType → Type 0
MemoryTyped c (memory.Load op a) from to =
    HasMemory c × ((2 ^ a.align ≤ load_width op) × Changes (I32 ∷ []) (load_type op ∷ []) from to)
MemoryTyped c (memory.Store op a) from to =
    HasMemory c × ((2 ^ a.align ≤ store_width op) × Changes (store_type op ∷ I32 ∷ []) [] from to)
MemoryTyped c memory.Size from to = HasMemory c × Changes [] (I32 ∷ []) from to
MemoryTyped c memory.Grow from to = HasMemory c × Changes (I32 ∷ []) (I32 ∷ []) from to

-- ---- other instructions without control (3.3.1, 3.3.2 and nop of 3.3.5)

abbrev pub PlainTyped : Context → Plain → List ValType → List ValType → Type 0
PlainTyped c plain.Nop from to = Changes [] [] from to
PlainTyped c plain.Drop from to = (t : ValType) × Changes (t ∷ []) [] from to
PlainTyped c plain.Select from to = (t : ValType) × Changes (I32 ∷ t ∷ t ∷ []) (t ∷ []) from to
PlainTyped c (plain.Const v) from to = Changes [] (type_of v ∷ []) from to
PlainTyped c (plain.Numeric op) from to = Changes (numeric_takes op) (numeric_gives op ∷ []) from to
PlainTyped c (plain.Variable op) from to = VariableTyped c op from to
PlainTyped c (plain.Memory op) from to = MemoryTyped c op from to

-- ---- control (3.3.5)

-- a branch to label l takes t
abbrev pub LabelTakes : Context → Option ValType → ℕ → Type 0
LabelTakes c t l = slice_get c.labels l ≡ Some t

-- a branch to each of them takes t
abbrev pub LabelsTake : Context → Option ValType → List ℕ → Type 0
LabelsTake c t [] = Unit {0}
LabelsTake c t (l ∷ ls) = LabelTakes c t l × LabelsTake c t ls

abbrev pub BranchTyped : Context → Branch → List ValType → List ValType → Type 0
BranchTyped c (branch.Br l) from to =
    (t : Option ValType) × LabelTakes c t l × Leaves (operands_of t) from
BranchTyped c (branch.BrIf l) from to =
    (t : Option ValType) × LabelTakes c t l × Changes (I32 ∷ operands_of t) (operands_of t) from to
BranchTyped c (branch.BrTable ls l) from to =
    (t : Option ValType) × LabelTakes c t l × (LabelsTake c t ls × Leaves (I32 ∷ operands_of t) from)
BranchTyped c branch.Return from to = Leaves (operands_of c.outcome) from

abbrev pub CallTyped : Context → ℕ → List ValType → List ValType → Type 0
CallTyped c f from to =
    (t : FuncType) × (function_type c.spaces f ≡ Some t) × Changes (reverse t.parameters) (operands_of (first_type t.results)) from to

-- the topmost operand is the function's index in the table
abbrev pub CallIndirectTyped : Context → ℕ → List ValType → List ValType → Type 0
CallIndirectTyped c n from to =
    (t : FuncType) × (slice_get c.spaces.types n ≡ Some t) × ((0 < length c.spaces.tables) × Changes (I32 ∷ reverse t.parameters) (operands_of (first_type t.results)) from to)

-- the code takes the operands from `from` to `to` (3.3.6)
abbrev pub Typed : Code → Context → List ValType → List ValType → Type 0
Typed code.end c from to = from ≡ to
Typed (code.plain p rest) c from to = (mid : List ValType) × PlainTyped c p from mid × Typed rest c mid to
Typed (code.branch b rest) c from to = (mid : List ValType) × BranchTyped c b from mid × Typed rest c mid to
Typed (code.call f rest) c from to = (mid : List ValType) × CallTyped c f from mid × Typed rest c mid to
Typed (code.call_indirect n rest) c from to = (mid : List ValType) × CallIndirectTyped c n from mid × Typed rest c mid to
Typed (code.unreachable rest) c from to = (mid : List ValType) × Leaves [] from × Typed rest c mid to
Typed (code.block t body rest) c from to =
    (mid : List ValType) × Typed body (with_label t c) [] (operands_of t) × Changes [] (operands_of t) from mid × Typed rest c mid to
Typed (code.loop t body rest) c from to =
    (mid : List ValType) × Typed body (with_label None c) [] (operands_of t) × Changes [] (operands_of t) from mid × Typed rest c mid to
Typed (code.choice t body other rest) c from to =
    (mid : List ValType) × Typed body (with_label t c) [] (operands_of t) × Typed other (with_label t c) [] (operands_of t) × Changes (I32 ∷ []) (operands_of t) from mid × Typed rest c mid to

-- the body of a function with these locals, its parameters among them, and this result (3.4.1): its outermost label
-- takes the result, and so does a return
abbrev pub BodyTyped : Spaces → List ValType → Option ValType → Code → Type 0
BodyTyped s locals outcome body =
    Typed body (record { spaces = s; locals = locals; labels = outcome ∷ []; outcome = outcome }) [] (operands_of outcome)
