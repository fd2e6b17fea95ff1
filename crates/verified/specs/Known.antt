-- Code typed with known constants. It is the typing of Core 1.0, 3.3, except that an operand may be a known constant,
-- and some operands have to be. Only a constant instruction gives a known constant. It is known until it is taken.
-- The results of locals, globals, blocks, calls, `select` and arithmetic have only a type. A constant may be
-- forgotten to its type at each instruction.
use Rattle.std.specs.Prelude.{◌≡◌, ℕ, ◌≤◌, ◌<◌, ◌^◌, Bool, true, false, List, [], ◌∷◌, ◌++◌, map, reverse, length, slice_get, Option, Some, None, if◌then◌else◌}
use Rattle.std.specs.List.{AllByRecursion}
use Rattle.wasm_ast.specs.declared.types.ValType.{ValType}
use Rattle.wasm_ast.specs.declared.types.ValType.TheVariants.{I32, I64}
use Rattle.wasm_ast.specs.declared.types.Value.{Value as AnyValue}
use Rattle.wasm_ast.specs.declared.types.Value.TheVariants as value
use Rattle.wasm_ast.specs.declared.types.FuncType.{FuncType}
use Rattle.wasm_ast.specs.declared.types.GlobalType.{GlobalType}
use Rattle.wasm_ast.specs.declared.types.Mutability.TheVariants.{Variable as IsVariable}
use Rattle.wasm_ast.specs.declared.numeric.Division.{Division}
use Rattle.wasm_ast.specs.declared.numeric.Division.TheVariants as division
use Rattle.wasm_ast.specs.declared.numeric.Numeric.{Numeric}
use Rattle.wasm_ast.specs.declared.numeric.Numeric.TheVariants as numeric
use Rattle.wasm_ast.specs.declared.plain.Variable.{Variable}
use Rattle.wasm_ast.specs.declared.plain.Variable.TheVariants as variable
use Rattle.wasm_ast.specs.declared.plain.Memory.{Memory}
use Rattle.wasm_ast.specs.declared.plain.Memory.TheVariants as memory
use Rattle.wasm_ast.specs.declared.plain.Plain.{Plain}
use Rattle.wasm_ast.specs.declared.plain.Plain.TheVariants as plain
use Rattle.wasm_ast.specs.declared.plain.Branch.{Branch}
use Rattle.wasm_ast.specs.declared.plain.Branch.TheVariants as branch
use Rattle.wasm_ast.specs.declared.module.Function.{Function}
use Rattle.wasm_ast.specs.declared.module.Module.{Module}
use Rattle.wasm_ast.specs.Code.{Code}
use Rattle.wasm_ast.specs.Code as code
use Rattle.wasm_ast.specs.NumericTypes.{numeric_takes, numeric_gives}
use Rattle.wasm_ast.specs.Widths.{load_type, load_width, store_type, store_width}
use Rattle.verified.specs.Spaces.{Spaces, function_type, first_type, spaces_of}
use Rattle.verified.specs.declared.imports.HostCall.{HostCall}
use Rattle.verified.specs.declared.imports.HostCall.TheVariants.{Aggregate, Aggregated}
use Rattle.verified.specs.declared.requirements.Premise.{Premise}
use Rattle.verified.specs.declared.requirements.Premise.TheVariants.{Reaches, Divides, DividesSigned, IsSlot}
use Rattle.verified.specs.declared.requirements.Requirement.{Requirement}
use Rattle.verified.specs.declared.requirements.Requirement.TheVariants.{Value, Constant}
use Rattle.verified.specs.Kinds.{Kind, Any, Is, AllForget, AllMeet, requirements, kinds}
use Rattle.verified.specs.Hosts.{host_call_at}
use Rattle.verified.specs.Memory.{memory_bytes}

-- The context in which instructions are typed: the module, the premises that are required, and the locals. Then what
-- a branch to each label takes, the innermost first, and what a return takes.
pub record Context : Type 0 where
  pub «module» : Module
  pub asks : Premise → Bool
  pub locals : List ValType
  pub labels : List (Option ValType)
  pub outcome : Option ValType

abbrev pub with_label : Option ValType → Context → Context
with_label t c = record c { labels = t ∷ c.labels }

abbrev pub spaces : Context → Spaces
spaces c = spaces_of c.«module»

-- a constant that meets the premise, where the premise is required; else any value
abbrev pub known : Context → ValType → Premise → Requirement
known c t p = if c.asks p then Constant t p else Value t

-- [taken] -> [given], the topmost operand first; those below stay, with what is known of them
abbrev pub Changes : Context → List Requirement → List Kind → List Kind → List Kind → Type 0
Changes c taken given from to =
    (below : List Kind) × AllMeet (memory_bytes c.«module») taken from below × (to ≡ given ++ below)

-- [any.., taken] -> [any..]
abbrev pub Leaves : Context → List Requirement → List Kind → Type 0
Leaves c taken from = (below : List Kind) × AllMeet (memory_bytes c.«module») taken from below

-- ---- constants and numbers (3.3.1)

abbrev pub constant_kind : AnyValue → Kind
constant_kind (value.I32 n) = Is I32 n
constant_kind (value.I64 n) = Is I64 n

-- the condition on a divisor with which no operand traps
abbrev pub division_premise : Division → Premise
division_premise division.DivS = DividesSigned
division_premise division.DivU = Divides
division_premise division.RemS = Divides
division_premise division.RemU = Divides

abbrev pub numeric_requirements : Context → Numeric → List Requirement
numeric_requirements c (numeric.Division t op) = known c t (division_premise op) ∷ Value t ∷ []
numeric_requirements c op = map Value (numeric_takes op)

-- ---- variables (3.3.3)

abbrev pub VariableKnown : Context → Variable → List Kind → List Kind → Type 0
VariableKnown c (variable.LocalGet x) from to =
    (t : ValType) × (slice_get c.locals x ≡ Some t) × Changes c [] (Any t ∷ []) from to
VariableKnown c (variable.LocalSet x) from to =
    (t : ValType) × (slice_get c.locals x ≡ Some t) × Changes c (Value t ∷ []) [] from to
VariableKnown c (variable.LocalTee x) from to =
    (t : ValType) × (slice_get c.locals x ≡ Some t) × Changes c (Value t ∷ []) (Any t ∷ []) from to
VariableKnown c (variable.GlobalGet x) from to =
    (g : GlobalType) × (slice_get (spaces c).globals x ≡ Some g) × Changes c [] (Any g.value ∷ []) from to
VariableKnown c (variable.GlobalSet x) from to =
    (g : GlobalType) × (slice_get (spaces c).globals x ≡ Some g) × ((g.mutability ≡ IsVariable) × Changes c (Value g.value ∷ []) [] from to)

-- ---- memory (3.3.4)

abbrev pub HasMemory : Context → Type 0
HasMemory c = 0 < length (spaces c).memories

abbrev pub MemoryKnown : Context → Memory → List Kind → List Kind → Type 0
MemoryKnown c (memory.Load op a) from to =
    HasMemory c × ((2 ^ a.align ≤ load_width op) × Changes c (known c I32 (Reaches a.offset (load_width op)) ∷ []) (Any (load_type op) ∷ []) from to)
MemoryKnown c (memory.Store op a) from to =
    HasMemory c × ((2 ^ a.align ≤ store_width op) × Changes c (Value (store_type op) ∷ known c I32 (Reaches a.offset (store_width op)) ∷ []) [] from to)
MemoryKnown c memory.Size from to = HasMemory c × Changes c [] (Any I32 ∷ []) from to
MemoryKnown c memory.Grow from to = HasMemory c × Changes c (Value I32 ∷ []) (Any I32 ∷ []) from to

abbrev pub PlainKnown : Context → Plain → List Kind → List Kind → Type 0
PlainKnown c plain.Nop from to = Changes c [] [] from to
PlainKnown c plain.Drop from to = (t : ValType) × Changes c (Value t ∷ []) [] from to
PlainKnown c plain.Select from to = (t : ValType) × Changes c (Value I32 ∷ Value t ∷ Value t ∷ []) (Any t ∷ []) from to
PlainKnown c (plain.Const v) from to = Changes c [] (constant_kind v ∷ []) from to
PlainKnown c (plain.Numeric op) from to = Changes c (numeric_requirements c op) (Any (numeric_gives op) ∷ []) from to
PlainKnown c (plain.Variable op) from to = VariableKnown c op from to
PlainKnown c (plain.Memory op) from to = MemoryKnown c op from to

-- ---- control (3.3.5)

abbrev pub LabelTakes : Context → Option ValType → ℕ → Type 0
LabelTakes c t l = slice_get c.labels l ≡ Some t

abbrev pub BranchKnown : Context → Branch → List Kind → List Kind → Type 0
BranchKnown c (branch.Br l) from to = (t : Option ValType) × LabelTakes c t l × Leaves c (requirements t) from
BranchKnown c (branch.BrIf l) from to =
    (t : Option ValType) × LabelTakes c t l × Changes c (Value I32 ∷ requirements t) (kinds t) from to
BranchKnown c (branch.BrTable ls l) from to =
    (t : Option ValType) × LabelTakes c t l × (AllByRecursion (LabelTakes c t) ls × Leaves c (Value I32 ∷ requirements t) from)
BranchKnown c branch.Return from to = Leaves c (requirements c.outcome) from

-- whether the first parameter of the call is the number of an aggregator
abbrev pub takes_slot : Option HostCall → Bool
takes_slot (Some Aggregate) = true
takes_slot (Some Aggregated) = true
takes_slot _ = false

-- what a call with these parameters takes, the topmost operand first; the number of an aggregator, which comes first,
-- has to be known
abbrev pub parameter_requirements : Context → Bool → List ValType → List Requirement
parameter_requirements c false parameters = map Value (reverse parameters)
parameter_requirements c true [] = []
parameter_requirements c true (slot ∷ others) = map Value (reverse others) ++ known c slot IsSlot ∷ []

abbrev pub call_requirements : Context → Option HostCall → List ValType → List Requirement
call_requirements c call parameters = parameter_requirements c (takes_slot call) parameters

abbrev pub CallKnown : Context → ℕ → List Kind → List Kind → Type 0
CallKnown c f from to =
    (t : FuncType) × (function_type (spaces c) f ≡ Some t) × Changes c (call_requirements c (host_call_at c.«module» f) t.parameters) (kinds (first_type t.results)) from to

abbrev pub CallIndirectKnown : Context → ℕ → List Kind → List Kind → Type 0
CallIndirectKnown c n from to =
    (t : FuncType) × (slice_get c.«module».types n ≡ Some t) × ((0 < length (spaces c).tables) × Changes c (Value I32 ∷ map Value (reverse t.parameters)) (kinds (first_type t.results)) from to)

-- a rule, and then constants that may be forgotten
abbrev pub Forgetting : (List Kind → List Kind → Type 0) → List Kind → List Kind → Type 0
Forgetting rule from to = (given : List Kind) × rule from given × AllForget given to

-- the code takes the operands `from` to the operands `to` (3.3.6)
abbrev pub Known : Code → Context → List Kind → List Kind → Type 0
Known code.end c from to = from ≡ to
Known (code.plain p rest) c from to = (mid : List Kind) × Forgetting (PlainKnown c p) from mid × Known rest c mid to
Known (code.branch b rest) c from to = (mid : List Kind) × Forgetting (BranchKnown c b) from mid × Known rest c mid to
Known (code.call f rest) c from to = (mid : List Kind) × Forgetting (CallKnown c f) from mid × Known rest c mid to
Known (code.call_indirect n rest) c from to =
    (mid : List Kind) × Forgetting (CallIndirectKnown c n) from mid × Known rest c mid to
Known (code.unreachable rest) c from to = (mid : List Kind) × Known rest c mid to
Known (code.block t body rest) c from to =
    (mid : List Kind) × Known body (with_label t c) [] (kinds t) × Forgetting (Changes c [] (kinds t)) from mid × Known rest c mid to
Known (code.loop t body rest) c from to =
    (mid : List Kind) × Known body (with_label None c) [] (kinds t) × Forgetting (Changes c [] (kinds t)) from mid × Known rest c mid to
Known (code.choice t body other rest) c from to =
    (mid : List Kind) × Known body (with_label t c) [] (kinds t) × Known other (with_label t c) [] (kinds t) × Forgetting (Changes c (Value I32 ∷ []) (kinds t)) from mid × Known rest c mid to

-- the body of a function gives its result (3.4.1), with the required constants
abbrev pub FunctionKnown : (Premise → Bool) → Module → Function → Type 0
FunctionKnown asks m f =
    (t : FuncType) × (slice_get m.types f.type_number ≡ Some t) × Known f.body (record { «module» = m; asks = asks; locals = t.parameters ++ f.locals; labels = first_type t.results ∷ []; outcome = first_type t.results }) [] (kinds (first_type t.results))

-- each function is typed with the required constants
abbrev pub ConstantsKnown : (Premise → Bool) → Module → Type 0
ConstantsKnown asks m = AllByRecursion (FunctionKnown asks m) m.functions
