-- The operand stack of validation: known and unknown types, with nothing or anything below them.
use Rattle.std.specs.Prelude.{◌≡◌, Bool, true, false, cond, List, [], ◌∷◌, Option, Some, None}
use Rattle.wasm_ast.specs.declared.types.ValType.{ValType}
use Rattle.wasm_ast.specs.declared.types.ValType.TheVariants.{I32, I64}
use Rattle.validate.specs.declared.operands.OperandType.{OperandType}
use Rattle.validate.specs.declared.operands.OperandType.TheVariants.{Known, Unknown}

pub data Stack : Type 0 where
  bottom : Stack
  any_below : Stack
  on : OperandType → Stack → Stack

abbrev pub same_type : ValType → ValType → Bool
same_type I32 I32 = true
same_type I32 I64 = false
same_type I64 I32 = false
same_type I64 I64 = true

abbrev pub agrees : OperandType → ValType → Bool
agrees Unknown t = true
agrees (Known s) t = same_type s t

-- the operands have the types of the stack
abbrev pub Fits : Stack → List ValType → Type 0
Fits bottom [] = Unit {0}
Fits bottom (t ∷ ts) = ⊥
Fits any_below ts = Unit {0}
Fits (on k rest) [] = ⊥
Fits (on k rest) (t ∷ ts) = (agrees k t ≡ true) × Fits rest ts

-- there is a stack, and the operands have its types
abbrev pub MayFit : Option Stack → List ValType → Type 0
MayFit None ts = ⊥
MayFit (Some s) ts = Fits s ts

abbrev pub and_then : Option Stack → (Stack → Option Stack) → Option Stack
and_then None f = None
and_then (Some s) f = f s

abbrev pub take_one : ValType → Stack → Option Stack
take_one t bottom = None
take_one t any_below = Some any_below
take_one t (on k rest) = cond (agrees k t) (Some rest) None

abbrev pub take_all : List ValType → Stack → Option Stack
take_all [] s = Some s
take_all (t ∷ ts) s = and_then (take_one t s) (take_all ts)

abbrev pub give_all : List ValType → Stack → Stack
give_all [] s = s
give_all (t ∷ ts) s = on (Known t) (give_all ts s)

-- [taken] -> [given]
abbrev pub change : List ValType → List ValType → Stack → Option Stack
change taken given s = and_then (take_all taken s) (λ r. Some (give_all given r))

-- [any.., taken] -> [any..]
abbrev pub leave : List ValType → Stack → Option Stack
leave taken s = and_then (take_all taken s) (λ r. Some any_below)

-- pops the topmost operand, whatever its type
abbrev pub take_any : Stack → (OperandType → Stack → Option Stack) → Option Stack
take_any bottom go = None
take_any any_below go = go Unknown any_below
take_any (on k rest) go = go k rest

-- what is known of the type of two operands that have the same type
abbrev pub join : OperandType → OperandType → Option OperandType
join Unknown k = Some k
join (Known s) Unknown = Some (Known s)
join (Known s) (Known t) = cond (same_type s t) (Some (Known s)) None

abbrev pub push_if : Option OperandType → Stack → Option Stack
push_if None s = None
push_if (Some k) s = Some (on k s)

abbrev pub is_empty : Stack → Bool
is_empty bottom = true
is_empty any_below = true
is_empty (on k rest) = false

-- the stack with these types pushed on a base, the topmost last
abbrev pub push_all : Stack → List OperandType → Stack
push_all base [] = base
push_all base (k ∷ ks) = push_all (on k base) ks
