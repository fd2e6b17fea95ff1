-- Reading the tokens of a printed text from left to right: the item at their front, and the tokens after it. None claims
-- nothing: the format allows more than these functions read.
use Rattle.std.specs.Prelude.{ℕ, zero, suc, ◌^◌, Bool, true, false, nat_lt, List, [], ◌∷◌, ◌++◌, Option, Some, None, if◌then◌else◌}
use Rattle.std.specs.Str.{is_utf8}
use Rattle.wasm_ast.specs.declared.types.ValType.{ValType}
use Rattle.wasm_ast.specs.declared.types.FuncType.{FuncType}
use Rattle.wasm_ast.specs.declared.types.Limits.{Limits}
use Rattle.wasm_ast.specs.declared.types.Mutability.TheVariants as mutability
use Rattle.wasm_ast.specs.declared.types.GlobalType.{GlobalType}
use Rattle.wat_syntax.specs.declared.keyword.Keyword.{Keyword}
use Rattle.wat_syntax.specs.declared.keyword.Keyword.TheVariants as keyword
use Rattle.wat_syntax.specs.declared.parser.types.Group.{Group}
use Rattle.wat_syntax.specs.declared.parser.types.Group.TheVariants as group
use Rattle.wat_syntax.specs.inside.Follows.{◌>>=◌}
use Rattle.wat_syntax.specs.inside.Tokens.{Tok, opens, closes, key, number, text, other}

-- the tokens that remain, and the types so far
abbrev pub State : Type 0
State = List Tok × List FuncType

-- a reader of items of a type
abbrev pub Reads : Type 0 → Type 0
Reads A = State → Option (A × State)

-- ---- repetition

-- Steps, at most this many, as long as another item starts. Where it is not known whether one does, nothing is read.
unfoldable pub repeated : {A : Type 0} → (List Tok → Option Bool) → (A × State → Option (A × State)) → ℕ → A × State → Option (A × State)
repeated goes step zero x = None
repeated goes step (suc n) x = goes x.1.0 >>= λ on. if on then (step x >>= λ y. repeated goes step n y) else Some x

-- one more item
abbrev pub item_step : {A : Type 0} → Reads A → List A × State → Option (List A × State)
item_step item x = item x.1 >>= λ y. Some (x.0 ++ y.0 ∷ [], y.1)

-- ---- single tokens

unfoldable pub closed_at : State → Option State
closed_at (closes ∷ ts, types) = Some (ts, types)
closed_at _ = None

-- the closing parenthesis, after which this is whole
abbrev pub closed_as : {A : Type 0} → A → Reads A
closed_as whole s = closed_at s >>= λ e. Some (whole, e)

-- the keyword after the first parenthesis
abbrev pub opening : List Tok → Option Keyword
opening (opens ∷ key k ∷ ts) = Some k
opening _ = None

-- what follows the first parenthesis and its keyword
abbrev pub inside : State → State
inside (t ∷ u ∷ ts, types) = (ts, types)
inside s = s

unfoldable pub opened_at : Reads Keyword
opened_at (opens ∷ key k ∷ ts, types) = Some (k, (ts, types))
opened_at _ = None

abbrev pub is_type : Option Keyword → Bool
is_type (Some keyword.FuncType) = true
is_type _ = false

-- whether a type or a type use comes first
abbrev pub type_first : List Tok → Bool
type_first ts = is_type (opening ts)

unfoldable pub funcref_at : State → Option State
funcref_at (key keyword.Funcref ∷ ts, types) = Some (ts, types)
funcref_at _ = None

-- no name comes first
unfoldable pub unnamed_at : State → Option State
unnamed_at (other ∷ ts, types) = None
unnamed_at s = Some s

unfoldable pub number_at : Reads ℕ
number_at (number n ∷ ts, types) = if nat_lt n (2 ^ 32) then Some (n, (ts, types)) else None
number_at _ = None

-- whether a number comes first
unfoldable pub number_first : List Tok → Option Bool
number_first (number n ∷ ts) = Some true
number_first (other ∷ ts) = None
number_first _ = Some false

unfoldable pub text_at : Reads (List ℕ)
text_at (text bytes ∷ ts, types) = Some (bytes, (ts, types))
text_at _ = None

-- a string in UTF-8
unfoldable pub name_at : Reads (List ℕ)
name_at s = text_at s >>= λ x. if is_utf8 x.0 then Some x else None

abbrev pub open_first : List Tok → Bool
open_first (opens ∷ ts) = true
open_first _ = false

-- ---- types

unfoldable pub val_type_at : Reads ValType
val_type_at (key (keyword.Type t) ∷ ts, types) = Some (t, (ts, types))
val_type_at _ = None

unfoldable pub val_type_first : List Tok → Option Bool
val_type_first (key (keyword.Type t) ∷ ts) = Some true
val_type_first _ = Some false

-- value types, added to these
unfoldable pub val_types_at : ℕ → List ValType × State → Option (List ValType × State)
val_types_at n x = repeated val_type_first (item_step val_type_at) n x

unfoldable pub maximum_at : Reads (Option ℕ)
maximum_at (number n ∷ ts, types) = number_at (number n ∷ ts, types) >>= λ x. Some (Some x.0, x.1)
maximum_at (other ∷ ts, types) = None
maximum_at s = Some (None, s)

unfoldable pub limits_at : Reads Limits
limits_at s = number_at s >>= λ a. maximum_at a.1 >>= λ b. Some (record { minimum = a.0; maximum = b.0 }, b.1)

abbrev pub is_mut : Option Keyword → Bool
is_mut (Some keyword.Mut) = true
is_mut _ = false

abbrev pub mut_first : List Tok → Bool
mut_first ts = is_mut (opening ts)

-- the inside of (mut ..)
unfoldable pub mut_type_at : Reads GlobalType
mut_type_at s =
    val_type_at (inside s) >>= λ t. closed_at t.1 >>= λ e. Some (record { mutability = mutability.Variable; value = t.0 }, e)

unfoldable pub global_type_at : Reads GlobalType
global_type_at s =
    if mut_first s.0 then mut_type_at s
    else (val_type_at s >>= λ t. Some (record { mutability = mutability.Constant; value = t.0 }, t.1))

-- value types and the parenthesis that closes their group
unfoldable pub group_at : ℕ → List ValType × State → Option (List ValType × State)
group_at n x = val_types_at n x >>= λ y. closed_at y.1 >>= λ s. Some (y.0, s)

abbrev pub is_param : Option Keyword → Bool
is_param (Some keyword.Param) = true
is_param _ = false

abbrev pub is_result : Option Keyword → Bool
is_result (Some keyword.Result) = true
is_result _ = false

abbrev pub is_local : Option Keyword → Bool
is_local (Some keyword.Local) = true
is_local _ = false

abbrev pub param_first : List Tok → Option Bool
param_first ts = Some (is_param (opening ts))

abbrev pub result_first : List Tok → Option Bool
result_first ts = Some (is_result (opening ts))

abbrev pub local_first : List Tok → Option Bool
local_first ts = Some (is_local (opening ts))

-- whether a group of this kind comes first
abbrev pub group_first : Group → List Tok → Option Bool
group_first (group.Parameters names) = param_first
group_first group.Results = result_first

unfoldable pub block_type_at : Reads (Option ValType)
block_type_at s =
    result_first s.0 >>= λ given. if given then (val_type_at (inside s) >>= λ t. closed_at t.1 >>= λ e. Some (Some t.0, e)) else Some (None, s)

-- no name comes before a group's types
unfoldable pub nameless_at : List ValType × State → Option (List ValType × State)
nameless_at x = unnamed_at x.1 >>= λ s. Some (x.0, s)

-- a group, from its parenthesis on
unfoldable pub group_step : ℕ → List ValType × State → Option (List ValType × State)
group_step n x = nameless_at (x.0, inside x.1) >>= λ y. group_at n y

-- groups of a kind, one after another
unfoldable pub groups_at : (List Tok → Option Bool) → ℕ → List ValType × State → Option (List ValType × State)
groups_at first n x = repeated first (group_step n) n x

unfoldable pub signature_at : ℕ → Reads FuncType
signature_at n s =
    groups_at param_first n ([], s) >>= λ p. groups_at result_first n ([], p.1) >>= λ r. Some (record { parameters = p.0; results = r.0 }, r.1)

abbrev pub begins_signature : Option Keyword → Bool
begins_signature (Some keyword.Param) = true
begins_signature (Some keyword.Result) = true
begins_signature _ = false

-- whether parameters or results come first
abbrev pub signature_first : List Tok → Bool
signature_first ts = begins_signature (opening ts)

unfoldable pub func_at : State → Option State
func_at (opens ∷ key keyword.Func ∷ ts, types) = Some (ts, types)
func_at _ = None

-- a type that the module defines, after its keyword and without the last parenthesis
unfoldable pub defined_type_at : ℕ → Reads FuncType
defined_type_at n s =
    unnamed_at s >>= λ a. func_at a >>= λ b. signature_at n b >>= λ t. closed_at t.1 >>= λ c. Some (t.0, c)

-- (type n) with no parameters or results after it
unfoldable pub named_use_at : Reads ℕ
named_use_at s =
    number_at (inside s) >>= λ n. closed_at n.1 >>= λ e. if signature_first e.0 then None else Some (n.0, e)

unfoldable pub type_use_at : Reads ℕ
type_use_at s = if type_first s.0 then named_use_at s else None
