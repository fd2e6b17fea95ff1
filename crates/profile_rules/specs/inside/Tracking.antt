-- The pass for known constants, one function for each rule of `Known`. It does not look at the types of operands: the
-- module is typed, so they are right.
use Rattle.std.specs.Prelude.{◌≡◌, ℕ, ◌+◌, ◌==◌, Bool, true, false, cond, ◌&&◌, not, leb, ltb, List, [], ◌∷◌, ◌++◌, map, reverse, slice_get, Option, Some, None, Result, MatchResult, if◌then◌else◌}
use Rattle.std.specs.Option.{option_and_then, option_map}
use Rattle.std.specs.List.{AllByRecursion, filter_map}
use Rattle.wasm_ast.specs.declared.types.ValType.{ValType}
use Rattle.wasm_ast.specs.declared.types.ValType.TheVariants.{I32}
use Rattle.wasm_ast.specs.declared.types.FuncType.{FuncType}
use Rattle.wasm_ast.specs.declared.numeric.Numeric.{Numeric}
use Rattle.wasm_ast.specs.declared.numeric.Numeric.TheVariants as numeric
use Rattle.wasm_ast.specs.declared.plain.Variable.{Variable}
use Rattle.wasm_ast.specs.declared.plain.Variable.TheVariants as variable
use Rattle.wasm_ast.specs.declared.plain.Memory.{Memory}
use Rattle.wasm_ast.specs.declared.plain.Memory.TheVariants as memory
use Rattle.wasm_ast.specs.declared.plain.Plain.{Plain}
use Rattle.wasm_ast.specs.declared.plain.Plain.TheVariants as plain
use Rattle.wasm_ast.specs.declared.plain.Branch.{Branch}
use Rattle.wasm_ast.specs.declared.plain.Branch.TheVariants as branch
use Rattle.wasm_ast.specs.declared.module.Import.{Import}
use Rattle.wasm_ast.specs.declared.module.Function.{Function}
use Rattle.wasm_ast.specs.declared.module.Module.{Module}
use Rattle.wasm_ast.specs.declared.body.Instr.{Instr}
use Rattle.wasm_ast.specs.Code.{Code}
use Rattle.wasm_ast.specs.Code as code
use Rattle.wasm_ast.specs.View.{then_code}
use Rattle.wasm_ast.specs.NumericTypes.{numeric_takes}
use Rattle.wasm_ast.specs.Widths.{load_width, store_width}
use Rattle.verified.specs.Spaces.{function_import, imported, first_type, spaces_of}
use Rattle.verified.specs.declared.call.TheConstants.{AGGREGATORS}
use Rattle.verified.specs.declared.imports.HostCall.{HostCall}
use Rattle.verified.specs.Imports.{call_named}
use Rattle.verified.specs.declared.requirements.Premise.{Premise}
use Rattle.verified.specs.declared.requirements.Premise.TheVariants.{Reaches, Divides, DividesSigned, IsSlot}
use Rattle.profile_rules.specs.declared.constants.asks.Asks.{Asks}
use Rattle.profile_rules.specs.declared.constants.asks.Asks.TheVariants.{Addresses, Divisors, Slots, All}
use Rattle.profile_rules.specs.declared.constants.demands.Demand.{Demand}
use Rattle.profile_rules.specs.declared.constants.demands.Demand.TheVariants.{Any, Constant}
use Rattle.profile_rules.specs.declared.constants.fault.ConstantsFault.{ConstantsFault}
use Rattle.validate.specs.declared.labels.Labels.{Labels}
use Rattle.verified.specs.declared.operand.Operand.{Operand}
use Rattle.verified.specs.declared.operand.Operand.TheVariants.{Unknown, Known}
use Rattle.profile_rules.specs.declared.constants.operands.Operands.{Operands}
use Rattle.verified.specs.Kinds.{minus_one}
use Rattle.profile_rules.specs.inside.ConstantsFaults.{Finds, FalseBut}
use Rattle.verified.specs.Known.{division_premise, takes_slot}
use Rattle.verified.specs.Memory.{memory_bytes, number_of}
use Rattle.verified.specs.Profile.{asks_addresses, asks_divisors, asks_slots, asks_all}

-- the premises that are selected
abbrev pub asks_of : Asks → Premise → Bool
asks_of Addresses = asks_addresses
asks_of Divisors = asks_divisors
asks_of Slots = asks_slots
asks_of All = asks_all

-- The context in which instructions are checked: the types, the type number of each function, and the host calls that
-- imported functions name. Then the bytes of the memory, and the selected premises.
pub record Setting : Type 0 where
  pub types : List FuncType
  pub functions : List ℕ
  pub host_calls : List (Option HostCall)
  pub bytes : ℕ
  pub asks : Asks

-- the host call that an import names, if the import is a function
unfoldable pub imported_call : Import → Option (Option HostCall)
imported_call i = option_map (λ n. call_named i.«module» i.name) (function_import i.description)

-- the type number of each function, the imports first
abbrev pub type_numbers : List Import → List Function → List ℕ
type_numbers imports functions = imported function_import imports ++ map (λ (f : Function). f.type_number) functions

abbrev pub setting_of : Asks → Module → Setting
setting_of a m = record {
  types = m.types;
  functions = (spaces_of m).functions;
  host_calls = filter_map imported_call m.imports;
  bytes = memory_bytes m;
  asks = a;
}

abbrev pub called : Setting → ℕ → Option FuncType
called t f = option_and_then (λ n. slice_get t.types n) (slice_get t.functions f)

abbrev pub host_called : Setting → ℕ → Option HostCall
host_called t f = option_and_then (λ h. h) (slice_get t.host_calls f)

-- ---- operands, the topmost first

-- the operands of the code, whose topmost is last
abbrev pub operands_of : Operands → List Operand
operands_of o = reverse o.operands.items

-- the operands become the result of the step; an error says that the step has none
abbrev pub Goes : (List Operand → Option (List Operand)) → Operands → Operands → Result (Unit {0}) ConstantsFault → Type 0
Goes step before after r = Finds (step (operands_of before)) r (operands_of after)

-- the labels in scope, the innermost first
abbrev pub labels_of : Labels → List (Option ValType)
labels_of n = reverse n.labels.items

-- whether the constant meets the premise
abbrev pub is_met : ℕ → ValType → Premise → ℕ → Bool
is_met bytes t (Reaches offset width) address = leb (address + offset + width) bytes
is_met bytes t Divides n = not (n == 0)
is_met bytes t DividesSigned n = not (n == 0) && not (n == minus_one t)
is_met bytes t IsSlot n = ltb n AGGREGATORS

-- whether the operand meets the demand
abbrev pub fits : ℕ → Demand → Operand → Bool
fits bytes Any o = true
fits bytes (Constant t p) Unknown = false
fits bytes (Constant t p) (Known n) = is_met bytes t p n

-- an operand that is not there is unknown
abbrev pub top : List Operand → Operand
top [] = Unknown
top (o ∷ os) = o

abbrev pub below : List Operand → List Operand
below [] = []
below (o ∷ os) = os

abbrev pub take_one : ℕ → Demand → List Operand → Option (List Operand)
take_one bytes d s = cond (fits bytes d (top s)) (Some (below s)) None

abbrev pub take_each : ℕ → List Demand → List Operand → Option (List Operand)
take_each bytes [] s = Some s
take_each bytes (d ∷ ds) s = option_and_then (λ r. take_each bytes ds r) (take_one bytes d s)

-- [demands] -> [given]
abbrev pub change : ℕ → List Demand → List Operand → List Operand → Option (List Operand)
change bytes demands given s = option_and_then (λ r. Some (given ++ r)) (take_each bytes demands s)

-- one operand of each of the types is taken
abbrev pub forget_each : List ValType → List Operand → List Operand
forget_each [] s = s
forget_each (t ∷ ts) s = forget_each ts (below s)

-- one operand, where there is a type
abbrev pub forget_result : Option ValType → List Operand → List Operand
forget_result None s = s
forget_result (Some t) s = below s

abbrev pub unknowns : Option ValType → List Operand
unknowns None = []
unknowns (Some t) = Unknown ∷ []

abbrev pub given_of : Option Operand → List Operand
given_of None = []
given_of (Some o) = o ∷ []

-- a constant that meets the premise, where the premise is selected
abbrev pub asked : Asks → ValType → Premise → Demand
asked a t p = if asks_of a p then Constant t p else Any

-- ---- instructions

abbrev pub numeric_demands : Asks → Numeric → List Demand
numeric_demands a (numeric.Division t op) = asked a t (division_premise op) ∷ Any ∷ []
numeric_demands a op = map (λ t. Any) (numeric_takes op)

abbrev pub numeric_step : Setting → Numeric → List Operand → Option (List Operand)
numeric_step t op s = change t.bytes (numeric_demands t.asks op) (Unknown ∷ []) s

abbrev pub select_step : List Operand → List Operand
select_step s = Unknown ∷ below (below (below s))

abbrev pub variable_step : Variable → List Operand → List Operand
variable_step (variable.LocalGet x) s = Unknown ∷ s
variable_step (variable.LocalSet x) s = below s
variable_step (variable.LocalTee x) s = Unknown ∷ below s
variable_step (variable.GlobalGet x) s = Unknown ∷ s
variable_step (variable.GlobalSet x) s = below s

abbrev pub memory_step : Setting → Memory → List Operand → Option (List Operand)
memory_step t (memory.Load op a) s =
    change t.bytes (asked t.asks I32 (Reaches a.offset (load_width op)) ∷ []) (Unknown ∷ []) s
memory_step t (memory.Store op a) s =
    change t.bytes (Any ∷ asked t.asks I32 (Reaches a.offset (store_width op)) ∷ []) [] s
memory_step t memory.Size s = Some (Unknown ∷ s)
memory_step t memory.Grow s = Some (Unknown ∷ below s)

abbrev pub plain_step : Setting → Plain → List Operand → Option (List Operand)
plain_step t plain.Nop s = Some s
plain_step t plain.Drop s = Some (below s)
plain_step t plain.Select s = Some (select_step s)
plain_step t (plain.Const v) s = Some (Known (number_of v) ∷ s)
plain_step t (plain.Numeric op) s = numeric_step t op s
plain_step t (plain.Variable op) s = Some (variable_step op s)
plain_step t (plain.Memory op) s = memory_step t op s

-- nothing comes after a branch that is always taken
abbrev pub branch_step : List (Option ValType) → Branch → List Operand → Option (List Operand)
branch_step labels (branch.Br l) s = Some s
branch_step labels (branch.BrIf l) s =
    option_and_then (λ u. Some (unknowns u ++ forget_result u (below s))) (slice_get labels l)
branch_step labels (branch.BrTable ls l) s = Some s
branch_step labels branch.Return s = Some s

-- the arguments are taken; the first may be the number of an aggregator
abbrev pub take_parameters : Setting → Bool → List ValType → List Operand → Option (List Operand)
take_parameters t false parameters s = Some (forget_each parameters s)
take_parameters t true [] s = Some s
take_parameters t true (slot ∷ others) s = take_one t.bytes (asked t.asks slot IsSlot) (forget_each others s)

abbrev pub call_step : Setting → ℕ → List Operand → Option (List Operand)
call_step t f s =
    option_and_then (λ u. option_and_then (λ r. Some (unknowns (first_type u.results) ++ r)) (take_parameters t (takes_slot (host_called t f)) u.parameters s)) (called t f)

abbrev pub call_indirect_step : Setting → ℕ → List Operand → Option (List Operand)
call_indirect_step t n s =
    option_and_then (λ u. Some (unknowns (first_type u.results) ++ forget_each u.parameters (below s))) (slice_get t.types n)

abbrev pub holds_then : {A : Type 0} → Option A → (A → Bool) → Bool
holds_then None p = false
holds_then (Some a) p = p a

-- whether each selected constant is known in the code, which begins with these operands
abbrev pub check : Code → Setting → List (Option ValType) → List Operand → Bool
check code.end t labels s = true
check (code.plain p rest) t labels s = holds_then (plain_step t p s) (λ r. check rest t labels r)
check (code.branch b rest) t labels s = holds_then (branch_step labels b s) (λ r. check rest t labels r)
check (code.call f rest) t labels s = holds_then (call_step t f s) (λ r. check rest t labels r)
check (code.call_indirect n rest) t labels s = holds_then (call_indirect_step t n s) (λ r. check rest t labels r)
check (code.unreachable rest) t labels s = check rest t labels s
check (code.block u body rest) t labels s = check body t (u ∷ labels) [] && check rest t labels (unknowns u ++ s)
check (code.loop u body rest) t labels s = check body t (None ∷ labels) [] && check rest t labels (unknowns u ++ s)
check (code.choice u body other rest) t labels s =
    check body t (u ∷ labels) [] && (check other t (u ∷ labels) [] && check rest t labels (unknowns u ++ below s))

-- after the instruction the code passes exactly where the rest does from `after` on; an error says that the code does
-- not pass
abbrev pub StepsOver : Setting → List (Option ValType) → Instr → (before after : List Operand) → Result (Unit {0}) ConstantsFault → Type 0
StepsOver t labels i before after r =
    (rest : Code) → MatchResult r (λ _. check (then_code i rest) t labels before ≡ check rest t labels after) (λ e. FalseBut e (check (then_code i rest) t labels before))

-- whether each selected constant is known in the body of the function
abbrev pub function_passes : Setting → Function → Bool
function_passes t f =
    holds_then (slice_get t.types f.type_number) (λ u. check f.body t (first_type u.results ∷ []) [])

abbrev pub Passes : Setting → Function → Type 0
Passes t f = function_passes t f ≡ true

-- each body passes
abbrev pub AllPass : Asks → Module → Type 0
AllPass a m = AllByRecursion (Passes (setting_of a m)) m.functions
