-- What is known of operands, and their kinds.
use Rattle.std.proofs.Common.{◌≡◌, ℕ, Bool, true, false, List, [], ◌∷◌, ◌++◌, map, length, reverse, refl, ap, arith}
use Rattle.std.specs.Prelude.{Option, Some, None, ◌&&◌, if◌then◌else◌}
use Rattle.std.proofs.lemmas.Bool.Decides.{nat_tests}
use Rattle.std.proofs.lemmas.List.{length-reverse}
use Rattle.wasm_ast.specs.declared.types.ValType.{ValType}
use Rattle.verified.specs.declared.requirements.Premise.{Premise}
use Rattle.verified.specs.declared.requirements.Premise.TheVariants.{Reaches, Divides, DividesSigned, IsSlot}
use Rattle.verified.specs.declared.requirements.Requirement.{Requirement}
use Rattle.verified.specs.declared.requirements.Requirement.TheVariants as requirement
use Rattle.profile_rules.specs.declared.constants.demands.Demand.{Demand}
use Rattle.profile_rules.specs.declared.constants.demands.Demand.TheVariants as demand
use Rattle.verified.specs.declared.operand.Operand.{Operand}
use Rattle.verified.specs.declared.operand.Operand.TheVariants as operand
use Rattle.verified.specs.Kinds.{Kind, Any, Is, Forgets, AllForget, Met, requirements, kinds}
use Rattle.profile_rules.specs.inside.Tracking.{is_met, top, below, take_each, forget_each, unknowns}

-- ---- requirements without types

abbrev pub requirement_type : Requirement → ValType
requirement_type (requirement.Value t) = t
requirement_type (requirement.Constant t p) = t

abbrev pub demand_of : Requirement → Demand
demand_of (requirement.Value t) = demand.Any
demand_of (requirement.Constant t p) = demand.Constant t p

pub if_type : (b : Bool) (t : ValType) (p : Premise) → requirement_type (if b then requirement.Constant t p else requirement.Value t) ≡ t
if_type true t p = refl
if_type false t p = refl

pub if_demand : (b : Bool) (t : ValType) (p : Premise) → demand_of (if b then requirement.Constant t p else requirement.Value t) ≡ (if b then demand.Constant t p else demand.Any)
if_demand true t p = refl
if_demand false t p = refl

pub value_types : (ts : List ValType) → map requirement_type (map requirement.Value ts) ≡ ts
value_types [] = refl
value_types (t ∷ ts) = ap (λ us. t ∷ us) (value_types ts)

-- ---- kinds without types

abbrev pub kind_type : Kind → ValType
kind_type (Any t) = t
kind_type (Is t n) = t

abbrev pub operand_of : Kind → Operand
operand_of (Any t) = operand.Unknown
operand_of (Is t n) = operand.Known n

abbrev pub kind_of : ValType → Operand → Kind
kind_of t operand.Unknown = Any t
kind_of t (operand.Known n) = Is t n

-- operands of these types
abbrev pub as_kinds : List ValType → List Operand → List Kind
as_kinds [] s = []
as_kinds (t ∷ ts) s = kind_of t (top s) ∷ as_kinds ts (below s)

pub same_kind : (k : Kind) → kind_of (kind_type k) (operand_of k) ≡ k
same_kind (Any t) = refl
same_kind (Is t n) = refl

pub given_kinds : (gs : List Kind) (ts : List ValType) (r : List Operand) → as_kinds (map kind_type gs ++ ts) (map operand_of gs ++ r) ≡ gs ++ as_kinds ts r
given_kinds [] ts r = refl
given_kinds (g ∷ gs) ts r = let a = same_kind g in let b = given_kinds gs ts r in cc

pub kinds_types : (u : Option ValType) → map kind_type (kinds u) ≡ map requirement_type (requirements u)
kinds_types None = refl
kinds_types (Some t) = refl

pub kinds_unknown : (u : Option ValType) → map operand_of (kinds u) ≡ unknowns u
kinds_unknown None = refl
kinds_unknown (Some t) = refl

-- ---- to forget

pub forget_one : (k : Kind) → Forgets k k
forget_one (Any t) = refl
forget_one (Is t n) = (refl, refl)

pub forget_none : (ks : List Kind) → AllForget ks ks
forget_none [] = tt
forget_none (k ∷ ks) = (forget_one k, forget_none ks)

pub forget_any : (t : ValType) (o : Operand) → Forgets (kind_of t o) (Any t)
forget_any t operand.Unknown = refl
forget_any t (operand.Known n) = refl

pub forget_all : (ts : List ValType) (s : List Operand) → AllForget (as_kinds ts s) (map Any ts)
forget_all [] s = tt
forget_all (t ∷ ts) s = (forget_any t (top s), forget_all ts (below s))

pub nothing_forgets : (ks : List Kind) → AllForget [] ks → ks ≡ []
nothing_forgets [] h = refl
nothing_forgets (k ∷ ks) h = absurd h

-- ---- the tests are the premises

pub both_to : (a b : Bool) → a && b ≡ true → (a ≡ true) × (b ≡ true)
both_to true b e = (refl, e)
both_to false b e = absurd cc

pub both_from : (a b : Bool) → a ≡ true → b ≡ true → a && b ≡ true
both_from true b e f = f
both_from false b e f = absurd cc

pub met_to : (bytes : ℕ) (t : ValType) (p : Premise) (n : ℕ) → is_met bytes t p n ≡ true → Met bytes t p n
met_to bytes t (Reaches offset width) n e = grind (arith, nat_tests)
met_to bytes t Divides n e = λ z. grind (arith, nat_tests)
met_to bytes t DividesSigned n e = (λ z. grind (arith, nat_tests), λ z. grind (arith, nat_tests))
met_to bytes t IsSlot n e = grind (arith, nat_tests)

pub met_from : (bytes : ℕ) (t : ValType) (p : Premise) (n : ℕ) → Met bytes t p n → is_met bytes t p n ≡ true
met_from bytes t (Reaches offset width) n h = grind (arith, nat_tests)
met_from bytes t Divides n h = grind (arith, nat_tests)
met_from bytes t DividesSigned n h = grind (arith, nat_tests)
met_from bytes t IsSlot n h = grind (arith, nat_tests)

-- ---- operands of which nothing is asked

pub values_then : (bytes : ℕ) (ts : List ValType) (ws : List Requirement) (s : List Operand) → take_each bytes (map demand_of (map requirement.Value ts ++ ws)) s ≡ take_each bytes (map demand_of ws) (forget_each ts s)
values_then bytes [] ws s = refl
values_then bytes (t ∷ ts) ws s = values_then bytes ts ws (below s)

pub values_taken : (bytes : ℕ) (ts : List ValType) (s : List Operand) → take_each bytes (map demand_of (map requirement.Value ts)) s ≡ Some (forget_each ts s)
values_taken bytes [] s = refl
values_taken bytes (t ∷ ts) s = values_taken bytes ts (below s)

same_number : (xs ys : List ValType) (s : List Operand) → length xs ≡ length ys → forget_each xs s ≡ forget_each ys s
same_number [] [] s e = refl
same_number [] (y ∷ ys) s e = absurd (omega arith)
same_number (x ∷ xs) [] s e = absurd (omega arith)
same_number (x ∷ xs) (y ∷ ys) s e =
    let f : length xs ≡ length ys = omega arith in same_number xs ys (below s) f

pub either_way : (ts : List ValType) (s : List Operand) → forget_each (reverse ts) s ≡ forget_each ts s
either_way ts s = same_number (reverse ts) ts s (length-reverse ts)
