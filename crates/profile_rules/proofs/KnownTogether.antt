-- Where the constants of each rule are known, all are.
use Rattle.std.proofs.Common.{◌≡◌, ℕ, Bool, true, false, List, [], ◌∷◌, ◌++◌, refl, sym, ap, ◌∙◌, subst}
use Rattle.std.specs.Prelude.{Option, Some, None, ◌&&◌, slice_get, ⊤}
use Rattle.std.specs.Option.{option_and_then}
use Rattle.std.specs.List.{AllByRecursion}
use Rattle.wasm_ast.specs.declared.types.ValType.{ValType}
use Rattle.wasm_ast.specs.declared.types.FuncType.{FuncType}
use Rattle.wasm_ast.specs.declared.numeric.Division.TheVariants as division
use Rattle.wasm_ast.specs.declared.numeric.Numeric.{Numeric}
use Rattle.wasm_ast.specs.declared.numeric.Numeric.TheVariants as numeric
use Rattle.wasm_ast.specs.declared.plain.Memory.{Memory}
use Rattle.wasm_ast.specs.declared.plain.Memory.TheVariants as memory
use Rattle.wasm_ast.specs.declared.plain.Plain.{Plain}
use Rattle.wasm_ast.specs.declared.plain.Plain.TheVariants as plain
use Rattle.wasm_ast.specs.declared.module.Function.{Function}
use Rattle.wasm_ast.specs.declared.module.Module.{Module}
use Rattle.wasm_ast.specs.Code.{Code}
use Rattle.wasm_ast.specs.Code as code
use Rattle.verified.specs.Spaces.{first_type}
use Rattle.profile_rules.specs.declared.constants.asks.Asks.{Asks}
use Rattle.profile_rules.specs.declared.constants.asks.Asks.TheVariants.{Addresses, Divisors, Slots, All}
use Rattle.verified.specs.declared.operand.Operand.{Operand}
use Rattle.verified.specs.Known.{takes_slot}
use Rattle.profile_rules.specs.inside.Tracking.{setting_of, called, host_called, unknowns, below, plain_step, branch_step, take_parameters, call_step, call_indirect_step, holds_then, check, Passes}
use Rattle.profile_rules.proofs.KnownFewer.{FoundToo, plain_too, call_too}
use Rattle.profile_rules.proofs.KnownKinds.{both_to, both_from}

-- the premises are those of one rule
abbrev pub IsOne : Asks → Type 0
IsOne Addresses = ⊤
IsOne Divisors = ⊤
IsOne Slots = ⊤
IsOne All = ⊥

-- what makes the same of all premises as of those of one rule
abbrev AsOne : {A : Type 0} → (Asks → A) → Type 0
AsOne x = (a : Asks) × IsOne a × (x All ≡ x a)

together : {A : Type 0} (x : Asks → Option A) (f : Asks → A → Bool) → AsOne x → ((a : Asks) → FoundToo (x All) (x a)) → ((r : A) → ((a : Asks) → IsOne a → f a r ≡ true) → f All r ≡ true) → ((a : Asks) → IsOne a → holds_then (x a) (f a) ≡ true) → holds_then (x All) (f All) ≡ true
together {A} x f one too rest each =
    by_found (x All) refl
  where
    by_found : (o : Option A) → x All ≡ o → holds_then o (f All) ≡ true
    by_found None e =
        let none : x one.0 ≡ None = sym one.2 ∙ e in
        absurd (let h : holds_then None (f one.0) ≡ true = subst (λ (o : Option A). holds_then o (f one.0) ≡ true) none (each one.0 one.1) in cc)
    by_found (Some r) e = rest r (λ a is_one. subst (λ (o : Option A). holds_then o (f a) ≡ true) (too a r e) (each a is_one))

-- ---- instructions

numeric_as_one : (m : Module) (op : Numeric) (s : List Operand) → AsOne (λ a. plain_step (setting_of a m) (plain.Numeric op) s)
numeric_as_one m (numeric.Division t division.DivS) s = (Divisors, tt, refl)
numeric_as_one m (numeric.Division t division.DivU) s = (Divisors, tt, refl)
numeric_as_one m (numeric.Division t division.RemS) s = (Divisors, tt, refl)
numeric_as_one m (numeric.Division t division.RemU) s = (Divisors, tt, refl)
numeric_as_one m (numeric.Eqz t) s = (Divisors, tt, refl)
numeric_as_one m (numeric.Comparison t op) s = (Divisors, tt, refl)
numeric_as_one m (numeric.Unary t op) s = (Divisors, tt, refl)
numeric_as_one m (numeric.Binary t op) s = (Divisors, tt, refl)
numeric_as_one m (numeric.Conversion op) s = (Divisors, tt, refl)

memory_as_one : (m : Module) (op : Memory) (s : List Operand) → AsOne (λ a. plain_step (setting_of a m) (plain.Memory op) s)
memory_as_one m (memory.Load op x) s = (Addresses, tt, refl)
memory_as_one m (memory.Store op x) s = (Addresses, tt, refl)
memory_as_one m memory.Size s = (Addresses, tt, refl)
memory_as_one m memory.Grow s = (Addresses, tt, refl)

plain_as_one : (m : Module) (p : Plain) (s : List Operand) → AsOne (λ a. plain_step (setting_of a m) p s)
plain_as_one m plain.Nop s = (Addresses, tt, refl)
plain_as_one m plain.Drop s = (Addresses, tt, refl)
plain_as_one m plain.Select s = (Addresses, tt, refl)
plain_as_one m (plain.Const v) s = (Addresses, tt, refl)
plain_as_one m (plain.Numeric op) s = numeric_as_one m op s
plain_as_one m (plain.Variable op) s = (Addresses, tt, refl)
plain_as_one m (plain.Memory op) s = memory_as_one m op s

parameters_as_slots : (m : Module) (b : Bool) (ps : List ValType) (s : List Operand) → take_parameters (setting_of All m) b ps s ≡ take_parameters (setting_of Slots m) b ps s
parameters_as_slots m false ps s = refl
parameters_as_slots m true [] s = refl
parameters_as_slots m true (slot ∷ others) s = refl

call_as_one : (m : Module) (f : ℕ) (s : List Operand) → AsOne (λ a. call_step (setting_of a m) f s)
call_as_one m f s = (Slots, tt, by_type (called (setting_of All m) f))
  where
    by_type : (o : Option FuncType) → option_and_then (λ u. option_and_then (λ r. Some (unknowns (first_type u.results) ++ r)) (take_parameters (setting_of All m) (takes_slot (host_called (setting_of All m) f)) u.parameters s)) o ≡ option_and_then (λ u. option_and_then (λ r. Some (unknowns (first_type u.results) ++ r)) (take_parameters (setting_of Slots m) (takes_slot (host_called (setting_of Slots m) f)) u.parameters s)) o
    by_type None = refl
    by_type (Some u) =
        ap (option_and_then (λ r. Some (unknowns (first_type u.results) ++ r))) (parameters_as_slots m (takes_slot (host_called (setting_of All m) f)) u.parameters s)

-- ---- code

check_together : (m : Module) (c : Code) (labels : List (Option ValType)) (s : List Operand) → ((a : Asks) → IsOne a → check c (setting_of a m) labels s ≡ true) → check c (setting_of All m) labels s ≡ true
check_together m code.end labels s each = refl
check_together m (code.plain p rest) labels s each =
    together (λ a. plain_step (setting_of a m) p s) (λ a r. check rest (setting_of a m) labels r) (plain_as_one m p s) (λ a. plain_too a m p s) (λ r. check_together m rest labels r) each
check_together m (code.branch b rest) labels s each =
    together (λ a. branch_step labels b s) (λ a r. check rest (setting_of a m) labels r) (Addresses, tt, refl) (λ a r e. e) (λ r. check_together m rest labels r) each
check_together m (code.call f rest) labels s each =
    together (λ a. call_step (setting_of a m) f s) (λ a r. check rest (setting_of a m) labels r) (call_as_one m f s) (λ a. call_too a m f s) (λ r. check_together m rest labels r) each
check_together m (code.call_indirect n rest) labels s each =
    together (λ a. call_indirect_step (setting_of a m) n s) (λ a r. check rest (setting_of a m) labels r) (Addresses, tt, refl) (λ a r e. e) (λ r. check_together m rest labels r) each
check_together m (code.unreachable rest) labels s each = check_together m rest labels s each
check_together m (code.block u body rest) labels s each =
    let both = λ (a : Asks) (o : IsOne a). both_to (check body (setting_of a m) (u ∷ labels) []) (check rest (setting_of a m) labels (unknowns u ++ s)) (each a o) in
    both_from (check body (setting_of All m) (u ∷ labels) []) (check rest (setting_of All m) labels (unknowns u ++ s))
    (check_together m body (u ∷ labels) [] (λ a o. (both a o).0)) (check_together m rest labels (unknowns u ++ s) (λ a o. (both a o).1))
check_together m (code.loop u body rest) labels s each =
    let both = λ (a : Asks) (o : IsOne a). both_to (check body (setting_of a m) (None ∷ labels) []) (check rest (setting_of a m) labels (unknowns u ++ s)) (each a o) in
    both_from (check body (setting_of All m) (None ∷ labels) []) (check rest (setting_of All m) labels (unknowns u ++ s))
    (check_together m body (None ∷ labels) [] (λ a o. (both a o).0)) (check_together m rest labels (unknowns u ++ s) (λ a o. (both a o).1))
check_together m (code.choice u body other rest) labels s each =
    let first = λ (a : Asks) (o : IsOne a). both_to (check body (setting_of a m) (u ∷ labels) []) (check other (setting_of a m) (u ∷ labels) [] && check rest (setting_of a m) labels (unknowns u ++ below s)) (each a o) in
    let both = λ (a : Asks) (o : IsOne a). both_to (check other (setting_of a m) (u ∷ labels) []) (check rest (setting_of a m) labels (unknowns u ++ below s)) (first a o).1 in
    both_from (check body (setting_of All m) (u ∷ labels) []) (check other (setting_of All m) (u ∷ labels) [] && check rest (setting_of All m) labels (unknowns u ++ below s))
    (check_together m body (u ∷ labels) [] (λ a o. (first a o).0))
    (both_from (check other (setting_of All m) (u ∷ labels) []) (check rest (setting_of All m) labels (unknowns u ++ below s))
    (check_together m other (u ∷ labels) [] (λ a o. (both a o).0)) (check_together m rest labels (unknowns u ++ below s) (λ a o. (both a o).1)))

passes_together : (m : Module) (f : Function) → ((a : Asks) → IsOne a → Passes (setting_of a m) f) → Passes (setting_of All m) f
passes_together m f each =
    together (λ a. slice_get m.types f.type_number) (λ a (u : FuncType). check f.body (setting_of a m) (first_type u.results ∷ []) []) (Addresses, tt, refl) (λ a r e. e) (λ u. check_together m f.body (first_type u.results ∷ []) []) each

pub all_pass_together : (m : Module) (fs : List Function) → ((a : Asks) → IsOne a → AllByRecursion (Passes (setting_of a m)) fs) → AllByRecursion (Passes (setting_of All m)) fs
all_pass_together m [] each = tt
all_pass_together m (f ∷ fs) each = (passes_together m f (λ a o. (each a o).0), all_pass_together m fs (λ a o. (each a o).1))
