-- Where all constants are known, those that fewer premises ask are.
use Rattle.std.proofs.Common.{◌≡◌, ℕ, Bool, true, false, cond, List, [], ◌∷◌, ◌++◌, refl}
use Rattle.std.specs.Prelude.{Option, Some, None, ◌&&◌, if◌then◌else◌, slice_get}
use Rattle.std.specs.Option.{option_and_then}
use Rattle.std.specs.List.{AllByRecursion}
use Rattle.wasm_ast.specs.declared.types.ValType.{ValType}
use Rattle.wasm_ast.specs.declared.types.ValType.TheVariants.{I32}
use Rattle.wasm_ast.specs.declared.types.FuncType.{FuncType}
use Rattle.wasm_ast.specs.declared.numeric.Numeric.{Numeric}
use Rattle.wasm_ast.specs.declared.numeric.Numeric.TheVariants as numeric
use Rattle.wasm_ast.specs.declared.plain.Memory.{Memory}
use Rattle.wasm_ast.specs.declared.plain.Memory.TheVariants as memory
use Rattle.wasm_ast.specs.declared.plain.Plain.{Plain}
use Rattle.wasm_ast.specs.declared.plain.Plain.TheVariants as plain
use Rattle.wasm_ast.specs.declared.module.Function.{Function}
use Rattle.wasm_ast.specs.declared.module.Module.{Module}
use Rattle.wasm_ast.specs.Code.{Code}
use Rattle.wasm_ast.specs.Code as code
use Rattle.wasm_ast.specs.Widths.{load_width, store_width}
use Rattle.verified.specs.Spaces.{first_type}
use Rattle.verified.specs.declared.requirements.Premise.{Premise}
use Rattle.verified.specs.declared.requirements.Premise.TheVariants.{Reaches, IsSlot}
use Rattle.profile_rules.specs.declared.constants.asks.Asks.{Asks}
use Rattle.profile_rules.specs.declared.constants.asks.Asks.TheVariants.{All}
use Rattle.profile_rules.specs.declared.constants.demands.Demand.{Demand}
use Rattle.profile_rules.specs.declared.constants.demands.Demand.TheVariants.{Any, Constant}
use Rattle.verified.specs.declared.operand.Operand.{Operand}
use Rattle.verified.specs.declared.operand.Operand.TheVariants.{Unknown}
use Rattle.verified.specs.Known.{division_premise, takes_slot}
use Rattle.verified.specs.Memory.{memory_bytes}
use Rattle.profile_rules.specs.inside.Tracking.{asks_of, asked, setting_of, called, host_called, fits, top, below, take_one, take_each, change, forget_each, unknowns, memory_step, plain_step, branch_step, take_parameters, call_step, call_indirect_step, holds_then, check, Passes}
use Rattle.profile_rules.proofs.KnownKinds.{both_to, both_from}

-- where the first is found, so is the second, and it is the same
abbrev pub FoundToo : {A : Type 0} → Option A → Option A → Type 0
FoundToo {A} x y = (r : A) → x ≡ Some r → y ≡ Some r

then_too : {A B : Type 0} (x y : Option A) (f g : A → Option B) → FoundToo x y → ((a : A) → FoundToo (f a) (g a)) → FoundToo (option_and_then f x) (option_and_then g y)
then_too None y f g h k r e = absurd cc
then_too (Some a) y f g h k r e = let found : y ≡ Some a = h a refl in rw found (k a r e)

holds_too : {A : Type 0} (x y : Option A) (f g : A → Bool) → FoundToo x y → ((a : A) → f a ≡ true → g a ≡ true) → holds_then x f ≡ true → holds_then y g ≡ true
holds_too None y f g h k e = absurd cc
holds_too (Some a) y f g h k e = let found : y ≡ Some a = h a refl in rw found (k a e)

-- ---- operands

fits_too : (b : Bool) (bytes : ℕ) (t : ValType) (p : Premise) (o : Operand) → fits bytes (Constant t p) o ≡ true → fits bytes (if b then Constant t p else Any) o ≡ true
fits_too true bytes t p o h = h
fits_too false bytes t p o h = refl

taken_too : (x y : Bool) (s : List Operand) → (x ≡ true → y ≡ true) → FoundToo (cond x (Some s) None) (cond y (Some s) None)
taken_too false y s h r e = absurd cc
taken_too true y s h r e = let found : y ≡ true = h refl in rw found e

one_too : (a : Asks) (bytes : ℕ) (t : ValType) (p : Premise) (s : List Operand) → FoundToo (take_one bytes (asked All t p) s) (take_one bytes (asked a t p) s)
one_too a bytes t p s =
    taken_too (fits bytes (asked All t p) (top s)) (fits bytes (asked a t p) (top s)) (below s) (fits_too (asks_of a p) bytes t p (top s))

-- the constant is asked of the topmost, or of the one below it
first_too : (a : Asks) (bytes : ℕ) (t : ValType) (p : Premise) (ds : List Demand) (given s : List Operand) → FoundToo (change bytes (asked All t p ∷ ds) given s) (change bytes (asked a t p ∷ ds) given s)
first_too a bytes t p ds given s =
    then_too (take_each bytes (asked All t p ∷ ds) s) (take_each bytes (asked a t p ∷ ds) s) (λ r. Some (given ++ r)) (λ r. Some (given ++ r))
    (then_too (take_one bytes (asked All t p) s) (take_one bytes (asked a t p) s) (λ r. take_each bytes ds r) (λ r. take_each bytes ds r) (one_too a bytes t p s) (λ x r e. e))
    (λ x r e. e)

second_too : (a : Asks) (bytes : ℕ) (t : ValType) (p : Premise) (given s : List Operand) → FoundToo (change bytes (Any ∷ asked All t p ∷ []) given s) (change bytes (Any ∷ asked a t p ∷ []) given s)
second_too a bytes t p given s =
    then_too (take_each bytes (Any ∷ asked All t p ∷ []) s) (take_each bytes (Any ∷ asked a t p ∷ []) s) (λ r. Some (given ++ r)) (λ r. Some (given ++ r))
    (then_too (take_one bytes Any s) (take_one bytes Any s) (λ r. take_each bytes (asked All t p ∷ []) r) (λ r. take_each bytes (asked a t p ∷ []) r) (λ r e. e)
    (λ x. then_too (take_one bytes (asked All t p) x) (take_one bytes (asked a t p) x) (λ r. Some r) (λ r. Some r) (one_too a bytes t p x) (λ y r e. e)))
    (λ x r e. e)

-- ---- instructions

numeric_too : (a : Asks) (m : Module) (op : Numeric) (s : List Operand) → FoundToo (plain_step (setting_of All m) (plain.Numeric op) s) (plain_step (setting_of a m) (plain.Numeric op) s)
numeric_too a m (numeric.Division t op) s = first_too a (memory_bytes m) t (division_premise op) (Any ∷ []) (Unknown ∷ []) s
numeric_too a m (numeric.Eqz t) s = λ r e. e
numeric_too a m (numeric.Comparison t op) s = λ r e. e
numeric_too a m (numeric.Unary t op) s = λ r e. e
numeric_too a m (numeric.Binary t op) s = λ r e. e
numeric_too a m (numeric.Conversion op) s = λ r e. e

memory_too : (a : Asks) (m : Module) (op : Memory) (s : List Operand) → FoundToo (memory_step (setting_of All m) op s) (memory_step (setting_of a m) op s)
memory_too a m (memory.Load op x) s = first_too a (memory_bytes m) I32 (Reaches x.offset (load_width op)) [] (Unknown ∷ []) s
memory_too a m (memory.Store op x) s = second_too a (memory_bytes m) I32 (Reaches x.offset (store_width op)) [] s
memory_too a m memory.Size s = λ r e. e
memory_too a m memory.Grow s = λ r e. e

pub plain_too : (a : Asks) (m : Module) (p : Plain) (s : List Operand) → FoundToo (plain_step (setting_of All m) p s) (plain_step (setting_of a m) p s)
plain_too a m plain.Nop s = λ r e. e
plain_too a m plain.Drop s = λ r e. e
plain_too a m plain.Select s = λ r e. e
plain_too a m (plain.Const v) s = λ r e. e
plain_too a m (plain.Numeric op) s = numeric_too a m op s
plain_too a m (plain.Variable op) s = λ r e. e
plain_too a m (plain.Memory op) s = memory_too a m op s

parameters_too : (a : Asks) (m : Module) (b : Bool) (ps : List ValType) (s : List Operand) → FoundToo (take_parameters (setting_of All m) b ps s) (take_parameters (setting_of a m) b ps s)
parameters_too a m false ps s = λ r e. e
parameters_too a m true [] s = λ r e. e
parameters_too a m true (slot ∷ others) s = one_too a (memory_bytes m) slot IsSlot (forget_each others s)

pub call_too : (a : Asks) (m : Module) (f : ℕ) (s : List Operand) → FoundToo (call_step (setting_of All m) f s) (call_step (setting_of a m) f s)
call_too a m f s =
    let slot = takes_slot (host_called (setting_of a m) f) in
    then_too (called (setting_of All m) f) (called (setting_of a m) f)
    (λ (u : FuncType). option_and_then (λ r. Some (unknowns (first_type u.results) ++ r)) (take_parameters (setting_of All m) slot u.parameters s))
    (λ (u : FuncType). option_and_then (λ r. Some (unknowns (first_type u.results) ++ r)) (take_parameters (setting_of a m) slot u.parameters s))
    (λ r e. e)
    (λ (u : FuncType). then_too (take_parameters (setting_of All m) slot u.parameters s) (take_parameters (setting_of a m) slot u.parameters s) (λ r. Some (unknowns (first_type u.results) ++ r)) (λ r. Some (unknowns (first_type u.results) ++ r)) (parameters_too a m slot u.parameters s) (λ x r e. e))

-- ---- code

check_too : (a : Asks) (m : Module) (c : Code) (labels : List (Option ValType)) (s : List Operand) → check c (setting_of All m) labels s ≡ true → check c (setting_of a m) labels s ≡ true
check_too a m code.end labels s h = refl
check_too a m (code.plain p rest) labels s h =
    holds_too (plain_step (setting_of All m) p s) (plain_step (setting_of a m) p s) (λ r. check rest (setting_of All m) labels r) (λ r. check rest (setting_of a m) labels r) (plain_too a m p s) (λ r. check_too a m rest labels r) h
check_too a m (code.branch b rest) labels s h =
    holds_too (branch_step labels b s) (branch_step labels b s) (λ r. check rest (setting_of All m) labels r) (λ r. check rest (setting_of a m) labels r) (λ r e. e) (λ r. check_too a m rest labels r) h
check_too a m (code.call f rest) labels s h =
    holds_too (call_step (setting_of All m) f s) (call_step (setting_of a m) f s) (λ r. check rest (setting_of All m) labels r) (λ r. check rest (setting_of a m) labels r) (call_too a m f s) (λ r. check_too a m rest labels r) h
check_too a m (code.call_indirect n rest) labels s h =
    holds_too (call_indirect_step (setting_of All m) n s) (call_indirect_step (setting_of a m) n s) (λ r. check rest (setting_of All m) labels r) (λ r. check rest (setting_of a m) labels r) (λ r e. e) (λ r. check_too a m rest labels r) h
check_too a m (code.unreachable rest) labels s h = check_too a m rest labels s h
check_too a m (code.block u body rest) labels s h =
    let both = both_to (check body (setting_of All m) (u ∷ labels) []) (check rest (setting_of All m) labels (unknowns u ++ s)) h in
    both_from (check body (setting_of a m) (u ∷ labels) []) (check rest (setting_of a m) labels (unknowns u ++ s)) (check_too a m body (u ∷ labels) [] both.0) (check_too a m rest labels (unknowns u ++ s) both.1)
check_too a m (code.loop u body rest) labels s h =
    let both = both_to (check body (setting_of All m) (None ∷ labels) []) (check rest (setting_of All m) labels (unknowns u ++ s)) h in
    both_from (check body (setting_of a m) (None ∷ labels) []) (check rest (setting_of a m) labels (unknowns u ++ s)) (check_too a m body (None ∷ labels) [] both.0) (check_too a m rest labels (unknowns u ++ s) both.1)
check_too a m (code.choice u body other rest) labels s h =
    let later = check other (setting_of All m) (u ∷ labels) [] && check rest (setting_of All m) labels (unknowns u ++ below s) in
    let first = both_to (check body (setting_of All m) (u ∷ labels) []) later h in
    let both = both_to (check other (setting_of All m) (u ∷ labels) []) (check rest (setting_of All m) labels (unknowns u ++ below s)) first.1 in
    both_from (check body (setting_of a m) (u ∷ labels) []) (check other (setting_of a m) (u ∷ labels) [] && check rest (setting_of a m) labels (unknowns u ++ below s)) (check_too a m body (u ∷ labels) [] first.0)
    (both_from (check other (setting_of a m) (u ∷ labels) []) (check rest (setting_of a m) labels (unknowns u ++ below s)) (check_too a m other (u ∷ labels) [] both.0) (check_too a m rest labels (unknowns u ++ below s) both.1))

passes_too : (a : Asks) (m : Module) (f : Function) → Passes (setting_of All m) f → Passes (setting_of a m) f
passes_too a m f p =
    let t = slice_get m.types f.type_number in
    holds_too t t (λ (u : FuncType). check f.body (setting_of All m) (first_type u.results ∷ []) []) (λ (u : FuncType). check f.body (setting_of a m) (first_type u.results ∷ []) []) (λ r e. e) (λ (u : FuncType). check_too a m f.body (first_type u.results ∷ []) []) p

pub all_pass_too : (a : Asks) (m : Module) (fs : List Function) → AllByRecursion (Passes (setting_of All m)) fs → AllByRecursion (Passes (setting_of a m)) fs
all_pass_too a m [] h = tt
all_pass_too a m (f ∷ fs) h = (passes_too a m f h.0, all_pass_too a m fs h.1)
