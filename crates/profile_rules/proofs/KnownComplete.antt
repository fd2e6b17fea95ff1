-- Code that is typed with known constants passes, where nothing comes after a branch that is always taken.
use Rattle.std.proofs.Common.{◌≡◌, ℕ, Bool, true, false, cond, List, [], ◌∷◌, ◌++◌, map, reverse, refl, sym, subst, ap, ◌∙◌}
use Rattle.std.specs.Prelude.{Option, Some, None, ◌&&◌}
use Rattle.std.specs.Option.{option_and_then}
use Rattle.wasm_ast.specs.declared.types.ValType.{ValType}
use Rattle.wasm_ast.specs.declared.types.ValType.TheVariants.{I32, I64}
use Rattle.wasm_ast.specs.declared.types.Value.TheVariants as value
use Rattle.wasm_ast.specs.declared.types.FuncType.{FuncType}
use Rattle.verified.specs.declared.imports.HostCall.{HostCall}
use Rattle.wasm_ast.specs.declared.numeric.Numeric.{Numeric}
use Rattle.wasm_ast.specs.declared.numeric.Numeric.TheVariants as numeric
use Rattle.wasm_ast.specs.declared.plain.Variable.{Variable}
use Rattle.wasm_ast.specs.declared.plain.Variable.TheVariants as variable
use Rattle.wasm_ast.specs.declared.plain.Memory.{Memory}
use Rattle.wasm_ast.specs.declared.plain.Memory.TheVariants as memory
use Rattle.wasm_ast.specs.declared.plain.Plain.{Plain}
use Rattle.wasm_ast.specs.declared.plain.Plain.TheVariants as plain
use Rattle.wasm_ast.specs.declared.plain.Branch.TheVariants as branch
use Rattle.wasm_ast.specs.Code.{Code}
use Rattle.wasm_ast.specs.Code as code
use Rattle.wasm_ast.specs.Numeric.{conversion_from, conversion_to}
use Rattle.wasm_ast.specs.Widths.{load_type, load_width, store_type, store_width}
use Rattle.verified.specs.Spaces.{first_type}
use Rattle.verified.specs.declared.requirements.Premise.TheVariants.{Reaches, IsSlot}
use Rattle.verified.specs.declared.requirements.Requirement.{Requirement}
use Rattle.verified.specs.declared.requirements.Requirement.TheVariants as requirement
use Rattle.profile_rules.specs.declared.constants.demands.Demand.{Demand}
use Rattle.profile_rules.specs.declared.constants.demands.Demand.TheVariants as demand
use Rattle.verified.specs.declared.operand.Operand.{Operand}
use Rattle.verified.specs.declared.operand.Operand.TheVariants as operand
use Rattle.verified.specs.Hosts.{host_call_at}
use Rattle.verified.specs.Kinds.{Kind, Any, Is, Forgets, AllForget, Met, Meets, AllMeet, requirements, kinds}
use Rattle.verified.specs.Known.{Context, known, Changes, division_premise, PlainKnown, VariableKnown, MemoryKnown, takes_slot, parameter_requirements, CallKnown, CallIndirectKnown, Forgetting, Known}
use Rattle.verified.specs.Memory.{memory_bytes}
use Rattle.verified.specs.Shapes.{Everywhere, NotUnreachable, LastIfBranch}
use Rattle.profile_rules.specs.inside.Tracking.{asks_of, asked, setting_of, host_called, fits, below, take_one, take_each, change, forget_each, forget_result, unknowns, plain_step, branch_step, take_parameters, call_step, call_indirect_step, holds_then, check}
use Rattle.profile_rules.proofs.KnownKinds.{demand_of, if_demand, operand_of, kinds_unknown, both_from, met_from, values_taken, either_way}
use Rattle.profile_rules.proofs.KnownSound.{Where, context_of, same_host, slot_taken}

-- ---- what the operands tell

abbrev Tells : Operand → Kind → Type 0
Tells o (Any t) = Unit {0}
Tells operand.Unknown (Is t n) = ⊥
Tells (operand.Known m) (Is t n) = m ≡ n

-- at least what the kinds say
abbrev Covers : List Operand → List Kind → Type 0
Covers [] [] = Unit {0}
Covers [] (k ∷ ks) = ⊥
Covers (o ∷ s) [] = ⊥
Covers (o ∷ s) (k ∷ ks) = Tells o k × Covers s ks

tells_less : (o : Operand) (k j : Kind) → Tells o k → Forgets k j → Tells o j
tells_less o k (Any t) h g = tt
tells_less o (Any t) (Is u n) h g = absurd g
tells_less operand.Unknown (Is t m) (Is u n) h g = absurd h
tells_less (operand.Known q) (Is t m) (Is u n) h g = h ∙ g.1

covers_less : (s : List Operand) (ks js : List Kind) → Covers s ks → AllForget ks js → Covers s js
covers_less [] [] [] h g = tt
covers_less [] [] (j ∷ js) h g = absurd g
covers_less [] (k ∷ ks) js h g = absurd h
covers_less (o ∷ s) [] js h g = absurd h
covers_less (o ∷ s) (k ∷ ks) [] h g = absurd g
covers_less (o ∷ s) (k ∷ ks) (j ∷ js) h g = (tells_less o k j h.0 g.0, covers_less s ks js h.1 g.1)

tells_kind : (k : Kind) → Tells (operand_of k) k
tells_kind (Any t) = tt
tells_kind (Is t n) = refl

covers_more : (gs : List Kind) (s : List Operand) (ks : List Kind) → Covers s ks → Covers (map operand_of gs ++ s) (gs ++ ks)
covers_more [] s ks h = h
covers_more (g ∷ gs) s ks h = (tells_kind g, covers_more gs s ks h)

-- ---- what is taken

meets_fits : (bytes : ℕ) (w : Requirement) (o : Operand) (k : Kind) → Tells o k → Meets bytes w k → fits bytes (demand_of w) o ≡ true
meets_fits bytes (requirement.Value t) o k h g = refl
meets_fits bytes (requirement.Constant t p) o (Any u) h g = absurd g
meets_fits bytes (requirement.Constant t p) operand.Unknown (Is u n) h g = absurd h
meets_fits bytes (requirement.Constant t p) (operand.Known m) (Is u n) h g =
    met_from bytes t p m (subst (λ x. Met bytes t p x) (sym h) g.1)

taken_covered : (bytes : ℕ) (ws : List Requirement) (s : List Operand) (from below : List Kind) → Covers s from → AllMeet bytes ws from below → (r : List Operand) × (take_each bytes (map demand_of ws) s ≡ Some r) × Covers r below
taken_covered bytes [] s from below h g = (s, refl, subst (Covers s) g h)
taken_covered bytes (w ∷ ws) s [] below h g = absurd g
taken_covered bytes (w ∷ ws) [] (k ∷ from) below h g = absurd h
taken_covered bytes (w ∷ ws) (o ∷ s) (k ∷ from) below h g =
    let x = taken_covered bytes ws s from below h.1 g.1 in
    (x.0, ap (λ b. option_and_then (λ q. take_each bytes (map demand_of ws) q) (cond b (Some s) None)) (meets_fits bytes w o k h.0 g.0) ∙ x.1, x.2)

-- what a step finds after a rule
abbrev Found : Option (List Operand) → List Kind → Type 0
Found o mid = (r : List Operand) × (o ≡ Some r) × Covers r mid

changes_found : (c : Context) (ws : List Requirement) (gs : List Kind) (ds : List Demand) (s : List Operand) (from mid : List Kind) → map demand_of ws ≡ ds → Covers s from → Forgetting (Changes c ws gs) from mid → Found (change (memory_bytes c.«module») ds (map operand_of gs) s) mid
changes_found c ws gs ds s from mid d h x =
    let bytes = memory_bytes c.«module» in
    let y = x.1 in
    let t = taken_covered bytes ws s from y.0 h y.1 in
    let same : take_each bytes ds s ≡ Some t.0 = ap (λ us. take_each bytes us s) (sym d) ∙ t.1 in
    let covered = subst (λ (ks : List Kind). Covers (map operand_of gs ++ t.0) ks) (sym y.2) (covers_more gs t.0 y.0 t.2) in
    (map operand_of gs ++ t.0, ap (λ o. option_and_then (λ (r : List Operand). Some (map operand_of gs ++ r)) o) same, covers_less (map operand_of gs ++ t.0) x.0 mid covered x.2)

-- ---- instructions

numeric_found : (w : Where) (labels : List (Option ValType)) (op : Numeric) (s : List Operand) (from mid : List Kind) → Covers s from → Forgetting (PlainKnown (context_of w labels) (plain.Numeric op)) from mid → Found (plain_step (setting_of w.asks w.«module») (plain.Numeric op) s) mid
numeric_found w labels (numeric.Eqz t) s from mid h x =
    changes_found (context_of w labels) (requirement.Value t ∷ []) (Any I32 ∷ []) (demand.Any ∷ []) s from mid refl h x
numeric_found w labels (numeric.Comparison t op) s from mid h x =
    changes_found (context_of w labels) (requirement.Value t ∷ requirement.Value t ∷ []) (Any I32 ∷ []) (demand.Any ∷ demand.Any ∷ []) s from mid refl h x
numeric_found w labels (numeric.Unary t op) s from mid h x =
    changes_found (context_of w labels) (requirement.Value t ∷ []) (Any t ∷ []) (demand.Any ∷ []) s from mid refl h x
numeric_found w labels (numeric.Binary t op) s from mid h x =
    changes_found (context_of w labels) (requirement.Value t ∷ requirement.Value t ∷ []) (Any t ∷ []) (demand.Any ∷ demand.Any ∷ []) s from mid refl h x
numeric_found w labels (numeric.Division t op) s from mid h x =
    let p = division_premise op in
    changes_found (context_of w labels) (known (context_of w labels) t p ∷ requirement.Value t ∷ []) (Any t ∷ []) (asked w.asks t p ∷ demand.Any ∷ []) s from mid (ap (λ d. d ∷ demand.Any ∷ []) (if_demand (asks_of w.asks p) t p)) h x
numeric_found w labels (numeric.Conversion op) s from mid h x =
    changes_found (context_of w labels) (requirement.Value (conversion_from op) ∷ []) (Any (conversion_to op) ∷ []) (demand.Any ∷ []) s from mid refl h x

variable_found : (w : Where) (labels : List (Option ValType)) (op : Variable) (s : List Operand) (from mid : List Kind) → Covers s from → Forgetting (VariableKnown (context_of w labels) op) from mid → Found (plain_step (setting_of w.asks w.«module») (plain.Variable op) s) mid
variable_found w labels (variable.LocalGet y) s from mid h x =
    changes_found (context_of w labels) [] (Any x.1.0 ∷ []) [] s from mid refl h (x.0, x.1.2, x.2)
variable_found w labels (variable.LocalSet y) s from mid h x =
    changes_found (context_of w labels) (requirement.Value x.1.0 ∷ []) [] (demand.Any ∷ []) s from mid refl h (x.0, x.1.2, x.2)
variable_found w labels (variable.LocalTee y) s from mid h x =
    changes_found (context_of w labels) (requirement.Value x.1.0 ∷ []) (Any x.1.0 ∷ []) (demand.Any ∷ []) s from mid refl h (x.0, x.1.2, x.2)
variable_found w labels (variable.GlobalGet y) s from mid h x =
    let g = x.1.0 in
    changes_found (context_of w labels) [] (Any g.value ∷ []) [] s from mid refl h (x.0, x.1.2, x.2)
variable_found w labels (variable.GlobalSet y) s from mid h x =
    let g = x.1.0 in
    changes_found (context_of w labels) (requirement.Value g.value ∷ []) [] (demand.Any ∷ []) s from mid refl h (x.0, x.1.2.1, x.2)

memory_found : (w : Where) (labels : List (Option ValType)) (op : Memory) (s : List Operand) (from mid : List Kind) → Covers s from → Forgetting (MemoryKnown (context_of w labels) op) from mid → Found (plain_step (setting_of w.asks w.«module») (plain.Memory op) s) mid
memory_found w labels (memory.Load op argument) s from mid h x =
    let p = Reaches argument.offset (load_width op) in
    changes_found (context_of w labels) (known (context_of w labels) I32 p ∷ []) (Any (load_type op) ∷ []) (asked w.asks I32 p ∷ []) s from mid (ap (λ d. d ∷ []) (if_demand (asks_of w.asks p) I32 p)) h (x.0, x.1.1.1, x.2)
memory_found w labels (memory.Store op argument) s from mid h x =
    let p = Reaches argument.offset (store_width op) in
    changes_found (context_of w labels) (requirement.Value (store_type op) ∷ known (context_of w labels) I32 p ∷ []) [] (demand.Any ∷ asked w.asks I32 p ∷ []) s from mid (ap (λ d. demand.Any ∷ d ∷ []) (if_demand (asks_of w.asks p) I32 p)) h (x.0, x.1.1.1, x.2)
memory_found w labels memory.Size s from mid h x =
    changes_found (context_of w labels) [] (Any I32 ∷ []) [] s from mid refl h (x.0, x.1.1, x.2)
memory_found w labels memory.Grow s from mid h x =
    changes_found (context_of w labels) (requirement.Value I32 ∷ []) (Any I32 ∷ []) (demand.Any ∷ []) s from mid refl h (x.0, x.1.1, x.2)

plain_found : (w : Where) (labels : List (Option ValType)) (p : Plain) (s : List Operand) (from mid : List Kind) → Covers s from → Forgetting (PlainKnown (context_of w labels) p) from mid → Found (plain_step (setting_of w.asks w.«module») p s) mid
plain_found w labels plain.Nop s from mid h x =
    changes_found (context_of w labels) [] [] [] s from mid refl h x
plain_found w labels plain.Drop s from mid h x =
    changes_found (context_of w labels) (requirement.Value x.1.0 ∷ []) [] (demand.Any ∷ []) s from mid refl h (x.0, x.1.1, x.2)
plain_found w labels plain.Select s from mid h x =
    let t = x.1.0 in
    changes_found (context_of w labels) (requirement.Value I32 ∷ requirement.Value t ∷ requirement.Value t ∷ []) (Any t ∷ []) (demand.Any ∷ demand.Any ∷ demand.Any ∷ []) s from mid refl h (x.0, x.1.1, x.2)
plain_found w labels (plain.Const (value.I32 n)) s from mid h x =
    changes_found (context_of w labels) [] (Is I32 n ∷ []) [] s from mid refl h x
plain_found w labels (plain.Const (value.I64 n)) s from mid h x =
    changes_found (context_of w labels) [] (Is I64 n ∷ []) [] s from mid refl h x
plain_found w labels (plain.Numeric op) s from mid h x = numeric_found w labels op s from mid h x
plain_found w labels (plain.Variable op) s from mid h x = variable_found w labels op s from mid h x
plain_found w labels (plain.Memory op) s from mid h x = memory_found w labels op s from mid h x

-- ---- branches and calls

branch_if_found : (w : Where) (labels : List (Option ValType)) (t : Option ValType) (s : List Operand) (from mid : List Kind) → Covers s from → Forgetting (Changes (context_of w labels) (requirement.Value I32 ∷ requirements t) (kinds t)) from mid → Found (Some (unknowns t ++ forget_result t (below s))) mid
branch_if_found w labels None s from mid h x =
    changes_found (context_of w labels) (requirement.Value I32 ∷ []) [] (demand.Any ∷ []) s from mid refl h x
branch_if_found w labels (Some t) s from mid h x =
    changes_found (context_of w labels) (requirement.Value I32 ∷ requirement.Value t ∷ []) (Any t ∷ []) (demand.Any ∷ demand.Any ∷ []) s from mid refl h x

at_some : (o : Option (List Operand)) (q : Option (List Operand)) (mid : List Kind) → o ≡ q → Found q mid → Found o mid
at_some o q mid e h = (h.0, e ∙ h.1, h.2)

-- values of these types are taken, the topmost first, and a result is given
values_found : (c : Context) (ts : List ValType) (u : Option ValType) (s : List Operand) (from mid : List Kind) → Covers s from → Forgetting (Changes c (map requirement.Value ts) (kinds u)) from mid → Found (Some (unknowns u ++ forget_each ts s)) mid
values_found c ts u s from mid h x =
    let bytes = memory_bytes c.«module» in
    let found = changes_found c (map requirement.Value ts) (kinds u) (map demand_of (map requirement.Value ts)) s from mid refl h x in
    let same : change bytes (map demand_of (map requirement.Value ts)) (map operand_of (kinds u)) s ≡ Some (unknowns u ++ forget_each ts s) = ap (λ o. option_and_then (λ (r : List Operand). Some (map operand_of (kinds u) ++ r)) o) (values_taken bytes ts s) ∙ ap (λ os. Some (os ++ forget_each ts s)) (kinds_unknown u) in
    at_some (Some (unknowns u ++ forget_each ts s)) (change bytes (map demand_of (map requirement.Value ts)) (map operand_of (kinds u)) s) mid (sym same) found

-- with the parameters, a result is given
abbrev with_result : Option ValType → Option (List Operand) → Option (List Operand)
with_result u o = option_and_then (λ r. Some (unknowns u ++ r)) o

slot_found : (w : Where) (labels : List (Option ValType)) (slot : ValType) (others : List ValType) (u : Option ValType) (s : List Operand) (from mid : List Kind) → Covers s from → Forgetting (Changes (context_of w labels) (parameter_requirements (context_of w labels) true (slot ∷ others)) (kinds u)) from mid → Found (with_result u (take_parameters (setting_of w.asks w.«module») true (slot ∷ others) s)) mid
slot_found w labels slot others u s from mid h x =
    let bytes = memory_bytes w.«module» in
    let ws = parameter_requirements (context_of w labels) true (slot ∷ others) in
    let taken = take_one bytes (asked w.asks slot IsSlot) (forget_each others s) in
    let found = changes_found (context_of w labels) ws (kinds u) (map demand_of ws) s from mid refl h x in
    let front : change bytes (map demand_of ws) (map operand_of (kinds u)) s ≡ option_and_then (λ (r : List Operand). Some (map operand_of (kinds u) ++ r)) taken = ap (λ o. option_and_then (λ (r : List Operand). Some (map operand_of (kinds u) ++ r)) o) (slot_taken w labels slot others s) in
    let back : option_and_then (λ (r : List Operand). Some (map operand_of (kinds u) ++ r)) taken ≡ with_result u taken = ap (λ os. option_and_then (λ (r : List Operand). Some (os ++ r)) taken) (kinds_unknown u) in
    at_some (with_result u taken) (change bytes (map demand_of ws) (map operand_of (kinds u)) s) mid (sym (front ∙ back)) found

parameters_found : (w : Where) (labels : List (Option ValType)) (b : Bool) (ps : List ValType) (u : Option ValType) (s : List Operand) (from mid : List Kind) → Covers s from → Forgetting (Changes (context_of w labels) (parameter_requirements (context_of w labels) b ps) (kinds u)) from mid → Found (with_result u (take_parameters (setting_of w.asks w.«module») b ps s)) mid
parameters_found w labels false ps u s from mid h x =
    at_some (Some (unknowns u ++ forget_each ps s)) (Some (unknowns u ++ forget_each (reverse ps) s)) mid (ap (λ q. Some (unknowns u ++ q)) (sym (either_way ps s))) (values_found (context_of w labels) (reverse ps) u s from mid h x)
parameters_found w labels true [] u s from mid h x = values_found (context_of w labels) [] u s from mid h x
parameters_found w labels true (slot ∷ others) u s from mid h x = slot_found w labels slot others u s from mid h x

call_found : (w : Where) (labels : List (Option ValType)) (f : ℕ) (s : List Operand) (from mid : List Kind) → Covers s from → Forgetting (CallKnown (context_of w labels) f) from mid → Found (call_step (setting_of w.asks w.«module») f s) mid
call_found w labels f s from mid h x =
    let t = x.1.0 in
    let found = parameters_found w labels (takes_slot (host_call_at w.«module» f)) t.parameters (first_type t.results) s from mid h (x.0, x.1.2, x.2) in
    let hosted = subst (λ (c : Option HostCall). Found (with_result (first_type t.results) (take_parameters (setting_of w.asks w.«module») (takes_slot c) t.parameters s)) mid) (sym (same_host w.asks w.«module» f)) found in
    subst (λ (o : Option FuncType). Found (option_and_then (λ (u : FuncType). with_result (first_type u.results) (take_parameters (setting_of w.asks w.«module») (takes_slot (host_called (setting_of w.asks w.«module») f)) u.parameters s)) o) mid) (sym x.1.1) hosted

call_indirect_found : (w : Where) (labels : List (Option ValType)) (n : ℕ) (s : List Operand) (from mid : List Kind) → Covers s from → Forgetting (CallIndirectKnown (context_of w labels) n) from mid → Found (call_indirect_step (setting_of w.asks w.«module») n s) mid
call_indirect_found w labels n s from mid h x =
    let t = x.1.0 in
    let found = values_found (context_of w labels) (I32 ∷ reverse t.parameters) (first_type t.results) s from mid h (x.0, x.1.2.1, x.2) in
    let turned = subst (λ (q : List Operand). Found (Some (unknowns (first_type t.results) ++ q)) mid) (either_way t.parameters (below s)) found in
    subst (λ (o : Option FuncType). Found (option_and_then (λ (u : FuncType). Some (unknowns (first_type u.results) ++ forget_each u.parameters (below s))) o) mid) (sym x.1.1) turned

-- ---- code

holds_at : (o : Option (List Operand)) (r : List Operand) (p : List Operand → Bool) → o ≡ Some r → p r ≡ true → holds_then o p ≡ true
holds_at o r p e h = subst (λ x. holds_then x p ≡ true) (sym e) h

-- nothing comes after the branch
nothing_left : (rest : Code) (w : Where) (labels : List (Option ValType)) (s : List Operand) → rest ≡ code.end → check rest (setting_of w.asks w.«module») labels s ≡ true
nothing_left rest w labels s e =
    subst (λ c. check c (setting_of w.asks w.«module») labels s ≡ true) (sym e) refl

given_found : (c : Context) (ts : List ValType) (u : Option ValType) (s : List Operand) (from mid : List Kind) → Covers s from → Forgetting (Changes c (map requirement.Value ts) (kinds u)) from mid → Covers (unknowns u ++ forget_each ts s) mid
given_found c ts u s from mid h x =
    let y = values_found c ts u s from mid h x in
    let same : y.0 ≡ unknowns u ++ forget_each ts s = sym (some_same y.1) in
    subst (λ r. Covers r mid) same y.2
  where
    some_same : {a b : List Operand} → Some a ≡ Some b → a ≡ b
    some_same e = cc

pub complete : (code : Code) (w : Where) (labels : List (Option ValType)) (s : List Operand) (from to : List Kind) → Everywhere NotUnreachable code → Everywhere LastIfBranch code → Covers s from → Known code (context_of w labels) from to → check code (setting_of w.asks w.«module») labels s ≡ true
complete code.end w labels s from to v l h x = refl
complete (code.plain p rest) w labels s from to v l h x =
    let y = plain_found w labels p s from x.0 h x.1 in
    holds_at (plain_step (setting_of w.asks w.«module») p s) y.0 (λ r. check rest (setting_of w.asks w.«module») labels r) y.1 (complete rest w labels y.0 x.0 to v.1 l.1 y.2 x.2)
complete (code.branch (branch.Br d) rest) w labels s from to v l h x = nothing_left rest w labels s l.0
complete (code.branch (branch.BrIf d) rest) w labels s from to v l h x =
    let rule = x.1 in
    let t = rule.1.0 in
    let found = branch_if_found w labels t s from x.0 h (rule.0, rule.1.2, rule.2) in
    let y = subst (λ (o : Option (Option ValType)). Found (option_and_then (λ (u : Option ValType). Some (unknowns u ++ forget_result u (below s))) o) x.0) (sym rule.1.1) found in
    holds_at (branch_step labels (branch.BrIf d) s) y.0 (λ r. check rest (setting_of w.asks w.«module») labels r) y.1 (complete rest w labels y.0 x.0 to v.1 l.1 y.2 x.2)
complete (code.branch (branch.BrTable ds d) rest) w labels s from to v l h x = nothing_left rest w labels s l.0
complete (code.branch branch.Return rest) w labels s from to v l h x = nothing_left rest w labels s l.0
complete (code.call f rest) w labels s from to v l h x =
    let y = call_found w labels f s from x.0 h x.1 in
    holds_at (call_step (setting_of w.asks w.«module») f s) y.0 (λ r. check rest (setting_of w.asks w.«module») labels r) y.1 (complete rest w labels y.0 x.0 to v.1 l.1 y.2 x.2)
complete (code.call_indirect n rest) w labels s from to v l h x =
    let y = call_indirect_found w labels n s from x.0 h x.1 in
    holds_at (call_indirect_step (setting_of w.asks w.«module») n s) y.0 (λ r. check rest (setting_of w.asks w.«module») labels r) y.1 (complete rest w labels y.0 x.0 to v.1 l.1 y.2 x.2)
complete (code.unreachable rest) w labels s from to v l h x = absurd v.0
complete (code.block u body rest) w labels s from to v l h x =
    let b = complete body w (u ∷ labels) [] [] (kinds u) v.1 l.1 tt x.1 in
    let r = complete rest w labels (unknowns u ++ s) x.0 to v.2 l.2 (given_found (context_of w labels) [] u s from x.0 h x.2) x.3 in
    both_from (check body (setting_of w.asks w.«module») (u ∷ labels) []) (check rest (setting_of w.asks w.«module») labels (unknowns u ++ s)) b r
complete (code.loop u body rest) w labels s from to v l h x =
    let b = complete body w (None ∷ labels) [] [] (kinds u) v.1 l.1 tt x.1 in
    let r = complete rest w labels (unknowns u ++ s) x.0 to v.2 l.2 (given_found (context_of w labels) [] u s from x.0 h x.2) x.3 in
    both_from (check body (setting_of w.asks w.«module») (None ∷ labels) []) (check rest (setting_of w.asks w.«module») labels (unknowns u ++ s)) b r
complete (code.choice u body other rest) w labels s from to v l h x =
    let b = complete body w (u ∷ labels) [] [] (kinds u) v.1 l.1 tt x.1 in
    let d = complete other w (u ∷ labels) [] [] (kinds u) v.2 l.2 tt x.2 in
    let r = complete rest w labels (unknowns u ++ below s) x.0 to v.3 l.3 (given_found (context_of w labels) (I32 ∷ []) u s from x.0 h x.3) x.4 in
    both_from (check body (setting_of w.asks w.«module») (u ∷ labels) []) (check other (setting_of w.asks w.«module») (u ∷ labels) [] && check rest (setting_of w.asks w.«module») labels (unknowns u ++ below s)) b (both_from (check other (setting_of w.asks w.«module») (u ∷ labels) []) (check rest (setting_of w.asks w.«module») labels (unknowns u ++ below s)) d r)
