-- Code that passes is typed with known constants, where it is typed at all.
use Rattle.std.proofs.Common.{◌≡◌, ℕ, Bool, true, false, cond, List, [], ◌∷◌, ◌++◌, map, filter, reverse, refl, sym, subst, ap, ◌∙◌}
use Rattle.std.specs.Prelude.{Option, Some, None, slice_get, ◌&&◌}
use Rattle.std.specs.Option.{option_and_then, option_map}
use Rattle.std.specs.List.{AllByRecursion, filter_map, cons_option}
use Rattle.std.proofs.lemmas.List.{reverse-append, map-append}
use Rattle.std.proofs.lemmas.Option.{slice_get-map}
use Rattle.wasm_ast.specs.declared.types.ValType.{ValType}
use Rattle.wasm_ast.specs.declared.types.ValType.TheVariants.{I32, I64}
use Rattle.wasm_ast.specs.declared.types.Value.TheVariants as value
use Rattle.wasm_ast.specs.declared.types.FuncType.{FuncType}
use Rattle.wasm_ast.specs.declared.numeric.Numeric.{Numeric}
use Rattle.wasm_ast.specs.declared.numeric.Numeric.TheVariants as numeric
use Rattle.wasm_ast.specs.declared.plain.Variable.{Variable}
use Rattle.wasm_ast.specs.declared.plain.Variable.TheVariants as variable
use Rattle.wasm_ast.specs.declared.plain.Memory.{Memory}
use Rattle.wasm_ast.specs.declared.plain.Memory.TheVariants as memory
use Rattle.wasm_ast.specs.declared.plain.Plain.{Plain}
use Rattle.wasm_ast.specs.declared.plain.Plain.TheVariants as plain
use Rattle.wasm_ast.specs.declared.plain.Branch.{Branch}
use Rattle.wasm_ast.specs.declared.plain.Branch.TheVariants as branch
use Rattle.wasm_ast.specs.declared.module.ImportDescription.{ImportDescription}
use Rattle.wasm_ast.specs.declared.module.ImportDescription.TheVariants as import
use Rattle.wasm_ast.specs.declared.module.Import.{Import}
use Rattle.wasm_ast.specs.declared.module.Module.{Module}
use Rattle.wasm_ast.specs.Code.{Code}
use Rattle.wasm_ast.specs.Code as code
use Rattle.wasm_ast.specs.Limits.{is_function, is_function_description}
use Rattle.wasm_ast.specs.Numeric.{conversion_from, conversion_to}
use Rattle.wasm_ast.specs.Widths.{load_type, load_width, store_type, store_width}
use Rattle.verified.specs.Spaces.{spaces_of, first_type, function_import}
use Rattle.verified.specs.Instructions as valid
use Rattle.verified.specs.declared.imports.HostCall.{HostCall}
use Rattle.verified.specs.Imports.{call_named}
use Rattle.verified.specs.declared.requirements.Premise.{Premise}
use Rattle.verified.specs.declared.requirements.Premise.TheVariants.{Reaches, IsSlot}
use Rattle.verified.specs.declared.requirements.Requirement.{Requirement}
use Rattle.verified.specs.declared.requirements.Requirement.TheVariants as requirement
use Rattle.profile_rules.specs.declared.constants.asks.Asks.{Asks}
use Rattle.profile_rules.specs.declared.constants.demands.Demand.{Demand}
use Rattle.profile_rules.specs.declared.constants.demands.Demand.TheVariants as demand
use Rattle.verified.specs.declared.operand.Operand.{Operand}
use Rattle.verified.specs.declared.operand.Operand.TheVariants as operand
use Rattle.verified.specs.Hosts.{host_call_at}
use Rattle.verified.specs.Kinds.{Kind, Any, Is, AllForget, Meets, AllMeet, requirements, kinds}
use Rattle.verified.specs.Known.{Context, known, Changes, Leaves, division_premise, PlainKnown, VariableKnown, MemoryKnown, LabelTakes, BranchKnown, takes_slot, parameter_requirements, CallKnown, CallIndirectKnown, Forgetting, Known}
use Rattle.verified.specs.Memory.{memory_bytes}
use Rattle.profile_rules.specs.inside.Tracking.{asks_of, asked, setting_of, imported_call, host_called, is_met, fits, top, below, take_one, take_each, change, forget_each, forget_result, unknowns, plain_step, branch_step, take_parameters, call_step, call_indirect_step, holds_then, check}
use Rattle.profile_rules.proofs.KnownKinds.{requirement_type, demand_of, if_type, if_demand, value_types, kind_type, operand_of, kind_of, as_kinds, given_kinds, kinds_unknown, forget_none, forget_any, forget_one, forget_all, nothing_forgets, both_to, met_to, values_then, values_taken, either_way}

-- the context of code
pub record Where : Type 0 where
  pub asks : Asks
  pub «module» : Module
  pub locals : List ValType
  pub outcome : Option ValType

abbrev pub context_of : Where → List (Option ValType) → Context
context_of w labels = record { «module» = w.«module»; asks = asks_of w.asks; locals = w.locals; labels = labels; outcome = w.outcome }

abbrev pub typing_of : Where → List (Option ValType) → valid.Context
typing_of w labels = record { spaces = spaces_of w.«module»; locals = w.locals; labels = labels; outcome = w.outcome }

-- ---- what is taken

-- an operand that passes meets its requirement
constant_taken : (bytes : ℕ) (t : ValType) (p : Premise) (o : Operand) (q : List Operand) (f : List Operand → Option (List Operand)) (r : List Operand) → option_and_then f (cond (fits bytes (demand.Constant t p) o) (Some q) None) ≡ Some r → Meets bytes (requirement.Constant t p) (kind_of t o) × (f q ≡ Some r)
constant_taken bytes t p operand.Unknown q f r e = absurd cc
constant_taken bytes t p (operand.Known n) q f r e =
    let x = met (is_met bytes t p n) e in ((refl, met_to bytes t p n x.0), x.1)
  where
    met : (b : Bool) → option_and_then f (cond b (Some q) None) ≡ Some r → (b ≡ true) × (f q ≡ Some r)
    met true e = (refl, e)
    met false e = absurd cc

taken_known : (bytes : ℕ) (ws : List Requirement) (ts : List ValType) (s r : List Operand) → take_each bytes (map demand_of ws) s ≡ Some r → (ks : List Kind) × AllForget (as_kinds (map requirement_type ws ++ ts) s) ks × AllMeet bytes ws ks (as_kinds ts r)
taken_known bytes [] ts s r e =
    let same : s ≡ r = cc in
    (as_kinds ts r, subst (λ x. AllForget (as_kinds ts x) (as_kinds ts r)) (sym same) (forget_none (as_kinds ts r)), refl)
taken_known bytes (requirement.Value t ∷ ws) ts s r e =
    let x = taken_known bytes ws ts (below s) r e in
    (Any t ∷ x.0, (forget_any t (top s), x.1), (refl, x.2))
taken_known bytes (requirement.Constant t p ∷ ws) ts s r e =
    let y = constant_taken bytes t p (top s) (below s) (λ q. take_each bytes (map demand_of ws) q) r e in
    let x = taken_known bytes ws ts (below s) r y.1 in
    (kind_of t (top s) ∷ x.0, (forget_one (kind_of t (top s)), x.1), (y.0, x.2))

-- what the operands may be before a rule
abbrev Before : List ValType → List Operand → (List Kind → List Kind → Type 0) → List Kind → Type 0
Before from s rule later = (ks : List Kind) × AllForget (as_kinds from s) ks × Forgetting rule ks later

changes_known : (c : Context) (ws : List Requirement) (gs : List Kind) (taken given from mid : List ValType) (s r : List Operand) (later : List Kind) → map requirement_type ws ≡ taken → map kind_type gs ≡ given → valid.Changes taken given from mid → take_each (memory_bytes c.«module») (map demand_of ws) s ≡ Some r → AllForget (as_kinds mid (map operand_of gs ++ r)) later → Before from s (Changes c ws gs) later
changes_known c ws gs taken given from mid s r later w g h e l =
    let x = taken_known (memory_bytes c.«module») ws h.0 s r e in
    let before : from ≡ map requirement_type ws ++ h.0 = h.1 ∙ ap (λ ts. ts ++ h.0) (sym w) in
    let after : mid ≡ map kind_type gs ++ h.0 = h.2 ∙ ap (λ ts. ts ++ h.0) (sym g) in
    let all : as_kinds mid (map operand_of gs ++ r) ≡ gs ++ as_kinds h.0 r = ap (λ ts. as_kinds ts (map operand_of gs ++ r)) after ∙ given_kinds gs h.0 r in
    (x.0, subst (λ ts. AllForget (as_kinds ts s) x.0) (sym before) x.1, (gs ++ as_kinds h.0 r, (as_kinds h.0 r, x.2, refl), subst (λ ks. AllForget ks later) all l))

leaves_known : (c : Context) (ts below : List ValType) (from : List ValType) (s : List Operand) → from ≡ ts ++ below → (ks : List Kind) × AllForget (as_kinds from s) ks × Leaves c (map requirement.Value ts) ks
leaves_known c ts below from s e =
    let x = taken_known (memory_bytes c.«module») (map requirement.Value ts) below s (forget_each ts s) (values_taken (memory_bytes c.«module») ts s) in
    let before : from ≡ map requirement_type (map requirement.Value ts) ++ below = e ∙ ap (λ us. us ++ below) (sym (value_types ts)) in
    (x.0, subst (λ us. AllForget (as_kinds us s) x.0) (sym before) x.1, (as_kinds below (forget_each ts s), x.2))

-- ---- what is found

abbrev After : Option (List Operand) → (List Operand → Type 0) → Type 0
After None P = ⊥
After (Some r) P = P r

after_some : (o : Option (List Operand)) (r : List Operand) (P : List Operand → Type 0) → o ≡ Some r → P r → After o P
after_some o r P e h = subst (λ x. After x P) (sym e) h

given_after : (o : Option (List Operand)) (given : List Operand) (P : List Operand → Type 0) → After (option_and_then (λ r. Some (given ++ r)) o) P → (r : List Operand) × (o ≡ Some r) × P (given ++ r)
given_after None given P h = absurd h
given_after (Some r) given P h = (r, refl, h)

pub holds_some : {A : Type 0} (o : Option A) (p : A → Bool) → holds_then o p ≡ true → (a : A) × (o ≡ Some a) × (p a ≡ true)
holds_some None p e = absurd cc
holds_some (Some a) p e = (a, refl, e)

-- a change that is found
found_known : (c : Context) (ws : List Requirement) (gs : List Kind) (ds : List Demand) (taken given from mid : List ValType) (s : List Operand) (later : List Kind) → map requirement_type ws ≡ taken → map kind_type gs ≡ given → map demand_of ws ≡ ds → valid.Changes taken given from mid → After (change (memory_bytes c.«module») ds (map operand_of gs) s) (λ r. AllForget (as_kinds mid r) later) → Before from s (Changes c ws gs) later
found_known c ws gs ds taken given from mid s later w g d h a =
    let x = given_after (take_each (memory_bytes c.«module») ds s) (map operand_of gs) (λ r. AllForget (as_kinds mid r) later) a in
    changes_known c ws gs taken given from mid s x.0 later w g h (ap (λ us. take_each (memory_bytes c.«module») us s) d ∙ x.1) x.2

-- ---- instructions

abbrev Later : List ValType → List Kind → List Operand → Type 0
Later mid later r = AllForget (as_kinds mid r) later

numeric_sound : (w : Where) (labels : List (Option ValType)) (op : Numeric) (from mid : List ValType) (s : List Operand) (later : List Kind) → valid.PlainTyped (typing_of w labels) (plain.Numeric op) from mid → After (plain_step (setting_of w.asks w.«module») (plain.Numeric op) s) (Later mid later) → Before from s (PlainKnown (context_of w labels) (plain.Numeric op)) later
numeric_sound w labels (numeric.Eqz t) from mid s later h a =
    found_known (context_of w labels) (requirement.Value t ∷ []) (Any I32 ∷ []) (demand.Any ∷ []) (t ∷ []) (I32 ∷ []) from mid s later refl refl refl h a
numeric_sound w labels (numeric.Comparison t op) from mid s later h a =
    found_known (context_of w labels) (requirement.Value t ∷ requirement.Value t ∷ []) (Any I32 ∷ []) (demand.Any ∷ demand.Any ∷ []) (t ∷ t ∷ []) (I32 ∷ []) from mid s later refl refl refl h a
numeric_sound w labels (numeric.Unary t op) from mid s later h a =
    found_known (context_of w labels) (requirement.Value t ∷ []) (Any t ∷ []) (demand.Any ∷ []) (t ∷ []) (t ∷ []) from mid s later refl refl refl h a
numeric_sound w labels (numeric.Binary t op) from mid s later h a =
    found_known (context_of w labels) (requirement.Value t ∷ requirement.Value t ∷ []) (Any t ∷ []) (demand.Any ∷ demand.Any ∷ []) (t ∷ t ∷ []) (t ∷ []) from mid s later refl refl refl h a
numeric_sound w labels (numeric.Division t op) from mid s later h a =
    let b = asks_of w.asks (division_premise op) in
    found_known (context_of w labels) (known (context_of w labels) t (division_premise op) ∷ requirement.Value t ∷ []) (Any t ∷ []) (asked w.asks t (division_premise op) ∷ demand.Any ∷ []) (t ∷ t ∷ []) (t ∷ []) from mid s later (ap (λ u. u ∷ t ∷ []) (if_type b t (division_premise op))) refl (ap (λ d. d ∷ demand.Any ∷ []) (if_demand b t (division_premise op))) h a
numeric_sound w labels (numeric.Conversion op) from mid s later h a =
    found_known (context_of w labels) (requirement.Value (conversion_from op) ∷ []) (Any (conversion_to op) ∷ []) (demand.Any ∷ []) (conversion_from op ∷ []) (conversion_to op ∷ []) from mid s later refl refl refl h a

variable_sound : (w : Where) (labels : List (Option ValType)) (op : Variable) (from mid : List ValType) (s : List Operand) (later : List Kind) → valid.VariableTyped (typing_of w labels) op from mid → After (plain_step (setting_of w.asks w.«module») (plain.Variable op) s) (Later mid later) → Before from s (VariableKnown (context_of w labels) op) later
variable_sound w labels (variable.LocalGet x) from mid s later h a =
    let y = found_known (context_of w labels) [] (Any h.0 ∷ []) [] [] (h.0 ∷ []) from mid s later refl refl refl h.2 a in
    (y.0, y.1, (y.2.0, (h.0, h.1, y.2.1), y.2.2))
variable_sound w labels (variable.LocalSet x) from mid s later h a =
    let y = found_known (context_of w labels) (requirement.Value h.0 ∷ []) [] (demand.Any ∷ []) (h.0 ∷ []) [] from mid s later refl refl refl h.2 a in
    (y.0, y.1, (y.2.0, (h.0, h.1, y.2.1), y.2.2))
variable_sound w labels (variable.LocalTee x) from mid s later h a =
    let y = found_known (context_of w labels) (requirement.Value h.0 ∷ []) (Any h.0 ∷ []) (demand.Any ∷ []) (h.0 ∷ []) (h.0 ∷ []) from mid s later refl refl refl h.2 a in
    (y.0, y.1, (y.2.0, (h.0, h.1, y.2.1), y.2.2))
variable_sound w labels (variable.GlobalGet x) from mid s later h a =
    let y = found_known (context_of w labels) [] (Any h.0.value ∷ []) [] [] (h.0.value ∷ []) from mid s later refl refl refl h.2 a in
    (y.0, y.1, (y.2.0, (h.0, h.1, y.2.1), y.2.2))
variable_sound w labels (variable.GlobalSet x) from mid s later h a =
    let y = found_known (context_of w labels) (requirement.Value h.0.value ∷ []) [] (demand.Any ∷ []) (h.0.value ∷ []) [] from mid s later refl refl refl h.2.1 a in
    (y.0, y.1, (y.2.0, (h.0, h.1, (h.2.0, y.2.1)), y.2.2))

memory_sound : (w : Where) (labels : List (Option ValType)) (op : Memory) (from mid : List ValType) (s : List Operand) (later : List Kind) → valid.MemoryTyped (typing_of w labels) op from mid → After (plain_step (setting_of w.asks w.«module») (plain.Memory op) s) (Later mid later) → Before from s (MemoryKnown (context_of w labels) op) later
memory_sound w labels (memory.Load op argument) from mid s later h a =
    let p = Reaches argument.offset (load_width op) in
    let b = asks_of w.asks p in
    let y = found_known (context_of w labels) (known (context_of w labels) I32 p ∷ []) (Any (load_type op) ∷ []) (asked w.asks I32 p ∷ []) (I32 ∷ []) (load_type op ∷ []) from mid s later (ap (λ u. u ∷ []) (if_type b I32 p)) refl (ap (λ d. d ∷ []) (if_demand b I32 p)) h.1.1 a in
    (y.0, y.1, (y.2.0, (h.0, (h.1.0, y.2.1)), y.2.2))
memory_sound w labels (memory.Store op argument) from mid s later h a =
    let p = Reaches argument.offset (store_width op) in
    let b = asks_of w.asks p in
    let y = found_known (context_of w labels) (requirement.Value (store_type op) ∷ known (context_of w labels) I32 p ∷ []) [] (demand.Any ∷ asked w.asks I32 p ∷ []) (store_type op ∷ I32 ∷ []) [] from mid s later (ap (λ u. store_type op ∷ u ∷ []) (if_type b I32 p)) refl (ap (λ d. demand.Any ∷ d ∷ []) (if_demand b I32 p)) h.1.1 a in
    (y.0, y.1, (y.2.0, (h.0, (h.1.0, y.2.1)), y.2.2))
memory_sound w labels memory.Size from mid s later h a =
    let y = found_known (context_of w labels) [] (Any I32 ∷ []) [] [] (I32 ∷ []) from mid s later refl refl refl h.1 a in
    (y.0, y.1, (y.2.0, (h.0, y.2.1), y.2.2))
memory_sound w labels memory.Grow from mid s later h a =
    let y = found_known (context_of w labels) (requirement.Value I32 ∷ []) (Any I32 ∷ []) (demand.Any ∷ []) (I32 ∷ []) (I32 ∷ []) from mid s later refl refl refl h.1 a in
    (y.0, y.1, (y.2.0, (h.0, y.2.1), y.2.2))

plain_sound : (w : Where) (labels : List (Option ValType)) (p : Plain) (from mid : List ValType) (s : List Operand) (later : List Kind) → valid.PlainTyped (typing_of w labels) p from mid → After (plain_step (setting_of w.asks w.«module») p s) (Later mid later) → Before from s (PlainKnown (context_of w labels) p) later
plain_sound w labels plain.Nop from mid s later h a =
    found_known (context_of w labels) [] [] [] [] [] from mid s later refl refl refl h a
plain_sound w labels plain.Drop from mid s later h a =
    let y = found_known (context_of w labels) (requirement.Value h.0 ∷ []) [] (demand.Any ∷ []) (h.0 ∷ []) [] from mid s later refl refl refl h.1 a in
    (y.0, y.1, (y.2.0, (h.0, y.2.1), y.2.2))
plain_sound w labels plain.Select from mid s later h a =
    let t = h.0 in
    let y = found_known (context_of w labels) (requirement.Value I32 ∷ requirement.Value t ∷ requirement.Value t ∷ []) (Any t ∷ []) (demand.Any ∷ demand.Any ∷ demand.Any ∷ []) (I32 ∷ t ∷ t ∷ []) (t ∷ []) from mid s later refl refl refl h.1 a in
    (y.0, y.1, (y.2.0, (t, y.2.1), y.2.2))
plain_sound w labels (plain.Const (value.I32 n)) from mid s later h a =
    found_known (context_of w labels) [] (Is I32 n ∷ []) [] [] (I32 ∷ []) from mid s later refl refl refl h a
plain_sound w labels (plain.Const (value.I64 n)) from mid s later h a =
    found_known (context_of w labels) [] (Is I64 n ∷ []) [] [] (I64 ∷ []) from mid s later refl refl refl h a
plain_sound w labels (plain.Numeric op) from mid s later h a = numeric_sound w labels op from mid s later h a
plain_sound w labels (plain.Variable op) from mid s later h a = variable_sound w labels op from mid s later h a
plain_sound w labels (plain.Memory op) from mid s later h a = memory_sound w labels op from mid s later h a

-- ---- branches

labels_take : (w : Where) (labels : List (Option ValType)) (t : Option ValType) (ls : List ℕ) → valid.LabelsTake (typing_of w labels) t ls → AllByRecursion (LabelTakes (context_of w labels) t) ls
labels_take w labels t [] h = tt
labels_take w labels t (l ∷ ls) h = (h.0, labels_take w labels t ls h.1)

leaves_result : (c : Context) (before : List ValType) (t : Option ValType) (from : List ValType) (s : List Operand) → valid.Leaves (before ++ valid.operands_of t) from → (ks : List Kind) × AllForget (as_kinds from s) ks × Leaves c (map requirement.Value before ++ requirements t) ks
leaves_result c before None from s h =
    let x = leaves_known c (before ++ []) h.0 from s h.1 in
    (x.0, x.1, subst (λ ws. Leaves c ws x.0) (map-append requirement.Value before []) x.2)
leaves_result c before (Some t) from s h =
    let x = leaves_known c (before ++ t ∷ []) h.0 from s h.1 in
    (x.0, x.1, subst (λ ws. Leaves c ws x.0) (map-append requirement.Value before (t ∷ [])) x.2)

branch_if_sound : (w : Where) (labels : List (Option ValType)) (t : Option ValType) (from mid : List ValType) (s : List Operand) (later : List Kind) → valid.Changes (I32 ∷ valid.operands_of t) (valid.operands_of t) from mid → Later mid later (unknowns t ++ forget_result t (below s)) → Before from s (Changes (context_of w labels) (requirement.Value I32 ∷ requirements t) (kinds t)) later
branch_if_sound w labels None from mid s later h a =
    found_known (context_of w labels) (requirement.Value I32 ∷ []) [] (demand.Any ∷ []) (I32 ∷ []) [] from mid s later refl refl refl h a
branch_if_sound w labels (Some t) from mid s later h a =
    found_known (context_of w labels) (requirement.Value I32 ∷ requirement.Value t ∷ []) (Any t ∷ []) (demand.Any ∷ demand.Any ∷ []) (I32 ∷ t ∷ []) (t ∷ []) from mid s later refl refl refl h a

branch_sound : (w : Where) (labels : List (Option ValType)) (b : Branch) (from mid : List ValType) (s : List Operand) (later : List Kind) → valid.BranchTyped (typing_of w labels) b from mid → After (branch_step labels b s) (Later mid later) → Before from s (BranchKnown (context_of w labels) b) later
branch_sound w labels (branch.Br l) from mid s later h a =
    let x = leaves_result (context_of w labels) [] h.0 from s h.2 in
    (x.0, x.1, (later, (h.0, h.1, x.2), forget_none later))
branch_sound w labels (branch.BrIf l) from mid s later h a =
    let found = subst (λ (o : Option (Option ValType)). After (option_and_then (λ (u : Option ValType). Some (unknowns u ++ forget_result u (below s))) o) (Later mid later)) h.1 a in
    let y = branch_if_sound w labels h.0 from mid s later h.2 found in
    (y.0, y.1, (y.2.0, (h.0, h.1, y.2.1), y.2.2))
branch_sound w labels (branch.BrTable ls l) from mid s later h a =
    let x = leaves_result (context_of w labels) (I32 ∷ []) h.0 from s h.2.1 in
    (x.0, x.1, (later, (h.0, h.1, (labels_take w labels h.0 ls h.2.0, x.2)), forget_none later))
branch_sound w labels branch.Return from mid s later h a =
    let x = leaves_result (context_of w labels) [] w.outcome from s h in
    (x.0, x.1, (later, x.2, forget_none later))

-- ---- calls

-- what an import is by its name
abbrev named : Import → Option HostCall
named i = call_named i.«module» i.name

one_import : (g : Import → Option HostCall) (d : ImportDescription) (i : Import) (rest : List (Option HostCall)) (others : List Import) → rest ≡ map g others → cons_option (option_map (λ n. g i) (function_import d)) rest ≡ map g (cond (is_function_description d) (i ∷ others) others)
one_import g (import.Function n) i rest others e = ap (λ (r : List (Option HostCall)). g i ∷ r) e
one_import g (import.Table t) i rest others e = e
one_import g (import.Memory t) i rest others e = e
one_import g (import.Global t) i rest others e = e

calls_of_imports : (is : List Import) → filter_map imported_call is ≡ map named (filter is_function is)
unfolding imported_call
calls_of_imports [] = refl
calls_of_imports (i ∷ is) =
    one_import named i.description i (filter_map imported_call is) (filter is_function is) (calls_of_imports is)

call_of_option : (o : Option Import) → option_and_then (λ h. h) (option_map named o) ≡ option_and_then named o
call_of_option None = refl
call_of_option (Some i) = refl

pub same_host : (a : Asks) (m : Module) (f : ℕ) → host_called (setting_of a m) f ≡ host_call_at m f
same_host a m f =
    let listed : host_called (setting_of a m) f ≡ option_and_then (λ h. h) (slice_get (map named (filter is_function m.imports)) f) = ap (λ (cs : List (Option HostCall)). option_and_then (λ h. h) (slice_get cs f)) (calls_of_imports m.imports) in
    let each : option_and_then (λ h. h) (slice_get (map named (filter is_function m.imports)) f) ≡ option_and_then (λ h. h) (option_map named (slice_get (filter is_function m.imports) f)) = ap (λ (o : Option (Option HostCall)). option_and_then (λ h. h) o) (slice_get-map named (filter is_function m.imports) f) in
    listed ∙ (each ∙ call_of_option (slice_get (filter is_function m.imports) f))

result_types : (u : Option ValType) → map kind_type (kinds u) ≡ valid.operands_of u
result_types None = refl
result_types (Some t) = refl

-- values of these types are taken, the topmost first, and a result is given
values_known : (c : Context) (ts : List ValType) (u : Option ValType) (from mid : List ValType) (s : List Operand) (later : List Kind) → valid.Changes ts (valid.operands_of u) from mid → Later mid later (unknowns u ++ forget_each ts s) → Before from s (Changes c (map requirement.Value ts) (kinds u)) later
values_known c ts u from mid s later h l =
    changes_known c (map requirement.Value ts) (kinds u) ts (valid.operands_of u) from mid s (forget_each ts s) later (value_types ts) (result_types u) h (values_taken (memory_bytes c.«module») ts s) (subst (λ (os : List Operand). Later mid later (os ++ forget_each ts s)) (sym (kinds_unknown u)) l)

slot_types : (w : Where) (labels : List (Option ValType)) (slot : ValType) (others : List ValType) → map requirement_type (parameter_requirements (context_of w labels) true (slot ∷ others)) ≡ reverse (slot ∷ others)
slot_types w labels slot others =
    let last = known (context_of w labels) slot IsSlot in
    let apart : map requirement_type (map requirement.Value (reverse others) ++ last ∷ []) ≡ map requirement_type (map requirement.Value (reverse others)) ++ requirement_type last ∷ [] = map-append requirement_type (map requirement.Value (reverse others)) (last ∷ []) in
    let first : map requirement_type (map requirement.Value (reverse others)) ++ requirement_type last ∷ [] ≡ reverse others ++ requirement_type last ∷ [] = ap (λ us. us ++ requirement_type last ∷ []) (value_types (reverse others)) in
    let second : reverse others ++ requirement_type last ∷ [] ≡ reverse others ++ slot ∷ [] = ap (λ u. reverse others ++ u ∷ []) (if_type (asks_of w.asks IsSlot) slot IsSlot) in
    let turned : reverse (slot ∷ others) ≡ reverse others ++ slot ∷ [] = reverse-append (slot ∷ []) others in
    apart ∙ (first ∙ (second ∙ sym turned))

last_alone : (o : Option (List Operand)) → option_and_then (λ q. Some q) o ≡ o
last_alone None = refl
last_alone (Some q) = refl

pub slot_taken : (w : Where) (labels : List (Option ValType)) (slot : ValType) (others : List ValType) (s : List Operand) → take_each (memory_bytes w.«module») (map demand_of (parameter_requirements (context_of w labels) true (slot ∷ others))) s ≡ take_one (memory_bytes w.«module») (asked w.asks slot IsSlot) (forget_each others s)
slot_taken w labels slot others s =
    let bytes = memory_bytes w.«module» in
    let last = known (context_of w labels) slot IsSlot in
    let one = asked w.asks slot IsSlot in
    let front : take_each bytes (map demand_of (map requirement.Value (reverse others) ++ last ∷ [])) s ≡ take_each bytes (demand_of last ∷ []) (forget_each (reverse others) s) = values_then bytes (reverse others) (last ∷ []) s in
    let same : take_each bytes (demand_of last ∷ []) (forget_each (reverse others) s) ≡ take_each bytes (one ∷ []) (forget_each (reverse others) s) = ap (λ d. take_each bytes (d ∷ []) (forget_each (reverse others) s)) (if_demand (asks_of w.asks IsSlot) slot IsSlot) in
    let turned : take_each bytes (one ∷ []) (forget_each (reverse others) s) ≡ take_each bytes (one ∷ []) (forget_each others s) = ap (λ q. take_each bytes (one ∷ []) q) (either_way others s) in
    front ∙ (same ∙ (turned ∙ last_alone (take_one bytes one (forget_each others s))))

slot_known : (w : Where) (labels : List (Option ValType)) (slot : ValType) (others : List ValType) (u : Option ValType) (from mid : List ValType) (s r : List Operand) (later : List Kind) → valid.Changes (reverse (slot ∷ others)) (valid.operands_of u) from mid → take_one (memory_bytes w.«module») (asked w.asks slot IsSlot) (forget_each others s) ≡ Some r → Later mid later (unknowns u ++ r) → Before from s (Changes (context_of w labels) (parameter_requirements (context_of w labels) true (slot ∷ others)) (kinds u)) later
slot_known w labels slot others u from mid s r later h e l =
    changes_known (context_of w labels) (parameter_requirements (context_of w labels) true (slot ∷ others)) (kinds u) (reverse (slot ∷ others)) (valid.operands_of u) from mid s r later (slot_types w labels slot others) (result_types u) h (slot_taken w labels slot others s ∙ e) (subst (λ (os : List Operand). Later mid later (os ++ r)) (sym (kinds_unknown u)) l)

some_same : {A : Type 0} {a b : A} → Some a ≡ Some b → a ≡ b
some_same e = cc

parameters_sound : (w : Where) (labels : List (Option ValType)) (b : Bool) (ps : List ValType) (u : Option ValType) (from mid : List ValType) (s r : List Operand) (later : List Kind) → valid.Changes (reverse ps) (valid.operands_of u) from mid → take_parameters (setting_of w.asks w.«module») b ps s ≡ Some r → Later mid later (unknowns u ++ r) → Before from s (Changes (context_of w labels) (parameter_requirements (context_of w labels) b ps) (kinds u)) later
parameters_sound w labels false ps u from mid s r later h e l =
    let same : forget_each (reverse ps) s ≡ r = either_way ps s ∙ some_same e in
    values_known (context_of w labels) (reverse ps) u from mid s later h (subst (λ (q : List Operand). Later mid later (unknowns u ++ q)) (sym same) l)
parameters_sound w labels true [] u from mid s r later h e l =
    let same : s ≡ r = some_same e in
    values_known (context_of w labels) [] u from mid s later h (subst (λ (q : List Operand). Later mid later (unknowns u ++ q)) (sym same) l)
parameters_sound w labels true (slot ∷ others) u from mid s r later h e l = slot_known w labels slot others u from mid s r later h e l

call_sound : (w : Where) (labels : List (Option ValType)) (f : ℕ) (from mid : List ValType) (s : List Operand) (later : List Kind) → valid.CallTyped (typing_of w labels) f from mid → After (call_step (setting_of w.asks w.«module») f s) (Later mid later) → Before from s (CallKnown (context_of w labels) f) later
call_sound w labels f from mid s later h a =
    let t = h.0 in
    let found = subst (λ (o : Option FuncType). After (option_and_then (λ (u : FuncType). option_and_then (λ (r : List Operand). Some (unknowns (first_type u.results) ++ r)) (take_parameters (setting_of w.asks w.«module») (takes_slot (host_called (setting_of w.asks w.«module») f)) u.parameters s)) o) (Later mid later)) h.1 a in
    let hosted = subst (λ (c : Option HostCall). After (option_and_then (λ (r : List Operand). Some (unknowns (first_type t.results) ++ r)) (take_parameters (setting_of w.asks w.«module») (takes_slot c) t.parameters s)) (Later mid later)) (same_host w.asks w.«module» f) found in
    let x = given_after (take_parameters (setting_of w.asks w.«module») (takes_slot (host_call_at w.«module» f)) t.parameters s) (unknowns (first_type t.results)) (Later mid later) hosted in
    let y = parameters_sound w labels (takes_slot (host_call_at w.«module» f)) t.parameters (first_type t.results) from mid s x.0 later h.2 x.1 x.2 in
    (y.0, y.1, (y.2.0, (t, h.1, y.2.1), y.2.2))

call_indirect_sound : (w : Where) (labels : List (Option ValType)) (n : ℕ) (from mid : List ValType) (s : List Operand) (later : List Kind) → valid.CallIndirectTyped (typing_of w labels) n from mid → After (call_indirect_step (setting_of w.asks w.«module») n s) (Later mid later) → Before from s (CallIndirectKnown (context_of w labels) n) later
call_indirect_sound w labels n from mid s later h a =
    let t = h.0 in
    let found = subst (λ (o : Option FuncType). After (option_and_then (λ (u : FuncType). Some (unknowns (first_type u.results) ++ forget_each u.parameters (below s))) o) (Later mid later)) h.1 a in
    let turned = subst (λ (q : List Operand). Later mid later (unknowns (first_type t.results) ++ q)) (sym (either_way t.parameters (below s))) found in
    let y = values_known (context_of w labels) (I32 ∷ reverse t.parameters) (first_type t.results) from mid s later h.2.1 turned in
    (y.0, y.1, (y.2.0, (t, h.1, (h.2.0, y.2.1)), y.2.2))

-- ---- code

any_result : (u : Option ValType) → map Any (valid.operands_of u) ≡ kinds u
any_result None = refl
any_result (Some t) = refl

-- a rule, and the code after it
abbrev Reached : List ValType → List Operand → (List Kind → Type 0) → Type 0
Reached from s rule = (ks : List Kind) × AllForget (as_kinds from s) ks × rule ks

-- code that begins with no operands
pub inside_known : (body : Code) (c : Context) (u : Option ValType) → Reached [] [] (λ ks. Known body c ks (map Any (valid.operands_of u))) → Known body c [] (kinds u)
inside_known body c u x =
    subst (λ to. Known body c [] to) (any_result u) (subst (λ ks. Known body c ks (map Any (valid.operands_of u))) (nothing_forgets x.0 x.1) x.2)

pub sound : (code : Code) (w : Where) (labels : List (Option ValType)) (from to : List ValType) (s : List Operand) → valid.Typed code (typing_of w labels) from to → check code (setting_of w.asks w.«module») labels s ≡ true → Reached from s (λ ks. Known code (context_of w labels) ks (map Any to))
sound code.end w labels from to s h e =
    (map Any to, subst (λ ts. AllForget (as_kinds ts s) (map Any to)) (sym h) (forget_all to s), refl)
sound (code.plain p rest) w labels from to s h e =
    let a = holds_some (plain_step (setting_of w.asks w.«module») p s) (λ r. check rest (setting_of w.asks w.«module») labels r) e in
    let r = sound rest w labels h.0 to a.0 h.2 a.2 in
    let y = plain_sound w labels p from h.0 s r.0 h.1 (after_some (plain_step (setting_of w.asks w.«module») p s) a.0 (Later h.0 r.0) a.1 r.1) in
    (y.0, y.1, (r.0, y.2, r.2))
sound (code.branch b rest) w labels from to s h e =
    let a = holds_some (branch_step labels b s) (λ r. check rest (setting_of w.asks w.«module») labels r) e in
    let r = sound rest w labels h.0 to a.0 h.2 a.2 in
    let y = branch_sound w labels b from h.0 s r.0 h.1 (after_some (branch_step labels b s) a.0 (Later h.0 r.0) a.1 r.1) in
    (y.0, y.1, (r.0, y.2, r.2))
sound (code.call f rest) w labels from to s h e =
    let a = holds_some (call_step (setting_of w.asks w.«module») f s) (λ r. check rest (setting_of w.asks w.«module») labels r) e in
    let r = sound rest w labels h.0 to a.0 h.2 a.2 in
    let y = call_sound w labels f from h.0 s r.0 h.1 (after_some (call_step (setting_of w.asks w.«module») f s) a.0 (Later h.0 r.0) a.1 r.1) in
    (y.0, y.1, (r.0, y.2, r.2))
sound (code.call_indirect n rest) w labels from to s h e =
    let a = holds_some (call_indirect_step (setting_of w.asks w.«module») n s) (λ r. check rest (setting_of w.asks w.«module») labels r) e in
    let r = sound rest w labels h.0 to a.0 h.2 a.2 in
    let y = call_indirect_sound w labels n from h.0 s r.0 h.1 (after_some (call_indirect_step (setting_of w.asks w.«module») n s) a.0 (Later h.0 r.0) a.1 r.1) in
    (y.0, y.1, (r.0, y.2, r.2))
sound (code.unreachable rest) w labels from to s h e =
    let r = sound rest w labels h.0 to s h.2 e in
    (as_kinds from s, forget_none (as_kinds from s), (r.0, r.2))
sound (code.block u body rest) w labels from to s h e =
    let both = both_to (check body (setting_of w.asks w.«module») (u ∷ labels) []) (check rest (setting_of w.asks w.«module») labels (unknowns u ++ s)) e in
    let b = inside_known body (context_of w (u ∷ labels)) u (sound body w (u ∷ labels) [] (valid.operands_of u) [] h.1 both.0) in
    let r = sound rest w labels h.0 to (unknowns u ++ s) h.3 both.1 in
    let y = values_known (context_of w labels) [] u from h.0 s r.0 h.2 r.1 in
    (y.0, y.1, (r.0, b, y.2, r.2))
sound (code.loop u body rest) w labels from to s h e =
    let both = both_to (check body (setting_of w.asks w.«module») (None ∷ labels) []) (check rest (setting_of w.asks w.«module») labels (unknowns u ++ s)) e in
    let b = inside_known body (context_of w (None ∷ labels)) u (sound body w (None ∷ labels) [] (valid.operands_of u) [] h.1 both.0) in
    let r = sound rest w labels h.0 to (unknowns u ++ s) h.3 both.1 in
    let y = values_known (context_of w labels) [] u from h.0 s r.0 h.2 r.1 in
    (y.0, y.1, (r.0, b, y.2, r.2))
sound (code.choice u body other rest) w labels from to s h e =
    let first = both_to (check body (setting_of w.asks w.«module») (u ∷ labels) []) (check other (setting_of w.asks w.«module») (u ∷ labels) [] && check rest (setting_of w.asks w.«module») labels (unknowns u ++ below s)) e in
    let both = both_to (check other (setting_of w.asks w.«module») (u ∷ labels) []) (check rest (setting_of w.asks w.«module») labels (unknowns u ++ below s)) first.1 in
    let b = inside_known body (context_of w (u ∷ labels)) u (sound body w (u ∷ labels) [] (valid.operands_of u) [] h.1 first.0) in
    let d = inside_known other (context_of w (u ∷ labels)) u (sound other w (u ∷ labels) [] (valid.operands_of u) [] h.2 both.0) in
    let r = sound rest w labels h.0 to (unknowns u ++ below s) h.4 both.1 in
    let y = values_known (context_of w labels) (I32 ∷ []) u from h.0 s r.0 h.3 r.1 in
    (y.0, y.1, (r.0, b, d, y.2, r.2))
