-- The induction over code: each code reaches an exit.
use Rattle.std.proofs.Common.{◌≡◌, ℕ, suc, ◌+◌, ◌-◌, ◌≤◌, ◌<◌, ◌⊎◌, inl, inr, List, [], ◌∷◌, ◌++◌, length, Option, None, refl, sym, ap, ◌∙◌, subst, arith}
use Rattle.std.specs.List.{AllByRecursion}
use Rattle.wasm_ast.specs.declared.types.ValType.{ValType}
use Rattle.wasm_ast.specs.declared.types.ValType.TheVariants as val_type
use Rattle.wasm_ast.specs.declared.types.FuncType.{FuncType}
use Rattle.wasm_ast.specs.declared.types.Value.TheVariants.{I32}
use Rattle.wasm_ast.specs.declared.numeric.Numeric.TheVariants as numeric
use Rattle.wasm_ast.specs.declared.plain.Plain.{Plain}
use Rattle.wasm_ast.specs.declared.plain.Plain.TheVariants as plain
use Rattle.wasm_ast.specs.declared.plain.Branch.{Branch}
use Rattle.wasm_ast.specs.declared.plain.Branch.TheVariants as branch
use Rattle.wasm_ast.specs.declared.module.Module.{Module}
use Rattle.wasm_ast.specs.declared.body.Instr.TheVariants as instr
use Rattle.wasm_ast.specs.Code.{Code}
use Rattle.wasm_ast.specs.Code as code
use Rattle.verified.specs.Spaces.{first_type}
use Rattle.verified.specs.Weights.{plain_units, branch_units, call_units, units_of}
use Rattle.verified.specs.LeastUnits.{plain_least, units_least}
use Rattle.verified.specs.Sizes.{code_size}
use Rattle.verified.specs.declared.requirements.Requirement.TheVariants as requirement
use Rattle.verified.specs.Kinds.{Kind, kinds, requirements}
use Rattle.verified.specs.Memory.{memory_bytes}
use Rattle.semantics.specs.Effects.{effect}
use Rattle.verified.specs.Hosts.{IsHostImport, host_call_at}
use Rattle.verified.specs.Known.{Known, Forgetting, PlainKnown, BranchKnown, CallKnown, Changes}
use Rattle.verified.specs.Shapes.{NotGrow, TakesItem, BranchNamesNot, NamesNot}
use Rattle.semantics.specs.Configuration.{tick}
use Rattle.semantics.specs.Machine.{Label, Running, has_result}
use Rattle.verified.specs.Modules.{TypeHolds}
use Rattle.verified.specs.Arities.{plain_arity, call_arity, result_count}
use Rattle.verified.specs.Heights.{peak}
use Rattle.semantics.proofs.Values.{HasKinds, kinds_length, forget_all, forget_length, meet_length}
use Rattle.semantics.proofs.Sound.{ticked, given_forget, items_left}
use Rattle.semantics.proofs.Plains.{context, plain_given}
use Rattle.semantics.proofs.Callees.{IsHostFunction, IsDefinedFunction, function_at}
use Rattle.semantics.proofs.Lengths.{changes_length, plain_length, kinds_count, requirements_count, low_from, call_counts, call_results}
use Rattle.semantics.proofs.Reach.{Falls, Named, Reaches, GoodCode, GoodStep, below_one, larger, after_step, block}
use Rattle.semantics.proofs.Calling.{inside}
use Rattle.semantics.proofs.Loops.{GoodTurn, turns}
use Rattle.semantics.proofs.Opening.{opening, opened, call_kinds, eqz_kinds, branch_kinds}
use Rattle.semantics.proofs.Closing.{GoodClosing, closing, closed, before, elsewhere, item_pushed}
use Rattle.semantics.proofs.Codes.{item_tested, acts, forgets, br_good, br_if_good, table_good, return_good, choice_good}
use Rattle.semantics.proofs.Entering.{call_good, call_length, host_changes}
use Rattle.semantics.proofs.Covering.{Covered, TouchesFrom}

-- the instructions that a loop's body begins with
pub record Begins (m : Module) (f : ℕ) (p : Plain) (b : Branch) : Type 0 where
  pub label : ℕ
  pub tests : p ≡ plain.Numeric (numeric.Eqz val_type.I32)
  pub leaves : b ≡ branch.BrIf (suc label)
  pub takes : TakesItem (host_call_at m f)

abbrev pub Opens : Module → Code → Type 0
Opens m (code.call f (code.plain p (code.branch b rest))) = Begins m f p b
Opens m _ = ⊥

-- the code after a call is the end of a turn, and the call takes an item
pub record Ends (m : Module) (f : ℕ) (rest : Code) : Type 0 where
  pub goes_back : rest ≡ code.branch (branch.BrIf 0) code.end
  pub takes : TakesItem (host_call_at m f)

-- the code takes an item at its end, and nothing before that names the innermost label
abbrev pub Closes : Module → Code → Type 0
Closes m code.end = ⊥
Closes m (code.plain p rest) = Closes m rest
Closes m (code.branch b rest) = BranchNamesNot 0 b × Closes m rest
Closes m (code.call f rest) = Ends m f rest ⊎ Closes m rest
Closes m (code.call_indirect t rest) = Closes m rest
Closes m (code.unreachable rest) = Closes m rest
Closes m (code.block t body rest) = NamesNot 1 body × Closes m rest
Closes m (code.loop t body rest) = NamesNot 1 body × Closes m rest
Closes m (code.choice t body other rest) = NamesNot 1 body × NamesNot 1 other × Closes m rest

-- Nothing in the code grows the memory, calls by the table or is unreachable; each loop takes an item each time round, and
-- calls go to functions of lower rank.
abbrev pub Fair : Module → (ℕ → ℕ) → ℕ → Code → Type 0
Fair m rank r code.end = Unit {0}
Fair m rank r (code.plain p rest) = NotGrow (code.plain p code.end) × Fair m rank r rest
Fair m rank r (code.branch b rest) = Fair m rank r rest
Fair m rank r (code.call f rest) = (rank f < r) × Fair m rank r rest
Fair m rank r (code.call_indirect t rest) = ⊥
Fair m rank r (code.unreachable rest) = ⊥
Fair m rank r (code.block t body rest) = Fair m rank r body × Fair m rank r rest
Fair m rank r (code.loop t body rest) = (Opens m body ⊎ Closes m body) × Fair m rank r body × Fair m rank r rest
Fair m rank r (code.choice t body other rest) = Fair m rank r body × Fair m rank r other × Fair m rank r rest

module _ (m : Module) (imports : AllByRecursion (IsHostImport m) m.imports) (types : AllByRecursion TypeHolds m.types) (H F : ℕ) (R : ℕ → ℕ → Type 0) (sizes hs depths : ℕ → ℕ) (lo : List ValType) (o : Option ValType) where
  module _ (r : ℕ) (one : 1 ≤ r) (calls : (f : ℕ) (t : FuncType) → depths f < r → (g : IsDefinedFunction m f t) → (1 ≤ depths f) × GoodCode m H F R (inside m (t.parameters ++ g.function.locals) (first_type t.results)) (sizes f) (hs f) (depths f) g.function.body [] (kinds (first_type t.results))) where
    abbrev Good : Code → List (Option ValType) → List Kind → List Kind → Type 0
    Good is labels from to = GoodCode m H F R (context m lo o labels) (code_size m sizes is) (peak m hs is (length from)) r is from to

    -- a code is good for the operands that are left without what is forgotten
    counted : (is : Code) (labels : List (Option ValType)) (n : ℕ) (mid to : List Kind) → length mid ≡ n → Good is labels mid to → GoodCode m H F R (context m lo o labels) (code_size m sizes is) (peak m hs is n) r is mid to
    counted is labels n mid to e g = subst (λ (k : ℕ). GoodCode m H F R (context m lo o labels) (code_size m sizes is) (peak m hs is k) r is mid to) e g

    -- ---- loops

    -- a turn of a loop that opens so, where what comes after the opening is good
    turn_from : (labels : List (Option ValType)) (f l : ℕ) (rest : Code) (to : List Kind) → TakesItem (host_call_at m f) → ((mid : List Kind) (k : Known rest (context m lo o labels) mid to) → Covered R rest (context m lo o labels) mid to k → Good rest labels mid to) → (i : Known (opening f (suc l) rest) (context m lo o labels) [] to) → Covered R (opening f (suc l) rest) (context m lo o labels) [] to i → GoodTurn m H F R (context m lo o labels) (code_size m sizes (opening f (suc l) rest)) (peak m hs (opening f (suc l) rest) 0) r (opening f (suc l) rest) to
    turn_from labels f l rest to item good i a =
        let t = i.1.1.0 in
        let e = i.1.1.1 in
        elim (function_at m imports f t e) [ inl g ↦ by_host g | inr g ↦ absurd (subst TakesItem g.unnamed item) ]
      where
        by_host : IsHostFunction m f i.1.1.0 → GoodTurn m H F R (context m lo o labels) (code_size m sizes (opening f (suc l) rest)) (peak m hs (opening f (suc l) rest) 0) r (opening f (suc l) rest) to
        by_host g =
            let t = i.1.1.0 in
            let e = i.1.1.1 in
            let takes = subst TakesItem g.named item in
            let i2 = i.2 in
            let i3 = i2.2 in
            let k1 = forget_all (I32 0 ∷ []) i.1.0 i.0 i.1.2 (call_kinds m lo o labels g.call takes i.1.0 (host_changes m H F R lo o labels f t g [] i.1.0 i.1.1.2) 0) in
            let k2 = forget_all (I32 0 ∷ []) i2.1.0 i2.0 i2.1.2 (eqz_kinds m lo o labels i.0 i2.1.0 i2.1.1 0 0 k1) in
            let b = branch_kinds m lo o labels i3.1.1.0 i2.0 i3.1.0 i3.1.1.2 0 k2 in
            let k3 = forget_all [] i3.1.0 i3.0 i3.1.2 b.1 in
            let takes_is = call_counts m f t e types in
            let gives_is = call_results m f t e types in
            let l1 = call_length m H F R lo o labels f t (inl g) [] i.1.0 i.1.1.2 in
            let a1 = forget_length i.1.0 i.0 i.1.2 in
            let n1 = kinds_length (I32 0 ∷ []) i.0 k1 in
            let n3 = kinds_length [] i3.0 k3 in
            let first = 0 - (call_arity m f).takes + (call_arity m f).gives in
            let at_first : first ≡ 1 = omega (arith, takes_is, gives_is, l1, a1, n1) in
            let least = low_from m hs (code.plain (plain.Numeric (numeric.Eqz val_type.I32)) (code.branch (branch.BrIf (suc l)) rest)) first in
            let third : length i3.0 ≡ first - 1 + 1 - 1 + 0 = omega (arith, at_first, n3) in
            opened m H F R (context m lo o labels) f l rest g.call takes g.called i3.1.1.0 i3.1.1.1 b.0 i3.0 to k3 (code_size m sizes rest) (peak m hs rest (first - 1 + 1 - 1 + 0)) r (code_size m sizes (opening f (suc l) rest)) (peak m hs (opening f (suc l) rest) 0)
            (counted rest labels (first - 1 + 1 - 1 + 0) i3.0 to third (good i3.0 i3.2 a.1)) (omega arith) (omega (arith, least, at_first)) (omega arith) one

    -- ---- instructions

    -- an instruction after which there are this many operands
    abbrev Step : List (Option ValType) → (first : Code) → (u : ℕ) → (whole rest : Code) → (from mid : List Kind) → (after : ℕ) → Type 0
    Step labels first u whole rest from mid after =
        (length mid ≡ after) × GoodStep m H F R (context m lo o labels) (Named first) u (peak m hs whole (length from)) r whole rest from mid

    -- an instruction, and then code that is good
    then_good : (labels : List (Option ValType)) (first : Code) (u : ℕ) (whole rest : Code) (from mid to : List Kind) (after : ℕ) → ((l : ℕ) → Named first l → Named whole l) → ((l : ℕ) → Named rest l → Named whole l) → peak m hs rest after ≤ peak m hs whole (length from) → Step labels first u whole rest from mid after → Good rest labels mid to → GoodCode m H F R (context m lo o labels) (u + code_size m sizes rest) (peak m hs whole (length from)) r whole from to
    then_good labels first u whole rest from mid to after up1 up2 less step good =
        after_step m H F R (context m lo o labels) (Named first) u (code_size m sizes rest) (peak m hs whole (length from)) (peak m hs rest after) r whole rest from mid to up1 up2 less step.1 (counted rest labels after mid to step.0 good)

    abbrev Closing : Code → List (Option ValType) → List Kind → List Kind → Type 0
    Closing is labels from to = GoodClosing m H F R (context m lo o labels) (code_size m sizes is) (peak m hs is (length from)) r is from to

    -- an instruction that does not go to the loop, and then code that closes it
    then_closes : (labels : List (Option ValType)) (first : Code) (u : ℕ) (whole rest : Code) (from mid to : List Kind) (after : ℕ) → NamesNot 0 first → ((l : ℕ) → Named first l → Named whole l) → ((l : ℕ) → Named rest l → Named whole l) → peak m hs rest after ≤ peak m hs whole (length from) → Step labels first u whole rest from mid after → Closing rest labels mid to → GoodClosing m H F R (context m lo o labels) (u + code_size m sizes rest) (peak m hs whole (length from)) r whole from to
    then_closes labels first u whole rest from mid to after none up1 up2 less step good =
        before m H F R (context m lo o labels) (Named first) (λ k. k none) u (code_size m sizes rest) (peak m hs whole (length from)) (peak m hs rest after) r whole rest from mid to up1 up2 less (subst (λ (k : ℕ). GoodClosing m H F R (context m lo o labels) (code_size m sizes rest) (peak m hs rest k) r rest mid to) step.0 good) step.1

    plain_step : (labels : List (Option ValType)) (p : Plain) (rest : Code) (from mid : List Kind) → Forgetting (PlainKnown (context m lo o labels) p) from mid → NotGrow (code.plain p code.end) → TouchesFrom R p from → Step labels (code.plain p code.end) (plain_units p) (code.plain p rest) rest from mid (length from - (plain_arity p).takes + (plain_arity p).gives)
    plain_step labels p rest from mid i b a =
        let l = plain_length m lo o labels p from i.0 i.1 in
        let f = forget_length i.0 mid i.2 in (
          omega (arith, l, f),
          λ vs ls st h s low shallow.
              let n = kinds_length vs from h in
              let g = given_forget m lo (effect p vs (tick (plain_units p) st)) (tick (plain_units p) st) i.0 mid (plain_given m lo o labels p from i.0 i.1 b vs (tick (plain_units p) st) h (ticked m lo (plain_units p) st s)) i.2 in
              acts m H F R (plain_units p) (plain_least p) (context m lo o labels) (Named (code.plain p code.end)) (Running vs (code.plain p rest) ls st) (effect p vs (tick (plain_units p) st)) (st.count + plain_units p) rest ls st mid (omega (arith, low, n), omega (arith, shallow, one), a vs h) refl g,
        )

    br_if_step : (labels : List (Option ValType)) (l : ℕ) (rest : Code) (from mid : List Kind) → Forgetting (BranchKnown (context m lo o labels) (branch.BrIf l)) from mid → Step labels (code.branch (branch.BrIf l) code.end) (branch_units (branch.BrIf l)) (code.branch (branch.BrIf l) rest) rest from mid (length from - 1 + 0)
    br_if_step labels l rest from mid i =
        let d = meet_length (memory_bytes m) (requirement.Value val_type.I32 ∷ requirements i.1.0) from i.1.2.0 i.1.2.1 in
        let k = changes_length m lo o labels (requirement.Value val_type.I32 ∷ requirements i.1.0) (kinds i.1.0) from i.0 i.1.2 in
        let a = forget_length i.0 mid i.2 in
        let w = requirements_count i.1.0 in
        let v = kinds_count i.1.0 in (
          omega (arith, d, k, a, w, v),
          λ vs ls st h s low shallow.
              let n = kinds_length vs from h in
              forgets m H F R (context m lo o labels) (Named (code.branch (branch.BrIf l) code.end)) (branch_units (branch.BrIf l)) (Running vs (code.branch (branch.BrIf l) rest) ls st) rest ls st i.0 mid i.2 (br_if_good m H F R lo o labels l from i.0 i.1 vs rest ls st h s (omega (arith, low, n), omega (arith, shallow, one), tt)),
        )

    call_step : (labels : List (Option ValType)) (f : ℕ) (rest : Code) (from mid : List Kind) → Forgetting (CallKnown (context m lo o labels) f) from mid → depths f < r → Step labels (code.call f code.end) (call_units m f + sizes f) (code.call f rest) rest from mid (length from - (call_arity m f).takes + (call_arity m f).gives)
    call_step labels f rest from mid i b =
        let t = i.1.0 in
        let which = function_at m imports f t i.1.1 in
        let takes_is = call_counts m f t i.1.1 types in
        let gives_is = call_results m f t i.1.1 types in
        let l = call_length m H F R lo o labels f t which from i.0 i.1.2 in
        let a = forget_length i.0 mid i.2 in
        let e : length mid ≡ length from - (call_arity m f).takes + (call_arity m f).gives = omega (arith, l, a, takes_is, gives_is) in
        let least = low_from m hs rest (length from - (call_arity m f).takes + (call_arity m f).gives) in (
          e,
          λ vs ls st h s low shallow.
              let n = kinds_length vs from h in
              forgets m H F R (context m lo o labels) (Named (code.call f code.end)) (call_units m f + sizes f) (Running vs (code.call f rest) ls st) rest ls st i.0 mid i.2
              (call_good m H F R lo o labels f (sizes f) (hs f) (depths f) r t which (calls f t b) from i.0 i.1.2 vs rest ls st h s (omega (arith, low, n), omega (arith, shallow, one), tt) (omega (arith, low, n, takes_is)) (omega (arith, low, least, e, a)) shallow b),
        )

    -- what a block leaves
    block_length : (labels : List (Option ValType)) (t : Option ValType) (from mid : List Kind) → Forgetting (Changes (context m lo o labels) [] (kinds t)) from mid → length mid ≡ length from - 0 + result_count t
    block_length labels t from mid i =
        let l = changes_length m lo o labels [] (kinds t) from i.0 i.1 in
        let a = forget_length i.0 mid i.2 in
        let v = kinds_count t in
        omega (arith, l, a, v)

    block_step : (labels : List (Option ValType)) (t : Option ValType) (body rest : Code) (from mid : List Kind) → Good body (t ∷ labels) [] (kinds t) → Forgetting (Changes (context m lo o labels) [] (kinds t)) from mid → Step labels (code.block t body code.end) (units_of m (instr.Block t body) + code_size m sizes body) (code.block t body rest) rest from mid (length from - 0 + result_count t)
    block_step labels t body rest from mid good i =
        let v = kinds_count t in
        let least = low_from m hs rest (length from - 0 + result_count t) in
        let is : kinds t ++ from ≡ i.0 = ap (λ (ks : List Kind). kinds t ++ ks) i.1.1 ∙ sym i.1.2 in (
          block_length labels t from mid i,
          λ vs ls st h s low shallow.
              let n = kinds_length vs from h in
              let u = units_of m (instr.Block t body) in
              let q = good [] (Label (has_result t) vs rest rest ∷ ls) (tick u st) tt (ticked m lo u st s) (omega (arith, low, n)) shallow in
              let w = block m H F R u (units_least m (instr.Block t body)) (context m lo o labels) (Named body) (Named (code.block t body code.end)) (λ l k x. k (below_one l body x.0)) t (code_size m sizes body) (Running vs (code.block t body rest) ls st) vs rest ls st from q.0 q.1 h (omega (arith, low, n), omega (arith, shallow, one), tt) (omega (arith, low, least, v, n)) (omega (arith, shallow, one)) in
              forgets m H F R (context m lo o labels) (Named (code.block t body code.end)) (u + code_size m sizes body) (Running vs (code.block t body rest) ls st) rest ls st i.0 mid i.2 (subst (Reaches m H F R (context m lo o labels) (Named (code.block t body code.end)) (u + code_size m sizes body) (Running vs (code.block t body rest) ls st) rest ls st) is w),
        )

    loop_step : (labels : List (Option ValType)) (t : Option ValType) (body rest : Code) (from mid : List Kind) → GoodTurn m H F R (context m lo o (None ∷ labels)) (code_size m sizes body) (peak m hs body 0) r body (kinds t) → Forgetting (Changes (context m lo o labels) [] (kinds t)) from mid → Step labels (code.loop t body code.end) (units_of m (instr.Loop t body) + code_size m sizes body) (code.loop t body rest) rest from mid (length from - 0 + result_count t)
    loop_step labels t body rest from mid good i =
        let v = kinds_count t in
        let least = low_from m hs rest (length from - 0 + result_count t) in
        let is : kinds t ++ from ≡ i.0 = ap (λ (ks : List Kind). kinds t ++ ks) i.1.1 ∙ sym i.1.2 in (
          block_length labels t from mid i,
          λ vs ls st h s low shallow.
              let n = kinds_length vs from h in
              let u = units_of m (instr.Loop t body) in
              let w = turns m H F R (context m lo o labels) (code_size m sizes body) (peak m hs body 0) r t body good vs rest ls from h (omega (arith, low, n)) (omega (arith, low, least, v, n)) shallow one (suc (items_left st.host)) st (omega arith) s in
              forgets m H F R (context m lo o labels) (Named (code.loop t body code.end)) (u + code_size m sizes body) (Running vs (code.loop t body rest) ls st) rest ls st i.0 mid i.2 (subst (Reaches m H F R (context m lo o labels) (Named (code.loop t body code.end)) (u + code_size m sizes body) (Running vs (code.loop t body rest) ls st) rest ls st) is w),
        )

    choice_step : (labels : List (Option ValType)) (t : Option ValType) (body other rest : Code) (from mid : List Kind) → Good body (t ∷ labels) [] (kinds t) → Good other (t ∷ labels) [] (kinds t) → Forgetting (Changes (context m lo o labels) (requirement.Value val_type.I32 ∷ []) (kinds t)) from mid → Step labels (code.choice t body other code.end) (units_of m (instr.If t body other) + code_size m sizes body + code_size m sizes other) (code.choice t body other rest) rest from mid (length from - 1 + 0 - 0 + result_count t)
    choice_step labels t body other rest from mid good good2 i =
        let l = changes_length m lo o labels (requirement.Value val_type.I32 ∷ []) (kinds t) from i.0 i.1 in
        let a = forget_length i.0 mid i.2 in
        let v = kinds_count t in
        let least = low_from m hs rest (length from - 1 + 0 - 0 + result_count t) in (
          omega (arith, l, a, v),
          λ vs ls st h s low shallow.
              let n = kinds_length vs from h in
              let u = units_of m (instr.If t body other) in
              let w = choice_good m H F R lo o labels t body other (code_size m sizes body) (code_size m sizes other) (peak m hs body 0) (peak m hs other 0) r good good2 one rest ls shallow from i.0 i.1 vs st h s (omega (arith, low, n)) (omega (arith, low, least, v, n)) (omega (arith, low, n), omega (arith, shallow, one), tt) in
              let p = forgets m H F R (context m lo o labels) (Named (code.choice t body other code.end)) (u + (code_size m sizes body + code_size m sizes other)) (Running vs (code.choice t body other rest) ls st) rest ls st i.0 mid i.2 w in
              larger m H F R (context m lo o labels) (Named (code.choice t body other code.end)) (Named (code.choice t body other code.end)) (λ l k. k) (u + (code_size m sizes body + code_size m sizes other)) (u + code_size m sizes body + code_size m sizes other) (Running vs (code.choice t body other rest) ls st) rest ls st mid (omega arith) p,
        )

    -- ---- branches that are always taken

    br_reaches : (labels : List (Option ValType)) (l : ℕ) (rest : Code) (from given to : List Kind) → BranchKnown (context m lo o labels) (branch.Br l) from given → GoodStep m H F R (context m lo o labels) (Named (code.branch (branch.Br l) code.end)) (branch_units (branch.Br l)) (peak m hs (code.branch (branch.Br l) rest) (length from)) r (code.branch (branch.Br l) rest) code.end from to
    br_reaches labels l rest from given to i = λ vs ls st h s low shallow.
        let n = kinds_length vs from h in
        br_good m H F R lo o labels l from given to i vs rest code.end ls st h s (omega (arith, low, n), omega (arith, shallow, one), tt)

    table_reaches : (labels : List (Option ValType)) (table : List ℕ) (l : ℕ) (rest : Code) (from given to : List Kind) → BranchKnown (context m lo o labels) (branch.BrTable table l) from given → GoodStep m H F R (context m lo o labels) (Named (code.branch (branch.BrTable table l) code.end)) (branch_units (branch.BrTable table l)) (peak m hs (code.branch (branch.BrTable table l) rest) (length from)) r (code.branch (branch.BrTable table l) rest) code.end from to
    table_reaches labels table l rest from given to i = λ vs ls st h s low shallow.
        let n = kinds_length vs from h in
        table_good m H F R lo o labels table l from given to i vs rest code.end ls st h s (omega (arith, low, n), omega (arith, shallow, one), tt)

    return_reaches : (labels : List (Option ValType)) (rest : Code) (from given to : List Kind) → BranchKnown (context m lo o labels) branch.Return from given → GoodStep m H F R (context m lo o labels) (Named (code.branch branch.Return code.end)) (branch_units branch.Return) (peak m hs (code.branch branch.Return rest) (length from)) r (code.branch branch.Return rest) code.end from to
    return_reaches labels rest from given to i = λ vs ls st h s low shallow.
        let n = kinds_length vs from h in
        return_good m H F R lo o labels from given to i vs rest code.end ls st h s (omega (arith, low, n), omega (arith, shallow, one), tt)

    -- whatever comes next
    alone_good : (labels : List (Option ValType)) (b : Branch) (rest : Code) (from to : List Kind) → GoodStep m H F R (context m lo o labels) (Named (code.branch b code.end)) (branch_units b) (peak m hs (code.branch b rest) (length from)) r (code.branch b rest) code.end from to → Good (code.branch b rest) labels from to
    alone_good labels b rest from to step = λ vs ls st h s low shallow.
        larger m H F R (context m lo o labels) (Named (code.branch b code.end)) (Named (code.branch b rest)) (λ l k w. k (w.0, tt)) (branch_units b) (branch_units b + code_size m sizes rest) (Running vs (code.branch b rest) ls st) code.end ls st to (omega arith) (step vs ls st h s low shallow)

    alone_closes : (labels : List (Option ValType)) (b : Branch) (rest : Code) (from to : List Kind) → BranchNamesNot 0 b → GoodStep m H F R (context m lo o labels) (Named (code.branch b code.end)) (branch_units b) (peak m hs (code.branch b rest) (length from)) r (code.branch b rest) code.end from to → Closing (code.branch b rest) labels from to
    alone_closes labels b rest from to none step = λ vs ls st h s low shallow.
        elsewhere m H F R (context m lo o labels) (Named (code.branch b code.end)) (Named (code.branch b rest)) (λ k. k (none, tt)) (λ l k w. k (w.0, tt)) (branch_units b) (code_size m sizes rest) (Running vs (code.branch b rest) ls st) ls st to (step vs ls st h s low shallow)

    -- ---- the end of a turn

    closing_turns : (labels : List (Option ValType)) (f : ℕ) (from to : List Kind) → TakesItem (host_call_at m f) → Known (closing f) (context m lo o labels) from to → Closing (closing f) labels from to
    closing_turns labels f from to item i =
        elim (function_at m imports f i.1.1.0 i.1.1.1) [ inl g ↦ by_host g | inr g ↦ absurd (subst TakesItem g.unnamed item) ]
      where
        by_host : IsHostFunction m f i.1.1.0 → Closing (closing f) labels from to
        by_host g =
            let t = i.1.1.0 in
            let i2 = i.2 in
            let takes = subst TakesItem g.named item in
            let takes_is = call_counts m f t i.1.1.1 types in
            let gives_is = call_results m f t i.1.1.1 types in
            let l1 = call_length m H F R lo o labels f t (inl g) from i.1.0 i.1.1.2 in
            let a1 = forget_length i.1.0 i.0 i.1.2 in
            let after = length from - (call_arity m f).takes + (call_arity m f).gives in
            let least = low_from m hs (code.branch (branch.BrIf 0) code.end) after in
            closed m H F R (context m lo o labels) f g.call takes g.called i2.1.1.0 i2.1.1.1 from to (code_size m sizes (closing f)) (peak m hs (closing f) (length from)) r
            (λ vs h.
            let k = forget_all (I32 0 ∷ vs) i.1.0 i.0 i.1.2 (item_pushed m lo o labels g.call takes from i.1.0 (host_changes m H F R lo o labels f t g from i.1.0 i.1.1.2) 0 vs h) in
            let n = kinds_length (I32 0 ∷ vs) i.0 k in
            let b = item_tested m H F R lo o labels i2.1.1.0 i.0 i2.1.0 i2.1.1.2 0 vs k in
            let past = forget_all vs i2.1.0 i2.0 i2.1.2 b.1 in
            (omega (arith, takes_is, gives_is, l1, a1, least, n), b.0, subst (HasKinds vs) i2.2 past))
            (omega arith) one

    -- a turn from its beginning
    whole_turn : (body : Code) (labels : List (Option ValType)) (to : List Kind) → Closing body labels [] to → GoodTurn m H F R (context m lo o labels) (code_size m sizes body) (peak m hs body 0) r body to
    whole_turn body labels to good ls st sound low shallow = good [] ls st tt sound low shallow

    mutual
      turn_good : (body : Code) (labels : List (Option ValType)) (to : List Kind) → Opens m body → (i : Known body (context m lo o labels) [] to) → Fair m depths r body → Covered R body (context m lo o labels) [] to i → GoodTurn m H F R (context m lo o labels) (code_size m sizes body) (peak m hs body 0) r body to
      turn_good (code.call f (code.plain p (code.branch b rest))) labels to w i fair a =
          subst (λ (body : Code). (i : Known body (context m lo o labels) [] to) → Covered R body (context m lo o labels) [] to i → GoodTurn m H F R (context m lo o labels) (code_size m sizes body) (peak m hs body 0) r body to)
          (ap (λ (q : Plain). code.call f (code.plain q (code.branch (branch.BrIf (suc w.label)) rest))) (sym w.tests) ∙ ap (λ (q : Branch). code.call f (code.plain p (code.branch q rest))) (sym w.leaves))
          (turn_from labels f w.label rest to w.takes (λ mid k c. code_good rest labels mid to k fair.1.1 c)) i a
      turn_good _ labels to w i fair a = absurd w

      -- code that closes a loop
      closing_good : (is : Code) (labels : List (Option ValType)) (from to : List Kind) → Closes m is → (i : Known is (context m lo o labels) from to) → Fair m depths r is → Covered R is (context m lo o labels) from to i → Closing is labels from to
      closing_good code.end labels from to w i b a = absurd w
      closing_good (code.plain p rest) labels from to w i b a =
          then_closes labels (code.plain p code.end) (plain_units p) (code.plain p rest) rest from i.0 to (length from - (plain_arity p).takes + (plain_arity p).gives) tt (λ l k x. k tt) (λ l k. k) (omega arith) (plain_step labels p rest from i.0 i.1 b.0 a.0) (closing_good rest labels i.0 to w i.2 b.1 a.1)
      closing_good (code.branch (branch.Br l) rest) labels from to w i b a = alone_closes labels (branch.Br l) rest from to w.0 (br_reaches labels l rest from i.1.0 to i.1.1)
      closing_good (code.branch (branch.BrTable table l) rest) labels from to w i b a =
          alone_closes labels (branch.BrTable table l) rest from to w.0 (table_reaches labels table l rest from i.1.0 to i.1.1)
      closing_good (code.branch branch.Return rest) labels from to w i b a = alone_closes labels branch.Return rest from to w.0 (return_reaches labels rest from i.1.0 to i.1.1)
      closing_good (code.branch (branch.BrIf l) rest) labels from to w i b a =
          then_closes labels (code.branch (branch.BrIf l) code.end) (branch_units (branch.BrIf l)) (code.branch (branch.BrIf l) rest) rest from i.0 to (length from - 1 + 0) (w.0, tt) (λ n k x. k (x.0, tt)) (λ n k x. k x.1) (omega arith) (br_if_step labels l rest from i.0 i.1) (closing_good rest labels i.0 to w.1 i.2 b a)
      closing_good (code.call f rest) labels from to (inl w) i b a =
          subst (λ (rest : Code). Known (code.call f rest) (context m lo o labels) from to → Closing (code.call f rest) labels from to) (sym w.goes_back) (closing_turns labels f from to w.takes) i
      closing_good (code.call f rest) labels from to (inr w) i b a =
          then_closes labels (code.call f code.end) (call_units m f + sizes f) (code.call f rest) rest from i.0 to (length from - (call_arity m f).takes + (call_arity m f).gives) tt (λ l k x. k tt) (λ l k. k) (omega arith) (call_step labels f rest from i.0 i.1 b.0) (closing_good rest labels i.0 to w i.2 b.1 a)
      closing_good (code.call_indirect t rest) labels from to w i b a = absurd b
      closing_good (code.unreachable rest) labels from to w i b a = absurd b
      closing_good (code.block t body rest) labels from to w i b a =
          then_closes labels (code.block t body code.end) (units_of m (instr.Block t body) + code_size m sizes body) (code.block t body rest) rest from i.0 to (length from - 0 + result_count t) (w.0, tt) (λ l k x. k (x.0, tt)) (λ l k x. k x.1) (omega arith) (block_step labels t body rest from i.0 (code_good body (t ∷ labels) [] (kinds t) i.1 b.0 a.0) i.2) (closing_good rest labels i.0 to w.1 i.3 b.1 a.1)
      closing_good (code.loop t body rest) labels from to w i b a =
          then_closes labels (code.loop t body code.end) (units_of m (instr.Loop t body) + code_size m sizes body) (code.loop t body rest) rest from i.0 to (length from - 0 + result_count t) (w.0, tt) (λ l k x. k (x.0, tt)) (λ l k x. k x.1) (omega arith) (loop_step labels t body rest from i.0 (elim b.0 [ inl y ↦ turn_good body (None ∷ labels) (kinds t) y i.1 b.1 a.0 | inr y ↦ whole_turn body (None ∷ labels) (kinds t) (closing_good body (None ∷ labels) [] (kinds t) y i.1 b.1 a.0) ]) i.2) (closing_good rest labels i.0 to w.1 i.3 b.2 a.1)
      closing_good (code.choice t body other rest) labels from to w i b a =
          then_closes labels (code.choice t body other code.end) (units_of m (instr.If t body other) + code_size m sizes body + code_size m sizes other) (code.choice t body other rest) rest from i.0 to (length from - 1 + 0 - 0 + result_count t) (w.0, w.1, tt) (λ l k x. k (x.0, x.1, tt)) (λ l k x. k x.2) (omega arith) (choice_step labels t body other rest from i.0 (code_good body (t ∷ labels) [] (kinds t) i.1 b.0 a.0) (code_good other (t ∷ labels) [] (kinds t) i.2 b.1 a.1) i.3) (closing_good rest labels i.0 to w.2 i.4 b.2 a.2)

      pub code_good : (is : Code) (labels : List (Option ValType)) (from to : List Kind) → (i : Known is (context m lo o labels) from to) → Fair m depths r is → Covered R is (context m lo o labels) from to i → Good is labels from to
      code_good code.end labels from to i b a = λ vs ls st h s low shallow.
          (Falls vs, record { final = st; steps = 0; by = λ k p. (k, omega arith, refl, p); fits = subst (HasKinds vs) i h; named = tt; sound = s; taken = 0; items = omega arith; cost = omega arith; short = omega arith })
      code_good (code.plain p rest) labels from to i b a =
          then_good labels (code.plain p code.end) (plain_units p) (code.plain p rest) rest from i.0 to (length from - (plain_arity p).takes + (plain_arity p).gives) (λ l k x. k tt) (λ l k. k) (omega arith) (plain_step labels p rest from i.0 i.1 b.0 a.0) (code_good rest labels i.0 to i.2 b.1 a.1)
      code_good (code.branch (branch.Br l) rest) labels from to i b a = alone_good labels (branch.Br l) rest from to (br_reaches labels l rest from i.1.0 to i.1.1)
      code_good (code.branch (branch.BrTable table l) rest) labels from to i b a =
          alone_good labels (branch.BrTable table l) rest from to (table_reaches labels table l rest from i.1.0 to i.1.1)
      code_good (code.branch branch.Return rest) labels from to i b a = alone_good labels branch.Return rest from to (return_reaches labels rest from i.1.0 to i.1.1)
      code_good (code.branch (branch.BrIf l) rest) labels from to i b a =
          then_good labels (code.branch (branch.BrIf l) code.end) (branch_units (branch.BrIf l)) (code.branch (branch.BrIf l) rest) rest from i.0 to (length from - 1 + 0) (λ n k x. k (x.0, tt)) (λ n k x. k x.1) (omega arith) (br_if_step labels l rest from i.0 i.1) (code_good rest labels i.0 to i.2 b a)
      code_good (code.call f rest) labels from to i b a =
          then_good labels (code.call f code.end) (call_units m f + sizes f) (code.call f rest) rest from i.0 to (length from - (call_arity m f).takes + (call_arity m f).gives) (λ l k x. k tt) (λ l k. k) (omega arith) (call_step labels f rest from i.0 i.1 b.0) (code_good rest labels i.0 to i.2 b.1 a)
      code_good (code.call_indirect t rest) labels from to i b a = absurd b
      code_good (code.unreachable rest) labels from to i b a = absurd b
      code_good (code.block t body rest) labels from to i b a =
          then_good labels (code.block t body code.end) (units_of m (instr.Block t body) + code_size m sizes body) (code.block t body rest) rest from i.0 to (length from - 0 + result_count t) (λ l k x. k (x.0, tt)) (λ l k x. k x.1) (omega arith) (block_step labels t body rest from i.0 (code_good body (t ∷ labels) [] (kinds t) i.1 b.0 a.0) i.2) (code_good rest labels i.0 to i.3 b.1 a.1)
      code_good (code.loop t body rest) labels from to i b a =
          then_good labels (code.loop t body code.end) (units_of m (instr.Loop t body) + code_size m sizes body) (code.loop t body rest) rest from i.0 to (length from - 0 + result_count t) (λ l k x. k (x.0, tt)) (λ l k x. k x.1) (omega arith) (loop_step labels t body rest from i.0 (elim b.0 [ inl y ↦ turn_good body (None ∷ labels) (kinds t) y i.1 b.1 a.0 | inr y ↦ whole_turn body (None ∷ labels) (kinds t) (closing_good body (None ∷ labels) [] (kinds t) y i.1 b.1 a.0) ]) i.2) (code_good rest labels i.0 to i.3 b.2 a.1)
      code_good (code.choice t body other rest) labels from to i b a =
          then_good labels (code.choice t body other code.end) (units_of m (instr.If t body other) + code_size m sizes body + code_size m sizes other) (code.choice t body other rest) rest from i.0 to (length from - 1 + 0 - 0 + result_count t) (λ l k x. k (x.0, x.1, tt)) (λ l k x. k x.2) (omega arith) (choice_step labels t body other rest from i.0 (code_good body (t ∷ labels) [] (kinds t) i.1 b.0 a.0) (code_good other (t ∷ labels) [] (kinds t) i.2 b.1 a.1) i.3) (code_good rest labels i.0 to i.4 b.2 a.2)
