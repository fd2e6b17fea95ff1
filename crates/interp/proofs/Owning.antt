-- In a call of a bounded module each active function has no more own operands than its code's height.
use Rattle.std.proofs.Common.{◌≡◌, ℕ, zero, suc, ◌+◌, ◌-◌, ◌<◌, ◌≤◌, ◌⊎◌, inl, inr, max, List, [], ◌∷◌, ◌++◌, Bool, true, false, Option, Some, None, length, get_or, nat_le, option_map, slice_get, map, reverse, take, drop, if◌then◌else◌, refl, sym, ap, ◌∙◌, subst, arith, length-append, lt-ltb}
use Rattle.std.proofs.lemmas.Bool.{cases_lt}
use Rattle.std.proofs.lemmas.List.{length-drop}
use Rattle.std.specs.List.{AllByRecursion}
use Rattle.wasm_ast.specs.declared.types.ValType.{ValType}
use Rattle.wasm_ast.specs.declared.types.ValType.TheVariants as val_type
use Rattle.wasm_ast.specs.declared.types.Value.{Value}
use Rattle.wasm_ast.specs.declared.types.FuncType.{FuncType}
use Rattle.wasm_ast.specs.declared.plain.Branch.{Branch}
use Rattle.wasm_ast.specs.declared.plain.Branch.TheVariants as branch
use Rattle.wasm_ast.specs.declared.module.Function.{Function}
use Rattle.wasm_ast.specs.declared.module.Module.{Module}
use Rattle.wasm_ast.specs.Code.{Code}
use Rattle.wasm_ast.specs.Code as code
use Rattle.wasm_ast.specs.Limits.{imported_functions}
use Rattle.wasm_ast.specs.Values.{zero_of}
use Rattle.verified.specs.Imports.{type_of_call}
use Rattle.verified.specs.Operands.{number, with_number}
use Rattle.verified.specs.declared.call.CallInput.{CallInput}
use Rattle.verified.specs.declared.imports.HostCall.{HostCall}
use Rattle.verified.specs.declared.imports.HostCall.TheVariants.{VertexId, Superstep, NumVertices, GetValue, SetValue, NextMessage, MessageValue, NextEdge, EdgeTarget, EdgeValue, Send, Aggregate, Aggregated, VoteToHalt}
use Rattle.verified.specs.Modules.{IsTyped}
use Rattle.verified.specs.Spaces.{first_type, function_type, spaces_of}
use Rattle.verified.specs.Calls.{Calls, body_of, callees, calls_in, calls_of}
use Rattle.verified.specs.Cycles.{Leads}
use Rattle.verified.specs.Arities.{block_arity, branch_arity, call_arity, plain_arity, result_count, test_arity}
use Rattle.verified.specs.Cells.{IsDefined, MayRun, no_heights, own_height}
use Rattle.verified.specs.Heights.{after, peak, peak_in}
use Rattle.verified.specs.Kinds.{Kind, kinds, requirements}
use Rattle.verified.specs.Known.{FunctionKnown, Known}
use Rattle.verified.specs.Memory.{memory_bytes}
use Rattle.verified.specs.Profile.{IsBounded, asks_all, plain_type}
use Rattle.verified.specs.declared.requirements.Requirement.TheVariants as requirement
use Rattle.semantics.specs.Configuration.{State, with_locals, tick, Effect, Gives, Traps, Misses}
use Rattle.semantics.specs.Effects.{effect}
use Rattle.semantics.specs.Heights.{callers, frames}
use Rattle.semantics.specs.Machine as machine
use Rattle.semantics.specs.Machine.{Machine, Running, Done, Trapped, Stuck, ControlEntry, Label, Frame, Callee, defined, functions_of, landed, arrive, jump, back, leave, label_of, taking, branch_unless_zero, take_branch, has_result, arm, gives_one, after_effect, take_call, next_units, first, carry, advance, run}
use Rattle.interp.specs.OwnOperands.{AreOwn, CallsKeepOwn, active_after, active_at, called, entered, own_above, own_operands}
use Rattle.semantics.specs.Start.{Starts, start_state}
use Rattle.semantics.proofs.Callees.{IsDefinedFunction, IsHostFunction, function_at}
use Rattle.semantics.proofs.Covering.{Anywhere}
use Rattle.interp.proofs.EffectLengths.{Leaves, leaves_call, leaves_plain}
use Rattle.semantics.proofs.Entering.{call_length}
use Rattle.semantics.proofs.Fairness.{parts}
use Rattle.semantics.proofs.Lengths.{all_at, call_counts, call_results, changes_length, kinds_count, low_from, plain_length, requirements_count}
use Rattle.semantics.proofs.OneEnd.{one_start}
use Rattle.semantics.proofs.Plains.{context}
use Rattle.semantics.proofs.Starting.{begun}
use Rattle.semantics.proofs.Values.{forget_length, meet_length, none_some, some_is}
use Rattle.semantics.proofs.Whole.{compute_defined}

-- ---- code that goes from one number of operands to another

abbrev pub Level : Module → Code → ℕ → ℕ → Type 0
Level m code.end n k = n ≡ k
Level m (code.plain p rest) n k = Level m rest (after (plain_arity p) n) k
Level m (code.branch (branch.BrIf l) rest) n k = Level m rest (after (branch_arity (branch.BrIf l)) n) k
Level m (code.branch b rest) n k = Unit {0}
Level m (code.call f rest) n k =
    (t : FuncType) × (function_type (spaces_of m) f ≡ Some t) × Level m rest (after (call_arity m f) n) k
Level m (code.call_indirect t rest) n k = Unit {0}
Level m (code.unreachable rest) n k = Unit {0}
Level m (code.block t body rest) n k = Level m body 0 (result_count t) × Level m rest (after (block_arity t) n) k
Level m (code.loop t body rest) n k = Level m body 0 (result_count t) × Level m rest (after (block_arity t) n) k
Level m (code.choice t body other rest) n k =
    Level m body 0 (result_count t) × Level m other 0 (result_count t) × Level m rest (after (block_arity t) (after test_arity n)) k

module _ (m : Module) (typed : IsTyped m) (bounded : IsBounded m) where
  module _ (lo : List ValType) (o : Option ValType) where
    level_body : (is : Code) (t : Option ValType) → Level m is (length {A = Kind} []) (length (kinds t)) → Level m is 0 (result_count t)
    level_body is t h = subst (λ (j : ℕ). Level m is 0 j) (kinds_count t) h

    -- typed code does so
    level_known : (is : Code) (labels : List (Option ValType)) (from to : List Kind) → Known is (context m lo o labels) from to → Level m is (length from) (length to)
    level_known code.end labels from to i = ap (λ (ks : List Kind). length ks) i
    level_known (code.plain p rest) labels from to i =
        let l = plain_length m lo o labels p from i.1.0 i.1.1 in
        let f = forget_length i.1.0 i.0 i.1.2 in
        let e : length i.0 ≡ after (plain_arity p) (length from) = sym f ∙ l in
        subst (λ (j : ℕ). Level m rest j (length to)) e (level_known rest labels i.0 to i.2)
    level_known (code.branch (branch.Br l) rest) labels from to i = tt
    level_known (code.branch (branch.BrTable ls l) rest) labels from to i = tt
    level_known (code.branch branch.Return rest) labels from to i = tt
    level_known (code.branch (branch.BrIf l) rest) labels from to i =
        let c = i.1.1 in
        let d = meet_length (memory_bytes m) (requirement.Value val_type.I32 ∷ requirements c.0) from c.2.0 c.2.1 in
        let x = changes_length m lo o labels (requirement.Value val_type.I32 ∷ requirements c.0) (kinds c.0) from i.1.0 c.2 in
        let f = forget_length i.1.0 i.0 i.1.2 in
        let w = requirements_count c.0 in
        let v = kinds_count c.0 in
        let e : length i.0 ≡ length from - 1 + 0 = omega (arith, d, x, f, w, v) in
        subst (λ (j : ℕ). Level m rest j (length to)) e (level_known rest labels i.0 to i.2)
    level_known (code.call f rest) labels from to i =
        let c = i.1.1 in
        let which = function_at m bounded.imports f c.0 c.1 in
        let takes_is = call_counts m f c.0 c.1 typed.types in
        let gives_is = call_results m f c.0 c.1 typed.types in
        let l = call_length m 0 0 Anywhere lo o labels f c.0 which from i.1.0 c.2 in
        let a = forget_length i.1.0 i.0 i.1.2 in
        let e : length i.0 ≡ length from - (call_arity m f).takes + (call_arity m f).gives = omega (arith, l, a, takes_is, gives_is) in
        (c.0, c.1, subst (λ (j : ℕ). Level m rest j (length to)) e (level_known rest labels i.0 to i.2))
    level_known (code.call_indirect t rest) labels from to i = tt
    level_known (code.unreachable rest) labels from to i = tt
    level_known (code.block t body rest) labels from to i =
        let l = changes_length m lo o labels [] (kinds t) from i.2.0 i.2.1 in
        let f = forget_length i.2.0 i.0 i.2.2 in
        let v = kinds_count t in
        let e : length i.0 ≡ length from - 0 + result_count t = omega (arith, l, f, v) in
        (level_body body t (level_known body (t ∷ labels) [] (kinds t) i.1), subst (λ (j : ℕ). Level m rest j (length to)) e (level_known rest labels i.0 to i.3))
    level_known (code.loop t body rest) labels from to i =
        let l = changes_length m lo o labels [] (kinds t) from i.2.0 i.2.1 in
        let f = forget_length i.2.0 i.0 i.2.2 in
        let v = kinds_count t in
        let e : length i.0 ≡ length from - 0 + result_count t = omega (arith, l, f, v) in
        (level_body body t (level_known body (None ∷ labels) [] (kinds t) i.1), subst (λ (j : ℕ). Level m rest j (length to)) e (level_known rest labels i.0 to i.3))
    level_known (code.choice t body other rest) labels from to i =
        let l = changes_length m lo o labels (requirement.Value val_type.I32 ∷ []) (kinds t) from i.3.0 i.3.1 in
        let f = forget_length i.3.0 i.0 i.3.2 in
        let v = kinds_count t in
        let e : length i.0 ≡ length from - 1 + 0 - 0 + result_count t = omega (arith, l, f, v) in
        (level_body body t (level_known body (t ∷ labels) [] (kinds t) i.1), level_body other t (level_known other (t ∷ labels) [] (kinds t) i.2), subst (λ (j : ℕ). Level m rest j (length to)) e (level_known rest labels i.0 to i.4))

  -- ---- the functions that code calls

  -- function f calls each function that the code calls
  abbrev Called : ℕ → Code → Type 0
  Called f is = AllByRecursion (Calls (callees m) f) (calls_of is)

  every : (P : ℕ → Type 0) (xs : List ℕ) → ((k : ℕ) → k < length xs → P (get_or xs k 0)) → AllByRecursion P xs
  every P [] h = tt
  every P (x ∷ xs) h = (h 0 (omega arith), every P xs (λ k less. h (suc k) (omega (arith, less))))

  without : (P : ℕ → Type 0) (j : ℕ) (xs : List ℕ) → AllByRecursion P xs → AllByRecursion P (drop j xs)
  without P zero xs h = h
  without P (suc j) [] h = tt
  without P (suc j) (x ∷ xs) h = without P j xs h.1

  calls_own : (f : ℕ) (body : Code) → body_of m f ≡ Some body → Called f body
  calls_own f body e =
      let same : callees m f ≡ calls_of body = ap (λ (b : Option Code). calls_in b) e in
      subst (λ (xs : List ℕ). AllByRecursion (Calls (callees m) f) xs) same (every (Calls (callees m) f) (callees m f) (λ k less. (k, less, refl)))

  place_in : (fs : List Function) (k : ℕ) (g : Function) → slice_get fs k ≡ Some g → k < length fs
  place_in [] k g e = absurd (none_some g e)
  place_in (x ∷ fs) zero g e = omega arith
  place_in (x ∷ fs) (suc k) g e = let h = place_in fs k g e in omega (arith, h)

  no_import : (f : ℕ) (body : Code) → body_of m f ≡ Some body → imported_functions m.imports ≤ f
  no_import f body e = by_order (cases_lt f (imported_functions m.imports))
    where
      by_order : (f < imported_functions m.imports) ⊎ (imported_functions m.imports ≤ f) → imported_functions m.imports ≤ f
      by_order (inl h) =
          let none : body_of m f ≡ None = ap (λ (b : Bool). if b then None else option_map (λ (x : Function). x.body) (slice_get m.functions (f - imported_functions m.imports))) (lt-ltb f (imported_functions m.imports) h) in
          absurd (none_some body (sym none ∙ e))
      by_order (inr h) = h

  defined_at : (f : ℕ) (t : FuncType) (g : IsDefinedFunction m f t) → IsDefined m f
  defined_at f t g =
      let past = no_import f g.function.body g.has_body in
      let place = place_in m.functions (f - imported_functions m.imports) g.function g.in_module in
      (past, omega (arith, past, place))

  -- a way to a function, and on to one that it calls
  leads_on : (xs : List ℕ) (f g h : ℕ) → Leads (callees m) f xs g → Calls (callees m) g h → Leads (callees m) f (xs ++ g ∷ []) h
  leads_on [] f g h e c = (h, e, subst (λ (x : ℕ). Calls (callees m) x h) (sym e) c, refl)
  leads_on (x ∷ xs) f g h l c = (l.0, l.1, l.2, leads_on xs l.0 g h l.3 c)

  -- the module defines the function, and a call of `compute` may run it
  abbrev Active : ℕ → Type 0
  Active f = IsDefined m f × MayRun m f

  active_on : (g f : ℕ) → MayRun m g → Calls (callees m) g f → MayRun m f
  active_on g f r c =
      record { compute = r.compute; path = r.path ++ g ∷ []; leads = leads_on r.path r.compute.number g f r.leads c }

  -- ---- configurations whose active functions keep their heights

  -- the operands of the innermost function under its innermost block
  abbrev under : List ControlEntry → ℕ
  under [] = 0
  under (Label keeps values target after ∷ ls) = length values + under ls
  under (Frame keeps locals values after ∷ ls) = 0

  abbrev with_kept : Bool → ℕ → ℕ
  with_kept false n = n
  with_kept true n = suc n

  -- in function f the code goes from n operands above u to k, and never higher than f's height; f calls what it calls
  abbrev At : (f : ℕ) → Code → (n k u : ℕ) → Type 0
  At f is n k u = Level m is n k × (u + peak m no_heights is n ≤ own_height m f) × Called f is

  -- these functions are active, and the code after each entry is so; the innermost sequence ends with k operands
  abbrev Entries : List ℕ → ℕ → List ControlEntry → Type 0
  Entries [] k ls = ⊥
  Entries (f ∷ fs) k [] = fs ≡ []
  Entries (f ∷ fs) k (Label keeps values target after ∷ ls) =
      (j : ℕ) × At f target (with_kept keeps (length values)) j (under ls) × At f after (k + length values) j (under ls) × Entries (f ∷ fs) j ls
  Entries (f ∷ []) k (Frame keeps locals values after ∷ ls) = ⊥
  Entries (f ∷ g ∷ fs) k (Frame keeps locals values after ∷ ls) =
      (j : ℕ) × At g after (with_kept keeps (length values)) j (under ls) × At g after (k + length values) j (under ls) × Entries (g ∷ fs) j ls

  abbrev Own : List ℕ → Machine → Type 0
  Own [] (Running vs is ls st) = ⊥
  Own (f ∷ fs) (Running vs is ls st) = (k : ℕ) × At f is (length vs) k (under ls) × Entries (f ∷ fs) k ls
  Own fs (Done st) = fs ≡ []
  Own fs (Trapped count) = fs ≡ []
  Own fs (Stuck count) = fs ≡ []

  at_same : (f : ℕ) (is : Code) (n n' k u : ℕ) → n ≡ n' → At f is n k u → At f is n' k u
  at_same f is n n' k u e h = subst (λ (j : ℕ). At f is j k u) e h

  -- ---- what that says

  abbrev AreLow : (own active : List ℕ) → Type 0
  AreLow [] [] = Unit {0}
  AreLow [] (f ∷ fs) = ⊥
  AreLow (n ∷ ns) [] = ⊥
  AreLow (n ∷ ns) (f ∷ fs) = (n ≤ own_height m f) × AreLow ns fs

  are_both : (ns fs : List ℕ) → AreLow ns fs → AllByRecursion Active fs → AreOwn m ns fs
  are_both [] [] l a = tt
  are_both [] (f ∷ fs) l a = absurd l
  are_both (n ∷ ns) [] l a = absurd l
  are_both (n ∷ ns) (f ∷ fs) l a = (a.0.0, a.0.1, l.0, are_both ns fs l.1 a.1)

  own_entries : (f : ℕ) (fs : List ℕ) (k here : ℕ) (ls : List ControlEntry) → here + under ls ≤ own_height m f → Entries (f ∷ fs) k ls → (n : ℕ) → n ≡ here → AreLow (own_above n ls) (f ∷ fs)
  own_entries f [] k here [] h e n g = (omega (arith, h, g), tt)
  own_entries f (x ∷ fs) k here [] h e n g = absurd cc
  own_entries f fs k here (Label keeps vs t a ∷ ls) h e n g =
      own_entries f fs e.0 (here + length vs) ls (omega (arith, h)) e.3 (n + length vs) (omega (arith, g))
  own_entries f [] k here (Frame keeps xs vs a ∷ ls) h e n g = absurd e
  own_entries f (x ∷ fs) k here (Frame keeps xs vs a ∷ ls) h e n g =
      let l = low_from m no_heights a (k + length vs) in
      (omega (arith, h, g), own_entries x fs e.0 (length vs) ls (omega (arith, l, e.2.1)) e.3 (length vs) refl)

  are_own : (fs : List ℕ) (x : Machine) → Own fs x → AreLow (own_operands x) fs
  are_own [] (Running vs is ls st) w = absurd w
  are_own (f ∷ fs) (Running vs is ls st) w =
      let l = low_from m no_heights is (length vs) in
      own_entries f fs w.0 (length vs) ls (omega (arith, l, w.1.1)) w.2 (length vs) refl
  are_own [] (Done st) w = tt
  are_own [] (Trapped count) w = tt
  are_own [] (Stuck count) w = tt
  are_own (f ∷ fs) (Done st) w = absurd cc
  are_own (f ∷ fs) (Trapped count) w = absurd cc
  are_own (f ∷ fs) (Stuck count) w = absurd cc

  length_entries : (f : ℕ) (fs : List ℕ) (k : ℕ) (ls : List ControlEntry) → Entries (f ∷ fs) k ls → length fs ≡ callers ls
  length_entries f [] k [] e = refl
  length_entries f (x ∷ fs) k [] e = absurd cc
  length_entries f fs k (Label keeps vs t a ∷ ls) e = length_entries f fs e.0 ls e.3
  length_entries f [] k (Frame keeps xs vs a ∷ ls) e = absurd e
  length_entries f (x ∷ fs) k (Frame keeps xs vs a ∷ ls) e =
      let h = length_entries x fs e.0 ls e.3 in omega (arith, h)

  length_own : (fs : List ℕ) (x : Machine) → Own fs x → length fs ≡ frames x
  length_own [] (Running vs is ls st) w = absurd w
  length_own (f ∷ fs) (Running vs is ls st) w = let h = length_entries f fs w.0 ls w.2 in omega (arith, h)
  length_own fs (Done st) w = ap (λ (xs : List ℕ). length xs) w
  length_own fs (Trapped count) w = ap (λ (xs : List ℕ). length xs) w
  length_own fs (Stuck count) w = ap (λ (xs : List ℕ). length xs) w

  -- ---- steps

  -- the first of the active functions are left
  abbrev Moved : List ℕ → Machine → Type 0
  Moved fs x = (j : ℕ) × (j ≤ length fs) × Own (drop j fs) x

  drop_all : (fs : List ℕ) → drop (length fs) fs ≡ []
  drop_all [] = refl
  drop_all (f ∷ fs) = drop_all fs

  stuck : (fs : List ℕ) (count : ℕ) → Moved fs (Stuck count)
  stuck fs count = (length fs, omega arith, drop_all fs)

  trapped : (fs : List ℕ) (count : ℕ) → Moved fs (Trapped count)
  trapped fs count = (length fs, omega arith, drop_all fs)

  stays_in : (f : ℕ) (fs : List ℕ) (x : Machine) → Own (f ∷ fs) x → Moved (f ∷ fs) x
  stays_in f fs x w = (0, omega arith, w)

  carried : (keeps : Bool) (top : Option Value) (below : List Value) (f : ℕ) (fs : List ℕ) (is : Code) (ls : List ControlEntry) (st : State) (j : ℕ) → At f is (with_kept keeps (length below)) j (under ls) → Entries (f ∷ fs) j ls → Moved (f ∷ fs) (landed (carry keeps top below) is ls st)
  carried false top below f fs is ls st j a e = stays_in f fs (Running below is ls st) (j, a, e)
  carried true None below f fs is ls st j a e = stuck (f ∷ fs) st.count
  carried true (Some v) below f fs is ls st j a e = stays_in f fs (Running (v ∷ below) is ls st) (j, a, e)

  -- the function itself is left too
  out_of : (f g : ℕ) (fs : List ℕ) (x : Machine) → Moved (g ∷ fs) x → Moved (f ∷ g ∷ fs) x
  out_of f g fs x w = (suc w.0, omega (arith, w.1), w.2)

  arrives_at : (top : Option Value) (f : ℕ) (fs : List ℕ) (k : ℕ) (ls : List ControlEntry) (st : State) → Entries (f ∷ fs) k ls → Moved (f ∷ fs) (arrive top ls st)
  arrives_at top f fs k [] st e = (1, omega arith, e)
  arrives_at top f fs k (Label keeps vs t a ∷ ls) st e = carried keeps top vs f fs t ls st e.0 e.1 e.3
  arrives_at top f [] k (Frame keeps xs vs a ∷ ls) st e = absurd e
  arrives_at top f (g ∷ fs) k (Frame keeps xs vs a ∷ ls) st e =
      out_of f g fs (landed (carry keeps top vs) a ls (with_locals st xs)) (carried keeps top vs g fs a ls (with_locals st xs) e.0 e.1 e.3)

  jumps_to : (l : ℕ) (top : Option Value) (f : ℕ) (fs : List ℕ) (k : ℕ) (ls : List ControlEntry) (st : State) → Entries (f ∷ fs) k ls → Moved (f ∷ fs) (jump l top ls st)
  jumps_to zero top f fs k ls st e = arrives_at top f fs k ls st e
  jumps_to (suc l) top f fs k [] st e = stuck (f ∷ fs) st.count
  jumps_to (suc l) top f fs k (Label keeps vs t a ∷ ls) st e = jumps_to l top f fs e.0 ls st e.3
  jumps_to (suc l) top f fs k (Frame keeps xs vs a ∷ ls) st e = stuck (f ∷ fs) st.count

  goes_back : (top : Option Value) (f : ℕ) (fs : List ℕ) (k : ℕ) (ls : List ControlEntry) (st : State) → Entries (f ∷ fs) k ls → Moved (f ∷ fs) (back top ls st)
  goes_back top f fs k [] st e = arrives_at top f fs k [] st e
  goes_back top f fs k (Label keeps vs t a ∷ ls) st e = goes_back top f fs e.0 ls st e.3
  goes_back top f fs k (Frame keeps xs vs a ∷ ls) st e = arrives_at top f fs k (Frame keeps xs vs a ∷ ls) st e

  after_end : (f : ℕ) (is : Code) (us vs : List Value) (k j u : ℕ) → length us ≡ k → At f is (k + length vs) j u → At f is (length (us ++ vs)) j u
  after_end f is us vs k j u e a =
      let n = length-append us vs in at_same f is (k + length vs) (length (us ++ vs)) j u (omega (arith, n, e)) a

  leaves_at : (us : List Value) (f : ℕ) (fs : List ℕ) (k : ℕ) (ls : List ControlEntry) (st : State) → length us ≡ k → Entries (f ∷ fs) k ls → Moved (f ∷ fs) (leave us ls st)
  leaves_at us f fs k [] st n e = (1, omega arith, e)
  leaves_at us f fs k (Label keeps vs t a ∷ ls) st n e =
      stays_in f fs (Running (us ++ vs) a ls st) (e.0, after_end f a us vs k e.0 (under ls) n e.2, e.3)
  leaves_at us f [] k (Frame keeps xs vs a ∷ ls) st n e = absurd e
  leaves_at us f (g ∷ fs) k (Frame keeps xs vs a ∷ ls) st n e =
      out_of f g fs (Running (us ++ vs) a ls (with_locals st xs)) (stays_in g fs (Running (us ++ vs) a ls (with_locals st xs)) (e.0, after_end g a us vs k e.0 (under ls) n e.2, e.3))

  has_effect : (x : Effect) (n f : ℕ) (fs : List ℕ) (is : Code) (ls : List ControlEntry) (count k : ℕ) → Leaves n x → At f is n k (under ls) → Entries (f ∷ fs) k ls → Moved (f ∷ fs) (after_effect x is ls count)
  has_effect (Gives vs st) n f fs is ls count k l a e =
      stays_in f fs (Running vs is ls st) (k, at_same f is n (length vs) k (under ls) (sym l) a, e)
  has_effect Traps n f fs is ls count k l a e = trapped (f ∷ fs) count
  has_effect Misses n f fs is ls count k l a e = stuck (f ∷ fs) count

  with_taken : (fs : List ℕ) (count : ℕ) (o : Option ℕ) (go : ℕ → Machine) → ((n : ℕ) → Moved fs (go n)) → Moved fs (with_number (Stuck count) o go)
  with_taken fs count None go h = stuck fs count
  with_taken fs count (Some n) go h = h n

  takes_one : (fs : List ℕ) (vs : List Value) (count : ℕ) (go : ℕ → List Value → Machine) → ((n : ℕ) (us : List Value) → length vs ≡ suc (length us) → Moved fs (go n us)) → Moved fs (taking vs count go)
  takes_one fs [] count go h = stuck fs count
  takes_one fs (v ∷ vs) count go h = with_taken fs count (number val_type.I32 v) (λ n. go n vs) (λ n. h n vs refl)

  -- what the code after the first instruction keeps
  behind : (f : ℕ) (rest : Code) (n k u whole : ℕ) → Level m rest n k → peak m no_heights rest n ≤ whole → u + whole ≤ own_height m f → Called f rest → At f rest n k u
  behind f rest n k u whole l p h c = (l, omega (arith, p, h), c)

  unless_zero : (n l : ℕ) (us : List Value) (f : ℕ) (fs : List ℕ) (is : Code) (ls : List ControlEntry) (st : State) (k : ℕ) → At f is (length us) k (under ls) → Entries (f ∷ fs) k ls → Moved (f ∷ fs) (branch_unless_zero n l us is ls st)
  unless_zero zero l us f fs is ls st k a e = stays_in f fs (Running us is ls st) (k, a, e)
  unless_zero (suc n) l us f fs is ls st k a e = jumps_to l (first us) f fs k ls st e

  branches : (b : Branch) (vs : List Value) (f : ℕ) (fs : List ℕ) (rest : Code) (ls : List ControlEntry) (st : State) (k : ℕ) → At f (code.branch b rest) (length vs) k (under ls) → Entries (f ∷ fs) k ls → Moved (f ∷ fs) (take_branch b vs rest ls st)
  branches (branch.Br l) vs f fs rest ls st k a e = jumps_to l (first vs) f fs k ls st e
  branches (branch.BrIf l) vs f fs rest ls st k a e =
      takes_one (f ∷ fs) vs st.count (λ n us. branch_unless_zero n l us rest ls st) (λ n us g.
      let same : length vs - 1 + 0 ≡ length us = omega (arith, g) in
      unless_zero n l us f fs rest ls st k (at_same f rest (length vs - 1 + 0) (length us) k (under ls) same (behind f rest (length vs - 1 + 0) k (under ls) (peak m no_heights (code.branch (branch.BrIf l) rest) (length vs)) a.0 (omega arith) a.1 a.2)) e)
  branches (branch.BrTable labels other) vs f fs rest ls st k a e =
      takes_one (f ∷ fs) vs st.count (λ n us. jump (label_of labels n other) (first us) ls st) (λ n us g. jumps_to (label_of labels n other) (first us) f fs k ls st e)
  branches branch.Return vs f fs rest ls st k a e = goes_back (first vs) f fs k ls st e

  -- a block begins
  begins_block : (t : Option ValType) (us : List Value) (f : ℕ) (fs : List ℕ) (keeps : Bool) (body target rest : Code) (ls : List ControlEntry) (st : State) (k : ℕ) → Level m body 0 (result_count t) → under ls + (length us + peak m no_heights body 0) ≤ own_height m f → Called f body → At f target (with_kept keeps (length us)) k (under ls) → At f rest (length us - 0 + result_count t) k (under ls) → Entries (f ∷ fs) k ls → Moved (f ∷ fs) (Running [] body (Label keeps us target rest ∷ ls) st)
  begins_block t us f fs keeps body target rest ls st k l h c a b e =
      stays_in f fs (Running [] body (Label keeps us target rest ∷ ls) st) (
        result_count t,
        (l, omega (arith, h), c),
        (k, a, at_same f rest (length us - 0 + result_count t) (result_count t + length us) k (under ls) (omega arith) b, e),
      )

  result_kept : (t : Option ValType) (n : ℕ) → n - 0 + result_count t ≡ with_kept (has_result t) n
  result_kept None n = omega arith
  result_kept (Some t) n = omega arith

  -- ---- functions

  returned_kept : (ts : List ValType) (n : ℕ) → n + result_count (first_type ts) ≡ with_kept (gives_one ts) n
  returned_kept [] n = omega arith
  returned_kept (t ∷ ts) n = omega arith

  body_level : (f : ℕ) (t : FuncType) (g : IsDefinedFunction m f t) → Level m g.function.body 0 (result_count (first_type t.results))
  body_level f t g =
      let k = all_at (FunctionKnown asks_all m) m.functions (f - imported_functions m.imports) g.function bounded.constants g.in_module in
      let same : k.0 ≡ t = some_is k.0 t (sym k.1 ∙ g.typed) in
      let l = level_known (k.0.parameters ++ g.function.locals) (first_type k.0.results) g.function.body (first_type k.0.results ∷ []) [] (kinds (first_type k.0.results)) k.2 in
      subst (λ (u : FuncType). Level m g.function.body 0 (result_count (first_type u.results))) same (level_body (k.0.parameters ++ g.function.locals) (first_type k.0.results) g.function.body (first_type k.0.results) l)

  body_at : (f : ℕ) (t : FuncType) (g : IsDefinedFunction m f t) → At f g.function.body 0 (result_count (first_type t.results)) 0
  body_at f t g =
      let e : own_height m f ≡ peak m no_heights g.function.body 0 = ap (λ (b : Option Code). peak_in m no_heights b) g.has_body in
      (body_level f t g, omega (arith, e), calls_own f g.function.body g.has_body)

  -- the active functions after a step: some are left, or the called one is entered
  abbrev Steps : (g : ℕ) → List ℕ → (f : ℕ) → Machine → Type 0
  Steps g fs f x = Moved (g ∷ fs) x ⊎ (IsDefined m f × Calls (callees m) g f × Own (f ∷ g ∷ fs) x)

  framed : (b : Bool) (f g : ℕ) (fs : List ℕ) (t : FuncType) (d : IsDefinedFunction m f t) (us : List Value) (rest : Code) (locals : List Value) (ls : List ControlEntry) (st : State) (count k : ℕ) → Calls (callees m) g f → At g rest (length us + result_count (first_type t.results)) k (under ls) → Entries (g ∷ fs) k ls → Steps g fs f (if b then Running [] d.function.body (Frame (gives_one t.results) locals us rest ∷ ls) st else Stuck count)
  framed true f g fs t d us rest locals ls st count k c a e = inr (
    defined_at f t d,
    c,
    (
      result_count (first_type t.results),
      body_at f t d,
      (
        k,
        at_same g rest (length us + result_count (first_type t.results)) (with_kept (gives_one t.results) (length us)) k (under ls) (returned_kept t.results (length us)) a,
        at_same g rest (length us + result_count (first_type t.results)) (result_count (first_type t.results) + length us) k (under ls) (omega arith) a,
        e,
      ),
    ),
  )
  framed false f g fs t d us rest locals ls st count k c a e = inl (stuck (g ∷ fs) count)

  enters : (f g : ℕ) (fs : List ℕ) (t : FuncType) (d : IsDefinedFunction m f t) (vs : List Value) (rest : Code) (ls : List ControlEntry) (st : State) (k : ℕ) → Calls (callees m) g f → At g rest (length vs - length t.parameters + result_count (first_type t.results)) k (under ls) → Entries (g ∷ fs) k ls → Steps g fs f (machine.enter d.function (Some t) vs rest ls st)
  enters f g fs t d vs rest ls st k c a e =
      let n = length-drop (length t.parameters) vs in
      let same : length vs - length t.parameters + result_count (first_type t.results) ≡ length (drop (length t.parameters) vs) + result_count (first_type t.results) = omega (arith, n) in
      framed (nat_le (length t.parameters) (length vs)) f g fs t d (drop (length t.parameters) vs) rest st.locals ls (with_locals st (reverse (take (length t.parameters) vs) ++ map zero_of d.function.locals)) st.count k c
      (at_same g rest (length vs - length t.parameters + result_count (first_type t.results)) (length (drop (length t.parameters) vs) + result_count (first_type t.results)) k (under ls) same a) e

  host_results : (c : HostCall) → result_count (first_type (type_of_call c).results) ≡ length (type_of_call c).results
  host_results VertexId = refl
  host_results Superstep = refl
  host_results NumVertices = refl
  host_results GetValue = refl
  host_results SetValue = refl
  host_results NextMessage = refl
  host_results MessageValue = refl
  host_results NextEdge = refl
  host_results EdgeTarget = refl
  host_results EdgeValue = refl
  host_results Send = refl
  host_results Aggregate = refl
  host_results Aggregated = refl
  host_results VoteToHalt = refl

  calls_on : (f g : ℕ) (fs : List ℕ) (t : FuncType) → IsHostFunction m f t ⊎ IsDefinedFunction m f t → (vs : List Value) (rest : Code) (ls : List ControlEntry) (st : State) (k : ℕ) → Calls (callees m) g f → At g rest (length vs - length t.parameters + result_count (first_type t.results)) k (under ls) → Entries (g ∷ fs) k ls → Steps g fs f (take_call m (slice_get (functions_of m) f) vs rest ls st)
  calls_on f g fs t (inl h) vs rest ls st k way a e =
      let b = subst (λ (u : FuncType). At g rest (length vs - length u.parameters + result_count (first_type u.results)) k (under ls)) h.typed a in
      let n = host_results h.call in
      let c = at_same g rest (length vs - length (type_of_call h.call).parameters + result_count (first_type (type_of_call h.call).results)) (length vs - length (type_of_call h.call).parameters + length (type_of_call h.call).results) k (under ls) (omega (arith, n)) b in
      subst (λ (o : Option Callee). Steps g fs f (take_call m o vs rest ls st)) (sym h.called) (inl (has_effect (machine.host_effect (Some h.call) vs st) (length vs - length (type_of_call h.call).parameters + length (type_of_call h.call).results) g fs rest ls st.count k (leaves_call h.call vs st) c e))
  calls_on f g fs t (inr d) vs rest ls st k way a e =
      subst (λ (o : Option Callee). Steps g fs f (take_call m o vs rest ls st)) (sym d.called) (subst (λ (u : Option FuncType). Steps g fs f (machine.enter d.function u vs rest ls st)) (sym d.typed) (enters f g fs t d vs rest ls st k way a e))

  -- ---- each step

  arm_level : (n : ℕ) (body other : Code) (k : ℕ) → Level m body 0 k → Level m other 0 k → Level m (arm n body other) 0 k
  arm_level zero body other k b o = o
  arm_level (suc n) body other k b o = b

  arm_called : (f n : ℕ) (body other : Code) → Called f body → Called f other → Called f (arm n body other)
  arm_called f zero body other b o = o
  arm_called f (suc n) body other b o = b

  arm_low : (n : ℕ) (body other : Code) → peak m no_heights (arm n body other) 0 ≤ max (peak m no_heights body 0) (peak m no_heights other 0)
  arm_low zero body other = omega arith
  arm_low (suc n) body other = omega arith

  block_rest : (t : Option ValType) (f : ℕ) (rest : Code) (n here k u whole : ℕ) → n ≡ here - 0 + result_count t → Level m rest n k → peak m no_heights rest n ≤ whole → u + whole ≤ own_height m f → Called f rest → At f rest (here - 0 + result_count t) k u
  block_rest t f rest n here k u whole e l p h c =
      at_same f rest n (here - 0 + result_count t) k u e (behind f rest n k u whole l p h c)

  step : (f : ℕ) (fs : List ℕ) (vs : List Value) (is : Code) (ls : List ControlEntry) (st : State) → Own (f ∷ fs) (Running vs is ls st) → Steps f fs (called (Running vs is ls st)) (advance m (Running vs is ls st))
  step f fs vs code.end ls st w = inl (leaves_at vs f fs w.0 ls st w.1.0 w.2)
  step f fs vs (code.plain p rest) ls st w =
      let s = tick (next_units m (code.plain p rest)) st in
      inl (has_effect (effect p vs s) (after (plain_arity p) (length vs)) f fs rest ls s.count w.0 (leaves_plain s p vs) (behind f rest (after (plain_arity p) (length vs)) w.0 (under ls) (peak m no_heights (code.plain p rest) (length vs)) w.1.0 (omega arith) w.1.1 w.1.2) w.2)
  step f fs vs (code.branch b rest) ls st w =
      inl (branches b vs f fs rest ls (tick (next_units m (code.branch b rest)) st) w.0 w.1 w.2)
  step f fs vs (code.call g rest) ls st w =
      let t = w.1.0.0 in
      let e = w.1.0.1 in
      let takes_is = call_counts m g t e typed.types in
      let gives_is = call_results m g t e typed.types in
      let same : length vs - (call_arity m g).takes + (call_arity m g).gives ≡ length vs - length t.parameters + result_count (first_type t.results) = omega (arith, takes_is, gives_is) in
      let a = behind f rest (after (call_arity m g) (length vs)) w.0 (under ls) (peak m no_heights (code.call g rest) (length vs)) w.1.0.2 (omega arith) w.1.1 w.1.2.1 in
      calls_on g f fs t (function_at m bounded.imports g t e) vs rest ls (tick (next_units m (code.call g rest)) st) w.0 w.1.2.0 (at_same f rest (after (call_arity m g) (length vs)) (length vs - length t.parameters + result_count (first_type t.results)) w.0 (under ls) same a) w.2
  step f fs vs (code.call_indirect t rest) ls st w = inl (stuck (f ∷ fs) (st.count + next_units m (code.call_indirect t rest)))
  step f fs vs (code.unreachable rest) ls st w = inl (trapped (f ∷ fs) (st.count + next_units m (code.unreachable rest)))
  step f fs vs (code.block t body rest) ls st w =
      let c = parts (Calls (callees m) f) (calls_of body) (calls_of rest) w.1.2 in
      let whole = peak m no_heights (code.block t body rest) (length vs) in
      let r = block_rest t f rest (after (block_arity t) (length vs)) (length vs) w.0 (under ls) whole refl w.1.0.1 (omega arith) w.1.1 c.1 in
      let h = w.1.1 in
      inl (begins_block t vs f fs (has_result t) body rest rest ls (tick (next_units m (code.block t body rest)) st) w.0 w.1.0.0 (omega (arith, h)) c.0 (at_same f rest (length vs - 0 + result_count t) (with_kept (has_result t) (length vs)) w.0 (under ls) (result_kept t (length vs)) r) r w.2)
  step f fs vs (code.loop t body rest) ls st w =
      let c = parts (Calls (callees m) f) (calls_of body) (calls_of rest) w.1.2 in
      let whole = peak m no_heights (code.loop t body rest) (length vs) in
      let r = block_rest t f rest (after (block_arity t) (length vs)) (length vs) w.0 (under ls) whole refl w.1.0.1 (omega arith) w.1.1 c.1 in
      let h = w.1.1 in
      inl (begins_block t vs f fs false body (code.loop t body rest) rest ls (tick (next_units m (code.loop t body rest)) st) w.0 w.1.0.0 (omega (arith, h)) c.0 w.1 r w.2)
  step f fs vs (code.choice t body other rest) ls st w =
      let s = tick (next_units m (code.choice t body other rest)) st in
      let c = parts (Calls (callees m) f) (calls_of body) (calls_of other ++ calls_of rest) w.1.2 in
      let d = parts (Calls (callees m) f) (calls_of other) (calls_of rest) c.1 in
      let whole = peak m no_heights (code.choice t body other rest) (length vs) in
      inl (takes_one (f ∷ fs) vs s.count (λ n us. Running [] (arm n body other) (Label (has_result t) us rest rest ∷ ls) s) (λ n us g.
      let same : length vs - 1 + 0 - 0 + result_count t ≡ length us - 0 + result_count t = omega (arith, g) in
      let r = block_rest t f rest (length vs - 1 + 0 - 0 + result_count t) (length us) w.0 (under ls) whole same w.1.0.2 (omega arith) w.1.1 d.1 in
      let low = arm_low n body other in
      let h = w.1.1 in
      begins_block t us f fs (has_result t) (arm n body other) rest rest ls s w.0 (arm_level n body other (result_count t) w.1.0.0 w.1.0.1) (omega (arith, g, low, h)) (arm_called f n body other c.0 d.0) (at_same f rest (length us - 0 + result_count t) (with_kept (has_result t) (length us)) w.0 (under ls) (result_kept t (length us)) r) r w.2))

  -- ---- which functions are active

  left_active : (a b j c : ℕ) (fs : List ℕ) → length fs ≡ a → length (drop j fs) ≡ b → j ≤ length fs → drop (a - b) (entered (b - a) c fs) ≡ drop j fs
  left_active a b j c fs n k h =
      let d = length-drop j fs in
      let out : a - b ≡ j = omega (arith, n, k, h, d) in
      let none : b - a ≡ zero = omega (arith, n, k, h, d) in
      ap (λ (i : ℕ). drop i (entered (b - a) c fs)) out ∙ ap (λ (i : ℕ). drop j (entered i c fs)) none

  entered_active : (a b c : ℕ) (fs : List ℕ) → length fs ≡ a → suc (length fs) ≡ b → drop (a - b) (entered (b - a) c fs) ≡ c ∷ fs
  entered_active a b c fs n k =
      let none : a - b ≡ zero = omega (arith, n, k) in
      let one : b - a ≡ suc zero = omega (arith, n, k) in
      ap (λ (i : ℕ). drop i (entered (b - a) c fs)) none ∙ ap (λ (i : ℕ). drop zero (entered i c fs)) one

  -- the configuration is so, and each active function may run
  abbrev Good : List ℕ → Machine → Type 0
  Good fs x = Own fs x × AllByRecursion Active fs

  follows : (x : Machine) (g : ℕ) (fs : List ℕ) → length (g ∷ fs) ≡ frames x → AllByRecursion Active (g ∷ fs) → Steps g fs (called x) (advance m x) → Good (active_after m x (g ∷ fs)) (advance m x)
  follows x g fs n a (inl w) =
      let e = left_active (frames x) (frames (advance m x)) w.0 (called x) (g ∷ fs) n (length_own (drop w.0 (g ∷ fs)) (advance m x) w.2) w.1 in
      subst (λ (gs : List ℕ). Good gs (advance m x)) (sym e) (w.2, without Active w.0 (g ∷ fs) a)
  follows x g fs n a (inr w) =
      let e = entered_active (frames x) (frames (advance m x)) (called x) (g ∷ fs) n (length_own (called x ∷ g ∷ fs) (advance m x) w.2) in
      subst (λ (gs : List ℕ). Good gs (advance m x)) (sym e) (w.2, ((w.0, active_on g (called x) a.0.1 w.1), a))

  moves : (x : Machine) (fs : List ℕ) → Good fs x → Good (active_after m x fs) (advance m x)
  moves (Running vs is ls st) [] w = absurd w.0
  moves (Running vs is ls st) (f ∷ fs) w =
      follows (Running vs is ls st) f fs (length_own (f ∷ fs) (Running vs is ls st) w.0) w.1 (step f fs vs is ls st w.0)
  moves (Done st) fs w = w
  moves (Trapped count) fs w = w
  moves (Stuck count) fs w = w

  runs : (n : ℕ) (x : Machine) (fs : List ℕ) → Good fs x → Good (active_at m n x fs) (run m n x)
  runs zero x fs w = w
  runs (suc n) x fs w = runs n (advance m x) (active_after m x fs) (moves x fs w)

  -- ---- calls

  begins_own : (st : State) → Good (bounded.compute.number ∷ []) (Running [] bounded.compute.function.body [] st)
  begins_own st =
      let c = bounded.compute in
      let g = compute_defined m bounded in
      let same : g.function ≡ c.function = some_is g.function c.function (sym g.in_module ∙ c.defined) in
      let may : MayRun m c.number = record { compute = c; path = []; leads = refl } in
      ((0, subst (λ (f : Function). At c.number f.body 0 0 0) same (body_at c.number plain_type g), refl), ((defined_at c.number plain_type g, may), tt))

  pub own_throughout : (input : CallInput) (first : Machine) → Starts m input first → (n : ℕ) → AreOwn m (own_operands (run m n first)) (active_at m n first (bounded.compute.number ∷ []))
  own_throughout input first starts n =
      let c = bounded.compute in
      let b = begun m typed bounded (compute_defined m bounded) in
      let st = start_state c.function b.globals b.bytes input in
      let x = Running [] c.function.body [] st in
      let same : first ≡ x = one_start m input first x starts (record { function = c.function; globals = b.globals; bytes = b.bytes; begins = b.begins; is = refl }) in
      let good : Good (c.number ∷ []) first = subst (λ (y : Machine). Good (c.number ∷ []) y) (sym same) (begins_own st) in
      let there = runs n first (c.number ∷ []) good in
      are_both (own_operands (run m n first)) (active_at m n first (c.number ∷ [])) (are_own (active_at m n first (c.number ∷ [])) (run m n first) there.0) there.1

pub keeps_own : (m : Module) → CallsKeepOwn m
keeps_own m typed bounded input first starts n = own_throughout m typed bounded input first starts n
