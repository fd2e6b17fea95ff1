-- Every function by its rank, and the end of a compute call of a bounded module.
use Rattle.std.proofs.Common.{◌≡◌, ◌≢◌, ℕ, zero, suc, ◌+◌, ◌-◌, ◌*◌, ◌≤◌, ◌<◌, List, [], ◌∷◌, ◌++◌, map, slice_get, Option, Some, None, refl, sym, ap, ◌∙◌, subst, le_trans, arith}
use Rattle.std.proofs.lemmas.List.{length-map}
use Rattle.std.specs.List.{AllByRecursion}
use Rattle.wasm_ast.specs.declared.types.ValType.{ValType}
use Rattle.wasm_ast.specs.declared.types.FuncType.{FuncType}
use Rattle.wasm_ast.specs.declared.module.Function.{Function}
use Rattle.wasm_ast.specs.declared.module.Module.{Module}
use Rattle.wasm_ast.specs.Code.{Code}
use Rattle.wasm_ast.specs.Code as code
use Rattle.wasm_ast.specs.Limits.{imported_functions}
use Rattle.verified.specs.declared.call.CallInput.{CallInput}
use Rattle.verified.specs.Host.{seen_edge}
use Rattle.verified.specs.Spaces.{first_type}
use Rattle.verified.specs.Modules.{IsTyped}
use Rattle.verified.specs.Calls.{calls_of}
use Rattle.verified.specs.CallHeights.{most, height}
use Rattle.verified.specs.Sizes.{AreSizes, code_size, size_in}
use Rattle.verified.specs.Kinds.{kinds}
use Rattle.verified.specs.Known.{Known, FunctionKnown}
use Rattle.verified.specs.Profile.{IsBounded, asks_all, plain_type}
use Rattle.verified.specs.Shapes.{Everywhere, NotIndirect, NotUnreachable, NotGrow, LoopTakes}
use Rattle.verified.specs.Hosts.{host_call_at}
use Rattle.verified.specs.Heights.{peak, peak_in, AreHeights}
use Rattle.verified.specs.Facts.{AreDepths}
use Rattle.semantics.specs.Configuration.{State}
use Rattle.semantics.specs.Machine.{defined, Machine, Running, Done, Trapped, Stuck, advance, run}
use Rattle.semantics.specs.Start.{Starts, start_state}
use Rattle.semantics.specs.Bounded.{Ends, CallsEnd, items_of}
use Rattle.verified.specs.Reached.{accesses}
use Rattle.semantics.specs.inside.Touched.{AreMarked, Touches, marks}
use Rattle.semantics.proofs.Values.{kinds_length, none_some, some_is, zeros_typed}
use Rattle.semantics.proofs.Sound.{Sound, items_left}
use Rattle.semantics.proofs.Callees.{IsDefinedFunction, is_defined, past_at}
use Rattle.semantics.proofs.Lengths.{all_at}
use Rattle.semantics.proofs.Reach.{IsLow, AllLow, Exit, Falls, Branches, Returns, Named, Reach, Reaches, GoodCode}
use Rattle.semantics.proofs.Calling.{inside}
use Rattle.semantics.proofs.Covering.{Covered, IsMet, all_marked, covered, function_met}
use Rattle.semantics.proofs.Induction.{Fair, code_good}
use Rattle.semantics.proofs.Fairness.{fair, below_most}
use Rattle.semantics.proofs.Starting.{Begun, begun}
use Rattle.semantics.proofs.Instructions.{all_counted}

-- ---- functions

module _ (m : Module) (typed : IsTyped m) (bounded : IsBounded m) (sizes hs depths : ℕ → ℕ) (are_sizes : AreSizes m sizes) (are_heights : AreHeights m hs) (are_depths : AreDepths m depths) (H F : ℕ) (R : ℕ → ℕ → Type 0) (met : AllByRecursion (IsMet m R) (accesses m)) where
  abbrev pub GoodFunction : (f : ℕ) (t : FuncType) → Function → Type 0
  GoodFunction f t g =
      (1 ≤ depths f) × GoodCode m H F R (inside m (t.parameters ++ g.locals) (first_type t.results)) (sizes f) (hs f) (depths f) g.body [] (kinds (first_type t.results))

  body_known : (f : ℕ) (t : FuncType) (g : IsDefinedFunction m f t) → Known g.function.body (inside m (t.parameters ++ g.function.locals) (first_type t.results)) [] (kinds (first_type t.results))
  body_known f t g =
      let k = all_at (FunctionKnown asks_all m) m.functions (f - imported_functions m.imports) g.function bounded.constants g.in_module in
      let same : k.0 ≡ t = some_is k.0 t (sym k.1 ∙ g.typed) in
      subst (λ (u : FuncType). Known g.function.body (inside m (u.parameters ++ g.function.locals) (first_type u.results)) [] (kinds (first_type u.results))) same k.2

  rule_at : (P : Code → Type 0) (f : ℕ) (t : FuncType) (g : IsDefinedFunction m f t) → AllByRecursion (λ (x : Function). Everywhere P x.body) m.functions → Everywhere P g.function.body
  rule_at P f t g h = all_at (λ (x : Function). Everywhere P x.body) m.functions (f - imported_functions m.imports) g.function h g.in_module

  body_fair : (f : ℕ) (t : FuncType) (g : IsDefinedFunction m f t) → depths f ≡ 1 + most depths (calls_of g.function.body) → Fair m depths (depths f) g.function.body
  body_fair f t g e =
      fair m depths (depths f) g.function.body (rule_at NotIndirect f t g bounded.direct) (rule_at NotUnreachable f t g bounded.reached) (rule_at NotGrow f t g bounded.steady) (rule_at (LoopTakes (host_call_at m)) f t g bounded.loops) (below_most depths (calls_of g.function.body) (depths f) (omega (arith, e)))

  body_covered : (f : ℕ) (t : FuncType) (g : IsDefinedFunction m f t) → Covered R g.function.body (inside m (t.parameters ++ g.function.locals) (first_type t.results)) [] (kinds (first_type t.results)) (body_known f t g)
  body_covered f t g =
      covered m R typed.types (t.parameters ++ g.function.locals) (first_type t.results) g.function.body (first_type t.results ∷ []) [] (kinds (first_type t.results)) [] (body_known f t g) tt (function_met m R (f - imported_functions m.imports) g.function g.in_module met)

  pub function_good : (n f : ℕ) (t : FuncType) (g : IsDefinedFunction m f t) → depths f < n → GoodFunction f t g.function
  function_good zero f t g h = absurd (omega arith)
  function_good (suc n) f t g h =
      let d : depths f ≡ 1 + most depths (calls_of g.function.body) = are_depths f ∙ ap (λ (b : Option Code). height depths b) g.has_body in
      let s : sizes f ≡ code_size m sizes g.function.body = are_sizes f ∙ ap (λ (b : Option Code). size_in m sizes b) g.has_body in
      let p : hs f ≡ peak m hs g.function.body 0 = are_heights f ∙ ap (λ (b : Option Code). peak_in m hs b) g.has_body in
      let one : 1 ≤ depths f = omega (arith, d) in
      let good = code_good m bounded.imports typed.types H F R sizes hs depths (t.parameters ++ g.function.locals) (first_type t.results) (depths f) one (λ f2 t2 less g2. function_good n f2 t2 g2 (omega (arith, less, h))) g.function.body (first_type t.results ∷ []) [] (kinds (first_type t.results)) (body_known f t g) (body_fair f t g d) (body_covered f t g) in
      let sized = subst (λ (k : ℕ). GoodCode m H F R (inside m (t.parameters ++ g.function.locals) (first_type t.results)) k (peak m hs g.function.body 0) (depths f) g.function.body [] (kinds (first_type t.results))) (sym s) good in
      (one, subst (λ (k : ℕ). GoodCode m H F R (inside m (t.parameters ++ g.function.locals) (first_type t.results)) (sizes f) k (depths f) g.function.body [] (kinds (first_type t.results))) (sym p) sized)

-- ---- ends of runs

module _ (m : Module) where
  -- a configuration that stays
  stays : (n : ℕ) (x : Machine) → advance m x ≡ x → run m n x ≡ x
  stays zero x e = refl
  stays (suc n) x e = ap (run m n) e ∙ stays n x e

  -- two that stay are not both reached
  apart : (y z : Machine) → advance m y ≡ y → advance m z ≡ z → y ≢ z → (n k : ℕ) (x : Machine) → run m n x ≡ y → run m k x ≢ z
  apart y z ey ez d zero k x h g = d (sym (stays k y ey) ∙ ap (run m k) (sym h) ∙ g)
  apart y z ey ez d (suc n) zero x h g = d (sym h ∙ ap (λ (w : Machine). run m n (advance m w)) g ∙ ap (run m n) ez ∙ stays n z ez)
  apart y z ey ez d (suc n) (suc k) x h g = apart y z ey ez d n k (advance m x) h g

  done_trapped : (st : State) (n : ℕ) → Done st ≢ Trapped n
  done_trapped st n e = absurd cc

  done_stuck : (st : State) (n : ℕ) → Done st ≢ Stuck n
  done_stuck st n e = absurd cc

  -- a run that ends stays low
  always_low : (H F : ℕ) (R : ℕ → ℕ → Type 0) (fin : State) (j n : ℕ) (x : Machine) → AllLow m H F R j x → run m j x ≡ Done fin → IsLow H F R (run m n x)
  always_low H F R fin zero n x a e =
      let s : run m n x ≡ Done fin = ap (run m n) e ∙ stays n (Done fin) refl in
      subst (IsLow H F R) (sym s) (omega arith, omega arith, tt)
  always_low H F R fin (suc j) zero x a e = a.0
  always_low H F R fin (suc j) (suc n) x a e = always_low H F R fin j n (advance m x) a.1 e

cost_all : (s a t k n : ℕ) → n ≡ t + k → a ≤ 0 + s * (1 + t) → a ≤ s * (1 + n)
cost_all s a t k n e h = subst (λ (n : ℕ). a ≤ s * (1 + n)) (sym e) (there h)
  where
    there : a ≤ 0 + s * (1 + t) → a ≤ s * (1 + (t + k))
    there h = omega arith

module _ (m : Module) (H F s : ℕ) (R : ℕ → ℕ → Type 0) (locals : List ValType) (x : Machine) (st : State) (deep : 1 ≤ F) where
  -- at an exit of the outermost code the machine is done
  over : (N : ℕ → Type 0) (e : Exit) (q : Reach m H F R (inside m locals None) N s x code.end [] st [] e) → (j : ℕ) × (j ≤ q.steps + 1) × (run m j x ≡ Done q.final) × AllLow m H F R j x
  over N (Falls vs) q =
      let n = kinds_length vs [] q.fits in
      let a = q.by 1 ((omega (arith, n), omega (arith, deep), tt), (omega arith, omega arith, tt)) in
      (a.0, omega (arith, a.1), a.2, a.3)
  over N (Branches zero top) q = let a = q.by 0 (omega arith, omega arith, tt) in (a.0, omega (arith, a.1), a.2, a.3)
  over N (Branches (suc l) top) q = absurd (none_some q.fits.0 q.fits.1)
  over N (Returns top) q = let a = q.by 0 (omega arith, omega arith, tt) in (a.0, omega (arith, a.1), a.2, a.3)

-- ---- the call

-- the end of a call that reaches an exit
ended : (m : Module) (typed : IsTyped m) (bounded : IsBounded m) (input : CallInput) (H F s : ℕ) (R : ℕ → ℕ → Type 0) (b : Begun m bounded.compute.function) → 1 ≤ F → (N : ℕ → Type 0) (e : Exit)
    → Reach m H F R (inside m bounded.compute.function.locals None) N s (Running [] bounded.compute.function.body [] (start_state bounded.compute.function b.globals b.bytes input)) code.end [] (start_state bounded.compute.function b.globals b.bytes input) [] e
    → Ends m input (s * (1 + items_of input)) H F
ended m typed bounded input H F s R b deep N e q =
    let st = start_state bounded.compute.function b.globals b.bytes input in
    let x = Running [] bounded.compute.function.body [] st in
    let d = over m H F s R bounded.compute.function.locals x st deep N e q in
    let edges = length-map input.edges.now seen_edge in
    let all : items_of input ≡ q.taken + items_left q.final.host = omega (arith, q.items, edges) in
    let most = cost_all s q.final.count q.taken (items_left q.final.host) (items_of input) all q.cost in
    record {
      first = x;
      starts = record { function = bounded.compute.function; globals = b.globals; bytes = b.bytes; begins = b.begins; is = refl };
      steps = d.0;
      final = q.final;
      done = d.2;
      within = most;
      executes = λ n. le_trans (all_counted m x d.0 q.final d.2 n) most;
      short = omega (arith, q.short, d.1);
      untrapped = λ n count. apart m (Done q.final) (Trapped count) refl refl (done_trapped m q.final count) d.0 n x d.2;
      unstuck = λ n count. apart m (Done q.final) (Stuck count) refl refl (done_stuck m q.final count) d.0 n x d.2;
      low = λ n. (always_low m H F R q.final d.0 n x d.3 d.2).0;
      shallow = λ n. (always_low m H F R q.final d.0 n x d.3 d.2).1;
    }

pub compute_defined : (m : Module) (bounded : IsBounded m) → IsDefinedFunction m bounded.compute.number plain_type
compute_defined m bounded =
    let c = bounded.compute in
    let k = c.number - imported_functions m.imports in
    is_defined m c.number c.function.type_number plain_type c.typed (past_at m m.imports bounded.imports c.number c.function.type_number (map defined m.functions) (map (λ (g : Function). g.type_number) m.functions) c.past_imports (numbered m.functions k c.defined))
  where
    numbered : (fs : List Function) (k : ℕ) → slice_get fs k ≡ Some bounded.compute.function → slice_get (map (λ (g : Function). g.type_number) fs) k ≡ Some bounded.compute.function.type_number
    numbered [] k e = absurd (none_some bounded.compute.function e)
    numbered (g ∷ fs) zero e = ap (λ (h : Function). Some h.type_number) (some_is g bounded.compute.function e)
    numbered (g ∷ fs) (suc k) e = numbered fs k e

-- the beginning of the first configuration of a call, and its end
module _ (m : Module) (typed : IsTyped m) (bounded : IsBounded m) (sizes hs depths : ℕ → ℕ) (are_sizes : AreSizes m sizes) (are_heights : AreHeights m hs) (are_depths : AreDepths m depths) (input : CallInput) where
  begins : Begun m bounded.compute.function
  begins = begun m typed bounded (compute_defined m bounded)

  abbrev first_state : State
  first_state = start_state bounded.compute.function begins.globals begins.bytes input

  abbrev first : Machine
  first = Running [] bounded.compute.function.body [] first_state

  good_compute : GoodFunction m typed bounded sizes hs depths are_sizes are_heights are_depths (hs bounded.compute.number) (depths bounded.compute.number) (AreMarked (marks m)) (all_marked m) bounded.compute.number plain_type bounded.compute.function
  good_compute =
      let c = bounded.compute in
      let f = c.number in
      let g = compute_defined m bounded in
      let same : g.function ≡ c.function = some_is g.function c.function (sym g.in_module ∙ c.defined) in
      subst (GoodFunction m typed bounded sizes hs depths are_sizes are_heights are_depths (hs f) (depths f) (AreMarked (marks m)) (all_marked m) f plain_type) same (function_good m typed bounded sizes hs depths are_sizes are_heights are_depths (hs f) (depths f) (AreMarked (marks m)) (all_marked m) (suc (depths f)) f plain_type g (omega arith))

  reaches : Reaches m (hs bounded.compute.number) (depths bounded.compute.number) (AreMarked (marks m)) (inside m bounded.compute.function.locals None) (Named bounded.compute.function.body) (sizes bounded.compute.number) first code.end [] first_state []
  reaches =
      let sound : Sound m bounded.compute.function.locals first_state = record { locals_typed = zeros_typed bounded.compute.function.locals; globals_typed = begins.typed; bytes_there = begins.long } in
      good_compute.1 [] [] first_state tt sound (omega arith) (omega arith)

  ends : Ends m input (sizes bounded.compute.number * (1 + items_of input)) (hs bounded.compute.number) (depths bounded.compute.number)
  ends =
      let f = bounded.compute.number in
      ended m typed bounded input (hs f) (depths f) (sizes f) (AreMarked (marks m)) begins good_compute.0 (Named bounded.compute.function.body) reaches.0 reaches.1

  -- what the run loads and stores is reached
  pub all_reached : (first : Machine) × Starts m input first × ((n : ℕ) → Touches (AreMarked (marks m)) (run m n first))
  all_reached =
      let f = bounded.compute.number in
      let q = reaches in
      let d = over m (hs f) (depths f) (sizes f) (AreMarked (marks m)) bounded.compute.function.locals first first_state good_compute.0 (Named bounded.compute.function.body) q.0 q.1 in (
        first,
        record { function = bounded.compute.function; globals = begins.globals; bytes = begins.bytes; begins = begins.begins; is = refl },
        λ n. (always_low m (hs f) (depths f) (AreMarked (marks m)) q.1.final d.0 n first d.3 d.2).2,
      )

pub calls_end : (m : Module) → CallsEnd m
calls_end m typed bounded sizes hs depths are_sizes are_heights are_depths input =
    ends m typed bounded sizes hs depths are_sizes are_heights are_depths input
