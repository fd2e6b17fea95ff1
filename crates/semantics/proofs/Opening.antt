-- The opening of a loop: it takes an item, and where there is none it leaves the loop.
use Rattle.std.proofs.Common.{◌≡◌, ℕ, suc, ◌+◌, ◌*◌, ◌≤◌, ◌⊎◌, inl, inr, ℤ, List, [], ◌∷◌, length, slice_get, Option, Some, None, refl, sym, ap, ◌∙◌, subst, arith}
use Rattle.wasm_ast.specs.declared.types.ValType.{ValType}
use Rattle.wasm_ast.specs.declared.types.ValType.TheVariants as val_type
use Rattle.wasm_ast.specs.declared.types.Value.{Value}
use Rattle.wasm_ast.specs.declared.types.Value.TheVariants.{I32}
use Rattle.wasm_ast.specs.declared.numeric.Numeric.TheVariants as numeric
use Rattle.wasm_ast.specs.declared.plain.Plain.TheVariants as plain
use Rattle.wasm_ast.specs.declared.plain.Branch.TheVariants as branch
use Rattle.wasm_ast.specs.declared.module.Module.{Module}
use Rattle.wasm_ast.specs.Code.{Code}
use Rattle.wasm_ast.specs.Code as code
use Rattle.verified.specs.declared.imports.HostCall.{HostCall}
use Rattle.verified.specs.declared.imports.HostCall.TheVariants.{NextMessage, NextEdge}
use Rattle.verified.specs.Imports.{type_of_call}
use Rattle.verified.specs.Host.{take_message, take_edge}
use Rattle.verified.specs.Effects.{answer}
use Rattle.verified.specs.Weights.{plain_units, branch_units, call_units}
use Rattle.verified.specs.LeastUnits.{plain_least, branch_least, call_least}
use Rattle.verified.specs.declared.requirements.Requirement.TheVariants as requirement
use Rattle.verified.specs.Spaces.{first_type}
use Rattle.verified.specs.Kinds.{Kind, Any, kinds, requirements}
use Rattle.verified.specs.Memory.{memory_bytes}
use Rattle.verified.specs.Known.{Context, Changes, call_requirements}
use Rattle.verified.specs.Shapes.{TakesItem}
use Rattle.semantics.specs.Configuration.{State, tick, with_host, Effect, Gives}
use Rattle.semantics.specs.Effects.{call_effect, lifted}
use Rattle.semantics.specs.Machine.{Callee, host, functions_of, ControlEntry, Machine, Running, jump, advance, take_call, after_effect}
use Rattle.semantics.specs.Heights.{beneath, callers}
use Rattle.semantics.proofs.Values.{HasKinds, IsTop, takes}
use Rattle.semantics.proofs.Sound.{Sound, items_left, ticked}
use Rattle.semantics.proofs.Plains.{context}
use Rattle.semantics.proofs.Reach.{Comes, Branches, Named, GoodCode, renamed, comes_one, comes_on, cost_more, cost_tick}
use Rattle.semantics.proofs.Loops.{GoodTurn, Turned, goes}

abbrev pub opening : ℕ → ℕ → Code → Code
opening f l rest = code.call f (code.plain (plain.Numeric (numeric.Eqz val_type.I32)) (code.branch (branch.BrIf l) rest))

-- ---- kinds

module _ (m : Module) (ls : List ValType) (o : Option ValType) (labels : List (Option ValType)) where
  no_kinds : (below : List Kind) → [] ≡ below → HasKinds [] below
  no_kinds below e = subst (HasKinds []) e tt

  took_kinds : (to below : List Kind) (b : ℕ) → [] ≡ below → to ≡ Any val_type.I32 ∷ below → HasKinds (I32 b ∷ []) to
  took_kinds to below b e t = subst (HasKinds (I32 b ∷ [])) (sym t) (refl, no_kinds below e)

  -- one i32 is there after the call
  pub call_kinds : (call : HostCall) → TakesItem (Some call) → (to : List Kind) → Changes (context m ls o labels) (call_requirements (context m ls o labels) (Some call) (type_of_call call).parameters) (kinds (first_type (type_of_call call).results)) [] to → (b : ℕ) → HasKinds (I32 b ∷ []) to
  call_kinds NextMessage i to c b = took_kinds to c.0 b c.1 c.2
  call_kinds NextEdge i to c b = took_kinds to c.0 b c.1 c.2
  call_kinds _ i to c b = absurd i

  -- and after the test
  pub eqz_kinds : (from to : List Kind) → Changes (context m ls o labels) (requirement.Value val_type.I32 ∷ []) (Any val_type.I32 ∷ []) from to → (b x : ℕ) → HasKinds (I32 b ∷ []) from → HasKinds (I32 x ∷ []) to
  eqz_kinds from to c b x h =
      let r = takes (memory_bytes m) (requirement.Value val_type.I32 ∷ []) (I32 b ∷ []) from c.0 c.1 h in
      subst (HasKinds (I32 x ∷ [])) (sym c.2) (refl, subst (λ (vs : List Value). HasKinds vs c.0) (sym r.1.1) r.2)

  -- none after the branch, which carries none
  pub branch_kinds : (t : Option ValType) (from to : List Kind) → Changes (context m ls o labels) (requirement.Value val_type.I32 ∷ requirements t) (kinds t) from to → (x : ℕ) → HasKinds (I32 x ∷ []) from → IsTop t None × HasKinds [] to
  branch_kinds None from to c x h =
      let r = takes (memory_bytes m) (requirement.Value val_type.I32 ∷ []) (I32 x ∷ []) from c.0 c.1 h in
      (tt, subst (HasKinds []) (sym c.2) (subst (λ (vs : List Value). HasKinds vs c.0) (sym r.1.1) r.2))
  branch_kinds (Some u) from to c x h =
      let r = takes (memory_bytes m) (requirement.Value val_type.I32 ∷ requirement.Value u ∷ []) (I32 x ∷ []) from c.0 c.1 h in
      absurd r.1.1

-- ---- what the call does

-- an item is taken
pub record Took (m : Module) (ls : List ValType) (call : HostCall) (vs : List Value) (st : State) : Type 0 where
  pub after : State
  pub gives : call_effect call vs st ≡ Gives (I32 1 ∷ vs) after
  pub sound : Sound m ls after
  pub items : items_left st.host ≡ 1 + items_left after.host
  pub counts : after.count ≡ st.count

module _ (m : Module) (ls : List ValType) (vs : List Value) (st : State) (s : Sound m ls st) where
  message_or_none : (ms : List ℤ) → st.host.messages ≡ ms → (call_effect NextMessage vs st ≡ Gives (I32 0 ∷ vs) st) ⊎ Took m ls NextMessage vs st
  message_or_none [] e = inl (ap (λ (xs : List ℤ). lifted st (answer (take_message xs st.host) vs)) e)
  message_or_none (x ∷ ms) e =
      let n : length st.host.messages ≡ length (x ∷ ms) = ap (λ (l : List ℤ). length l) e in
      inr (record {
        after = with_host st (take_message (x ∷ ms) st.host).1;
        gives = ap (λ (xs : List ℤ). lifted st (answer (take_message xs st.host) vs)) e;
        sound = record { locals_typed = s.locals_typed; globals_typed = s.globals_typed; bytes_there = s.bytes_there };
        items = omega (arith, n);
        counts = refl;
      })

  edge_or_none : (es : List (ℤ × ℤ)) → st.host.edges ≡ es → (call_effect NextEdge vs st ≡ Gives (I32 0 ∷ vs) st) ⊎ Took m ls NextEdge vs st
  edge_or_none [] e = inl (ap (λ (xs : List (ℤ × ℤ)). lifted st (answer (take_edge xs st.host) vs)) e)
  edge_or_none (x ∷ es) e =
      let n : length st.host.edges ≡ length (x ∷ es) = ap (λ (l : List (ℤ × ℤ)). length l) e in
      inr (record {
        after = with_host st (take_edge (x ∷ es) st.host).1;
        gives = ap (λ (xs : List (ℤ × ℤ)). lifted st (answer (take_edge xs st.host) vs)) e;
        sound = record { locals_typed = s.locals_typed; globals_typed = s.globals_typed; bytes_there = s.bytes_there };
        items = omega (arith, n);
        counts = refl;
      })

  pub item_or_none : (call : HostCall) → TakesItem (Some call) → (call_effect call vs st ≡ Gives (I32 0 ∷ vs) st) ⊎ Took m ls call vs st
  item_or_none NextMessage i = message_or_none st.host.messages refl
  item_or_none NextEdge i = edge_or_none st.host.edges refl
  item_or_none _ i = absurd i

-- ---- a turn

-- what the instructions of the opening count
abbrev opening_units : Module → ℕ → ℕ → ℕ
opening_units m f l =
    call_units m f + plain_units (plain.Numeric (numeric.Eqz val_type.I32)) + branch_units (branch.BrIf l)

opening_least : (m : Module) (f l : ℕ) → 3 ≤ opening_units m f l
opening_least m f l =
    omega (arith, call_least m f, plain_least (plain.Numeric (numeric.Eqz val_type.I32)), branch_least (branch.BrIf l))

cost_left : (u s a t S b : ℕ) → u + s ≤ S → b ≤ a + u + s * (1 + t) → b ≤ a + S * (1 + t)
cost_left u s a t S b h k = cost_more (u + s) S a b t h (cost_tick u s a b t k)

cost_also : (a S u b : ℕ) → b ≤ a + S * (1 + u) → b ≤ a + S * (1 + (1 + u))
cost_also a S u b k = omega arith

cost_none : (u s a S : ℕ) → u + s ≤ S → a + u ≤ a + S * (1 + 0)
cost_none u s a S h = omega arith

module _ (m : Module) (H F : ℕ) (R : ℕ → ℕ → Type 0) (c : Context) (f l : ℕ) (rest : Code) (call : HostCall) (takes_item : TakesItem (Some call)) (called : slice_get (functions_of m) f ≡ Some (host (Some call))) (t : Option ValType) (label : slice_get c.labels (suc l) ≡ Some t) (top : IsTop t None) (mid to : List Kind) (empty : HasKinds [] mid) (s h r S h0 : ℕ) (good : GoodCode m H F R c s h r rest mid to) (sized : opening_units m f (suc l) + s ≤ S) (one : 1 ≤ h0) (high : h ≤ h0) (frame : 1 ≤ r) where
  module _ (ls : List ControlEntry) (st : State) (low : beneath ls + h0 ≤ H) (shallow : callers ls + r ≤ F) where
    -- the call, and the instructions after it, where it gives this number
    called_gives : (b : ℕ) (after : State) → call_effect call [] (tick (call_units m f) st) ≡ Gives (I32 b ∷ []) after → advance m (Running [] (opening f (suc l) rest) ls st) ≡ Running (I32 b ∷ []) (code.plain (plain.Numeric (numeric.Eqz val_type.I32)) (code.branch (branch.BrIf (suc l)) rest)) ls after
    called_gives b after e =
        ap (λ (o : Option Callee). take_call m o [] (code.plain (plain.Numeric (numeric.Eqz val_type.I32)) (code.branch (branch.BrIf (suc l)) rest)) ls (tick (call_units m f) st)) called
        ∙ ap (λ (x : Effect). after_effect x (code.plain (plain.Numeric (numeric.Eqz val_type.I32)) (code.branch (branch.BrIf (suc l)) rest)) ls (st.count + call_units m f)) e

    three : (b : ℕ) (after : State) (z : Machine) (x : Value) → call_effect call [] (tick (call_units m f) st) ≡ Gives (I32 b ∷ []) after
        → advance m (Running (I32 b ∷ []) (code.plain (plain.Numeric (numeric.Eqz val_type.I32)) (code.branch (branch.BrIf (suc l)) rest)) ls after) ≡ Running (x ∷ []) (code.branch (branch.BrIf (suc l)) rest) ls (tick (plain_units (plain.Numeric (numeric.Eqz val_type.I32))) after)
        → advance m (Running (x ∷ []) (code.branch (branch.BrIf (suc l)) rest) ls (tick (plain_units (plain.Numeric (numeric.Eqz val_type.I32))) after)) ≡ z
        → Comes m H F R (1 + (1 + 1)) (Running [] (opening f (suc l) rest) ls st) z
    three b after z x e g k =
        comes_on m H F R 1 (1 + 1) (Running [] (opening f (suc l) rest) ls st) (Running (I32 b ∷ []) (code.plain (plain.Numeric (numeric.Eqz val_type.I32)) (code.branch (branch.BrIf (suc l)) rest)) ls after) z
        (comes_one m H F R _ _ (omega (arith, low), omega (arith, shallow, frame), tt) (called_gives b after e))
        (comes_on m H F R 1 1 (Running (I32 b ∷ []) (code.plain (plain.Numeric (numeric.Eqz val_type.I32)) (code.branch (branch.BrIf (suc l)) rest)) ls after) (Running (x ∷ []) (code.branch (branch.BrIf (suc l)) rest) ls (tick (plain_units (plain.Numeric (numeric.Eqz val_type.I32))) after)) z
        (comes_one m H F R _ _ (omega (arith, low, one), omega (arith, shallow, frame), tt) g)
        (comes_one m H F R _ _ (omega (arith, low, one), omega (arith, shallow, frame), tt) k))

    leaves : Sound m c.locals st → call_effect call [] (tick (call_units m f) st) ≡ Gives (I32 0 ∷ []) (tick (call_units m f) st) → Turned m H F R c (Named (opening f (suc l) rest)) S (Running [] (opening f (suc l) rest) ls st) ls st to
    leaves sound e =
        let n = cost_none (opening_units m f (suc l)) s st.count S sized in (
          Branches (suc l) None,
          record {
            final = tick (branch_units (branch.BrIf (suc l))) (tick (plain_units (plain.Numeric (numeric.Eqz val_type.I32))) (tick (call_units m f) st));
            steps = 1 + (1 + 1);
            by = three 0 (tick (call_units m f) st) (jump (suc l) None ls (tick (branch_units (branch.BrIf (suc l))) (tick (plain_units (plain.Numeric (numeric.Eqz val_type.I32))) (tick (call_units m f) st)))) (I32 1) e refl refl;
            fits = (t, label, top);
            named = λ w. w.0 refl;
            sound = ticked m c.locals _ _ (ticked m c.locals _ _ (ticked m c.locals _ st sound));
            taken = 0;
            items = omega arith;
            cost = omega (arith, n);
            short = omega (arith, opening_least m f (suc l));
          },
          tt,
        )

    goes_on : Took m c.locals call [] (tick (call_units m f) st) → Turned m H F R c (Named (opening f (suc l) rest)) S (Running [] (opening f (suc l) rest) ls st) ls st to
    goes_on k =
        let on = tick (branch_units (branch.BrIf (suc l))) (tick (plain_units (plain.Numeric (numeric.Eqz val_type.I32))) k.after) in
        let p = good [] ls on empty (ticked m c.locals _ _ (ticked m c.locals _ k.after k.sound)) (omega (arith, low, high)) shallow in
        let q = p.1 in
        let n : items_left st.host ≡ 1 + q.taken + items_left q.final.host = omega (arith, k.items, q.items) in
        let b : q.final.count ≤ st.count + opening_units m f (suc l) + s * (1 + q.taken) = omega (arith, q.cost, k.counts) in
        let d = cost_left (opening_units m f (suc l)) s st.count q.taken S q.final.count sized b in (
          p.0,
          record {
            final = q.final;
            steps = 1 + (1 + 1) + q.steps;
            by = comes_on m H F R (1 + (1 + 1)) q.steps (Running [] (opening f (suc l) rest) ls st) (Running [] rest ls on) _ (three 1 k.after (Running [] rest ls on) (I32 0) k.gives refl refl) q.by;
            fits = q.fits;
            named = renamed m H F R (Named rest) (Named (opening f (suc l) rest)) (λ n k w. k w.1) p.0 q.named;
            sound = q.sound;
            taken = 1 + q.taken;
            items = n;
            cost = cost_also st.count S q.taken q.final.count d;
            short = omega (arith, q.short, k.counts, opening_least m f (suc l));
          },
          goes S st.count q.final.count (1 + q.taken) p.0 (omega arith) d,
        )

  pub opened : GoodTurn m H F R c S h0 r (opening f (suc l) rest) to
  opened ls st sound low shallow =
      elim (item_or_none m c.locals [] (tick (call_units m f) st) (ticked m c.locals (call_units m f) st sound) call takes_item) [
        | inl e ↦ leaves ls st low shallow sound e
        | inr k ↦ goes_on ls st low shallow k
      ]
