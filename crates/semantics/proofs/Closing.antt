-- Code that takes an item at its end: the code before that does not go back to the loop.
use Rattle.std.proofs.Common.{◌≡◌, ℕ, zero, suc, ◌+◌, ◌*◌, ◌≤◌, inl, inr, List, ◌∷◌, length, slice_get, Option, Some, refl, sym, ap, ◌∙◌, subst, arith}
use Rattle.wasm_ast.specs.declared.types.ValType.{ValType}
use Rattle.wasm_ast.specs.declared.types.Value.{Value}
use Rattle.wasm_ast.specs.declared.types.Value.TheVariants.{I32}
use Rattle.wasm_ast.specs.declared.plain.Branch.TheVariants as branch
use Rattle.wasm_ast.specs.declared.module.Module.{Module}
use Rattle.wasm_ast.specs.Code.{Code}
use Rattle.wasm_ast.specs.Code as code
use Rattle.verified.specs.declared.imports.HostCall.{HostCall}
use Rattle.verified.specs.declared.imports.HostCall.TheVariants.{NextMessage, NextEdge}
use Rattle.verified.specs.Imports.{type_of_call}
use Rattle.verified.specs.Weights.{branch_units, call_units}
use Rattle.verified.specs.LeastUnits.{branch_least, call_least}
use Rattle.verified.specs.Spaces.{first_type}
use Rattle.verified.specs.Kinds.{Kind, kinds}
use Rattle.verified.specs.Known.{Context, Changes, call_requirements}
use Rattle.verified.specs.Shapes.{TakesItem}
use Rattle.semantics.specs.Configuration.{State, tick, Effect, Gives}
use Rattle.semantics.specs.Effects.{call_effect}
use Rattle.semantics.specs.Machine.{Callee, host, functions_of, ControlEntry, Machine, Running, first, jump, advance, take_call, after_effect}
use Rattle.semantics.specs.Heights.{beneath, callers}
use Rattle.semantics.proofs.Values.{HasKinds, IsTop}
use Rattle.semantics.proofs.Plains.{context}
use Rattle.semantics.proofs.Sound.{Sound, items_left, ticked}
use Rattle.semantics.proofs.Reach.{Comes, Exit, Falls, Branches, Returns, Names, Named, Reach, Reaches, GoodStep, renamed, comes_one, comes_on, cost_more, cost_seq, times}
use Rattle.semantics.proofs.Loops.{GoesOn, Turned}
use Rattle.semantics.proofs.Opening.{Took, item_or_none}

-- Code of these operands, this size s and this height h reaches the end of a turn, whatever is round it.
abbrev pub GoodClosing : Module → ℕ → ℕ → (ℕ → ℕ → Type 0) → Context → ℕ → ℕ → ℕ → Code → List Kind → List Kind → Type 0
GoodClosing m H F R c s h r is from to =
    (vs : List Value) (ls : List ControlEntry) (st : State) → HasKinds vs from → Sound m c.locals st → beneath ls + h ≤ H → callers ls + r ≤ F → Turned m H F R c (Named is) s (Running vs is ls st) ls st to

-- where no branch goes to the innermost label, no turn begins
no_turn : (s a b t : ℕ) (N : ℕ → Type 0) → (N zero → ⊥) → (e : Exit) → Names N e → GoesOn s a b t e
no_turn s a b t N none (Falls vs) n = tt
no_turn s a b t N none (Branches zero top) n = absurd (none n)
no_turn s a b t N none (Branches (suc l) top) n = tt
no_turn s a b t N none (Returns top) n = tt

-- the code before the last item costs as if there were one item fewer
cost_before : (s1 s2 a b c t1 t2 : ℕ) → 1 ≤ t2 → b ≤ a + s1 * (1 + t1) → c ≤ b + s2 * t2 → c ≤ a + (s1 + s2) * (t1 + t2)
cost_before s1 s2 a b c t1 t2 one h k = let g = times s1 t2 one in omega (arith, g)

goes_too : (s1 s2 a b c t1 t2 : ℕ) (e : Exit) → b ≤ a + s1 * (1 + t1) → GoesOn s2 b c t2 e → GoesOn (s1 + s2) a c (t1 + t2) e
goes_too s1 s2 a b c t1 t2 (Falls vs) h g = tt
goes_too s1 s2 a b c t1 t2 (Branches zero top) h g = (omega (arith, g.0), cost_before s1 s2 a b c t1 t2 g.0 h g.1)
goes_too s1 s2 a b c t1 t2 (Branches (suc l) top) h g = tt
goes_too s1 s2 a b c t1 t2 (Returns top) h g = tt

module _ (m : Module) (H F : ℕ) (R : ℕ → ℕ → Type 0) where
  -- an instruction that goes elsewhere, and not to the loop
  pub elsewhere : (c : Context) (N M : ℕ → Type 0) → (N zero → ⊥) → ((l : ℕ) → N l → M l) → (u s : ℕ) (x : Machine) (ls : List ControlEntry) (st : State) (to : List Kind) → Reaches m H F R c N u x code.end ls st to → Turned m H F R c M (u + s) x ls st to
  elsewhere c N M none up u s x ls st to p =
      let q = p.1 in
      (p.0, record { final = q.final; steps = q.steps; by = q.by; fits = q.fits; named = renamed m H F R N M up p.0 q.named; sound = q.sound; taken = q.taken; items = q.items; cost = cost_more u (u + s) st.count q.final.count q.taken (omega arith) q.cost; short = q.short }, no_turn (u + s) st.count q.final.count q.taken N none p.0 q.named)

  module _ (c : Context) (N : ℕ → Type 0) (none : N zero → ⊥) (u s h h2 r : ℕ) (whole rest : Code) (from mid to : List Kind) (up1 : (l : ℕ) → N l → Named whole l) (up2 : (l : ℕ) → Named rest l → Named whole l) (less : h2 ≤ h) (good : GoodClosing m H F R c s h2 r rest mid to) where
    after_first : (x : Machine) (ls : List ControlEntry) (st : State) → beneath ls + h ≤ H → callers ls + r ≤ F → (e : Exit) → Reach m H F R c N u x rest ls st mid e → Turned m H F R c (Named whole) (u + s) x ls st to
    after_first x ls st low shallow (Falls vs) p =
        let y = good vs ls p.final p.fits p.sound (omega (arith, low, less)) shallow in
        let q = y.1 in
        (y.0, record { final = q.final; steps = p.steps + q.steps; by = comes_on m H F R p.steps q.steps x _ _ p.by q.by; fits = q.fits; named = renamed m H F R (Named rest) (Named whole) up2 y.0 q.named; sound = q.sound; taken = p.taken + q.taken; items = omega (arith, p.items, q.items); cost = cost_seq u s _ _ _ p.taken q.taken p.cost q.cost; short = omega (arith, p.short, q.short) }, goes_too u s st.count p.final.count q.final.count p.taken q.taken y.0 p.cost y.2)
    after_first x ls st low shallow (Branches l top) p =
        (Branches l top, record { final = p.final; steps = p.steps; by = p.by; fits = p.fits; named = up1 l p.named; sound = p.sound; taken = p.taken; items = p.items; cost = cost_more u (u + s) _ _ p.taken (omega arith) p.cost; short = p.short }, no_turn (u + s) st.count p.final.count p.taken N none (Branches l top) p.named)
    after_first x ls st low shallow (Returns top) p =
        (Returns top, record { final = p.final; steps = p.steps; by = p.by; fits = p.fits; named = p.named; sound = p.sound; taken = p.taken; items = p.items; cost = cost_more u (u + s) _ _ p.taken (omega arith) p.cost; short = p.short }, tt)

    -- an instruction that does not go to the loop, and then code that closes it
    pub before : GoodStep m H F R c N u h r whole rest from mid → GoodClosing m H F R c (u + s) h r whole from to
    before step vs ls st k sound low shallow =
        let p = step vs ls st k sound low shallow in after_first (Running vs whole ls st) ls st low shallow p.0 p.1

-- ---- the end

-- the call leaves the operands that stood there, and puts an i32 on top
pub item_pushed : (m : Module) (lo : List ValType) (o : Option ValType) (labels : List (Option ValType)) (call : HostCall) → TakesItem (Some call) → (from given : List Kind) → Changes (context m lo o labels) (call_requirements (context m lo o labels) (Some call) (type_of_call call).parameters) (kinds (first_type (type_of_call call).results)) from given → (b : ℕ) (vs : List Value) → HasKinds vs from → HasKinds (I32 b ∷ vs) given
item_pushed m lo o labels NextMessage i from given c b vs h =
    subst (HasKinds (I32 b ∷ vs)) (sym c.2) (refl, subst (HasKinds vs) c.1 h)
item_pushed m lo o labels NextEdge i from given c b vs h =
    subst (HasKinds (I32 b ∷ vs)) (sym c.2) (refl, subst (HasKinds vs) c.1 h)
item_pushed m lo o labels _ i from given c b vs h = absurd i

abbrev pub closing : ℕ → Code
closing f = code.call f (code.branch (branch.BrIf 0) code.end)

abbrev closing_units : Module → ℕ → ℕ
closing_units m f = call_units m f + branch_units (branch.BrIf 0)

closing_least : (m : Module) (f : ℕ) → 2 ≤ closing_units m f
closing_least m f = omega (arith, call_least m f, branch_least (branch.BrIf 0))

cost_one : (u a S t : ℕ) → u ≤ S → a + u ≤ a + S * (1 + t)
cost_one u a S t h = omega arith

module _ (m : Module) (H F : ℕ) (R : ℕ → ℕ → Type 0) (c : Context) (f : ℕ) (call : HostCall) (takes_item : TakesItem (Some call)) (called : slice_get (functions_of m) f ≡ Some (host (Some call))) (t : Option ValType) (label : slice_get c.labels 0 ≡ Some t) (from to : List Kind) (S h r : ℕ) (stays : (vs : List Value) → HasKinds vs from → (1 + length vs ≤ h) × IsTop t (first vs) × HasKinds vs to) (sized : closing_units m f ≤ S) (frame : 1 ≤ r) where
  module _ (vs : List Value) (ls : List ControlEntry) (st : State) (k : HasKinds vs from) (sound : Sound m c.locals st) (low : beneath ls + h ≤ H) (shallow : callers ls + r ≤ F) where
    called_gives : (b : ℕ) (after : State) → call_effect call vs (tick (call_units m f) st) ≡ Gives (I32 b ∷ vs) after → advance m (Running vs (closing f) ls st) ≡ Running (I32 b ∷ vs) (code.branch (branch.BrIf 0) code.end) ls after
    called_gives b after e =
        ap (λ (o : Option Callee). take_call m o vs (code.branch (branch.BrIf 0) code.end) ls (tick (call_units m f) st)) called
        ∙ ap (λ (x : Effect). after_effect x (code.branch (branch.BrIf 0) code.end) ls (st.count + call_units m f)) e

    two : (b : ℕ) (after : State) (z : Machine) → call_effect call vs (tick (call_units m f) st) ≡ Gives (I32 b ∷ vs) after → advance m (Running (I32 b ∷ vs) (code.branch (branch.BrIf 0) code.end) ls after) ≡ z → Comes m H F R (1 + 1) (Running vs (closing f) ls st) z
    two b after z e g =
        let n = (stays vs k).0 in
        comes_on m H F R 1 1 (Running vs (closing f) ls st) (Running (I32 b ∷ vs) (code.branch (branch.BrIf 0) code.end) ls after) z
        (comes_one m H F R _ _ (omega (arith, low, n), omega (arith, shallow, frame), tt) (called_gives b after e))
        (comes_one m H F R _ _ (omega (arith, low, n), omega (arith, shallow, frame), tt) g)

    leaves : call_effect call vs (tick (call_units m f) st) ≡ Gives (I32 0 ∷ vs) (tick (call_units m f) st) → Turned m H F R c (Named (closing f)) S (Running vs (closing f) ls st) ls st to
    leaves e =
        let n = cost_one (closing_units m f) st.count S 0 sized in (
          Falls vs,
          record {
            final = tick (branch_units (branch.BrIf 0)) (tick (call_units m f) st);
            steps = 1 + 1;
            by = two 0 (tick (call_units m f) st) (Running vs code.end ls (tick (branch_units (branch.BrIf 0)) (tick (call_units m f) st))) e refl;
            fits = (stays vs k).2;
            named = tt;
            sound = ticked m c.locals _ _ (ticked m c.locals _ st sound);
            taken = 0;
            items = omega arith;
            cost = omega (arith, n);
            short = omega (arith, closing_least m f);
          },
          tt,
        )

    goes_back : Took m c.locals call vs (tick (call_units m f) st) → Turned m H F R c (Named (closing f)) S (Running vs (closing f) ls st) ls st to
    goes_back w =
        let n = cost_one (closing_units m f) st.count S 1 sized in
        let d = cost_one (closing_units m f) st.count S 0 sized in
        let items : items_left st.host ≡ 1 + items_left w.after.host = omega (arith, w.items) in (
          Branches zero (first vs),
          record {
            final = tick (branch_units (branch.BrIf 0)) w.after;
            steps = 1 + 1;
            by = two 1 w.after (jump zero (first vs) ls (tick (branch_units (branch.BrIf 0)) w.after)) w.gives refl;
            fits = (t, label, (stays vs k).1);
            named = λ x. x.0 refl;
            sound = ticked m c.locals _ w.after w.sound;
            taken = 1;
            items = items;
            cost = omega (arith, n, w.counts);
            short = omega (arith, closing_least m f, w.counts);
          },
          (omega arith, omega (arith, d, w.counts)),
        )

  pub closed : GoodClosing m H F R c S h r (closing f) from to
  closed vs ls st k sound low shallow =
      elim (item_or_none m c.locals vs (tick (call_units m f) st) (ticked m c.locals (call_units m f) st sound) call takes_item) [
        | inl e ↦ leaves vs ls st k sound low shallow e
        | inr w ↦ goes_back vs ls st k sound low shallow w
      ]
