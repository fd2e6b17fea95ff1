-- How code is left, and by which steps the machine comes there.
-- A way out of code is the same whatever lies round it, so it passes outward through blocks as it is.
use Rattle.std.proofs.Common.{◌≡◌, ℕ, zero, suc, ◌+◌, ◌*◌, ◌≤◌, List, ◌∷◌, ◌++◌, length, slice_get, Option, Some, refl, sym, ap, ◌∙◌, subst, arith}
use Rattle.wasm_ast.specs.declared.types.ValType.{ValType}
use Rattle.wasm_ast.specs.declared.types.Value.{Value}
use Rattle.wasm_ast.specs.declared.module.Module.{Module}
use Rattle.wasm_ast.specs.Code.{Code}
use Rattle.wasm_ast.specs.Code as code
use Rattle.verified.specs.Kinds.{Kind, kinds}
use Rattle.verified.specs.Known.{Context, with_label}
use Rattle.verified.specs.Shapes.{NamesNot}
use Rattle.semantics.specs.Configuration.{State, tick}
use Rattle.semantics.specs.Machine.{ControlEntry, Label, Machine, Running, jump, back, landed, has_result, advance, run}
use Rattle.semantics.specs.Heights.{beneath, operands, callers, frames}
use Rattle.semantics.specs.inside.Touched.{Touches}
use Rattle.semantics.proofs.Values.{HasKinds, IsTop, kinds_length, kinds-append, carried, some_is}
use Rattle.semantics.proofs.Sound.{Sound, items_left}

-- there are not too many operands or frames, and R holds of the place and the width that the next instruction loads
-- or stores
abbrev pub IsLow : ℕ → ℕ → (ℕ → ℕ → Type 0) → Machine → Type 0
IsLow H F R x = (operands x ≤ H) × (frames x ≤ F) × Touches R x

-- so it is at each of these steps
abbrev pub AllLow : Module → ℕ → ℕ → (ℕ → ℕ → Type 0) → ℕ → Machine → Type 0
AllLow m H F R zero x = IsLow H F R x
AllLow m H F R (suc n) x = IsLow H F R x × AllLow m H F R n (advance m x)

-- the machine comes from one configuration to another in at most n steps, and stays low
abbrev pub Comes : Module → ℕ → ℕ → (ℕ → ℕ → Type 0) → ℕ → Machine → Machine → Type 0
Comes m H F R n x y =
    (k : ℕ) → AllLow m H F R k y → (j : ℕ) × (j ≤ k + n) × (run m j x ≡ run m k y) × AllLow m H F R j x

-- how code is left: at its end, by a branch, or by a return, with the operand on top
pub data Exit : Type 0 where
  Falls : (values : List Value) → Exit
  Branches : (label : ℕ) (top : Option Value) → Exit
  Returns : (top : Option Value) → Exit

-- where that leads, with the code after it and the entries round it
abbrev pub arrives : Exit → Code → List ControlEntry → State → Machine
arrives (Falls vs) is ls st = Running vs is ls st
arrives (Branches l top) is ls st = jump l top ls st
arrives (Returns top) is ls st = back top ls st

abbrev pub Fits : Context → List Kind → Exit → Type 0
Fits c to (Falls vs) = HasKinds vs to
Fits c to (Branches l top) = (t : Option ValType) × (slice_get c.labels l ≡ Some t) × IsTop t top
Fits c to (Returns top) = IsTop c.outcome top

-- a branch goes to one of these labels
abbrev pub Names : (ℕ → Type 0) → Exit → Type 0
Names N (Falls vs) = Unit {0}
Names N (Branches l top) = N l
Names N (Returns top) = Unit {0}

-- the label is named by a branch in the code
abbrev pub Named : Code → ℕ → Type 0
Named is l = NamesNot l is → ⊥

-- one label further in
pub below_one : (l : ℕ) (body : Code) → NamesNot (l + 1) body → NamesNot (suc l) body
below_one l body w = let e : l + 1 ≡ suc l = omega arith in subst (λ (n : ℕ). NamesNot n body) e w

-- from x, where the state is st, the exit is reached, and its cost is at most s times one more than the items taken;
-- where it is a branch, it goes to one of the labels N
pub record Reach (m : Module) (H F : ℕ) (R : ℕ → ℕ → Type 0) (c : Context) (N : ℕ → Type 0) (s : ℕ) (x : Machine) (is : Code) (ls : List ControlEntry) (st : State) (to : List Kind) (e : Exit) : Type 0 where
  pub final : State
  pub steps : ℕ
  pub by : Comes m H F R steps x (arrives e is ls final)
  pub fits : Fits c to e
  pub named : Names N e
  pub sound : Sound m c.locals final
  pub taken : ℕ
  pub items : items_left st.host ≡ taken + items_left final.host
  pub cost : final.count ≤ st.count + s * (1 + taken)
  pub short : steps + 2 * st.count ≤ 2 * final.count

abbrev pub Reaches : Module → ℕ → ℕ → (ℕ → ℕ → Type 0) → Context → (ℕ → Type 0) → ℕ → Machine → Code → List ControlEntry → State → List Kind → Type 0
Reaches m H F R c N s x is ls st to = (e : Exit) × Reach m H F R c N s x is ls st to e

-- Code of these operands, this size s and this height h reaches an exit, whatever lies round it. So many frames, r, may
-- stand in the function that runs.
abbrev pub GoodCode : Module → ℕ → ℕ → (ℕ → ℕ → Type 0) → Context → ℕ → ℕ → ℕ → Code → List Kind → List Kind → Type 0
GoodCode m H F R c s h r is from to =
    (vs : List Value) (ls : List ControlEntry) (st : State) → HasKinds vs from → Sound m c.locals st → beneath ls + h ≤ H → callers ls + r ≤ F → Reaches m H F R c (Named is) s (Running vs is ls st) code.end ls st to

-- the first instruction of a code reaches the code after it, with labels N, this many units and this height
abbrev pub GoodStep : Module → ℕ → ℕ → (ℕ → ℕ → Type 0) → Context → (ℕ → Type 0) → ℕ → ℕ → ℕ → Code → Code → List Kind → List Kind → Type 0
GoodStep m H F R c N u h r whole rest from mid =
    (vs : List Value) (ls : List ControlEntry) (st : State) → HasKinds vs from → Sound m c.locals st → beneath ls + h ≤ H → callers ls + r ≤ F → Reaches m H F R c N u (Running vs whole ls st) rest ls st mid

-- arithmetic on costs
pub cost_more : (s s' a b t : ℕ) → s ≤ s' → b ≤ a + s * (1 + t) → b ≤ a + s' * (1 + t)
cost_more s s' a b t h c = grind arith

pub cost_seq : (s1 s2 a b c t1 t2 : ℕ) → b ≤ a + s1 * (1 + t1) → c ≤ b + s2 * (1 + t2) → c ≤ a + (s1 + s2) * (1 + (t1 + t2))
cost_seq s1 s2 a b c t1 t2 h k = omega arith

pub cost_tick : (u s a b t : ℕ) → b ≤ a + u + s * (1 + t) → b ≤ a + (u + s) * (1 + t)
cost_tick u s a b t h = omega arith

pub times : (u t : ℕ) → 1 ≤ t → u ≤ u * t
times u zero h = absurd (omega arith)
times u (suc t) h = omega arith

pub cost_turn : (u s a b d t v : ℕ) → 1 ≤ t → b ≤ a + u + s * t → d ≤ b + (u + s) * (1 + v) → d ≤ a + (u + s) * (1 + (t + v))
cost_turn u s a b d t v h k m = let g = times u t h in omega (arith, g)

module _ (m : Module) (H F : ℕ) (R : ℕ → ℕ → Type 0) where
  -- ---- steps

  pub comes_on : (n o : ℕ) (x y z : Machine) → Comes m H F R n x y → Comes m H F R o y z → Comes m H F R (n + o) x z
  comes_on n o x y z f g k p = let b = g k p in let a = f b.0 b.3 in (a.0, omega (arith, a.1, b.1), a.2 ∙ b.2, a.3)

  pub comes_first : (n : ℕ) (x z : Machine) → IsLow H F R x → Comes m H F R n (advance m x) z → Comes m H F R (1 + n) x z
  comes_first n x z low f k p = let a = f k p in (suc a.0, omega (arith, a.1), a.2, (low, a.3))

  -- at the end of a way, one step more
  pub comes_last : (n : ℕ) (x y z : Machine) → Comes m H F R n x y → IsLow H F R y → advance m y ≡ z → Comes m H F R (n + 1) x z
  comes_last n x y z f low e k p = let a = f (suc k) (low, subst (AllLow m H F R k) (sym e) p) in (a.0, omega (arith, a.1), a.2 ∙ ap (run m k) e, a.3)

  pub comes_to : (n : ℕ) (x y z : Machine) → Comes m H F R n x y → y ≡ z → Comes m H F R n x z
  comes_to n x y z f e k p = let a = f k (subst (AllLow m H F R k) (sym e) p) in (a.0, a.1, a.2 ∙ ap (run m k) e, a.3)

  -- one step
  pub comes_one : (x z : Machine) → IsLow H F R x → advance m x ≡ z → Comes m H F R 1 x z
  comes_one x z low e k p = (suc k, omega arith, ap (run m k) e, (low, subst (AllLow m H F R k) (sym e) p))

  -- ---- ways

  pub renamed : (N M : ℕ → Type 0) → ((l : ℕ) → N l → M l) → (e : Exit) → Names N e → Names M e
  renamed N M up (Falls vs) n = tt
  renamed N M up (Branches l top) n = up l n
  renamed N M up (Returns top) n = tt

  pub larger : (c : Context) (N M : ℕ → Type 0) → ((l : ℕ) → N l → M l) → (s s' : ℕ) (x : Machine) (is : Code) (ls : List ControlEntry) (st : State) (to : List Kind) → s ≤ s' → Reaches m H F R c N s x is ls st to → Reaches m H F R c M s' x is ls st to
  larger c N M up s s' x is ls st to h r =
      let q = r.1 in
      (r.0, record { final = q.final; steps = q.steps; by = q.by; fits = q.fits; named = renamed N M up r.0 q.named; sound = q.sound; taken = q.taken; items = q.items; cost = cost_more s s' st.count q.final.count q.taken h q.cost; short = q.short })

  -- from the end of one code on to the next
  pub join : (c : Context) (N1 N2 N : ℕ → Type 0) → ((l : ℕ) → N2 l → N l) → (s1 s2 : ℕ) (x : Machine) (is1 is : Code) (ls : List ControlEntry) (st : State) (mid to : List Kind) (vs : List Value) (r : Reach m H F R c N1 s1 x is1 ls st mid (Falls vs)) → Reaches m H F R c N2 s2 (Running vs is1 ls r.final) is ls r.final to → Reaches m H F R c N (s1 + s2) x is ls st to
  join c N1 N2 N up s1 s2 x is1 is ls st mid to vs r p =
      let q = p.1 in
      (p.0, record { final = q.final; steps = r.steps + q.steps; by = comes_on r.steps q.steps x _ _ r.by q.by; fits = q.fits; named = renamed N2 N up p.0 q.named; sound = q.sound; taken = r.taken + q.taken; items = omega (arith, r.items, q.items); cost = cost_seq s1 s2 _ _ _ r.taken q.taken r.cost q.cost; short = omega (arith, r.short, q.short) })

  -- an instruction, and the code after it
  pub sequence : (c : Context) (N1 N : ℕ → Type 0) (s1 s2 h d : ℕ) (x : Machine) (is : Code) (ls : List ControlEntry) (st : State) (mid to : List Kind) (e : Exit) → ((l : ℕ) → N1 l → N l) → ((l : ℕ) → Named is l → N l) → Reach m H F R c N1 s1 x is ls st mid e → GoodCode m H F R c s2 h d is mid to → beneath ls + h ≤ H → callers ls + d ≤ F → Reaches m H F R c N (s1 + s2) x code.end ls st to
  sequence c N1 N s1 s2 h d x is ls st mid to (Falls vs) up1 up2 r g low shallow = join c N1 (Named is) N up2 s1 s2 x is code.end ls st mid to vs r (g vs ls r.final r.fits r.sound low shallow)
  sequence c N1 N s1 s2 h d x is ls st mid to (Branches l top) up1 up2 r g low shallow =
      (Branches l top, record { final = r.final; steps = r.steps; by = r.by; fits = r.fits; named = up1 l r.named; sound = r.sound; taken = r.taken; items = r.items; cost = cost_more s1 (s1 + s2) _ _ r.taken (omega arith) r.cost; short = r.short })
  sequence c N1 N s1 s2 h d x is ls st mid to (Returns top) up1 up2 r g low shallow =
      (Returns top, record { final = r.final; steps = r.steps; by = r.by; fits = r.fits; named = r.named; sound = r.sound; taken = r.taken; items = r.items; cost = cost_more s1 (s1 + s2) _ _ r.taken (omega arith) r.cost; short = r.short })

  pub after_step : (c : Context) (N : ℕ → Type 0) (u s h h2 r : ℕ) (whole rest : Code) (from mid to : List Kind) → ((l : ℕ) → N l → Named whole l) → ((l : ℕ) → Named rest l → Named whole l) → h2 ≤ h → GoodStep m H F R c N u h r whole rest from mid → GoodCode m H F R c s h2 r rest mid to → GoodCode m H F R c (u + s) h r whole from to
  after_step c N u s h h2 r whole rest from mid to up1 up2 less step good vs ls st k sound low shallow =
      let p = step vs ls st k sound low shallow in
      sequence c N (Named whole) u s h2 r (Running vs whole ls st) rest ls st mid to p.0 up1 up2 p.1 good (omega (arith, low, less)) shallow

  -- ---- blocks

  -- a block, from its inside
  pub block : (u : ℕ) → 1 ≤ u → (c : Context) (N M : ℕ → Type 0) → ((l : ℕ) → N (suc l) → M l) → (t : Option ValType) (s : ℕ) (x : Machine) (vs : List Value) (is : Code) (ls : List ControlEntry) (st : State) (from : List Kind) (e : Exit) → Reach m H F R (with_label t c) N s (advance m x) code.end (Label (has_result t) vs is is ∷ ls) (tick u st) (kinds t) e → HasKinds vs from → IsLow H F R x → length (kinds t) + (length vs + beneath ls) ≤ H → 1 + callers ls ≤ F → Reaches m H F R c M (u + s) x is ls st (kinds t ++ from)
  block u one c N M up t s x vs is ls st from (Falls ws) q h low room shallow =
      (Falls (ws ++ vs), record { final = q.final; steps = 1 + (q.steps + 1); by = comes_first (q.steps + 1) x _ low (comes_last q.steps (advance m x) _ _ q.by (omega (arith, kinds_length ws (kinds t) q.fits), shallow, tt) refl); fits = kinds-append ws vs (kinds t) from q.fits h; named = tt; sound = q.sound; taken = q.taken; items = q.items; cost = cost_tick u s st.count q.final.count q.taken q.cost; short = omega (arith, q.short, one) })
  block u one c N M up t s x vs is ls st from (Branches zero top) q h low room shallow =
      let same : q.fits.0 ≡ t = sym (some_is t q.fits.0 q.fits.1) in
      let us = carried t top vs from (subst (λ (u : Option ValType). IsTop u top) same q.fits.2) h in
      (Falls us.0, record { final = q.final; steps = 1 + q.steps; by = comes_first q.steps x _ low (comes_to q.steps (advance m x) _ _ q.by (ap (λ (o : Option (List Value)). landed o is ls q.final) us.1)); fits = us.2; named = tt; sound = q.sound; taken = q.taken; items = q.items; cost = cost_tick u s st.count q.final.count q.taken q.cost; short = omega (arith, q.short, one) })
  block u one c N M up t s x vs is ls st from (Branches (suc l) top) q h low room shallow =
      (Branches l top, record { final = q.final; steps = 1 + q.steps; by = comes_first q.steps x _ low q.by; fits = q.fits; named = up l q.named; sound = q.sound; taken = q.taken; items = q.items; cost = cost_tick u s st.count q.final.count q.taken q.cost; short = omega (arith, q.short, one) })
  block u one c N M up t s x vs is ls st from (Returns top) q h low room shallow =
      (Returns top, record { final = q.final; steps = 1 + q.steps; by = comes_first q.steps x _ low q.by; fits = q.fits; named = q.named; sound = q.sound; taken = q.taken; items = q.items; cost = cost_tick u s st.count q.final.count q.taken q.cost; short = omega (arith, q.short, one) })
