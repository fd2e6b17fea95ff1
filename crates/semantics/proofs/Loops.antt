-- Loops: a turn that goes on has taken an item, and what it took pays for it.
use Rattle.std.proofs.Common.{ℕ, zero, suc, ◌+◌, ◌*◌, ◌≤◌, ◌<◌, false, List, [], ◌∷◌, ◌++◌, length, Option, None, refl, arith}
use Rattle.wasm_ast.specs.declared.types.ValType.{ValType}
use Rattle.wasm_ast.specs.declared.types.Value.{Value}
use Rattle.wasm_ast.specs.declared.module.Module.{Module}
use Rattle.wasm_ast.specs.declared.body.Instr.TheVariants as instr
use Rattle.wasm_ast.specs.Code.{Code}
use Rattle.wasm_ast.specs.Code as code
use Rattle.verified.specs.Weights.{units_of}
use Rattle.verified.specs.LeastUnits.{units_least}
use Rattle.verified.specs.Kinds.{Kind, kinds}
use Rattle.verified.specs.Known.{Context, with_label}
use Rattle.semantics.specs.Configuration.{State, tick}
use Rattle.semantics.specs.Machine.{ControlEntry, Label, Machine, Running, advance}
use Rattle.semantics.specs.Heights.{beneath, callers}
use Rattle.semantics.proofs.Values.{HasKinds, kinds_length, kinds-append}
use Rattle.semantics.proofs.Sound.{Sound, items_left, ticked}
use Rattle.semantics.proofs.Reach.{IsLow, Exit, Falls, Branches, Returns, Named, Reach, Reaches, below_one, comes_first, comes_last, comes_on, cost_tick, cost_turn}

abbrev pub GoesOn : (s before final taken : ℕ) → Exit → Type 0
GoesOn s before final taken (Falls vs) = Unit {0}
GoesOn s before final taken (Branches zero top) = (1 ≤ taken) × (final ≤ before + s * taken)
GoesOn s before final taken (Branches (suc l) top) = Unit {0}
GoesOn s before final taken (Returns top) = Unit {0}

pub goes : (s a b t : ℕ) (e : Exit) → 1 ≤ t → b ≤ a + s * t → GoesOn s a b t e
goes s a b t (Falls vs) h k = tt
goes s a b t (Branches zero top) h k = (h, k)
goes s a b t (Branches (suc l) top) h k = tt
goes s a b t (Returns top) h k = tt

abbrev pub Turned : Module → ℕ → ℕ → (ℕ → ℕ → Type 0) → Context → (ℕ → Type 0) → ℕ → Machine → List ControlEntry → State → List Kind → Type 0
Turned m H F R c N s x ls st to =
    (e : Exit) × (r : Reach m H F R c N s x code.end ls st to e) × GoesOn s st.count r.final.count r.taken e

-- a turn of a loop with this body
abbrev pub GoodTurn : Module → ℕ → ℕ → (ℕ → ℕ → Type 0) → Context → ℕ → ℕ → ℕ → Code → List Kind → Type 0
GoodTurn m H F R c s h r body to =
    (ls : List ControlEntry) (st : State) → Sound m c.locals st → beneath ls + h ≤ H → callers ls + r ≤ F → Turned m H F R c (Named body) s (Running [] body ls st) ls st to

-- a label beyond the loop's, that the body names, is named by the loop
out_of_loop : (t : Option ValType) (body : Code) (l : ℕ) → Named body (suc l) → Named (code.loop t body code.end) l
out_of_loop t body l k w = k (below_one l body w.0)

module _ (m : Module) (H F : ℕ) (R : ℕ → ℕ → Type 0) where
  turn_end : (u : ℕ) → 1 ≤ u → (c : Context) (N M : ℕ → Type 0) → ((l : ℕ) → N (suc l) → M l) → (s : ℕ) (t : Option ValType) (body : Code) (vs : List Value) (is : Code) (ls : List ControlEntry) (st : State) (from : List Kind) → HasKinds vs from → (x : Machine) → IsLow H F R x → length (kinds t) + (length vs + beneath ls) ≤ H → 1 + callers ls ≤ F
      → (e : Exit) (q : Reach m H F R (with_label None c) N s (advance m x) code.end (Label false vs (code.loop t body is) is ∷ ls) (tick u st) (kinds t) e) → GoesOn s (st.count + u) q.final.count q.taken e
      → ((fin : State) → items_left fin.host < items_left st.host → Sound m c.locals fin → Reaches m H F R c M (u + s) (Running vs (code.loop t body is) ls fin) is ls fin (kinds t ++ from))
      → Reaches m H F R c M (u + s) x is ls st (kinds t ++ from)
  turn_end u least c N M up s t body vs is ls st from h x low room shallow (Falls ws) q go more =
      (Falls (ws ++ vs), record { final = q.final; steps = 1 + (q.steps + 1); by = comes_first m H F R (q.steps + 1) x _ low (comes_last m H F R q.steps (advance m x) _ _ q.by (omega (arith, kinds_length ws (kinds t) q.fits), shallow, tt) refl); fits = kinds-append ws vs (kinds t) from q.fits h; named = tt; sound = q.sound; taken = q.taken; items = q.items; cost = cost_tick u s st.count q.final.count q.taken q.cost; short = omega (arith, q.short, least) })
  turn_end u least c N M up s t body vs is ls st from h x low room shallow (Branches (suc l) top) q go more =
      (Branches l top, record { final = q.final; steps = 1 + q.steps; by = comes_first m H F R q.steps x _ low q.by; fits = q.fits; named = up l q.named; sound = q.sound; taken = q.taken; items = q.items; cost = cost_tick u s st.count q.final.count q.taken q.cost; short = omega (arith, q.short, least) })
  turn_end u least c N M up s t body vs is ls st from h x low room shallow (Returns top) q go more =
      (Returns top, record { final = q.final; steps = 1 + q.steps; by = comes_first m H F R q.steps x _ low q.by; fits = q.fits; named = q.named; sound = q.sound; taken = q.taken; items = q.items; cost = cost_tick u s st.count q.final.count q.taken q.cost; short = omega (arith, q.short, least) })
  turn_end u least c N M up s t body vs is ls st from h x low room shallow (Branches zero top) q go more =
      let p = more q.final (omega (arith, q.items, go.0)) q.sound in
      let r = p.1 in
      (p.0, record { final = r.final; steps = 1 + (q.steps + r.steps); by = comes_first m H F R (q.steps + r.steps) x _ low (comes_on m H F R q.steps r.steps (advance m x) _ _ q.by r.by); fits = r.fits; named = r.named; sound = r.sound; taken = q.taken + r.taken; items = omega (arith, q.items, r.items); cost = cost_turn u s st.count q.final.count r.final.count q.taken r.taken go.0 go.1 r.cost; short = omega (arith, q.short, r.short, least) })

  -- a loop: by the number of items that are left
  pub turns : (c : Context) (s h r : ℕ) (t : Option ValType) (body : Code) → GoodTurn m H F R (with_label None c) s h r body (kinds t) → (vs : List Value) (is : Code) (ls : List ControlEntry) (from : List Kind) → HasKinds vs from → (length vs + beneath ls) + h ≤ H → length (kinds t) + (length vs + beneath ls) ≤ H → callers ls + r ≤ F → 1 ≤ r → (n : ℕ) (st : State) → items_left st.host < n → Sound m c.locals st → Reaches m H F R c (Named (code.loop t body code.end)) (units_of m (instr.Loop t body) + s) (Running vs (code.loop t body is) ls st) is ls st (kinds t ++ from)
  turns c s h r t body good vs is ls from k low after shallow one zero st le sound = absurd (omega arith)
  turns c s h r t body good vs is ls from k low after shallow one (suc n) st le sound =
      let u = units_of m (instr.Loop t body) in
      let b = good (Label false vs (code.loop t body is) is ∷ ls) (tick u st) (ticked m c.locals u st sound) low shallow in
      turn_end u (units_least m (instr.Loop t body)) c (Named body) (Named (code.loop t body code.end)) (out_of_loop t body) s t body vs is ls st from k (Running vs (code.loop t body is) ls st) (omega arith, omega arith, tt) after (omega arith) b.0 b.1 b.2 (λ fin less k2. turns c s h r t body good vs is ls from k low after shallow one n fin (omega (arith, less, le)) k2)
