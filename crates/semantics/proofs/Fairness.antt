-- The code of a bounded module is fair: what its rules say, by one recursion on code.
use Rattle.std.proofs.Common.{◌≡◌, ℕ, zero, suc, ◌≤◌, ◌<◌, ◌⊎◌, inl, inr, List, [], ◌∷◌, ◌++◌, refl, sym, ap, subst, arith}
use Rattle.std.specs.List.{AllByRecursion}
use Rattle.wasm_ast.specs.declared.plain.Memory.TheVariants as memory
use Rattle.wasm_ast.specs.declared.plain.Plain.{Plain}
use Rattle.wasm_ast.specs.declared.plain.Plain.TheVariants as plain
use Rattle.wasm_ast.specs.declared.plain.Branch.TheVariants as branch
use Rattle.wasm_ast.specs.declared.module.Module.{Module}
use Rattle.wasm_ast.specs.Code.{Code}
use Rattle.wasm_ast.specs.Code as code
use Rattle.verified.specs.Calls.{calls_of}
use Rattle.verified.specs.CallHeights.{most}
use Rattle.verified.specs.Hosts.{host_call_at}
use Rattle.verified.specs.Shapes.{Everywhere, NotIndirect, NotUnreachable, NotGrow, NamesNot, TakesItem, OpensWithItem, ClosesWithItem, LoopTakes, followed}
use Rattle.semantics.proofs.Induction.{Fair, Opens, Closes}

-- what holds of joined lists holds of each
pub parts : (P : ℕ → Type 0) (xs ys : List ℕ) → AllByRecursion P (xs ++ ys) → AllByRecursion P xs × AllByRecursion P ys
parts P [] ys h = (tt, h)
parts P (x ∷ xs) ys h = let p = parts P xs ys h.1 in ((h.0, p.0), p.1)

-- each is at most the greatest
pub below_most : (rank : ℕ → ℕ) (xs : List ℕ) (r : ℕ) → most rank xs < r → AllByRecursion (λ f. rank f < r) xs
below_most rank [] r h = tt
below_most rank (x ∷ xs) r h = (omega (arith, h), below_most rank xs r (omega (arith, h)))

not_grow : (p : Plain) (rest : Code) → NotGrow (code.plain p rest) → NotGrow (code.plain p code.end)
not_grow (plain.Memory memory.Grow) rest h = h
not_grow _ rest h = tt

at_least : (l : ℕ) → 1 ≤ l → (k : ℕ) × (l ≡ suc k)
at_least zero h = absurd (omega arith)
at_least (suc k) h = (k, refl)

opens : (m : Module) (body : Code) → OpensWithItem (host_call_at m) body → Opens m body
opens m body w =
    let k = at_least w.label w.leaves in
    subst (Opens m) (sym w.opens) (record { label = k.0; tests = refl; leaves = ap (λ (l : ℕ). branch.BrIf l) k.1; takes = w.takes })

-- the code of a closing loop, along its front
closes_at : (m : Module) (f : ℕ) → TakesItem (host_call_at m f) → (front : Code) → NamesNot 0 front → Closes m (followed front (code.call f (code.branch (branch.BrIf 0) code.end)))
closes_at m f item code.end a = inl (record { goes_back = refl; takes = item })
closes_at m f item (code.plain p rest) a = closes_at m f item rest a
closes_at m f item (code.branch b rest) a = (a.0, closes_at m f item rest a.1)
closes_at m f item (code.call g rest) a = inr (closes_at m f item rest a)
closes_at m f item (code.call_indirect t rest) a = closes_at m f item rest a
closes_at m f item (code.unreachable rest) a = closes_at m f item rest a
closes_at m f item (code.block t body rest) a = (a.0, closes_at m f item rest a.1)
closes_at m f item (code.loop t body rest) a = (a.0, closes_at m f item rest a.1)
closes_at m f item (code.choice t body other rest) a = (a.0, a.1, closes_at m f item rest a.2)

takes_item : (m : Module) (body : Code) → OpensWithItem (host_call_at m) body ⊎ ClosesWithItem (host_call_at m) body → Opens m body ⊎ Closes m body
takes_item m body (inl w) = inl (opens m body w)
takes_item m body (inr w) = inr (subst (Closes m) (sym w.closes) (closes_at m w.function w.takes w.front w.alone))

module _ (m : Module) (rank : ℕ → ℕ) (r : ℕ) where
  pub fair : (is : Code) → Everywhere NotIndirect is → Everywhere NotUnreachable is → Everywhere NotGrow is → Everywhere (LoopTakes (host_call_at m)) is → AllByRecursion (λ f. rank f < r) (calls_of is) → Fair m rank r is
  fair code.end a b c d e = tt
  fair (code.plain p rest) a b c d e = (not_grow p rest c.0, fair rest a.1 b.1 c.1 d.1 e)
  fair (code.branch x rest) a b c d e = fair rest a.1 b.1 c.1 d.1 e
  fair (code.call f rest) a b c d e = (e.0, fair rest a.1 b.1 c.1 d.1 e.1)
  fair (code.call_indirect t rest) a b c d e = a.0
  fair (code.unreachable rest) a b c d e = b.0
  fair (code.block t body rest) a b c d e =
      let p = parts (λ f. rank f < r) (calls_of body) (calls_of rest) e in
      (fair body a.1 b.1 c.1 d.1 p.0, fair rest a.2 b.2 c.2 d.2 p.1)
  fair (code.loop t body rest) a b c d e =
      let p = parts (λ f. rank f < r) (calls_of body) (calls_of rest) e in
      (takes_item m body d.0, fair body a.1 b.1 c.1 d.1 p.0, fair rest a.2 b.2 c.2 d.2 p.1)
  fair (code.choice t body other rest) a b c d e =
      let p = parts (λ f. rank f < r) (calls_of body) (calls_of other ++ calls_of rest) e in
      let q = parts (λ f. rank f < r) (calls_of other) (calls_of rest) p.1 in
      (fair body a.1 b.1 c.1 d.1 p.0, fair other a.2 b.2 c.2 d.2 q.0, fair rest a.3 b.3 c.3 d.3 q.1)
