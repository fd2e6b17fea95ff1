-- How a walk begins and ends, and what its marks say of the module.
use Rattle.std.proofs.Common.{◌≡◌, ℕ, zero, suc, ◌+◌, ◌-◌, ◌<◌, ◌≤◌, min, List, length, get_or, replicate, Option, Some, None, slice_get, if◌then◌else◌, refl, sym, ap, subst, ◌∙◌, arith}
use Rattle.std.specs.Prelude.{sum_by, Result, Ok, Err, IfOk, IfErr, OnOk, IsOkUnless}
use Rattle.std.proofs.Math.Path.{fun_ext}
use Rattle.std.proofs.lemmas.List.{length-replicate}
use Rattle.std.proofs.lemmas.List.Folds.{sum_by-replicate}
use Rattle.std.proofs.lemmas.Option.{slice_get_past}
use Rattle.std.proofs.lemmas.Bool.{le-ltb}
use Rattle.wasm_ast.specs.declared.module.Module.{Module}
use Rattle.wasm_ast.specs.Code.{Code}
use Rattle.cost.specs.declared.table.Mark.{Mark}
use Rattle.cost.specs.declared.table.Mark.TheVariants.{Unseen, Open}
use Rattle.cost.specs.declared.outline.Outlines.{Outlines}
use Rattle.verified.specs.Calls.{Calls, callees, body_of, calls_in, calls_of}
use Rattle.verified.specs.CallHeights.{height}
use Rattle.cost.specs.inside.Outline.{cap}
use Rattle.cost.specs.inside.Outlines.{AreOutlines, count_of, outline_at, calls_at, own_at, height_at, called}
use Rattle.cost.specs.Marks.{mark_at, rank_at, size_at}
use Rattle.cost.specs.inside.Walks.{IsDone, unfinished_weight, Settled, Finished}
use Rattle.cost.specs.Ranks.{IsRanking}
use Rattle.cost.proofs.Heights.{most_least}
use Rattle.cost.specs.declared.fault.CostFault.{CostFault}
use Rattle.cost.specs.declared.fault.CostFault.TheVariants as fault
use Rattle.verified.specs.Cycles.{Acyclic}
use Rattle.cost.specs.Faults.{Explains}
use Rattle.cost.proofs.Cycles.{no_cycle}
use Rattle.cost.proofs.Bodies.{called_same, height_same, sizes_same}

-- ---- the beginning

-- a number past those of the functions has no outline
outline_past : (os : Outlines) (f : ℕ) → count_of os ≤ f → outline_at os f ≡ None
outline_past os f h =
    ap (λ b. if b then None else slice_get os.defined.items (f - os.imported)) (le-ltb f os.imported (omega arith)) ∙ slice_get_past os.defined.items (f - os.imported) (omega arith)

-- what is done in a table of unseen functions is past its end
done_past : (n f : ℕ) → IsDone (mark_at (replicate n Unseen) f) → n ≤ f
done_past zero f d = omega arith
done_past (suc n) zero d = absurd d
done_past (suc n) (suc f) d = let i = done_past n f d in omega (arith, i)

no_rank : (n f : ℕ) → rank_at (replicate n Unseen) f ≡ 0
no_rank zero f = refl
no_rank (suc n) zero = refl
no_rank (suc n) (suc f) = no_rank n f

no_size : (n f : ℕ) → size_at (replicate n Unseen) f ≡ 0
no_size zero f = refl
no_size (suc n) zero = refl
no_size (suc n) (suc f) = no_size n f

pub none_open : (n f : ℕ) → mark_at (replicate n Unseen) f ≡ Open → ⊥
none_open zero f e = cc
none_open (suc n) zero e = cc
none_open (suc n) (suc f) e = none_open n f e

pub starts : (os : Outlines) (n : ℕ) → n ≡ count_of os → Settled os (replicate n Unseen)
starts os n e = record {
  long = length-replicate n Unseen ∙ e;
  closed = λ f g d c. absurd (calls_nothing f d c);
  high = λ f d. no_rank n f ∙ sym (ap (height_at (rank_at (replicate n Unseen))) (past f d));
  sized = λ s a f d. no_size n f ∙ sym (a f ∙ ap (λ o. min cap (own_at o + sum_by s (calls_at o))) (past f d));
  below = λ f. let r = no_rank n f in let u = sum_by-replicate unfinished_weight n Unseen in let l = length-replicate n Unseen in omega (arith, r, u, l);
}
  where
    past : (f : ℕ) → IsDone (mark_at (replicate n Unseen) f) → outline_at os f ≡ None
    past f d = outline_past os f (omega (arith, done_past n f d, e))

    calls_nothing : (f : ℕ) → IsDone (mark_at (replicate n Unseen) f) → {g : ℕ} → Calls (called os) f g → ⊥
    calls_nothing f d c = let l = ap (λ o. length (calls_at o)) (past f d) in let h = c.1 in omega (arith, l, h)

-- ---- what the marks say of the module

falls : (rank : ℕ → ℕ) (b : Option Code) (k : ℕ) → k < length (calls_in b) → rank (get_or (calls_in b) k 0) < height rank b
falls rank None k h = absurd (omega arith)
falls rank (Some c) k h = let m = most_least rank (calls_of c) k h in omega (arith, m)

pub ranked : (m : Module) (os : Outlines) (ms : List Mark) → AreOutlines m os → Finished os ms → IsRanking m ms
ranked m os ms a d = record {
  falls = λ f g c. subst (λ h. rank_at ms h < rank_at ms f) c.2 (below f c.0 c.1);
  least = least;
  sized = λ s h f. d.settled.sized s (sizes_same m os a s h) f (d.done f);
}
  where
    least : (f : ℕ) → rank_at ms f ≡ height (rank_at ms) (body_of m f)
    least f = d.settled.high f (d.done f) ∙ height_same m os a (rank_at ms) f

    below : (f k : ℕ) → k < length (callees m f) → rank_at ms (get_or (callees m f) k 0) < rank_at ms f
    below f k h = let x = falls (rank_at ms) (body_of m f) k h in omega (arith, x, least f)

-- what the walk answers, said of the module
module _ (m : Module) (os : Outlines) (a : AreOutlines m os) where
  calls_same : called os ≡ callees m
  calls_same = fun_ext (called_same m os a)

  pub ranked_answer : (r : Result (List Mark) CostFault) → IfOk r (Finished os) → IfOk r (IsRanking m)
  ranked_answer (Ok ms) h = ranked m os ms a h
  ranked_answer (Err e) h = h

  pub acyclic_answer : (r : Result (List Mark) CostFault) → IfOk r (Finished os) → OnOk r (Acyclic (callees m))
  acyclic_answer (Ok ms) h = no_cycle (callees m) (rank_at ms) (ranked m os ms a h).falls
  acyclic_answer (Err e) h = h

  pub cycle_answer : (r : Result (List Mark) CostFault) → IfErr r (Explains (called os)) → IfErr r (Explains (callees m))
  cycle_answer (Ok ms) h = h
  cycle_answer (Err e) h = subst (λ (cs : ℕ → List ℕ). Explains cs e) calls_same h

  only_memory : (e : CostFault) → Explains (callees m) e → Acyclic (callees m) → e ≡ fault.OutOfMemory
  only_memory (fault.Cycle xs) h n = absurd (n xs.items h.0)
  only_memory fault.OutOfMemory h n = refl

  pub accepted_answer : (r : Result (List Mark) CostFault) → IfErr r (Explains (called os)) → Acyclic (callees m) → IsOkUnless r fault.OutOfMemory
  accepted_answer (Ok ms) h n = h
  accepted_answer (Err e) h n = only_memory e (subst (λ (cs : ℕ → List ℕ). Explains cs e) calls_same h) n
