-- Calls load and store only reached bytes.
use Rattle.std.proofs.Common.{◌≡◌, ℕ, zero, suc, ◌+◌, true, false, List, [], ◌∷◌, get_or, Some, sym, ap, ◌∙◌, subst, arith}
use Rattle.wasm_ast.specs.declared.types.Value.{Value}
use Rattle.wasm_ast.specs.declared.types.Value.TheVariants.{I32, I64}
use Rattle.wasm_ast.specs.declared.plain.Memory.{Memory}
use Rattle.wasm_ast.specs.declared.plain.Memory.TheVariants as memory
use Rattle.wasm_ast.specs.declared.plain.Plain.{Plain}
use Rattle.wasm_ast.specs.declared.plain.Plain.TheVariants as plain
use Rattle.wasm_ast.specs.declared.module.Module.{Module}
use Rattle.wasm_ast.specs.Code as code
use Rattle.wasm_ast.specs.Widths.{load_width, store_width}
use Rattle.verified.specs.Memory.{memory_bytes}
use Rattle.verified.specs.Reached.{Access, is_reached}
use Rattle.interp.specs.Accesses.{memory_access, plain_access, next_access, CallsTouchReached}
use Rattle.semantics.specs.Machine.{Machine, Running, run}
use Rattle.semantics.specs.inside.Touched.{AreMarked, MemoryTouches, PlainTouches, Touches, marks, marks_from}
use Rattle.semantics.proofs.Fixed.{depths_there, heights_there, sizes_there}
use Rattle.semantics.proofs.OneEnd.{one_start}
use Rattle.semantics.proofs.Values.{none_some, some_is}
use Rattle.semantics.proofs.Whole.{all_reached}

-- ---- what the next instruction touches

module _ (R : ℕ → ℕ → Type 0) where
  here : (a b : Access) → R a.from a.width → Some a ≡ Some b → R b.from b.width
  here a b h e = subst (λ (x : Access). R x.from x.width) (some_is a b e) h

  by_memory : (op : Memory) (vs : List Value) (a : Access) → MemoryTouches R op vs → memory_access op vs ≡ Some a → R a.from a.width
  by_memory (memory.Load op b) [] a h e = absurd (none_some a e)
  by_memory (memory.Load op b) (I32 i ∷ vs) a h e = here (record { from = i + b.offset; width = load_width op }) a h e
  by_memory (memory.Load op b) (I64 i ∷ vs) a h e = absurd (none_some a e)
  by_memory (memory.Store op b) [] a h e = absurd (none_some a e)
  by_memory (memory.Store op b) (v ∷ []) a h e = absurd (none_some a e)
  by_memory (memory.Store op b) (v ∷ I32 i ∷ vs) a h e = here (record { from = i + b.offset; width = store_width op }) a h e
  by_memory (memory.Store op b) (v ∷ I64 i ∷ vs) a h e = absurd (none_some a e)
  by_memory memory.Size vs a h e = absurd (none_some a e)
  by_memory memory.Grow vs a h e = absurd (none_some a e)

  by_plain : (p : Plain) (vs : List Value) (a : Access) → PlainTouches R p vs → plain_access p vs ≡ Some a → R a.from a.width
  by_plain (plain.Memory op) vs a h e = by_memory op vs a h e
  by_plain _ vs a h e = absurd (none_some a e)

  by_next : (x : Machine) (a : Access) → Touches R x → next_access x ≡ Some a → R a.from a.width
  by_next (Running vs (code.plain p is) ls st) a h e = by_plain p vs a h e
  by_next _ a h e = absurd (none_some a e)

-- ---- what is marked is reached

module _ (m : Module) where
  mark_reached : (byte count k : ℕ) → get_or (marks_from m byte count) k false ≡ true → is_reached m (byte + k) ≡ true
  mark_reached byte zero k e = absurd cc
  mark_reached byte (suc count) zero e = let same : byte + 0 ≡ byte = omega arith in ap (is_reached m) same ∙ e
  mark_reached byte (suc count) (suc k) e =
      let same : suc byte + k ≡ byte + suc k = omega arith in
      sym (ap (is_reached m) same) ∙ mark_reached (suc byte) count k e

  marked_reached : (byte : ℕ) → get_or (marks m) byte false ≡ true → is_reached m byte ≡ true
  marked_reached byte e =
      let same : 0 + byte ≡ byte = omega arith in
      sym (ap (is_reached m) same) ∙ mark_reached 0 (memory_bytes m) byte e

-- ---- calls

pub calls_touch_reached : (m : Module) → CallsTouchReached m
calls_touch_reached m typed bounded input first starts n access is k less =
    let z = sizes_there m bounded.acyclic in
    let h = heights_there m bounded.acyclic in
    let d = depths_there m bounded.acyclic in
    let r = all_reached m typed bounded z.0 h.0 d.0 z.1 h.1 d.1 input in
    let t : Touches (AreMarked (marks m)) (run m n first) = subst (λ (x : Machine). Touches (AreMarked (marks m)) (run m n x)) (sym (one_start m input first r.0 starts r.1)) (r.2 n) in
    marked_reached m (access.from + k) (by_next (AreMarked (marks m)) (run m n first) access t is k less)
