-- A call of a function that the module defines, from what its body does.
use Rattle.std.proofs.Common.{◌≡◌, ℕ, zero, suc, ◌+◌, ◌≤◌, Bool, List, [], ◌∷◌, ◌++◌, length, Option, refl, sym, ap, ◌∙◌, subst, arith}
use Rattle.wasm_ast.specs.declared.types.ValType.{ValType}
use Rattle.wasm_ast.specs.declared.types.Value.{Value}
use Rattle.wasm_ast.specs.declared.module.Module.{Module}
use Rattle.wasm_ast.specs.Code.{Code}
use Rattle.wasm_ast.specs.Code as code
use Rattle.verified.specs.Kinds.{Kind, kinds}
use Rattle.verified.specs.Known.{Context}
use Rattle.semantics.specs.Configuration.{State, with_locals, tick}
use Rattle.semantics.specs.Machine.{ControlEntry, Frame, Machine, Running, landed, carry, has_result, advance}
use Rattle.semantics.specs.Heights.{beneath, callers}
use Rattle.semantics.proofs.Values.{HasKinds, IsTop, kinds_length, kinds-append, carried, none_some, some_is}
use Rattle.semantics.proofs.Sound.{Sound}
use Rattle.semantics.proofs.Plains.{context}
use Rattle.semantics.proofs.Reach.{IsLow, Exit, Falls, Branches, Returns, Reach, Reaches, comes_first, comes_last, comes_to, cost_tick}

-- what a function's body is looked at in
abbrev pub inside : Module → List ValType → Option ValType → Context
inside m locals outcome = context m locals outcome (outcome ∷ [])

-- the caller's state again
pub returned : (m : Module) (inner outer : List ValType) (st after : State) → Sound m outer st → Sound m inner after → Sound m outer (with_locals after st.locals)
returned m inner outer st after s k = record { locals_typed = s.locals_typed; globals_typed = k.globals_typed; bytes_there = k.bytes_there }

module _ (m : Module) (H F : ℕ) (R : ℕ → ℕ → Type 0) where
  module _ (c : Context) (locals : List ValType) (outcome : Option ValType) (keeps : Bool) (keeps_is : keeps ≡ has_result outcome) (s : ℕ) (x : Machine) (vs : List Value) (is : Code) (ls : List ControlEntry) (st : State) (zs : List Value) (from : List Kind) (h : HasKinds vs from) (sound : Sound m c.locals st) (low : IsLow H F R x) (u : ℕ) (one : 1 ≤ u) (room : length (kinds outcome) + (length vs + beneath ls) ≤ H) (shallow : 2 + callers ls ≤ F) where
    -- where a branch or a return comes out
    lands : (top : Option Value) → IsTop outcome top → (after : State) → (us : List Value) × (landed (carry keeps top vs) is ls after ≡ Running us is ls after) × HasKinds us (kinds outcome ++ from)
    lands top t after =
        let us = carried outcome top vs from t h in
        (us.0, ap (λ (b : Bool). landed (carry b top vs) is ls after) keeps_is ∙ ap (λ (o : Option (List Value)). landed o is ls after) us.1, us.2)

    pub call : (N M : ℕ → Type 0) (e : Exit) → Reach m H F R (inside m locals outcome) N s (advance m x) code.end (Frame keeps st.locals vs is ∷ ls) (with_locals (tick u st) zs) (kinds outcome) e → Reaches m H F R c M (u + s) x is ls st (kinds outcome ++ from)
    call N M (Falls ws) q =
        (Falls (ws ++ vs), record { final = with_locals q.final st.locals; steps = 1 + (q.steps + 1); by = comes_first m H F R (q.steps + 1) x _ low (comes_last m H F R q.steps (advance m x) _ _ q.by (omega (arith, kinds_length ws (kinds outcome) q.fits), omega (arith, shallow), tt) refl); fits = kinds-append ws vs (kinds outcome) from q.fits h; named = tt; sound = returned m locals c.locals st q.final sound q.sound; taken = q.taken; items = q.items; cost = cost_tick u s st.count q.final.count q.taken q.cost; short = omega (arith, q.short, one) })
    call N M (Branches zero top) q =
        let same : q.fits.0 ≡ outcome = sym (some_is outcome q.fits.0 q.fits.1) in
        let us = lands top (subst (λ (u : Option ValType). IsTop u top) same q.fits.2) (with_locals q.final st.locals) in
        (Falls us.0, record { final = with_locals q.final st.locals; steps = 1 + q.steps; by = comes_first m H F R q.steps x _ low (comes_to m H F R q.steps (advance m x) _ _ q.by us.1); fits = us.2; named = tt; sound = returned m locals c.locals st q.final sound q.sound; taken = q.taken; items = q.items; cost = cost_tick u s st.count q.final.count q.taken q.cost; short = omega (arith, q.short, one) })
    call N M (Branches (suc l) top) q = absurd (none_some q.fits.0 q.fits.1)
    call N M (Returns top) q =
        let us = lands top q.fits (with_locals q.final st.locals) in
        (Falls us.0, record { final = with_locals q.final st.locals; steps = 1 + q.steps; by = comes_first m H F R q.steps x _ low (comes_to m H F R q.steps (advance m x) _ _ q.by us.1); fits = us.2; named = tt; sound = returned m locals c.locals st q.final sound q.sound; taken = q.taken; items = q.items; cost = cost_tick u s st.count q.final.count q.taken q.cost; short = omega (arith, q.short, one) })
