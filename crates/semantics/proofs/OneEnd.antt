-- A call has one start and one end.
use Rattle.std.proofs.Common.{◌≡◌, ℕ, List, [], slice_get, Option, Some, sym, ap, ◌∙◌, subst}
use Rattle.wasm_ast.specs.declared.types.Value.{Value}
use Rattle.wasm_ast.specs.declared.module.Function.{Function}
use Rattle.wasm_ast.specs.declared.module.Module.{Module}
use Rattle.verified.specs.declared.call.CallInput.{CallInput}
use Rattle.verified.specs.declared.call.CallOutcome.{CallOutcome}
use Rattle.verified.specs.Host.{Host, host_of}
use Rattle.semantics.specs.Machine.{Machine, Running, Done, Trapped, Stuck, defined, functions_of, run, IsOver}
use Rattle.semantics.specs.Start.{Starts, StartsFrom, initial_memory, state_from}
use Rattle.semantics.specs.Call.{Outcome, ComesTo, IsOutcome, IsTrapped, IsStuck, SameOutcome, outcome_of, shown}
use Rattle.semantics.proofs.RunLaws.{one_end}

-- ---- starts

some_is : {A : Type 0} (x y : A) (o : Option A) → o ≡ Some x → o ≡ Some y → x ≡ y
some_is x y o e g = let h : Some x ≡ Some y = sym e ∙ g in cc

pub one_start_from : (m : Module) (host : Host) (x y : Machine) → StartsFrom m host x → StartsFrom m host y → x ≡ y
one_start_from m host x y a b =
    let number : a.begins.number ≡ b.begins.number = some_is a.begins.number b.begins.number _ a.begins.exported b.begins.exported in
    let called : defined a.function ≡ defined b.function = some_is (defined a.function) (defined b.function) _ a.begins.is_defined (subst (λ (n : ℕ). slice_get (functions_of m) n ≡ Some (defined b.function)) (sym number) b.begins.is_defined) in
    let f : a.function ≡ b.function = cc in
    let g : a.globals ≡ b.globals = some_is a.globals b.globals _ a.begins.initial_values b.begins.initial_values in
    let bytes : a.bytes ≡ b.bytes = some_is a.bytes b.bytes _ a.begins.initial_bytes (subst (λ (gs : List Value). initial_memory gs m ≡ Some b.bytes) (sym g) b.begins.initial_bytes) in
    a.is
    ∙ ap (λ (h : Function). Running [] h.body [] (state_from h a.globals a.bytes host)) f
    ∙ ap (λ (gs : List Value). Running [] b.function.body [] (state_from b.function gs a.bytes host)) g
    ∙ ap (λ (bs : List ℕ). Running [] b.function.body [] (state_from b.function b.globals bs host)) bytes
    ∙ sym b.is

pub one_start : (m : Module) (input : CallInput) (x y : Machine) → Starts m input x → Starts m input y → x ≡ y
one_start m input x y a b = one_start_from m (host_of input) x y a b

-- ---- ends of calls

end_is : (m : Module) (input : CallInput) (x y a b : Machine) (n k : ℕ) → Starts m input x → Starts m input y → run m n x ≡ a → run m k y ≡ b → IsOver a → IsOver b → a ≡ b
end_is m input x y a b n k s t e g oa ob =
    let same : run m k x ≡ b = ap (λ (z : Machine). run m k z) (one_start m input x y s t) ∙ g in
    one_end m n k x a b e same oa ob

pub one_outcome : (m : Module) (host : Host) (a b : Outcome) → ComesTo m host a → ComesTo m host b → a ≡ b
one_outcome m host a b p q =
    let there : run m q.steps p.first ≡ Done q.final = ap (λ (z : Machine). run m q.steps z) (one_start_from m host p.first q.first p.starts q.starts) ∙ q.done in
    let done : Done p.final ≡ Done q.final = one_end m p.steps q.steps p.first (Done p.final) (Done q.final) p.done there tt tt in
    let same : p.final ≡ q.final = cc in
    p.leaves ∙ ap outcome_of same ∙ sym q.leaves

pub outcome_is : (m : Module) (input : CallInput) (a b : CallOutcome) → IsOutcome m input a → IsOutcome m input b → SameOutcome a b
outcome_is m input a b p q =
    let same = one_outcome m (host_of input) (shown a) (shown b) p q in
    record {
      value = ap (λ (o : Outcome). o.value) same;
      sends = ap (λ (o : Outcome). o.sends) same;
      contributions = ap (λ (o : Outcome). o.contributions) same;
      halted = ap (λ (o : Outcome). o.halted) same;
      units = ap (λ (o : Outcome). o.units) same;
    }

pub trap_is : (m : Module) (input : CallInput) (a b : ℕ) → IsTrapped m input a → IsTrapped m input b → a ≡ b
trap_is m input a b p q =
    let e : Trapped a ≡ Trapped b = end_is m input p.first q.first (Trapped a) (Trapped b) p.steps q.steps p.starts q.starts p.trapped q.trapped tt tt in cc

pub stuck_is : (m : Module) (input : CallInput) (a b : ℕ) → IsStuck m input a → IsStuck m input b → a ≡ b
stuck_is m input a b p q =
    let e : Stuck a ≡ Stuck b = end_is m input p.first q.first (Stuck a) (Stuck b) p.steps q.steps p.starts q.starts p.stuck q.stuck tt tt in cc

pub outcome_no_trap : (m : Module) (input : CallInput) (a : CallOutcome) (b : ℕ) → IsOutcome m input a → IsTrapped m input b → ⊥
outcome_no_trap m input a b p q =
    let e : Done p.final ≡ Trapped b = end_is m input p.first q.first (Done p.final) (Trapped b) p.steps q.steps p.starts q.starts p.done q.trapped tt tt in absurd cc

pub outcome_not_stuck : (m : Module) (input : CallInput) (a : CallOutcome) (b : ℕ) → IsOutcome m input a → IsStuck m input b → ⊥
outcome_not_stuck m input a b p q =
    let e : Done p.final ≡ Stuck b = end_is m input p.first q.first (Done p.final) (Stuck b) p.steps q.steps p.starts q.starts p.done q.stuck tt tt in absurd cc

pub trap_not_stuck : (m : Module) (input : CallInput) (a b : ℕ) → IsTrapped m input a → IsStuck m input b → ⊥
trap_not_stuck m input a b p q =
    let e : Trapped a ≡ Stuck b = end_is m input p.first q.first (Trapped a) (Stuck b) p.steps q.steps p.starts q.starts p.trapped q.stuck tt tt in absurd cc
