-- Laws of the machine's run: its ends stay, and what it was before them.
use Rattle.std.proofs.Common.{◌≡◌, ℕ, zero, suc, ◌+◌, ◌-◌, ◌≤◌, List, refl, sym, ap, ◌∙◌, subst, arith}
use Rattle.wasm_ast.specs.declared.types.Value.{Value}
use Rattle.wasm_ast.specs.declared.module.Module.{Module}
use Rattle.wasm_ast.specs.Code.{Code}
use Rattle.semantics.specs.Configuration.{State}
use Rattle.semantics.specs.Machine.{Machine, Running, Done, Trapped, Stuck, ControlEntry, IsOver, advance, run}

pub run-suc : (m : Module) (n : ℕ) (x : Machine) → run m (suc n) x ≡ advance m (run m n x)
run-suc m zero x = refl
run-suc m (suc n) x = run-suc m n (advance m x)

pub run-add : (m : Module) (a b : ℕ) (x : Machine) → run m (a + b) x ≡ run m b (run m a x)
run-add m zero b x =
    let e : zero + b ≡ b = omega arith in
    ap (λ (n : ℕ). run m n x) e
run-add m (suc a) b x =
    let e : suc a + b ≡ suc (a + b) = omega arith in
    rw e (run-add m a b (advance m x))

-- one more step
pub run_on : (m : Module) (n : ℕ) (x y z : Machine) → run m n x ≡ y → advance m y ≡ z → run m (suc n) x ≡ z
run_on m n x y z e g = run-suc m n x ∙ ap (λ (y : Machine). advance m y) e ∙ g

advance-over : (m : Module) (x : Machine) → IsOver x → advance m x ≡ x
advance-over m (Running vs is ls st) h = absurd h
advance-over m (Done st) h = refl
advance-over m (Trapped count) h = refl
advance-over m (Stuck count) h = refl

run-over : (m : Module) (n : ℕ) (x : Machine) → IsOver x → run m n x ≡ x
run-over m zero x h = refl
run-over m (suc n) x h = ap (λ (y : Machine). run m n y) (advance-over m x h) ∙ run-over m n x h

pub stays : (m : Module) (a b : ℕ) (x : Machine) → IsOver (run m a x) → a ≤ b → run m b x ≡ run m a x
stays m a b x over h =
    let s : b ≡ a + (b - a) = omega arith in
    ap (λ (n : ℕ). run m n x) s ∙ run-add m a (b - a) x ∙ run-over m (b - a) (run m a x) over

pub over_at : (m : Module) (n : ℕ) (x y : Machine) → run m n x ≡ y → IsOver y → IsOver (run m n x)
over_at m n x y e h = subst (λ (z : Machine). IsOver z) (sym e) h

-- a run that is over at two places is the same there
pub one_end : (m : Module) (a b : ℕ) (x y z : Machine) → run m a x ≡ y → run m b x ≡ z → IsOver y → IsOver z → y ≡ z
one_end m a b x y z e g h k =
    let n : a ≤ a + b = omega arith in
    let n' : b ≤ a + b = omega arith in
    sym e ∙ sym (stays m a (a + b) x (over_at m a x y e h) n) ∙ stays m b (a + b) x (over_at m b x z g k) n' ∙ g

-- a run that goes on was not over before
pub not_over_before : (m : Module) (a b : ℕ) (x y : Machine) (vs : List Value) (is : Code) (ls : List ControlEntry) (st : State) → run m b x ≡ Running vs is ls st → a ≤ b → run m a x ≡ y → IsOver y → ⊥
not_over_before m a b x y vs is ls st e h g over =
    let s : Running vs is ls st ≡ y = sym e ∙ stays m a b x (over_at m a x y g over) h ∙ g in
    subst (λ (z : Machine). IsOver z) (sym s) over
