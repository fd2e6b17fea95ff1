-- A walk's turn, and the end of a walk.
use Rattle.std.proofs.Common.{true, ◌≡◌, ◌≢◌, ℕ, zero, suc, ◌+◌, ◌<◌, ◌≤◌, refl, sym, ap, ◌∙◌, subst, arith}
use Rattle.wasm_ast.specs.declared.module.Module.{Module}
use Rattle.semantics.specs.Configuration.{State}
use Rattle.semantics.specs.Machine.{Machine, Running, Done, Trapped, Stuck, IsOver, advance, run, next_units}
use Rattle.interp.specs.inside.Going.{is_going}
use Rattle.interp.specs.inside.Place.{Place, running}
use Rattle.interp.specs.inside.Walk.{Comes, Finishes, EndsWithin}
use Rattle.semantics.proofs.RunLaws.{run-add, run_on, stays, over_at, one_end, not_over_before}
use Rattle.interp.proofs.Falling.{Counted, counted_after}

pub comes_here : (m : Module) (x : Machine) → Comes m x x
comes_here m x = record { steps = zero; there = refl }

pub comes_on : (m : Module) (x y z : Machine) → Comes m x y → advance m y ≡ z → Comes m x z
comes_on m x y z h e = record { steps = suc h.steps; there = run_on m h.steps x y z h.there e }

module _ (m : Module) (from : Machine) (p : Place) (comes : Comes m from (running p)) where
  not_before : (n : ℕ) → n < suc comes.steps → (st : State) → run m n from ≢ Done st
  not_before n h st e = not_over_before m n comes.steps from (Done st) p.values p.code p.entries p.state comes.there (omega (arith, h)) e tt

  pub finishes : (final : State) → advance m (running p) ≡ Done final → Finishes m from final
  finishes final e =
      record { steps = suc comes.steps; done = run_on m comes.steps from (running p) (Done final) comes.there e; least = not_before }

  module _ (most : ℕ) (ends : EndsWithin m from most) where
    -- what the next instruction counts is within what all of them count
    pub room : p.state.count + next_units m p.code ≤ most
    room =
        let late : ends.steps ≤ comes.steps + suc ends.steps = omega arith in
        let there : run m (suc ends.steps) (running p) ≡ Done ends.final =
        ap (λ (x : Machine). run m (suc ends.steps) x) (sym comes.there) ∙ sym (run-add m comes.steps (suc ends.steps) from) ∙ stays m ends.steps (comes.steps + suc ends.steps) from (over_at m ends.steps from (Done ends.final) ends.done tt) late ∙ ends.done in
        let counted : Counted (p.state.count + next_units m p.code) (Done ends.final) = subst (λ (x : Machine). Counted (p.state.count + next_units m p.code) x) there (counted_after m ends.steps p.values p.code p.entries p.state) in
        let all : p.state.count + next_units m p.code ≤ ends.final.count = counted in
        omega (arith, all, ends.within)

    other_end : (x : Machine) → IsOver x → advance m (running p) ≡ x → Done ends.final ≡ x
    other_end x over e = one_end m ends.steps (suc comes.steps) from (Done ends.final) x ends.done (run_on m comes.steps from (running p) x comes.there e) tt over

    no_trap : (count : ℕ) → advance m (running p) ≡ Trapped count → ⊥
    no_trap count e = let same : Done ends.final ≡ Trapped count = other_end (Trapped count) tt e in absurd cc

    no_stick : (count : ℕ) → advance m (running p) ≡ Stuck count → ⊥
    no_stick count e = let same : Done ends.final ≡ Stuck count = other_end (Stuck count) tt e in absurd cc

    goes_at : (x : Machine) → advance m (running p) ≡ x → is_going x ≡ true
    goes_at (Running vs is ls st) e = refl
    goes_at (Done st) e = refl
    goes_at (Trapped count) e = absurd (no_trap count e)
    goes_at (Stuck count) e = absurd (no_stick count e)

    -- there is a next step
    pub goes : is_going (advance m (running p)) ≡ true
    goes = goes_at (advance m (running p)) refl
