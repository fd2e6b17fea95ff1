use Rattle.std.proofs.Common.{◌≡◌, refl, true, ◌∙◌, sym, ap, rules, arith, length, subst, ℕ, Bool, List, ◌<◌, ◌++◌, take, drop}
use Rattle.std.proofs.lemmas.Bool.{lt-ltb}
use Rattle.control.proofs.ByPlace.{either_fits, overwritten}
use Rattle.control.specs.Machine.{count_set, either, is_running, none_set}
use Rattle.control.proofs.control.Control.welcome.Goals as goal

pub invariant_of-self : goal.invariant_of-self
invariant_of-self c =
    let i = c.self.inside in
    let waiting = i.waiting.items in
    let alive = i.alive.items in
    let w : take i.waiting.len (c.clear.new.flags ++ drop (length c.clear.new.flags) waiting) ≡ none_set waiting = overwritten i.waiting.len c.clear.new.flags waiting (search rules) ∙ c.clear.ensures ∙ ap (λ x. none_set x) c.deref_mut-then-count_set-gt0.ensures.value in
    let a : take i.alive.len (c.join.new.alive ++ drop (length c.join.new.alive) alive) ≡ either alive waiting = overwritten i.alive.len c.join.new.alive alive (search rules) ∙ c.join.ensures ∙ ap (λ x. either x c.deref-then-count_set-gt0.result.now) c.deref_mut.ensures.value ∙ ap (λ x. either alive x) c.deref-then-count_set-gt0.ensures.value in
    let j = either_fits alive waiting c.self.invariant.0 in
    let some : 0 < count_set waiting = subst (λ (xs : List Bool). 0 < count_set xs) c.deref.ensures.value (subst (λ (n : ℕ). 0 < n) c.count_set.ensures.count c.if-count_set-gt0.true) in
    rw (w, a) (j.1, c.self.invariant.1 ∙ sym j.0, c.self.invariant.2 ∙ sym j.0, c.self.invariant.3 ∙ sym j.0, rw j.0 c.self.invariant.4, rw j.0 (omega (arith, j.2, some, c.self.invariant.5)), c.self.invariant.6, c.self.invariant.7, c.self.invariant.8)

pub returns-then-count_set-gt0 : goal.returns-then-count_set-gt0
returns-then-count_set-gt0 c =
    let i = c.self.inside in
    let waiting = i.waiting.items in
    let alive = i.alive.items in
    let w : take i.waiting.len (c.clear.new.flags ++ drop (length c.clear.new.flags) waiting) ≡ none_set waiting = overwritten i.waiting.len c.clear.new.flags waiting (search rules) ∙ c.clear.ensures ∙ ap (λ x. none_set x) c.deref_mut-then-count_set-gt0.ensures.value in
    let a : take i.alive.len (c.join.new.alive ++ drop (length c.join.new.alive) alive) ≡ either alive waiting = overwritten i.alive.len c.join.new.alive alive (search rules) ∙ c.join.ensures ∙ ap (λ x. either x c.deref-then-count_set-gt0.result.now) c.deref_mut.ensures.value ∙ ap (λ x. either alive x) c.deref-then-count_set-gt0.ensures.value in
    let some = lt-ltb 0 (count_set waiting) (subst (λ (xs : List Bool). 0 < count_set xs) c.deref.ensures.value (subst (λ (n : ℕ). 0 < n) c.count_set.ensures.count c.if-count_set-gt0.true)) in
    let runs : is_running i.ending ≡ true = ap (λ m. is_running m.ending) c.self.view_is ∙ sym c.is_running.ensures ∙ c.if-is_running.true in
    rw (← c.self.view_is, w, a, runs, some) refl
