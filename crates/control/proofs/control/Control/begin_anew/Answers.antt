use Rattle.std.proofs.Common.{◌≡◌, ◌∙◌, sym, ap, rules, arith, length, subst, refl, Option, Some, None, ℕ, ◌+◌, ◌*◌, ◌^◌, ◌<◌, ◌++◌, take, drop}
use Rattle.std.proofs.lemmas.Bool.{lt-ltb}
use Rattle.std.specs.Option.{unwrap_or}
use Rattle.control.proofs.ByPlace.{either_fits, few_taken, overwritten}
use Rattle.control.specs.inside.Control.{epochs_there, epochs_used}
use Rattle.control.specs.Machine.{count_set, either, none_set, saved_or_first}
use Rattle.control.proofs.control.Control.begin_anew.Goals as goal

unwrap_is : (o : Option ℕ) → unwrap_or o 0 ≡ saved_or_first o
unwrap_is None = refl
unwrap_is (Some s) = refl

pub invariant_of-self : goal.invariant_of-self
invariant_of-self c =
    let i = c.self.inside in
    let waiting = i.waiting.items in
    let alive = i.alive.items in
    let w : take i.waiting.len (c.clear.new.flags ++ drop (length c.clear.new.flags) waiting) ≡ none_set waiting = overwritten i.waiting.len c.clear.new.flags waiting (search rules) ∙ c.clear.ensures ∙ ap (λ x. none_set x) c.deref_mut-2.ensures.value in
    let a : take i.alive.len (c.join.new.alive ++ drop (length c.join.new.alive) alive) ≡ either alive waiting = overwritten i.alive.len c.join.new.alive alive (search rules) ∙ c.join.ensures ∙ ap (λ x. either x c.deref.result.now) c.deref_mut.ensures.value ∙ ap (λ x. either alive x) c.deref.ensures.value in
    let j = either_fits alive waiting c.self.invariant.0 in
    let used : i.epoch + count_set alive + 2 * count_set waiting < 2 ^ 32 + 3 * length alive = subst (λ m. epochs_used m < epochs_there m) (sym c.self.view_is) c.requires.epochs in
    rw (w, a) (
      j.1,
      c.self.invariant.1 ∙ sym j.0,
      c.self.invariant.2 ∙ sym j.0,
      c.self.invariant.3 ∙ sym j.0,
      rw j.0 c.self.invariant.4,
      rw j.0 (omega (arith, j.2, used)),
      c.self.invariant.6,
      λ r. let x = c.self.invariant.7 r in (rw (c.unwrap_or-self-inside.ensures, unwrap_is) x.1, x.1),
      few_taken i.done.len _ (2 ^ 20) (let few = c.self.invariant.8 in let long = i.done.ok.0 in omega (arith, few, long)),
    )

pub returns-then-count_set-gt0-clause-after : goal.returns-then-count_set-gt0-clause-after
returns-then-count_set-gt0-clause-after c =
    let i = c.self.inside in
    let waiting = i.waiting.items in
    let alive = i.alive.items in
    let done = i.done.items in
    let w : take i.waiting.len (c.clear.new.flags ++ drop (length c.clear.new.flags) waiting) ≡ none_set waiting = overwritten i.waiting.len c.clear.new.flags waiting (search rules) ∙ c.clear.ensures ∙ ap (λ x. none_set x) c.deref_mut-2.ensures.value in
    let a : take i.alive.len (c.join.new.alive ++ drop (length c.join.new.alive) alive) ≡ either alive waiting = overwritten i.alive.len c.join.new.alive alive (search rules) ∙ c.join.ensures ∙ ap (λ x. either x c.deref.result.now) c.deref_mut.ensures.value ∙ ap (λ x. either alive x) c.deref.ensures.value in
    let d : take i.done.len (c.clear-then-count_set-gt0.new.flags ++ drop (length c.clear-then-count_set-gt0.new.flags) done) ≡ none_set done = overwritten i.done.len c.clear-then-count_set-gt0.new.flags done (search rules) ∙ c.clear-then-count_set-gt0.ensures ∙ ap (λ x. none_set x) c.deref_mut-then-count_set-gt0.ensures.value in
    let some = lt-ltb 0 (count_set (either alive waiting)) (subst (λ (n : ℕ). 0 < n) (c.count_set.ensures.count ∙ ap (λ x. count_set x) (c.deref-2.ensures.value ∙ a)) c.if-count_set-gt0.true) in
    rw (← c.self.view_is, w, a, d, some, c.unwrap_or-self-inside.ensures, unwrap_is) refl
