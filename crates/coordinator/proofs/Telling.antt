-- What workers hear of their losses.
use Rattle.std.proofs.lemmas.Bool.Decides.{eqb_tells}
use Rattle.std.proofs.Common.{◌≡◌, ◌≢◌, ◌∙◌, ℕ, ◌+◌, ◌<◌, ◌≤◌, Bool, cond, List, [], ◌∷◌, ◌++◌, length, set, Some, None, Result, Ok, Err, OnOk, eq-eqb, ne_eqb, ap, refl, sym, arith, ◌⊎◌, ⊎_elim, inl, inr}
use mathlib.Core.List.{append-nil}
use Rattle.hub_ends.specs.Protocol.{of}
use Rattle.hub_ends.proofs.Handed.{at_set_else, at_set_here}
use Rattle.hub_ends.specs.Verdicts.{told_to}
use Rattle.coordinator.specs.inside.Told.{IsToldNext, due_to}
use Rattle.coordinator.specs.declared.event_loop.Due.{Due}
use Rattle.coordinator.proofs.Moving.{length_set}

pub either_way : (v w : ℕ) → (v ≡ w) ⊎ (v ≢ w)
either_way v w = ⊎_elim (λ x. inl x.1) (λ x. inr x.1) (eqb_tells v w)

pub told_nobody : (told : List (List Bool)) → IsToldNext told told None
told_nobody told = record { width = refl; next = λ w h. sym (append-nil (told_to told w)) }

-- the worker does not listen
pub told_past : (told : List (List Bool)) (due : Due) → length told ≤ due.worker → IsToldNext told told (Some due)
told_past told due past = record {
  width = refl;
  next = λ w h.
      sym (append-nil (told_to told w))
      ∙ ap (λ b. told_to told w ++ cond b (due.counted ∷ []) []) (sym (ne_eqb due.worker w (λ e. omega (arith, e, h, past))));
}

told_one_at : (told : List (List Bool)) (due : Due) (w : ℕ) → due.worker < length told → (due.worker ≡ w) ⊎ (due.worker ≢ w)
    → told_to (set told due.worker (told_to told due.worker ++ due.counted ∷ [])) w ≡ told_to told w ++ due_to w (Some due)
told_one_at told due w h (inl e) =
    ap (λ (k : ℕ). told_to (set told due.worker (told_to told due.worker ++ due.counted ∷ [])) k) (sym e)
    ∙ at_set_here told due.worker (told_to told due.worker ++ due.counted ∷ []) h
    ∙ ap (λ (k : ℕ). told_to told k ++ due.counted ∷ []) e
    ∙ ap (λ b. told_to told w ++ cond b (due.counted ∷ []) []) (sym (eq-eqb due.worker w e))
told_one_at told due w h (inr n) =
    at_set_else told due.worker w (told_to told due.worker ++ due.counted ∷ []) (λ e. n (sym e))
    ∙ sym (append-nil (told_to told w))
    ∙ ap (λ b. told_to told w ++ cond b (due.counted ∷ []) []) (sym (ne_eqb due.worker w n))

pub told_one : {A E : Type 0} (r : Result A E) (told told' : List (List Bool)) (due : Due) → due.worker < length told
    → OnOk r (told' ≡ set told due.worker (told_to told due.worker ++ due.counted ∷ [])) → OnOk r (IsToldNext told told' (Some due))
told_one (Ok a) told told' due here is = record {
  width = ap length is ∙ length_set told due.worker (told_to told due.worker ++ due.counted ∷ []);
  next = λ w h. ap (λ l. told_to l w) is ∙ told_one_at told due w here (either_way due.worker w);
}
told_one (Err x) told told' due here is = tt
