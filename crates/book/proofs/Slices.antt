-- Where a state is cut into slices, and where a loss leads back to.
use Rattle.std.proofs.Common.{◌≡◌, ◌<◌, ℕ, suc, List, [], ◌∷◌, length, get_or, map, arith, Bool, true, false, ◌&&◌, cond, Some, None, refl, sym, ap, ◌∙◌, subst, inl, inr}
use Rattle.std.specs.Prelude.{not, ◌⊎◌, MatchOption, Option}
use Rattle.checkpoint.specs.Keep.{HasFailed}
use Rattle.job_state.specs.declared.fault.JobFault.TheVariants.{OutOfMemory}
use Rattle.job_state.specs.declared.fault.Place.TheVariants.{Slice}
use Rattle.superstep.specs.Job.{Work}
use Rattle.job_state.specs.State.{Standing, state_id}
use Rattle.book.specs.declared.job_data.JobData.{JobData}
use Rattle.book.specs.declared.job_data.JobData.TheVariants.{Nothing, Parts, Whole}
use Rattle.control.specs.Machine.{Machine, ended_by, is_running}
use Rattle.control.specs.Events.{slicing}
use Rattle.book.specs.inside.Parts.{all_home}
use Rattle.book.specs.Saving.{IsOther, MayLoadOther}
use Rattle.book.specs.inside.Book.{AreIdsOf}
use Rattle.job_state.specs.declared.state.VertexState.{VertexState}
use Rattle.std.proofs.lemmas.List.{length-map}
use Rattle.book.specs.inside.Loading.{HasIds, IsNotOf}
use Rattle.book.specs.inside.Recovery.{IsHeldOf, StandsBack}
use Rattle.book.proofs.Kept.{running_not_answer}

slicing_room_if : (m : Machine) (a : Bool) → cond (a && not true) (ended_by (OutOfMemory Slice) m) m ≡ m
slicing_room_if m true = refl
slicing_room_if m false = refl

-- there was room
pub slicing_room : (m : Machine) → slicing true m ≡ m
slicing_room m = slicing_room_if m (is_running m.ending)

slicing_none_if : (m : Machine) (a : Bool) → a ≡ true → cond (a && not false) (ended_by (OutOfMemory Slice) m) m ≡ ended_by (OutOfMemory Slice) m
slicing_none_if m true h = refl
slicing_none_if m false h = absurd (cc)

-- there was none
pub slicing_none : (m : Machine) → is_running m.ending ≡ true → slicing false m ≡ ended_by (OutOfMemory Slice) m
slicing_none m h = slicing_none_if m (is_running m.ending) h

-- what is held of a state of a job that runs is back
pub held_back : {J : _} (parts s : ℕ) (m m' : Machine) (state : Standing) (job_data : JobData J) → is_running m.ending ≡ true → state.superstep ≡ s → IsHeldOf parts m m' state job_data → StandsBack parts s m' job_data
held_back parts s m m' state (Parts placement) run same h =
    (subst (λ (x : Machine). is_running x.ending ≡ true) (sym h.1) run, (state.since, h.2 ∙ ap (λ n. all_home m.epoch n state.since parts) same ∙ ap (λ (x : Machine). all_home x.epoch s state.since parts) (sym h.1)))
held_back parts s m m' state (Whole whole) run same h = absurd (running_not_answer m.ending run h.0)
held_back parts s m m' state Nothing run same h = h

pub back_same : {J : _} (parts s s' : ℕ) (m : Machine) (job_data : JobData J) → s ≡ s' → StandsBack parts s m job_data → StandsBack parts s' m job_data
back_same parts s s' m job_data same h = subst (λ n. StandsBack parts n m job_data) same h

same_at : (xs ys : List ℕ) → length xs ≡ length ys → ((k : ℕ) → k < length xs → get_or xs k 0 ≡ get_or ys k 0) → xs ≡ ys
same_at [] [] long at = refl
same_at [] (y ∷ ys) long at = absurd (cc)
same_at (x ∷ xs) [] long at = absurd (cc)
same_at (x ∷ xs) (y ∷ ys) long at =
    let first : x ≡ y = at 0 (omega arith) in
    ap (λ z. z ∷ xs) first ∙ ap (λ zs. y ∷ zs) (same_at xs ys (omega (arith, long)) (λ k below. at (suc k) (omega (arith, below))))

pub ids_are : (vertices : List VertexState) (own : List ℕ) → HasIds vertices own → map state_id vertices ≡ own
ids_are vertices own h =
    let wide = length-map vertices state_id in
    same_at (map state_id vertices) own (wide ∙ h.0) (λ k below. h.1 k (omega (arith, below, wide)))

pub ids_have : (vertices : List VertexState) (own : List ℕ) → map state_id vertices ≡ own → HasIds vertices own
ids_have vertices own e = (sym (length-map vertices state_id) ∙ ap length e, λ k below. ap (λ xs. get_or xs k 0) e)

-- bytes of which the code makes no state are no such state's
pub other_bytes : (work : Work) (s : ℕ) (own bytes : List ℕ) → AreIdsOf work own → IsNotOf s own bytes → IsOther work s bytes
other_bytes work s own bytes knows never = λ state spelled fits. never state (record { spelled = spelled; superstep = fits.superstep; ids = ids_have state.vertices own (knows.only state fits.ids) })

pub failed_cause : (work : Work) (s : ℕ) (own : List ℕ) (may_load : List ℕ → Type 0) (f f' : ℕ) → AreIdsOf work own → HasFailed f f' ⊎ ((bytes : List ℕ) × may_load bytes × IsNotOf s own bytes) → HasFailed f f' ⊎ MayLoadOther work (Some s) may_load
failed_cause work s own may_load f f' knows why = elim why [ inl x ↦ inl x | inr x ↦ inr (x.0, x.1, other_bytes work s own x.0 knows x.2) ]

-- ---- what a load found

pub found_some : {A : Type 0} (found : Option A) (x : A) (N : Type 0) (S : A → Type 0) → found ≡ Some x → MatchOption found N S → S x
found_some found x N S is h = subst (λ o. MatchOption o N S) is h

pub found_none : {A : Type 0} (found : Option A) (N : Type 0) (S : A → Type 0) → found ≡ None → MatchOption found N S → N
found_none found N S is h = subst (λ o. MatchOption o N S) is h
