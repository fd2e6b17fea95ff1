-- Over a Keep that loads only what was saved, and whose device never fails, a job is calm.
use Rattle.std.proofs.Common.{◌≡◌, ℕ, List, [], ◌∷◌, Bool, Option, Some, refl, sym, ◌∙◌, subst, inl, inr}
use Rattle.checkpoint.specs.Keep.{LoadsNothingElse}
use Rattle.superstep.specs.Job.{Work}
use Rattle.job_state.specs.declared.settings.Settings.{Settings}
use Rattle.control.specs.declared.job_status.DeviceResult.{DeviceResult}
use Rattle.control.specs.declared.job_status.DeviceResult.TheVariants.{Failed, Good, NoMemory}
use Rattle.control.specs.Events.{Heard, after_load, begun}
use Rattle.control.specs.Machine.{Machine, opened, resumed}
use Rattle.book.specs.Saving.{IsKeptStep, IsLoadResult, IsMadeAt, MayLoadOther}
use Rattle.book.specs.Calm.{IsCalmAt, NeverFails}
use Rattle.book.specs.inside.Counts.{HasSameCounts, LoadsMade}
use Rattle.book.proofs.Keeps.{slicing_same}
use Rattle.book.proofs.Counts.{counts_both, counts_kept, counts_same, loads_made, never_more, some_of}
use Rattle.coordinator.specs.JobAnswers.{LoadsMadeAt}
use Rattle.coordinator.specs.Steps.{KeptAlong, Move, after, moved}

-- ---- a load at the start

-- what it loads is no other
never_other : (work : Work) (may_load : List ℕ → Type 0) (s : ℕ) → LoadsMadeAt work may_load s → MayLoadOther work (Some s) may_load → ⊥
never_other work may_load s made h = let x = made h.0 h.1 in h.2 x.state x.spelled x.fits

loaded_same : (told : DeviceResult) (settings : Settings) (s : ℕ) → (told ≡ Failed → ⊥)
    → ((after_load told (resumed settings s)).missed ≡ 0) × ((after_load told (resumed settings s)).restarts ≡ 0) × ((after_load told (resumed settings s)).saved ≡ Some s)
loaded_same Good settings s sure = (refl, refl, refl)
loaded_same Failed settings s sure = absurd (sure refl)
loaded_same NoMemory settings s sure = (refl, refl, refl)

begun_same : (heard : Heard) (settings : Settings) (s : ℕ) → (heard.load ≡ Failed → ⊥)
    → ((begun heard settings s).missed ≡ 0) × ((begun heard settings s).restarts ≡ 0) × ((begun heard settings s).saved ≡ Some s)
begun_same heard settings s sure =
    let l = loaded_same heard.load settings s sure in
    let c = slicing_same (after_load heard.load (resumed settings s)) heard.sliced in
    (c.missed ∙ l.0, c.restarts ∙ l.1, c.saved ∙ l.2)

-- ---- from move to move

module _ {K : Type 0} (honest : K → Bool) (saved : K → Option ℕ) (may_load : K → List ℕ → Type 0) (faults : K → ℕ) (work : Work) (trusted : ℕ → Bool) where
  abbrev Kept : Machine → Machine → K → K → Type 0
  Kept = IsKeptStep honest saved may_load faults work trusted

  calm_along : (m : Machine) (k : K) (moves : List Move) (k' : K) → LoadsNothingElse saved may_load → NeverFails faults → LoadsMade work (may_load k) m → KeptAlong Kept m k moves k' → HasSameCounts m (after m moves)
  calm_along m k [] k' one never made r = counts_same m m refl
  calm_along m k (x ∷ xs) k' one never made r =
      let n = moved m x in
      counts_both m n (after n xs)
      (counts_kept work (may_load k) m n (faults k) (faults r.0) (never k) (never r.0) made r.1.cause)
      (calm_along n r.0 xs k' one never (loads_made honest saved may_load faults work trusted m n k r.0 one made r.1) r.2)

  -- from superstep 0 on
  pub calm_opened : (quiet : Bool) (moves : List Move) (k k' : K) (end : Machine) → after (opened work.settings quiet) moves ≡ end → KeptAlong Kept (opened work.settings quiet) k moves k' → LoadsNothingElse saved may_load → NeverFails faults → IsCalmAt end
  calm_opened quiet moves k k' end leads r one never =
      let c = calm_along (opened work.settings quiet) k moves k' one never (λ s e. absurd (cc)) r in
      subst IsCalmAt leads (c.missed, c.restarts)

  -- from a state on that was loaded
  pub calm_begun : (superstep : ℕ) (heard : Heard) (k k1 k' : K) (moves : List Move) (end : Machine)
      → IsLoadResult work (honest k) (honest k1) (saved k) (saved k1) (may_load k) (may_load k1) (faults k) (faults k1) (Some superstep) heard.load
      → after (begun heard work.settings superstep) moves ≡ end → KeptAlong Kept (begun heard work.settings superstep) k1 moves k'
      → LoadsNothingElse saved may_load → NeverFails faults → LoadsMadeAt work (may_load k) superstep → IsCalmAt end
  calm_begun superstep heard k k1 k' moves end told leads r one never made =
      let sure : heard.load ≡ Failed → ⊥ = λ bad. elim (told.cause bad) [
        | inl x ↦ never_more (faults k) (faults k1) (never k) (never k1) x
        | inr x ↦ never_other work (may_load k) superstep made x
      ] in
      let b = begun_same heard work.settings superstep sure in
      let first : LoadsMade work (may_load k1) (begun heard work.settings superstep) =
      λ s e bytes may. subst (λ n. IsMadeAt work n bytes) (some_of superstep s (sym b.2 ∙ e)) (made bytes (told.bytes_are bytes may)) in
      let c = calm_along (begun heard work.settings superstep) k1 moves k' one never first r in
      subst IsCalmAt leads (c.missed ∙ b.0, c.restarts ∙ b.1)
