-- Rows of threads with their channels, and of receipts, one longer.
use Rattle.std.proofs.Common.{◌≡◌, ◌∙◌, ℕ, ◌+◌, Bool, true, false, List, [], ◌∷◌, ◌++◌, length, slice_get, Some, ap, sym, subst, arith}
use Rattle.std.specs.declared.thread.PromisedHandle.{PromisedHandle}
use Rattle.superstep.specs.Job.{Work}
use Rattle.hub_ends.specs.Channel.{Channel}
use Rattle.hub_ends.proofs.Handed.{get_end, get_more}
use Rattle.worker_loops.specs.Counted.{joins_counted}
use Rattle.hub_ends.specs.Passes.{handed_in_by}
use Rattle.worker_loops.specs.Numbers.{stamps_in}
use Rattle.hub_ends.specs.Verdicts.{told_to}
use Rattle.worker_threads.specs.inside.Joins.{AreJoined, AreLinked, line_of}
use Rattle.worker_loops.specs.inside.Returning.{HasReturned}
use Rattle.hub_ends.specs.declared.pass.WorkerReceipt.{WorkerReceipt}
use Rattle.worker_threads.specs.declared.thread_promises.WorkerPromise.{WorkerPromise}
use Rattle.hub_ends.specs.declared.verdict.Verdict.{Verdict}

module _ {J T : Type 0} where
  linked_wider : (lines : List (Channel Verdict)) (line : Channel Verdict) (n : ℕ) (ts : List (PromisedHandle T (WorkerPromise J))) → AreLinked lines n ts → AreLinked (lines ++ line ∷ []) n ts
  linked_wider lines line n [] old = tt
  linked_wider lines line n (t ∷ ts) old = (get_more lines (line ∷ []) n _ old.0, linked_wider lines line (n + 1) ts old.1)

  linked_longer : (lines : List (Channel Verdict)) (n : ℕ) (ts : List (PromisedHandle T (WorkerPromise J))) (t : PromisedHandle T (WorkerPromise J))
      → AreLinked lines n ts → slice_get lines (n + length ts) ≡ Some (line_of t) → AreLinked lines n (ts ++ t ∷ [])
  linked_longer lines n [] t old new = (subst (λ (k : ℕ). slice_get lines k ≡ Some (line_of t)) (let z : n + 0 ≡ n = omega arith in z) new, tt)
  linked_longer lines n (x ∷ xs) t old new =
      (old.0, linked_longer lines (n + 1) xs t old.1 (subst (λ (k : ℕ). slice_get lines k ≡ Some (line_of t)) (let z : n + length (x ∷ xs) ≡ n + 1 + length xs = omega arith in z) new))

  -- the thread of the next worker, with its line
  pub linked_next : (lines lines' : List (Channel Verdict)) (line : Channel Verdict) (ts ts' : List (PromisedHandle T (WorkerPromise J))) (t : PromisedHandle T (WorkerPromise J))
      → lines' ≡ lines ++ line ∷ [] → ts' ≡ ts ++ t ∷ [] → length lines ≡ length ts → line_of t ≡ line → AreLinked lines 0 ts → AreLinked lines' 0 ts'
  linked_next lines lines' line ts ts' t more one long is old =
      let here : slice_get (lines ++ line ∷ []) (0 + length ts) ≡ Some (line_of t) =
      get_end lines line (0 + length ts) (omega (arith, long)) ∙ ap (λ x. Some x) (sym is) in
      subst (λ l. AreLinked l 0 ts') (sym more)
      (subst (λ l. AreLinked (lines ++ line ∷ []) 0 l) (sym one) (linked_longer (lines ++ line ∷ []) 0 ts t (linked_wider lines line 0 ts old) here))

module _ {J : Type 0} where
  pub joined_more : (work : Work) (honest : ℕ → Bool) (told : List (List Bool)) (n : ℕ) (rs : List (WorkerReceipt J)) (r : WorkerReceipt J)
      → AreJoined work honest told n rs → joins_counted false (told_to told (n + length rs)) (stamps_in (handed_in_by r)) ≡ true → HasReturned work honest r
      → AreJoined work honest told n (rs ++ r ∷ [])
  joined_more work honest told n [] r old new own =
      (subst (λ (k : ℕ). joins_counted false (told_to told k) (stamps_in (handed_in_by r)) ≡ true) (let z : n + 0 ≡ n = omega arith in z) new, own, tt)
  joined_more work honest told n (x ∷ xs) r old new own =
      (old.0, old.1, joined_more work honest told (n + 1) xs r old.2 (subst (λ (k : ℕ). joins_counted false (told_to told k) (stamps_in (handed_in_by r)) ≡ true) (let z : n + length (x ∷ xs) ≡ n + 1 + length xs = omega arith in z) new) own)
