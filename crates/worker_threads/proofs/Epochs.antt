-- Threads and receipts of a hub where nobody is lost, one more of them.
use Rattle.std.proofs.Common.{◌≡◌, Bool, List, [], ◌∷◌, ◌++◌, refl, sym, subst}
use Rattle.std.specs.declared.thread.PromisedHandle.{PromisedHandle}
use Rattle.worker_loops.specs.inside.Epochs.{IsSteady}
use Rattle.worker_threads.specs.Threads.{AreOfGate}
use Rattle.worker_threads.specs.inside.Epochs.{AreSteady}
use Rattle.hub_ends.specs.declared.pass.WorkerReceipt.{WorkerReceipt}
use Rattle.worker_threads.specs.declared.thread_promises.WorkerPromise.{WorkerPromise}

module _ {J : Type 0} where
  pub steady_more : (rs : List (WorkerReceipt J)) (r : WorkerReceipt J) → AreSteady rs → IsSteady r → AreSteady (rs ++ r ∷ [])
  steady_more [] r old new = (new, tt)
  steady_more (x ∷ xs) r old new = (old.0, steady_more xs r old.1 new)

  pub gate_more : {T : Type 0} (loses : Bool) (hs now : List (PromisedHandle T (WorkerPromise J))) (h : PromisedHandle T (WorkerPromise J)) → now ≡ hs ++ h ∷ []
      → AreOfGate loses hs → h.promise.loses ≡ loses → AreOfGate loses now
  gate_more loses [] now h is old new = subst (λ l. AreOfGate loses l) (sym is) (new, tt)
  gate_more loses (x ∷ xs) now h is old new = subst (λ l. AreOfGate loses l) (sym is) (old.0, gate_more loses xs (xs ++ h ∷ []) h refl old.1 new)
