-- How the coordinator and its threads follow what became of losses.
use Rattle.std.specs.Prelude.{◌≡◌, ◌+◌, ℕ, Bool, true, false, List, [], ◌∷◌, Some, slice_get}
use Rattle.superstep.specs.Job.{Work}
use Rattle.hub_ends.specs.Channel.{Channel}
use Rattle.std.specs.declared.thread.PromisedHandle.{PromisedHandle}
use Rattle.worker_loops.specs.Counted.{joins_counted}
use Rattle.hub_ends.specs.Passes.{handed_in_by}
use Rattle.worker_loops.specs.Numbers.{stamps_in}
use Rattle.hub_ends.specs.Verdicts.{reads_on, sends_on, told_to}
use Rattle.worker_loops.specs.inside.Joins.{HasJoined}
use Rattle.worker_loops.specs.inside.Returning.{HasReturned}
use Rattle.hub_ends.specs.declared.pass.WorkerReceipt.{WorkerReceipt}
use Rattle.worker_threads.specs.declared.thread_promises.WorkerPromise.{WorkerPromise}
use Rattle.hub_ends.specs.declared.verdict.Verdict.{Verdict}
use Rattle.hub_ends.specs.declared.verdict.VerdictSender.{VerdictSender}
use Rattle.worker_loops.specs.declared.worker_loop.WorkerEnd.{WorkerEnd}

module _ {J : Type 0} where
  -- the worker's thread hears on this channel
  abbrev pub line_of : {T : Type 0} → PromisedHandle T (WorkerPromise J) → Channel Verdict
  line_of thread = sends_on thread.promise.line.value

  -- the threads of the workers from w on
  abbrev pub AreLinked : {T : Type 0} → List (Channel Verdict) → ℕ → List (PromisedHandle T (WorkerPromise J)) → Type 0
  AreLinked lines w [] = Unit {0}
  AreLinked lines w (thread ∷ threads) = (slice_get lines w ≡ Some (line_of thread)) × AreLinked lines (w + 1) threads

  -- What the thread of a worker returns: it heard on this channel, and joined only after losses that were counted. It sent events
  -- for its tasks alone.
  pub record IsEndOn (work : Work) (honest : ℕ → Bool) (sender : VerdictSender) (end : WorkerEnd J) : Type 0 where
    pub line : reads_on end.reader ≡ sends_on sender
    pub joined : HasJoined end
    pub returned : HasReturned work honest end.receipt

  -- The workers from w on joined only after losses that were counted, by what they were told, and sent events for their tasks alone.
  abbrev pub AreJoined : Work → (ℕ → Bool) → List (List Bool) → ℕ → List (WorkerReceipt J) → Type 0
  AreJoined work honest told w [] = Unit {0}
  AreJoined work honest told w (receipt ∷ receipts) =
      (joins_counted false (told_to told w) (stamps_in (handed_in_by receipt)) ≡ true)
      × HasReturned work honest receipt × AreJoined work honest told (w + 1) receipts
