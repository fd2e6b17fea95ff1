-- The threads of a hub, and their receipts.
use Rattle.std.specs.Prelude.{◌≡◌, ◌≤◌, ◌+◌, ℕ, Bool, Option, Some, None, List, [], ◌∷◌, vec_len, vec_capacity, false, true}
use Rattle.std.specs.declared.thread.PromisedHandle.{PromisedHandle}
use Rattle.hub_ends.specs.Hub.{IsSettled, IsTickerSettled, channels_of, handed, received, staff}
use Rattle.hub_ends.specs.Orders.{at, tasks_in}
use Rattle.worker_loops.specs.Counted.{JoinsAfterLoss}
use Rattle.hub_ends.specs.declared.receipts.Receipts.{Receipts}
use Rattle.hub_ends.specs.declared.coordinator_ends.CoordinatorEnds.{CoordinatorEnds}
use Rattle.worker_threads.specs.declared.thread_promises.HubThreads.{HubThreads}
use Rattle.worker_threads.specs.declared.thread_promises.TickerPromise.{TickerPromise}
use Rattle.worker_threads.specs.declared.thread_promises.WorkerPromise.{WorkerPromise}
use Rattle.hub_ends.specs.declared.pass.WorkerReceipt.{WorkerReceipt}

module _ {J : Type 0} where
  -- the thread is that of worker w of this hub
  pub record IsSpawned {T : Type 0} (ends : CoordinatorEnds J) (w : ℕ) (thread : PromisedHandle T (WorkerPromise J)) : Type 0 where
    pub worker : thread.promise.worker ≡ w
    pub hub : channels_of thread.promise.hub.value ≡ channels_of ends

  -- those of the workers from w on
  abbrev pub AreSpawned : {T : Type 0} → CoordinatorEnds J → ℕ → List (PromisedHandle T (WorkerPromise J)) → Type 0
  AreSpawned ends w [] = Unit {0}
  AreSpawned ends w (thread ∷ threads) = IsSpawned ends w thread × AreSpawned ends (w + 1) threads

  abbrev pub IsSpawnedTicker : {T : Type 0} → CoordinatorEnds J → PromisedHandle T (TickerPromise J) → Type 0
  IsSpawnedTicker ends thread = channels_of thread.promise.hub.value ≡ channels_of ends

  -- whether the gate of each of them may lose workers
  abbrev pub AreOfGate : {T : Type 0} → (loses : Bool) → List (PromisedHandle T (WorkerPromise J)) → Type 0
  AreOfGate loses [] = Unit {0}
  AreOfGate loses (thread ∷ threads) = (thread.promise.loses ≡ loses) × AreOfGate loses threads

  -- all threads of a hub, which have one gate, and room for the receipts of its workers
  pub record AreThreadsOf (ends : CoordinatorEnds J) (spawned : HubThreads J) : Type 0 where
    pub ticker : IsSpawnedTicker ends spawned.ticker
    pub workers : AreSpawned ends 0 spawned.workers.items
    pub all : vec_len spawned.workers ≡ staff ends
    pub gate : AreOfGate spawned.ticker.promise.loses spawned.workers.items
    pub nothing : spawned.receipts.items ≡ []
    pub room : staff ends ≤ vec_capacity spawned.receipts

  -- the receipts of the workers from w on are settled
  abbrev pub AreSettled : CoordinatorEnds J → ℕ → List (WorkerReceipt J) → Type 0
  AreSettled ends w [] = Unit {0}
  AreSettled ends w (receipt ∷ receipts) =
      IsSettled ends w receipt × JoinsAfterLoss receipt × AreSettled ends (w + 1) receipts

  -- All that the ticker and the workers sent was received, once and in order, and what workers took is what they were
  -- sent. Workers join again only after a loss of their own.
  pub record IsSettledHub (ends : CoordinatorEnds J) (receipts : Receipts J) : Type 0 where
    pub ticker : IsTickerSettled ends receipts.ticker
    pub workers : AreSettled ends 0 receipts.workers.items
    pub all : vec_len receipts.workers ≡ staff ends

  -- there are such receipts
  abbrev pub HasSettled : CoordinatorEnds J → Option (Receipts J) → Type 0
  HasSettled ends (Some receipts) = IsSettledHub ends receipts
  HasSettled ends None = ⊥

  -- nothing was received, and no task was sent
  pub record IsIdle (ends : CoordinatorEnds J) : Type 0 where
    pub received_is : received ends ≡ []
    pub handed_is : (w : ℕ) → tasks_in (at (handed ends) w) ≡ []
