-- Rows of passes, one shorter, and of threads and of receipts, one longer.
use Rattle.std.proofs.Common.{◌≡◌, ℕ, ◌≤◌, ◌+◌, vec_capacity, List, [], ◌∷◌, ◌++◌, length, sym, ◌∙◌, subst, arith}
use Rattle.std.specs.declared.thread.PromisedHandle.{PromisedHandle}
use Rattle.hub_ends.specs.Hub.{AreNewPasses, Channels, IsNewPass, IsReceiptOn, IsSameHub, IsSettled, IsTickReceiptOn, IsTickerSettled, channels_of, handed, received}
use Rattle.hub_ends.specs.Orders.{at, coordinator, stops}
use Rattle.hub_ends.specs.Messages.{closes, sender_of}
use Rattle.hub_ends.specs.Passes as pass
use Rattle.hub_ends.specs.Protocol.{IsOnceInOrder}
use Rattle.worker_loops.specs.Counted.{JoinsAfterLoss}
use Rattle.worker_threads.specs.Threads.{AreSpawned, AreSettled, AreThreadsOf, IsSpawned}
use Rattle.hub_ends.specs.declared.coordinator_ends.CoordinatorEnds.{CoordinatorEnds}
use Rattle.worker_threads.specs.declared.thread_promises.HubThreads.{HubThreads}
use Rattle.worker_threads.specs.declared.thread_promises.WorkerPromise.{WorkerPromise}
use Rattle.hub_ends.specs.declared.message.Message.{Message}
use Rattle.hub_ends.specs.declared.order.Order.{Order}
use Rattle.hub_ends.specs.declared.pass.TickReceipt.{TickReceipt}
use Rattle.hub_ends.specs.declared.pass.WorkerPass.{WorkerPass}
use Rattle.hub_ends.specs.declared.pass.WorkerReceipt.{WorkerReceipt}

module _ {J : Type 0} where
  -- the passes that are left
  pub pass_first : (channels : Channels J) (n : ℕ) (ps : List (WorkerPass J)) (p : WorkerPass J) (qs : List (WorkerPass J)) → ps ≡ p ∷ qs → AreNewPasses channels n ps → IsNewPass channels n p
  pass_first channels n ps p qs a h = let z : AreNewPasses channels n (p ∷ qs) = subst (λ (l : List (WorkerPass J)). AreNewPasses channels n l) a h in z.0

  pub pass_rest : (channels : Channels J) (n m : ℕ) (ps : List (WorkerPass J)) (p : WorkerPass J) (qs : List (WorkerPass J)) → ps ≡ p ∷ qs → m ≡ n + 1 → AreNewPasses channels n ps → AreNewPasses channels m qs
  pass_rest channels n m ps p qs a b h =
      let z : AreNewPasses channels n (p ∷ qs) = subst (λ (l : List (WorkerPass J)). AreNewPasses channels n l) a h in
      subst (λ (k : ℕ). AreNewPasses channels k qs) (sym b) z.1

  module _ {T : Type 0} where
    spawned_more : (ends : CoordinatorEnds J) (n : ℕ) (hs : List (PromisedHandle T (WorkerPromise J))) (h : PromisedHandle T (WorkerPromise J))
        → AreSpawned ends n hs → IsSpawned ends (n + length hs) h → AreSpawned ends n (hs ++ h ∷ [])
    spawned_more ends n [] h old new = (subst (λ (k : ℕ). IsSpawned ends k h) (let z : n + 0 ≡ n = omega arith in z) new, tt)
    spawned_more ends n (x ∷ xs) h old new =
        (old.0, spawned_more ends (n + 1) xs h old.1 (subst (λ (k : ℕ). IsSpawned ends k h) (let z : n + length (x ∷ xs) ≡ n + 1 + length xs = omega arith in z) new))

    -- the thread of the next worker behind those of the first ones
    pub spawned_next : (ends : CoordinatorEnds J) (w : ℕ) (hs now : List (PromisedHandle T (WorkerPromise J))) (h : PromisedHandle T (WorkerPromise J))
        → now ≡ hs ++ h ∷ [] → w ≡ length hs → AreSpawned ends 0 hs → IsSpawned ends w h → AreSpawned ends 0 now
    spawned_next ends w hs now h is next old new =
        subst (λ (l : List (PromisedHandle T (WorkerPromise J))). AreSpawned ends 0 l) (sym is)
        (spawned_more ends 0 hs h old (subst (λ (k : ℕ). IsSpawned ends k h) (let z : w ≡ 0 + length hs = omega (arith, next) in z) new))

    spawned_same : (ends now : CoordinatorEnds J) (n : ℕ) (hs : List (PromisedHandle T (WorkerPromise J))) → channels_of now ≡ channels_of ends → AreSpawned ends n hs → AreSpawned now n hs
    spawned_same ends now n [] same old = tt
    spawned_same ends now n (h ∷ hs) same old = (record { worker = old.0.worker; hub = old.0.hub ∙ sym same }, spawned_same ends now (n + 1) hs same old.1)

  -- the ends changed, but not the hub
  pub threads_same : (ends now : CoordinatorEnds J) (spawned : HubThreads J) → IsSameHub ends now → AreThreadsOf ends spawned → AreThreadsOf now spawned
  threads_same ends now spawned hub old = record {
    ticker = old.ticker ∙ sym hub.channels;
    workers = spawned_same ends now 0 spawned.workers.items hub.channels old.workers;
    all = old.all ∙ sym hub.workers;
    gate = old.gate;
    nothing = old.nothing;
    room = subst (λ (n : ℕ). n ≤ vec_capacity spawned.receipts) (sym hub.workers) old.room;
  }

  -- the ends changed, but not in what a settled receipt says
  settled_still : (ends now : CoordinatorEnds J) (w : ℕ) (receipt : WorkerReceipt J)
      → received now ≡ received ends → handed now ≡ handed ends → channels_of now ≡ channels_of ends → IsSettled ends w receipt → IsSettled now w receipt
  settled_still ends now w receipt a b c s = record {
    on = subst (λ (channels : Channels J). IsReceiptOn channels w receipt) (sym c) s.on;
    events = subst (λ (l : List (Message J)). IsOnceInOrder sender_of closes (w + 1) (pass.handed_in_by receipt) l) (sym a) s.events;
    tasks = subst (λ (l : List (List (Order J))). IsOnceInOrder coordinator stops 0 (at l w) (pass.taken_by receipt)) (sym b) s.tasks;
  }

  pub settled_same : (ends now : CoordinatorEnds J) (n : ℕ) (rs : List (WorkerReceipt J))
      → received now ≡ received ends → handed now ≡ handed ends → channels_of now ≡ channels_of ends → AreSettled ends n rs → AreSettled now n rs
  settled_same ends now n [] a b c old = tt
  settled_same ends now n (r ∷ rs) a b c old = (settled_still ends now n r a b c old.0, old.1, settled_same ends now (n + 1) rs a b c old.2)

  pub ticker_same : (ends now : CoordinatorEnds J) (receipt : TickReceipt J) → received now ≡ received ends → channels_of now ≡ channels_of ends → IsTickerSettled ends receipt → IsTickerSettled now receipt
  ticker_same ends now receipt a c s = record {
    on = subst (λ (channels : Channels J). IsTickReceiptOn channels receipt) (sym c) s.on;
    events = subst (λ (l : List (Message J)). IsOnceInOrder sender_of closes 0 (pass.ticked_by receipt) l) (sym a) s.events;
  }

  pub settled_more : (ends : CoordinatorEnds J) (n : ℕ) (rs : List (WorkerReceipt J)) (r : WorkerReceipt J)
      → AreSettled ends n rs → IsSettled ends (n + length rs) r → JoinsAfterLoss r → AreSettled ends n (rs ++ r ∷ [])
  settled_more ends n [] r old new joins = (subst (λ (k : ℕ). IsSettled ends k r) (let z : n + 0 ≡ n = omega arith in z) new, joins, tt)
  settled_more ends n (x ∷ xs) r old new joins =
      (old.0, old.1, settled_more ends (n + 1) xs r old.2 (subst (λ (k : ℕ). IsSettled ends k r) (let z : n + length (x ∷ xs) ≡ n + 1 + length xs = omega arith in z) new) joins)
