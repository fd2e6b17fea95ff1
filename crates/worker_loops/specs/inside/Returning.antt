-- How the worker's loop follows what it sends for its tasks.
use Rattle.std.specs.Prelude.{◌≡◌, ℕ, Bool, List, ◌++◌}
use Rattle.superstep.specs.Job.{Work}
use Rattle.control.specs.declared.control.Out.{Out}
use Rattle.control.specs.Events.{Stamp}
use Rattle.hub_ends.specs.declared.order.Order.{Order}
use Rattle.hub_ends.specs.Passes.{handed_in_by, taken_by}
use Rattle.worker_loops.specs.Returns.{AreReturnsOf, IsReturnOf}
use Rattle.worker_loops.specs.Numbers.{outs_in, stamps_in}
use Rattle.hub_ends.specs.declared.message.Message.{Message}
use Rattle.hub_ends.specs.declared.pass.WorkerReceipt.{WorkerReceipt}

-- more messages: what a worker sends for this task
pub record AddsReturn {J : Type 0} (work : Work) (honest : ℕ → Bool) (task : Out) (before after : List (Message J)) : Type 0 where
  pub mine : List Stamp
  pub added : stamps_in after ≡ stamps_in before ++ mine
  pub fits : IsReturnOf work honest task mine

-- more tasks, and what a worker sends for them
pub record AddsReturns {J : Type 0} (work : Work) (honest : ℕ → Bool) (taken taken' : List (Order J)) (before after : List (Message J)) : Type 0 where
  pub tasks : List Out
  pub took : outs_in taken' ≡ outs_in taken ++ tasks
  pub stamps : List Stamp
  pub added : stamps_in after ≡ stamps_in before ++ stamps
  pub are : AreReturnsOf work honest tasks stamps

-- of all that a worker took and sent
abbrev pub HasReturned : {J : Type 0} → Work → (ℕ → Bool) → WorkerReceipt J → Type 0
HasReturned work honest receipt = AreReturnsOf work honest (outs_in (taken_by receipt)) (stamps_in (handed_in_by receipt))
