-- A job that has ended, with all workers stopped, stays so.
use Rattle.std.proofs.Common.{◌≡◌, ◌<◌, ◌∙◌, ℕ, Bool, List, ap, subst}
use Rattle.superstep.specs.Job.{Work}
use Rattle.control.specs.Machine.{Machine}
use Rattle.hub_ends.specs.Orders.{at, stops, tasks_in}
use Rattle.hub_ends.specs.Protocol.{has_bye}
use Rattle.hub_ends.specs.Hub.{IsSameHub, handed, received}
use Rattle.coordinator.specs.Steps.{Steps}
use Rattle.coordinator.specs.inside.EventLoop.{IsOver}
use Rattle.hub_ends.specs.declared.coordinator_ends.CoordinatorEnds.{CoordinatorEnds}
use Rattle.hub_ends.specs.declared.message.Message.{Message}
use Rattle.coordinator.proofs.Accounts.{steps_over}
use Rattle.hub_ends.proofs.Handing.{handed_wide}
use Rattle.coordinator.proofs.Moving.{steps_none, steps_still}

module _ {J : Type 0} (work : Work) (honest : ℕ → Bool) where
  -- once a message was taken
  pub over_still : {m n : Machine} {got got' : List (Message J)} {a b : CoordinatorEnds J}
      → Steps work honest m n got got' (handed a) (handed b) → handed b ≡ handed a → IsSameHub a b → IsOver m a → IsOver n b
  over_still p same hub o = record {
    ended = steps_over work honest p o.ended;
    stopped = λ w h. ap (λ l. has_bye stops (at l w)) same ∙ o.stopped w (subst (λ (k : ℕ). w < k) hub.workers h);
  }

  -- all are stopped
  pub steps_stop : (m : Machine) (a b : CoordinatorEnds J) → received b ≡ received a → ((w : ℕ) → tasks_in (at (handed b) w) ≡ tasks_in (at (handed a) w)) → IsSameHub a b
      → Steps work honest m m (received a) (received b) (handed a) (handed b)
  steps_stop m a b same kept hub = steps_still work honest (received b) (handed b) (steps_none work honest m (received a) (handed a)) same kept (handed_wide a b hub.workers)
