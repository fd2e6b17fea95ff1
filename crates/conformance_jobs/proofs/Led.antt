-- A hub of some workers.
use Rattle.std.proofs.Common.{◌≡◌, ◌<◌, ℕ, Option, Some, None, subst, sym}
use Rattle.std.specs.Global.{Vec}
use Rattle.coordinator.specs.Coordinator.{IsNewOn, staff_on}
use Rattle.hub_ends.specs.declared.coordinator_ends.CoordinatorEnds.{CoordinatorEnds}
use Rattle.hub_ends.specs.declared.pass.TickPass.{TickPass}
use Rattle.hub_ends.specs.declared.pass.WorkerPass.{WorkerPass}

pub staffed : {J : Type 0} (workers : ℕ) (ends : Option (CoordinatorEnds J)) (passes : Vec (WorkerPass J)) (ticker : TickPass J)
    → IsNewOn workers ends passes ticker → 0 < workers → 0 < staff_on ends
staffed workers (Some ends) passes ticker new some = subst (λ n. 0 < n) (sym new.workers_are) some
staffed workers None passes ticker new some = absurd new
