use Rattle.std.proofs.Common.{◌≡◌, take, true}
use Rattle.std.specs.List.{AllByRecursion}
use Rattle.inbox.specs.inside.Shares.{has}
use Rattle.inbox.proofs.shares.TargetSet.has_each.Given as goal

abbrev pub invariant-loop-id : goal.invariant-loop-id
invariant-loop-id l = AllByRecursion (λ id. has l.self id ≡ true) (take l.id-index l.ids)
