use Rattle.std.proofs.Common.{◌≡◌, take, true}
use Rattle.std.specs.List.{AllByRecursion}
use Rattle.inbox.specs.inside.Shares.{has}
use Rattle.inbox.proofs.shares.TargetSet.has_all.Given as goal

abbrev pub invariant-loop-ids : goal.invariant-loop-ids
invariant-loop-ids l = AllByRecursion (λ ids. AllByRecursion (λ id. has l.self id ≡ true) ids.items) (take l.ids-index l.parts)
