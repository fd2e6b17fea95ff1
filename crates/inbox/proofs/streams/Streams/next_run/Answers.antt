use Rattle.std.proofs.Common.{◌+◌, ◌<◌, ℕ, length, arith, subst, sym}
use Rattle.std.proofs.Math.ListN.{set}
use Rattle.std.specs.List.{flat_map}
use Rattle.inbox.specs.inside.Streams.{IsNextRun, all_left, left_in, run_letters}
use Rattle.inbox.proofs.Streaming.{next_taken, run_taken}
use Rattle.inbox.proofs.streams.Streams.next_run.Goals as goal

pub returns-clause-next : goal.returns-clause-next
returns-clause-next c =
    let old = c.args.self.now in
    let taken = c.in_ok-taken.taken in
    let rest = c.index.result.now in
    let place = c.place_of_least-place.result in
    let later = flat_map left_in (set old.rests.items place taken.rest) in
    let inside : place < length old.rests.items = omega (arith, c.if-place-len.false, c.len.ensures, old.rests.ok) in
    let same = run_taken left_in old.rests.items place rest taken.rest (run_letters taken.run) inside c.index.ensures c.in_ok-taken.ensures.whole in
    subst (λ (n : ℕ). IsNextRun (all_left old) old.least (run_letters taken.run) later (n + 1)) (sym c.from.ensures)
    (next_taken (all_left old) later (left_in rest) old.least taken c.in_ok-taken.ensures same)
