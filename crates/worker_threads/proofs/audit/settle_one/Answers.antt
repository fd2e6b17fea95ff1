use Rattle.std.proofs.Common.{◌≡◌, ◌+◌, ◌∙◌, ◌<◌, ℕ, ap, false, length, map, slice_get, Some, sym, subst, vec_len, arith}
use Rattle.hub_ends.proofs.Handed.{at_map, get_map, map_same}
use Rattle.hub_ends.specs.Hub.{IsSettled}
use Rattle.worker_loops.specs.Counted.{joins_counted}
use Rattle.hub_ends.specs.Messages.{joins_follow}
use Rattle.hub_ends.specs.Passes.{handed_in_by}
use Rattle.worker_loops.specs.Numbers.{stamps_in}
use Rattle.worker_threads.specs.Threads.{AreSettled}
use Rattle.hub_ends.specs.Verdicts.{heard_on, sends_on, told_on, told_to}
use Rattle.worker_loops.specs.inside.Epochs.{renews}
use Rattle.worker_threads.specs.inside.Epochs.{AreSteady}
use Rattle.worker_threads.specs.inside.Joins.{AreJoined, line_of}
use Rattle.worker_threads.proofs.Epochs.{steady_more}
use Rattle.worker_loops.proofs.Joins.{joins_told}
use Rattle.worker_threads.proofs.Joins.{joined_more}
use Rattle.worker_loops.proofs.Returning.{returned_same}
use Rattle.worker_threads.proofs.SpawnedThreads.{settled_more, settled_same}
use Rattle.worker_threads.proofs.audit.settle_one.Goals as goal

pub compare-requires : goal.compare-requires
compare-requires g c =
    let verdicts = c.args.verdicts.now in
    let w = c.len.result in
    let same : w ≡ vec_len c.args.receipts.now = omega arith in
    let here : w < length verdicts.items = omega (arith, c.requires.lines, c.requires.worker, verdicts.ok.0, same) in
    let line = subst (λ (k : ℕ). slice_get (map sends_on verdicts.items) k ≡ Some (line_of c.args.thread)) (sym same) c.requires.line in
    get_map sends_on verdicts.items w c.index_mut-sender.result.now (line_of c.args.thread) here c.index_mut-sender.ensures.value line
    ∙ sym c.in_ok-end.ensures.2.line

pub returns-clause-settled : goal.returns-clause-settled
returns-clause-settled g c =
    let before = c.args.ends.now in
    let now = c.settle-receipt.new.self in
    let s = c.settle-receipt.ensures in
    let old = c.args.receipts.now in
    let whose : c.in_ok-end.end.receipt.worker ≡ 0 + length old.items = omega (arith, c.in_ok-end.ensures.0.worker, c.requires.spawned.worker, old.ok.0) in
    subst (λ l. AreSettled now 0 l) (sym c.push_reserved.ensures.items)
    (settled_more now 0 old.items c.settle-receipt.result (settled_same before now 0 old.items s.received s.handed s.hub.channels c.requires.settled)
    (subst (λ n. IsSettled now n c.settle-receipt.result) whose s.settled)
    (ap (λ l. joins_follow false l) s.handed_in ∙ c.in_ok-end.ensures.1))

pub returns-clause-told : goal.returns-clause-told
returns-clause-told g c =
    let verdicts = c.args.verdicts.now in
    let w = c.len.result in
    let same : w ≡ vec_len c.args.receipts.now = omega arith in
    let here : w < length verdicts.items = omega (arith, c.requires.lines, c.requires.worker, verdicts.ok.0, same) in
    map_same told_on verdicts.items w c.index_mut-sender.result.now c.compare.new.self here c.index_mut-sender.ensures.value c.compare.ensures.told

pub returns-clause-linked : goal.returns-clause-linked
returns-clause-linked g c =
    let verdicts = c.args.verdicts.now in
    let w = c.len.result in
    let same : w ≡ vec_len c.args.receipts.now = omega arith in
    let here : w < length verdicts.items = omega (arith, c.requires.lines, c.requires.worker, verdicts.ok.0, same) in
    map_same sends_on verdicts.items w c.index_mut-sender.result.now c.compare.new.self here c.index_mut-sender.ensures.value c.compare.ensures.line

pub returns-clause-joined : goal.returns-clause-joined
returns-clause-joined g c =
    let verdicts = c.args.verdicts.now in
    let old = c.args.receipts.now in
    let w = c.len.result in
    let same : w ≡ vec_len c.args.receipts.now = omega arith in
    let next : w ≡ 0 + length old.items = omega (arith, same, old.ok.0) in
    let here : w < length verdicts.items = omega (arith, c.requires.lines, c.requires.worker, verdicts.ok.0, same) in
    let sender = c.index_mut-sender.result.now in
    let end = c.in_ok-end.end in
    let receipt = c.settle-receipt.result in
    let still = map_same told_on verdicts.items w sender c.compare.new.self here c.index_mut-sender.ensures.value c.compare.ensures.told in
    let here_told : told_to (map told_on verdicts.items) (0 + length old.items) ≡ told_on sender =
    subst (λ (k : ℕ). told_to (map told_on verdicts.items) k ≡ told_on sender) next (at_map told_on verdicts.items w sender here c.index_mut-sender.ensures.value) in
    let joins = joins_told (told_on sender) (heard_on end.reader) (stamps_in (handed_in_by end.receipt)) c.compare.ensures.prefix c.in_ok-end.ensures.2.joined in
    subst (λ l. AreJoined g.J.Origin.work g.J.Origin.honest l 0 c.push_reserved.new.self.items) (sym still)
    (subst (λ l. AreJoined g.J.Origin.work g.J.Origin.honest (map told_on verdicts.items) 0 l) (sym c.push_reserved.ensures.items)
    (joined_more g.J.Origin.work g.J.Origin.honest (map told_on verdicts.items) 0 old.items receipt c.requires.joined
    (ap (λ l. joins_counted false l (stamps_in (handed_in_by receipt))) here_told
    ∙ ap (λ l. joins_counted false (told_on sender) (stamps_in l)) c.settle-receipt.ensures.handed_in ∙ joins)
    (returned_same g.J.Origin.work g.J.Origin.honest end.receipt receipt c.settle-receipt.ensures.handed_in c.settle-receipt.ensures.taken c.in_ok-end.ensures.2.returned)))

pub returns-clause-steady : goal.returns-clause-steady
returns-clause-steady g c = λ never old.
    let receipt = c.settle-receipt.result in
    subst (λ l. AreSteady l) (sym c.push_reserved.ensures.items)
    (steady_more c.args.receipts.now.items receipt old
    (ap (λ l. renews (stamps_in l)) c.settle-receipt.ensures.handed_in ∙ c.in_ok-end.ensures.3 never))
