use Rattle.std.proofs.Common.{◌≤◌, length, arith}
use Rattle.inbox.specs.inside.Outboxes.{unread_letters}
use Rattle.inbox.proofs.Streaming.{batch_taken, not_none}
use Rattle.inbox.proofs.streams.first_of_outbox.Goals as goal

pub returns : goal.returns
returns c =
    let batch = c.in_ok-batch.batch in
    let late : c.args.least ≤ batch.id = omega arith in
    batch_taken (unread_letters c.args.unread) c.args.least batch.id batch.sends batch.others c.in_ok-batch.ensures.whole
    (not_none (length batch.sends.now) c.is_empty.result c.is_empty.ensures c.if-is_empty.false) late
