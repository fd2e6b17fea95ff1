use Rattle.std.proofs.Common.{◌≡◌, map, take}
use Rattle.plain_run.specs.inside.OneMachine.{entries_in, lost_in, rows_in, with_messages}
use Rattle.plain_run.proofs.machine.deliver_all.Given as goal

abbrev pub invariant-loop-message : goal.invariant-loop-message
invariant-loop-message l = record {
  same : entries_in l.vertices ≡ entries_in l.fn.vertices;
  rows : rows_in l.vertices ≡ map (with_messages (take l.message-index l.messages)) (rows_in l.fn.vertices);
  dropped : l.dropped ≡ lost_in l.ids (take l.message-index l.messages);
}
