use denote.Param.Send.{sendable}
use Rattle.std.proofs.Crossing.{crosses}
use Rattle.hub_ends.proofs.Crossing.{job_sync}
use Rattle.hub_ends.proofs.pass.WorkerPass.TheSendSync as pass
use Rattle.hub_ends.proofs.verdict.VerdictReader.TheSendSync as reader
use Rattle.worker_threads.proofs.spawning.spawn_worker.Goals as goal

pub spawn_with-requires-send-F : goal.spawn_with-requires-send-F
spawn_with-requires-send-F g c κs within = search (sendable, crosses, job_sync, pass.the_send, reader.the_send) depth 24
