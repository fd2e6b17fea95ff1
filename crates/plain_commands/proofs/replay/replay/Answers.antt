use Rattle.std.proofs.Common.{refl}
use Rattle.checkpoint.proofs.InMemory.{loads_nothing_else}
use Rattle.plain_commands.proofs.Replays.{is_run}
use Rattle.plain_commands.proofs.replay.replay.Goals as goal

pub returns-in-Ok-clause-told : goal.returns-in-Ok-clause-told
returns-in-Ok-clause-told g c = record {
  trace = c.in-Ok.trace;
  ran = is_run c.args.job.now c.args.steps.now c.in-Ok.trace c.in-Ok.ensures.simulated;
  calm = c.in-Ok.ensures.calm loads_nothing_else (λ keep. refl);
  printed = c.in_ok-text-in-Ok.ensures;
}
