use Rattle.std.proofs.Common.{inl, inr, refl, ◌∙◌}
use Rattle.sources.specs.declared.fault.CommandFault.TheVariants as command
use Rattle.call_lines.specs.OutputLines.{line}
use Rattle.sources.specs.Refusal.{fault_text, status_of}
use Rattle.plain_commands.proofs.Retold.{retold}
use Rattle.plain_commands.proofs.printing.refuse.Goals as goal

pub returns-in-Ok-clause-told : goal.returns-in-Ok-clause-told
returns-in-Ok-clause-told g c = (
  c.args.fault.now,
  inl refl,
  retold (g.O.Output.contents c.args.out.now) (g.O.Output.contents c.tell.new.out) c.tell.result c.status_of.result (status_of c.args.fault.now)
      c.as_bytes.result.now (line (fault_text c.args.fault.now)) c.status_of.ensures (c.as_bytes.ensures.value ∙ c.in-Ok.ensures) c.tell.ensures.told,
)

pub returns-in-Err-clause-told : goal.returns-in-Err-clause-told
returns-in-Err-clause-told g c = (command.OutOfMemory, inr refl, c.tell-in-Err.ensures.told)
