use Rattle.std.proofs.Common.{Ok, Err, refl}
use Rattle.sources.proofs.Faults.{is_fault}
use Rattle.session.specs.declared.serving.ServeFault.TheVariants as fault
use Rattle.pregel.proofs.Machine.{does_on, stays_on}
use Rattle.pregel.proofs.program.execute.Goals as goal

pub returns-in_err-status-in-Command-clause-done : goal.returns-in_err-status-in-Command-clause-done
returns-in_err-status-in-Command-clause-done g c =
    rw (is_fault _ _ c.from_residual-in_err-status-in-Command.ensures.1)
    (does_on c.args.processors c.args.options c.in-Command.request c.on_machine-asked.result c.in-Command.explains
    (g.F.Files.disk c.args.files.now) (g.F.Files.disk c.carry_out_command.new.files)
    (g.R.Read.remaining c.args.reader.now) (g.R.Read.remaining c.args.reader.now)
    (g.W.Write.contents c.args.writer.now) (g.W.Write.contents c.carry_out_command.new.writer)
    (Err fault.Write) c.in-Command.is c.on_machine-asked.ensures c.in_err-status-in-Command.ensures.told refl)

pub returns-in_err-status-in-Command-clause-kept : goal.returns-in_err-status-in-Command-clause-kept
returns-in_err-status-in-Command-clause-kept g c =
    stays_on c.args.processors c.args.options c.in-Command.request c.on_machine-asked.result c.in-Command.explains
    (g.F.Files.disk c.args.files.now) (g.F.Files.disk c.carry_out_command.new.files)
    c.in-Command.is c.on_machine-asked.ensures c.in_err-status-in-Command.ensures.kept

pub returns-in_ok-status-in-Command-clause-done : goal.returns-in_ok-status-in-Command-clause-done
returns-in_ok-status-in-Command-clause-done g c =
    does_on c.args.processors c.args.options c.in-Command.request c.on_machine-asked.result c.in-Command.explains
    (g.F.Files.disk c.args.files.now) (g.F.Files.disk c.carry_out_command.new.files)
    (g.R.Read.remaining c.args.reader.now) (g.R.Read.remaining c.args.reader.now)
    (g.W.Write.contents c.args.writer.now) (g.W.Write.contents c.carry_out_command.new.writer)
    (Ok c.in_ok-status-in-Command.status) c.in-Command.is c.on_machine-asked.ensures c.in_ok-status-in-Command.ensures.told tt

pub returns-in_ok-status-in-Command-clause-kept : goal.returns-in_ok-status-in-Command-clause-kept
returns-in_ok-status-in-Command-clause-kept g c =
    stays_on c.args.processors c.args.options c.in-Command.request c.on_machine-asked.result c.in-Command.explains
    (g.F.Files.disk c.args.files.now) (g.F.Files.disk c.carry_out_command.new.files)
    c.in-Command.is c.on_machine-asked.ensures c.in_ok-status-in-Command.ensures.kept
