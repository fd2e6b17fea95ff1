use Rattle.sources.proofs.Faults.{is_fault}
use Rattle.session.specs.Maps.{nothing}
use Rattle.session.proofs.Loops.{served_none}
use Rattle.session.proofs.serving.serve.Goals as goal

pub returns-in_err-line-clause-served : goal.returns-in_err-line-clause-served
returns-in_err-line-clause-served g c =
    rw (is_fault _ _ c.from_residual.ensures.1)
    (served_none (g.F.Files.disk c.args.files.now) (g.N.Runner.runs c.args.runner.now) nothing (g.R.Read.remaining c.args.reader.now)
    (g.W.Write.contents c.args.writer.now))
