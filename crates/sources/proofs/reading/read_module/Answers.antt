use Rattle.wat_asm.specs.Paths.{is_text_path}
use Rattle.sources.specs.Source.{RefusesModule}
use Rattle.sources.proofs.Faults.{MatchResult-along, is_fault}
use Rattle.sources.proofs.Disks.{module_at, no_source, refused_at}
use Rattle.sources.proofs.reading.read_module.Goals as goal

pub returns-in_err-source-clause-found : goal.returns-in_err-source-clause-found
returns-in_err-source-clause-found g c =
    rw (is_fault _ _ c.from_residual.ensures.1)
    (no_source (is_text_path c.args.path.now) (g.F.Files.disk c.args.files.now) c.args.path.now RefusesModule (λ content fault refused. refused) _
    c.in_err-source.ensures.found)

pub returns-clause-found : goal.returns-clause-found
returns-clause-found g c =
    MatchResult-along c.module_of.result
    (module_at (g.F.Files.disk c.args.files.now) c.args.path.now c.in_ok-source.source c.in_ok-source.ensures.found)
    (refused_at (g.F.Files.disk c.args.files.now) c.args.path.now c.in_ok-source.source RefusesModule c.in_ok-source.ensures.found)
    c.module_of.ensures.found
