use Rattle.std.proofs.Common.{inl, subst}
use Rattle.sources.specs.Source.{RefusesLoad, content}
use Rattle.sources.specs.Modules.{Loads}
use Rattle.wat_asm.specs.Paths.{is_text_path}
use Rattle.sources.proofs.Faults.{is_fault, told_both}
use Rattle.sources.proofs.Disks.{no_source, refused_at}
use Rattle.sources.proofs.reading.load_file.Goals as goal

pub returns-in_err-source-clause-found : goal.returns-in_err-source-clause-found
returns-in_err-source-clause-found g c =
    rw (is_fault _ _ c.from_residual.ensures.1)
    (no_source (is_text_path c.args.path.now) (g.F.Files.disk c.args.files.now) c.args.path.now RefusesLoad (λ content fault refused. inl refused) _
    c.in_err-source.ensures.found)

pub returns-clause-found : goal.returns-clause-found
returns-clause-found g c =
    let read = c.in_ok-source.source in
    let found = c.in_ok-source.ensures.found in
    told_both c.load.result
    (λ verified loads. (content read, found.held, subst (λ b. Loads b (content read) verified) found.kind loads))
    (refused_at (g.F.Files.disk c.args.files.now) c.args.path.now read RefusesLoad found)
    c.load.ensures.loaded c.load.ensures.refused
