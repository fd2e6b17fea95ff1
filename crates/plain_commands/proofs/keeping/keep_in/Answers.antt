use Rattle.sources.proofs.Disks.{stays_again}
use Rattle.plain_commands.proofs.keeping.keep_in.Goals as goal

pub returns-in-Ok-false-clause-fresh : goal.returns-in-Ok-false-clause-fresh
returns-in-Ok-false-clause-fresh g c = λ fresh. c.in_ok-keep.ensures.saved

pub returns-in-Ok-true-clause-kept : goal.returns-in-Ok-true-clause-kept
returns-in-Ok-true-clause-kept g c =
    stays_again (g.F.Files.disk c.args.files.now) (g.F.Files.disk c.make_ready.new.files) (g.F.Files.disk c.find_in.new.files)
    c.make_ready.ensures.kept c.find_in.ensures.kept
