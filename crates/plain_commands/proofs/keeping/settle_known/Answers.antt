use Rattle.sources.proofs.Disks.{stays_again}
use Rattle.plain_commands.proofs.keeping.settle_known.Goals as goal

pub returns-in_err-clear-clause-kept : goal.returns-in_err-clear-clause-kept
returns-in_err-clear-clause-kept g c =
    stays_again (g.F.Files.disk c.args.files.now) (g.F.Files.disk c.tells_refusal.new.files) (g.F.Files.disk c.clear.new.files)
    c.tells_refusal.ensures.kept c.clear.ensures

pub returns-then-asked-clause-kept : goal.returns-then-asked-clause-kept
returns-then-asked-clause-kept g c =
    let told = g.F.Files.disk c.tells_refusal.new.files in
    let after = g.F.Files.disk c.note_job.new.files in
    stays_again (g.F.Files.disk c.args.files.now) told after c.tells_refusal.ensures.kept
    (stays_again told (g.F.Files.disk c.clear.new.files) after c.clear.ensures c.note_job.ensures)

pub returns-else-asked-clause-kept : goal.returns-else-asked-clause-kept
returns-else-asked-clause-kept g c =
    let told = g.F.Files.disk c.tells_refusal.new.files in
    let after = g.F.Files.disk c.note_job.new.files in
    stays_again (g.F.Files.disk c.args.files.now) told after c.tells_refusal.ensures.kept
    (stays_again told (g.F.Files.disk c.clear.new.files) after c.clear.ensures c.note_job.ensures)
