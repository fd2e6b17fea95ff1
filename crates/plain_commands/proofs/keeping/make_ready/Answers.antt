use Rattle.std.proofs.Common.{inl, inr}
use Rattle.sources.proofs.Disks.{stays_again}
use Rattle.plain_commands.proofs.keeping.make_ready.Goals as goal

pub returns-in-Err-clause-kept : goal.returns-in-Err-clause-kept
returns-in-Err-clause-kept g c = c.no_folder.ensures.kept

pub returns-in-Err-clause-refused : goal.returns-in-Err-clause-refused
returns-in-Err-clause-refused g c = inr c.no_folder.ensures.refused

pub returns-in-Err-identify-clause-kept : goal.returns-in-Err-identify-clause-kept
returns-in-Err-identify-clause-kept g c = c.identify.ensures.kept

pub returns-in-Err-identify-clause-refused : goal.returns-in-Err-identify-clause-refused
returns-in-Err-identify-clause-refused g c = inl (inl c.in-Err-identify.ensures.refused)

pub returns-in-Ok-Some-clause-kept : goal.returns-in-Ok-Some-clause-kept
returns-in-Ok-Some-clause-kept g c =
    stays_again (g.F.Files.disk c.args.files.now) (g.F.Files.disk c.identify.new.files) (g.F.Files.disk c.settle.new.files)
    c.identify.ensures.kept c.settle.ensures.kept

pub returns-in-Ok-None-clause-kept : goal.returns-in-Ok-None-clause-kept
returns-in-Ok-None-clause-kept g c =
    stays_again (g.F.Files.disk c.args.files.now) (g.F.Files.disk c.identify.new.files) (g.F.Files.disk c.settle.new.files)
    c.identify.ensures.kept c.settle.ensures.kept

pub returns-in-Err-settle-clause-kept : goal.returns-in-Err-settle-clause-kept
returns-in-Err-settle-clause-kept g c =
    let middle = g.F.Files.disk c.identify.new.files in
    let after = g.F.Files.disk c.no_folder-in-Err-settle.new.files in
    stays_again (g.F.Files.disk c.args.files.now) middle after c.identify.ensures.kept
    (stays_again middle (g.F.Files.disk c.settle.new.files) after c.settle.ensures.kept c.no_folder-in-Err-settle.ensures.kept)

pub returns-in-Err-settle-clause-refused : goal.returns-in-Err-settle-clause-refused
returns-in-Err-settle-clause-refused g c = inr c.no_folder-in-Err-settle.ensures.refused
