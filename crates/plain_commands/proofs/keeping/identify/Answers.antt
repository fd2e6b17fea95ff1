use Rattle.std.proofs.Common.{inl, inr, false}
use Rattle.sources.proofs.Disks.{stays_again, stays_same, unread_before}
use Rattle.plain_commands.proofs.keeping.identify.Goals as goal

pub returns-then-is_stream-clause-kept : goal.returns-then-is_stream-clause-kept
returns-then-is_stream-clause-kept g c = stays_same (g.F.Files.disk c.args.files.now)

pub returns-in-Ok-file_digest-clause-kept : goal.returns-in-Ok-file_digest-clause-kept
returns-in-Ok-file_digest-clause-kept g c =
    stays_again (g.F.Files.disk c.args.files.now) (g.F.Files.disk c.file_digest.new.files) (g.F.Files.disk c.file_digest-in-Ok.new.files)
    c.in-Ok.ensures.kept c.in-Ok-file_digest.ensures.kept

pub returns-in-Err-file_digest-clause-kept : goal.returns-in-Err-file_digest-clause-kept
returns-in-Err-file_digest-clause-kept g c =
    stays_again (g.F.Files.disk c.args.files.now) (g.F.Files.disk c.file_digest.new.files) (g.F.Files.disk c.file_digest-in-Ok.new.files)
    c.in-Ok.ensures.kept c.in-Err-file_digest.ensures.kept

pub returns-in-Err-file_digest-clause-refused : goal.returns-in-Err-file_digest-clause-refused
returns-in-Err-file_digest-clause-refused g c =
    inr (unread_before false (g.F.Files.disk c.args.files.now) (g.F.Files.disk c.file_digest.new.files) c.args.asked.graph.now c.in-Ok.ensures.kept _
    c.in-Err-file_digest.ensures.refused)

pub returns-in-Err-clause-kept : goal.returns-in-Err-clause-kept
returns-in-Err-clause-kept g c = c.in-Err.ensures.kept

pub returns-in-Err-clause-refused : goal.returns-in-Err-clause-refused
returns-in-Err-clause-refused g c = inl c.in-Err.ensures.refused
