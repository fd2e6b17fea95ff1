use Rattle.plain_commands.proofs.SheetFiles.{tried_then, written_then_tried}
use Rattle.plain_commands.proofs.sheets.is_report_written.Goals as goal

pub returns-in-Ok-clause-tried : goal.returns-in-Ok-clause-tried
returns-in-Ok-clause-tried g c =
    written_then_tried c.args.asked c.args.report.now (g.F.Files.disk c.args.files.now) (g.F.Files.disk c.write_all.new.files) c.in-Ok.ensures.written

pub returns-in-Err-OutOfMemory-clause-tried : goal.returns-in-Err-OutOfMemory-clause-tried
returns-in-Err-OutOfMemory-clause-tried g c =
    tried_then c.args.asked c.args.report.now (g.F.Files.disk c.args.files.now) (g.F.Files.disk c.write_all.new.files) (g.F.Files.disk c.warn.new.self)
    c.in-Err-OutOfMemory.ensures.tried c.warn.ensures.kept
