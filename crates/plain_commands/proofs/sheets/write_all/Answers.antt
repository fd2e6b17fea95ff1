use Rattle.sources.proofs.Faults.{OnErr-along}
use Rattle.plain_commands.proofs.SheetFiles.{OnOk-along, report_tried, sheets_tried, sheets_written}
use Rattle.plain_commands.proofs.sheets.write_all.Goals as goal

pub returns-in-Ok-clause-written : goal.returns-in-Ok-clause-written
returns-in-Ok-clause-written g c =
    let before = g.F.Files.disk c.args.files.now in
    let middle = g.F.Files.disk c.write_report.new.files in
    let after = g.F.Files.disk c.write_chart.new.files in
    OnOk-along c.write_chart.result
    (λ chart. sheets_written c.args.asked c.args.report.now before middle after c.in-Ok.ensures.written chart)
    c.write_chart.ensures.written

pub returns-in-Ok-clause-tried : goal.returns-in-Ok-clause-tried
returns-in-Ok-clause-tried g c =
    let before = g.F.Files.disk c.args.files.now in
    let middle = g.F.Files.disk c.write_report.new.files in
    let after = g.F.Files.disk c.write_chart.new.files in
    OnErr-along c.write_chart.result
    (λ chart. sheets_tried c.args.asked c.args.report.now before middle after c.in-Ok.ensures.written chart)
    c.write_chart.ensures.tried

pub returns-in-Err-clause-tried : goal.returns-in-Err-clause-tried
returns-in-Err-clause-tried g c =
    report_tried c.args.asked c.args.report.now (g.F.Files.disk c.args.files.now) (g.F.Files.disk c.write_report.new.files) c.in-Err.ensures.tried
