use Rattle.std.proofs.Common.{subst}
use Rattle.std.specs.Prelude.{string_bytes}
use Rattle.sources.proofs.Faults.{OnErr-along}
use Rattle.sources.specs.Disk.{Tries, Writes}
use Rattle.plain_commands.proofs.SheetFiles.{OnOk-along, sheet_tried, sheet_written}
use Rattle.plain_commands.proofs.sheets.write_chart.Goals as goal

pub returns-in-Ok-clause-written : goal.returns-in-Ok-clause-written
returns-in-Ok-clause-written g c =
    let path = c.in-Some.path in
    let chart = string_bytes c.in-Ok.text in
    let before = g.F.Files.disk c.args.files.now in
    let after = g.F.Files.disk c.write.new.files in
    OnOk-along c.write.result
    (λ writes. (chart, sheet_written c.args.asked.plot path chart before after c.in-Some.is (subst (λ bytes. Writes path.now bytes before after) c.as_bytes.ensures.value writes)))
    c.write.ensures.written

pub returns-in-Ok-clause-tried : goal.returns-in-Ok-clause-tried
returns-in-Ok-clause-tried g c =
    let path = c.in-Some.path in
    let chart = string_bytes c.in-Ok.text in
    let before = g.F.Files.disk c.args.files.now in
    let after = g.F.Files.disk c.write.new.files in
    OnErr-along c.write.result
    (λ tries. (chart, sheet_tried c.args.asked.plot path chart before after c.in-Some.is (subst (λ bytes. Tries path.now bytes before after) c.as_bytes.ensures.value tries)))
    c.write.ensures.tried
