use Rattle.std.proofs.Common.{inr, subst}
use Rattle.std.specs.Prelude.{string_bytes}
use Rattle.run_report.specs.Json.{IsJsonOf}
use Rattle.sources.proofs.Faults.{OnErr-along}
use Rattle.sources.specs.Disk.{Tries, Writes}
use Rattle.plain_commands.proofs.SheetFiles.{OnOk-along, sheet_tried, sheet_written, some_reported}
use Rattle.plain_commands.proofs.sheets.write_report.Goals as goal

pub returns-in-Ok-clause-written : goal.returns-in-Ok-clause-written
returns-in-Ok-clause-written g c =
    let asked = c.args.asked in
    let path = c.in-Some.path in
    let json = string_bytes c.in-Ok.text in
    let before = g.F.Files.disk c.args.files.now in
    let after = g.F.Files.disk c.write.new.files in
    let is = some_reported asked path c.args.report.now json c.in-Some.is (subst (λ names. IsJsonOf names c.args.report.now json) c.names_of.ensures c.in-Ok.ensures) in
    OnOk-along c.write.result
    (λ writes. (json, is, sheet_written asked.report path json before after c.in-Some.is (subst (λ bytes. Writes path.now bytes before after) c.as_bytes.ensures.value writes)))
    c.write.ensures.written

pub returns-in-Ok-clause-tried : goal.returns-in-Ok-clause-tried
returns-in-Ok-clause-tried g c =
    let asked = c.args.asked in
    let path = c.in-Some.path in
    let json = string_bytes c.in-Ok.text in
    let before = g.F.Files.disk c.args.files.now in
    let after = g.F.Files.disk c.write.new.files in
    let is = some_reported asked path c.args.report.now json c.in-Some.is (subst (λ names. IsJsonOf names c.args.report.now json) c.names_of.ensures c.in-Ok.ensures) in
    OnErr-along c.write.result
    (λ tries. inr (json, is, sheet_tried asked.report path json before after c.in-Some.is (subst (λ bytes. Tries path.now bytes before after) c.as_bytes.ensures.value tries)))
    c.write.ensures.tried
