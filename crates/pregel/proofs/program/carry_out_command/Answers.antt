use Rattle.std.proofs.Common.{◌≡◌, false, None, subst, sym}
use Rattle.sources.proofs.Disks.{stays_same}
use Rattle.sources.proofs.Faults.{is_fault}
use Rattle.pregel.specs.FileCommands.{MayPrint}
use Rattle.plain_commands.specs.Sheets.{IsStatusOf, asks_sheets}
use Rattle.plain_commands.specs.declared.noting.RunNotes.{RunNotes}
use Rattle.plain_commands.proofs.SheetFiles.{may_stay}
use Rattle.pregel.proofs.Asides.{command_told}
use Rattle.pregel.proofs.program.carry_out_command.Goals as goal

pub returns-in_err-status-clause-told : goal.returns-in_err-status-clause-told
returns-in_err-status-clause-told g c =
    let before = g.F.Files.disk c.args.files.now in
    let after = g.F.Files.disk c.command.new.files in
    let said = c.in_err-status.ensures.told in
    let notes : RunNotes = record { report = None; is_short = false } in
    rw (is_fault _ _ c.from_residual.ensures.1) (
      said.0,
      said.1,
      command_told before after after c.args.request notes said.0 said.1 (λ none. said.2) said.2 c.in_err-status.ensures.kept
          (may_stay c.args.request notes after after (stays_same after)),
      said.3,
    )

pub returns-clause-told : goal.returns-clause-told
returns-clause-told g c =
    let before = g.F.Files.disk c.args.files.now in
    let middle = g.F.Files.disk c.command.new.files in
    let after = g.F.Files.disk c.write_sheets.new.files in
    let said = c.in_ok-status.ensures.told in
    let same : asks_sheets c.args.request ≡ false → MayPrint before after c.args.request said.0 said.1 =
    λ none. subst (λ files. MayPrint before (g.F.Files.disk files) c.args.request said.0 said.1) (sym (c.write_sheets.ensures.kept none)) said.2 in (
      said.0,
      said.1,
      command_told before middle after c.args.request c.command.new.notes said.0 said.1 same said.2 c.in_ok-status.ensures.kept c.write_sheets.ensures.tried,
      (subst (λ status. IsStatusOf c.args.request status c.write_sheets.result) said.3.0 c.write_sheets.ensures.status, said.3.1),
    )
