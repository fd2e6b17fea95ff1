use Rattle.std.proofs.Common.{inl, refl, subst, sym}
use Rattle.sources.proofs.Disks.{stays_again}
use Rattle.call_lines.specs.OutputLines.{line}
use Rattle.sources.specs.Refusal.{fault_text, status_of}
use Rattle.pregel.specs.FileCommands.{Answered, NotesAnswer, NotesPrinted}
use Rattle.pregel.proofs.Noted.{answer_noted, refusal_noted}
use Rattle.pregel.proofs.Printing.{may_try_on, printed_with, refusal_told}
use Rattle.pregel.proofs.file_commands.command.Goals as goal

pub returns-in-Ok-clause-told : goal.returns-in-Ok-clause-told
returns-in-Ok-clause-told g c =
    let before = g.F.Files.disk c.args.files.now in
    let after = g.F.Files.disk c.execute_request.new.files in
    let answered = subst (λ told. Answered before after c.args.request told) (sym c.as_bytes.ensures.value) c.in-Ok.ensures.answered in
    (0, c.as_bytes.result.now, inl (refl, answered), c.tell.ensures.told)

pub returns-in-Err-clause-told : goal.returns-in-Err-clause-told
returns-in-Err-clause-told g c =
    let before = g.F.Files.disk c.args.files.now in
    let middle = g.F.Files.disk c.execute_request.new.files in
    let after = g.F.Files.disk c.explain_refusal.new.files in
    let other = c.refuse-told.ensures.told.0 in (
      status_of other,
      line (fault_text other),
      refusal_told before after c.args.request c.in-Err.fault other c.in-Err.ensures.refused
          (λ early. stays_again before middle after (c.in-Err.ensures.before early) c.explain_refusal.ensures)
          (may_try_on before middle after c.args.request c.in-Err.ensures.tried c.explain_refusal.ensures) c.refuse-told.ensures.told.1,
      c.refuse-told.ensures.told.2,
    )

pub returns-in-Ok-clause-noted : goal.returns-in-Ok-clause-noted
returns-in-Ok-clause-noted g c = λ asks.
    let disk = g.F.Files.disk c.args.files.now in
    let notes = c.execute_request.new.notes in
    let text = c.as_bytes.result.now in
    let noted = subst (λ told. NotesAnswer disk c.args.request notes told) (sym c.as_bytes.ensures.value) (c.in-Ok.ensures.noted asks) in
    printed_with (g.O.Output.contents c.args.out.now) (g.O.Output.contents c.tell.new.out) c.tell.result 0 text (NotesPrinted disk c.args.request notes)
    c.tell.ensures.told (answer_noted disk c.args.request notes text noted)

pub returns-in-Err-clause-noted : goal.returns-in-Err-clause-noted
returns-in-Err-clause-noted g c = λ asks.
    let disk = g.F.Files.disk c.args.files.now in
    let notes = c.execute_request.new.notes in
    let other = c.refuse-told.ensures.told.0 in
    printed_with (g.O.Output.contents c.args.out.now) (g.O.Output.contents c.refuse-told.new.out) c.refuse-told.result (status_of other) (line (fault_text other))
    (NotesPrinted disk c.args.request notes) c.refuse-told.ensures.told.2
    (refusal_noted disk c.args.request notes c.in-Err.fault other c.refuse-told.ensures.told.1 (c.in-Err.ensures.fault_noted asks))
