-- What is noted of a run, by what it ended with.
use Rattle.std.proofs.Common.{inl, inr, ◌≡◌, ◌⊎◌, ℕ, List, arith, refl}
use Rattle.requests.specs.declared.request.Request.{Request}
use Rattle.sources.specs.declared.fault.CommandFault.{CommandFault}
use Rattle.sources.specs.declared.fault.CommandFault.TheVariants as command
use Rattle.sources.specs.Disk.{Disk}
use Rattle.call_lines.specs.OutputLines.{line}
use Rattle.sources.specs.Refusal.{fault_text, status_of}
use Rattle.plain_commands.specs.declared.noting.RunNotes.{RunNotes}
use Rattle.pregel.specs.FileCommands.{NotesAnswer, NotesPrinted, NotesRefusal}

-- ---- what is printed

pub answer_noted : (disk : Disk) (asked : Request) (notes : RunNotes) (told : List ℕ) → NotesAnswer disk asked notes told
    → NotesPrinted disk asked notes 0 told
answer_noted disk asked notes told noted = record { ended = λ is. noted; failed = λ e. absurd (omega (arith, e)) }

own_noted : (disk : Disk) (asked : Request) (notes : RunNotes) (fault : CommandFault) → NotesRefusal disk asked notes fault
    → NotesPrinted disk asked notes (status_of fault) (line (fault_text fault))
own_noted disk asked notes (command.Job fault) noted = record { ended = λ e. absurd (omega (arith, e)); failed = λ e. (fault, refl, noted) }
own_noted disk asked notes (command.Unread path) noted = record { ended = λ e. absurd (omega (arith, e)); failed = λ e. absurd (omega (arith, e)) }
own_noted disk asked notes (command.Unwritable path) noted = record { ended = λ e. absurd (omega (arith, e)); failed = λ e. absurd (omega (arith, e)) }
own_noted disk asked notes fault noted = record { ended = λ e. absurd (omega (arith, e)); failed = λ e. absurd (omega (arith, e)) }

-- the fault is told, or in its place that there is no memory for its line
pub refusal_noted : (disk : Disk) (asked : Request) (notes : RunNotes) (fault other : CommandFault) → (other ≡ fault) ⊎ (other ≡ command.OutOfMemory)
    → NotesRefusal disk asked notes fault → NotesPrinted disk asked notes (status_of other) (line (fault_text other))
refusal_noted disk asked notes fault other (inl same) noted = rw same (own_noted disk asked notes fault noted)
refusal_noted disk asked notes fault other (inr same) noted =
    rw same (record { ended = λ e. absurd (omega (arith, e)); failed = λ e. absurd (omega (arith, e)) })
