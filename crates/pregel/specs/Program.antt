-- What the program does for what its command line asks.
use Rattle.std.specs.Prelude.{◌≡◌, ◌⊎◌, ℕ, Bool, false, ◌||◌, List, Option, Result, IfOk, IfErr, MatchBool, MatchResult}
use Rattle.std.specs.Io.KnownBytes.{Appends}
use Rattle.requests.specs.declared.request.Options.{Options}
use Rattle.requests.specs.declared.request.Options.TheVariants as options
use Rattle.requests.specs.declared.request.Request.{Request}
use Rattle.line_text.specs.Output.{HasBegun}
use Rattle.sources.specs.Disk.{Disk}
use Rattle.call_lines.specs.OutputLines.{line}
use Rattle.sources.specs.Refusal.{fault_text, status_of}
use Rattle.sources.specs.declared.fault.CommandFault.{CommandFault}
use Rattle.pregel.specs.FileCommands.{Answered, IsCause, MayPrint, writes_file}
use Rattle.plain_commands.specs.Sheets.{IsStatusOf, MayWriteSheets, asks_sheets}
use Rattle.plain_commands.specs.declared.noting.RunNotes.{RunNotes}
use Rattle.session.specs.declared.serving.ServeFault.{ServeFault}
use Rattle.session.specs.declared.serving.ServeFault.TheVariants as fault
use Rattle.session.specs.Maps.{nothing}
use Rattle.session.specs.Serving.{Serves}
use Rattle.threaded_session.specs.Runs.{threaded}

-- An answer is told with status 0, or a fault for which there is a cause.
abbrev pub IsToldOf : Disk → Request → ℕ → List ℕ → Type 0
IsToldOf before asked status told =
    ((status ≡ 0) × Answered before before asked told)
    ⊎ ((fault : CommandFault) × IsCause before asked fault × (status ≡ status_of fault) × (told ≡ line (fault_text fault)))

-- the same of a run that writes its report and its chart, and no other file, beside what it tells
abbrev pub ToldAside : (before after : Disk) → Request → ℕ → List ℕ → Type 0
ToldAside before after asked status told =
    IsToldOf before asked status told × ((notes : RunNotes) × MayWriteSheets asked notes before after)

-- what a command may tell, and with which status: where it asks for the report or the chart of a run, these are written behind it
abbrev pub CommandTold : (before after : Disk) → Request → ℕ → List ℕ → Type 0
CommandTold before after asked status told = MatchBool (asks_sheets asked) (ToldAside before after asked status told) (MayPrint before after asked status told)

-- this was told, and the status is this or what not writing the report or the chart makes of it; or, where the writer failed, a
-- beginning was told
abbrev pub IsCommandTold : {E : Type 0} → (asked : Request) → (old new : Option (List ℕ)) → (status : ℕ) → (told : List ℕ) → Result ℕ E → Type 0
IsCommandTold asked old new status told answer =
    MatchResult answer (λ final. IsStatusOf asked status final × Appends old new told) (λ _. HasBegun old new told)

-- A session is served whose jobs run in threads, and its status is 0. Or a command is answered or refused with its status; that
-- fails only where the writer does.
abbrev pub Does : Options → (before after : Disk) → (unread left old new : Option (List ℕ)) → Result ℕ ServeFault → Type 0
Does options.Session before after unread left old new result =
    Serves before threaded nothing unread left old new result × IfOk result (λ status. status ≡ 0)
Does (options.Command request explains) before after unread left old new result =
    ((status : ℕ) × (told : List ℕ) × CommandTold before after request status told
    × IsCommandTold request old new status told result)
    × IfErr result (λ failed. failed ≡ fault.Write)

-- whether what is asked for may write a file
abbrev pub may_write : Options → Bool
may_write options.Session = false
may_write (options.Command request explains) = writes_file request || asks_sheets request
