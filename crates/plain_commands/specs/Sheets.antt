-- The report and the chart of a run.
use denote.Bor.{Bor}
use Rattle.std.specs.Prelude.{◌≡◌, ◌⊎◌, ℕ, Bool, true, false, ◌||◌, List, [], ◌∷◌, ◌++◌, Option, Some, None, IfSome, MatchOption, is_some}
use Rattle.requests.specs.declared.request.Request.{Request}
use Rattle.requests.specs.declared.request.Request.TheVariants as request
use Rattle.requests.specs.declared.request.RunRequest.{RunRequest}
use Rattle.run_report.specs.Json.{IsJsonOf}
use Rattle.run_report.specs.declared.report.JobFiles.{JobFiles}
use Rattle.run_report.specs.declared.report.RunReport.{RunReport}
use Rattle.sources.specs.Disk.{Disk, Stays}
use Rattle.sources.specs.Writing.{TriesAll, WritesAll}
use Rattle.plain_commands.specs.declared.noting.RunNotes.{RunNotes}

-- whether a run is to be reported or charted
abbrev pub asks_of_run : RunRequest → Bool
asks_of_run asked = is_some asked.report || is_some asked.plot

-- whether the command asks for a report or a chart
abbrev pub asks_sheets : Request → Bool
asks_sheets (request.Run asked) = asks_of_run asked
asks_sheets asked = false

-- The status for the process: the command's, or, where that is an answer's and a report or a chart was asked for, 4.
abbrev pub IsStatusOf : Request → (status final : ℕ) → Type 0
IsStatusOf asked status final =
    (final ≡ status) ⊎ ((asks_sheets asked ≡ true) × (status ≡ 0) × (final ≡ 4))

-- ---- what is written to files

-- the files of a job, by their names
abbrev pub names_in : RunRequest → JobFiles
names_in asked = record { «module» = asked.job.«module».path; graph = asked.job.graph }

-- the file at this path with these bytes, where one is asked for
abbrev pub sheet_at : Option (Bor (List ℕ)) → (bytes : List ℕ) → List (List ℕ × List ℕ)
sheet_at None bytes = []
sheet_at (Some path) bytes = (path.now, bytes) ∷ []

-- the text is the report as JSON, where one is asked for
abbrev pub IsReported : RunRequest → RunReport → (json : List ℕ) → Type 0
IsReported asked report json = IfSome asked.report (λ path. IsJsonOf (names_in asked) report json)

-- the report and a chart were written to the files that are asked for, and nothing else was; this leaves open what the chart shows
abbrev pub WritesSheets : RunRequest → RunReport → (before after : Disk) → Type 0
WritesSheets asked report before after =
    (json : List ℕ) × IsReported asked report json
    × (chart : List ℕ) × WritesAll (sheet_at asked.report json ++ sheet_at asked.plot chart) before after

-- the files are as they were, or those that are asked for were begun, and nothing else was written
abbrev pub TriesSheets : RunRequest → RunReport → (before after : Disk) → Type 0
TriesSheets asked report before after =
    Stays before after
    ⊎ ((json : List ℕ) × IsReported asked report json
    × (chart : List ℕ) × TriesAll (sheet_at asked.report json ++ sheet_at asked.plot chart) before after)

-- the same of a run of which this was noted; of one that was not noted nothing is written
abbrev pub TriesNoted : RunRequest → Option RunReport → (before after : Disk) → Type 0
TriesNoted asked noted before after = MatchOption noted (Stays before after) (λ report. TriesSheets asked report before after)

-- what was noted of a run is written
abbrev pub WritesNoted : RunRequest → Option RunReport → (before after : Disk) → Type 0
WritesNoted asked noted before after = IfSome noted (λ report. WritesSheets asked report before after)

-- which files may be written behind a command: those of the report and of the chart of a run
abbrev pub MayWriteSheets : Request → RunNotes → (before after : Disk) → Type 0
MayWriteSheets (request.Run asked) notes before after = TriesNoted asked notes.report before after
MayWriteSheets asked notes before after = Stays before after

-- the report and the chart of a run are written
abbrev pub HasWrittenSheets : Request → RunNotes → (before after : Disk) → Type 0
HasWrittenSheets (request.Run asked) notes before after = WritesNoted asked notes.report before after
HasWrittenSheets asked notes before after = Unit {0}
