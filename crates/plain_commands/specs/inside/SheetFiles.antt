-- What is written of a run, file by file.
use Rattle.std.specs.Prelude.{◌⊎◌, ℕ, List}
use Rattle.requests.specs.declared.request.RunRequest.{RunRequest}
use Rattle.run_report.specs.declared.report.RunReport.{RunReport}
use Rattle.sources.specs.Disk.{Disk, Stays}
use Rattle.sources.specs.Writing.{TriesAll, WritesAll}
use Rattle.plain_commands.specs.Sheets.{IsReported, sheet_at}

abbrev pub WritesReport : RunRequest → RunReport → (before after : Disk) → Type 0
WritesReport asked report before after =
    (json : List ℕ) × IsReported asked report json × WritesAll (sheet_at asked.report json) before after

abbrev pub TriesReport : RunRequest → RunReport → (before after : Disk) → Type 0
TriesReport asked report before after =
    Stays before after ⊎ ((json : List ℕ) × IsReported asked report json × TriesAll (sheet_at asked.report json) before after)

abbrev pub WritesChart : RunRequest → (before after : Disk) → Type 0
WritesChart asked before after = (chart : List ℕ) × WritesAll (sheet_at asked.plot chart) before after

abbrev pub TriesChart : RunRequest → (before after : Disk) → Type 0
TriesChart asked before after = (chart : List ℕ) × TriesAll (sheet_at asked.plot chart) before after
