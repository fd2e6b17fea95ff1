-- The report and the chart of a run, one after the other.
use denote.Bor.{Bor}
use Rattle.std.proofs.Common.{inl, inr, ◌≡◌, ℕ, List, [], ◌++◌, Option, Some, None, IfSome, Result, Ok, Err, OnOk, subst, sym}
use Rattle.requests.specs.declared.request.Request.{Request}
use Rattle.requests.specs.declared.request.Request.TheVariants as request
use Rattle.requests.specs.declared.request.RunRequest.{RunRequest}
use Rattle.run_report.specs.Json.{IsJsonOf}
use Rattle.run_report.specs.declared.report.RunReport.{RunReport}
use Rattle.sources.specs.Disk.{Disk, Stays, Tries, Writes}
use Rattle.sources.proofs.Disks.{stays_again}
use Rattle.sources.specs.Writing.{TriesAll, WritesAll}
use Rattle.plain_commands.specs.Sheets.{IsReported, MayWriteSheets, TriesNoted, TriesSheets, WritesSheets, names_in, sheet_at}
use Rattle.plain_commands.specs.inside.SheetFiles.{TriesChart, TriesReport, WritesChart, WritesReport}
use Rattle.plain_commands.specs.declared.noting.RunNotes.{RunNotes}
use Rattle.sources.proofs.Writes.{tries_front, tries_later, tries_one, tries_rest, writes_one, writes_rest, written_tried}

pub OnOk-along : {A E P Q : Type 0} (r : Result A E) → (P → Q) → OnOk r P → OnOk r Q
OnOk-along (Ok x) go h = go h
OnOk-along (Err e) go h = h

-- ---- one file

pub sheet_written : (asked : Option (Bor (List ℕ))) (path : Bor (List ℕ)) (bytes : List ℕ) (before after : Disk) → asked ≡ Some path
    → Writes path.now bytes before after → WritesAll (sheet_at asked bytes) before after
sheet_written asked path bytes before after some is =
    subst (λ found. WritesAll (sheet_at found bytes) before after) (sym some) (writes_one path.now bytes before after is)

pub sheet_tried : (asked : Option (Bor (List ℕ))) (path : Bor (List ℕ)) (bytes : List ℕ) (before after : Disk) → asked ≡ Some path
    → Tries path.now bytes before after → TriesAll (sheet_at asked bytes) before after
sheet_tried asked path bytes before after some is =
    subst (λ found. TriesAll (sheet_at found bytes) before after) (sym some) (tries_one path.now bytes before after is)

pub some_reported : (asked : RunRequest) (path : Bor (List ℕ)) (report : RunReport) (json : List ℕ) → asked.report ≡ Some path
    → IsJsonOf (names_in asked) report json → IsReported asked report json
some_reported asked path report json some is =
    subst (λ found. IfSome found (λ path. IsJsonOf (names_in asked) report json)) (sym some) is

-- ---- both

pub sheets_written : (asked : RunRequest) (report : RunReport) (before middle after : Disk) → WritesReport asked report before middle
    → WritesChart asked middle after → WritesSheets asked report before after
sheets_written asked report before middle after (json, is, first) (chart, then) =
    (json, is, chart, writes_rest (sheet_at asked.report json) (sheet_at asked.plot chart) before middle after first then)

pub sheets_tried : (asked : RunRequest) (report : RunReport) (before middle after : Disk) → WritesReport asked report before middle
    → TriesChart asked middle after → TriesSheets asked report before after
sheets_tried asked report before middle after (json, is, first) (chart, then) =
    inr (json, is, chart, tries_rest (sheet_at asked.report json) (sheet_at asked.plot chart) before middle after first then)

pub report_tried : (asked : RunRequest) (report : RunReport) (before after : Disk) → TriesReport asked report before after
    → TriesSheets asked report before after
report_tried asked report before after (inl stays) = inl stays
report_tried asked report before after (inr (json, is, first)) =
    inr (json, is, [], tries_front (sheet_at asked.report json) (sheet_at asked.plot []) before after first)

-- ---- in the end

all_tried : (items : List (List ℕ × List ℕ)) (before middle after : Disk) → TriesAll items before middle → Stays middle after
    → TriesAll items before after
all_tried items before middle after h stays = λ writes wrote.
    let tried = h writes wrote in
    (tried.0, tried.1, stays.wrote (writes ++ tried.0) tried.2)

pub written_then_tried : (asked : RunRequest) (report : RunReport) (before after : Disk) → WritesSheets asked report before after
    → TriesSheets asked report before after
written_then_tried asked report before after (json, is, chart, written) =
    inr (json, is, chart, written_tried (sheet_at asked.report json ++ sheet_at asked.plot chart) before after written)

pub tried_then : (asked : RunRequest) (report : RunReport) (before middle after : Disk) → TriesSheets asked report before middle
    → Stays middle after → TriesSheets asked report before after
tried_then asked report before middle after (inl stays) then = inl (stays_again before middle after stays then)
tried_then asked report before middle after (inr (json, is, chart, tried)) then =
    inr (json, is, chart, all_tried (sheet_at asked.report json ++ sheet_at asked.plot chart) before middle after tried then)

noted_stays : (asked : RunRequest) (noted : Option RunReport) (before after : Disk) → Stays before after → TriesNoted asked noted before after
noted_stays asked None before after stays = stays
noted_stays asked (Some report) before after stays = inl stays

pub may_stay : (asked : Request) (notes : RunNotes) (before after : Disk) → Stays before after → MayWriteSheets asked notes before after
may_stay (request.Run asked) notes before after stays = noted_stays asked notes.report before after stays
may_stay asked notes before after stays = stays

-- what was written behind a step that wrote nothing
tries_sheets_later : (asked : RunRequest) (report : RunReport) (before middle after : Disk) → Stays before middle
    → TriesSheets asked report middle after → TriesSheets asked report before after
tries_sheets_later asked report before middle after stays (inl then) = inl (stays_again before middle after stays then)
tries_sheets_later asked report before middle after stays (inr (json, is, chart, tried)) =
    inr (json, is, chart, tries_later (sheet_at asked.report json ++ sheet_at asked.plot chart) before middle after stays tried)

noted_later : (asked : RunRequest) (noted : Option RunReport) (before middle after : Disk) → Stays before middle
    → TriesNoted asked noted middle after → TriesNoted asked noted before after
noted_later asked None before middle after stays then = stays_again before middle after stays then
noted_later asked (Some report) before middle after stays then = tries_sheets_later asked report before middle after stays then

pub may_write_later : (asked : Request) (notes : RunNotes) (before middle after : Disk) → Stays before middle
    → MayWriteSheets asked notes middle after → MayWriteSheets asked notes before after
may_write_later (request.Run asked) notes before middle after stays then = noted_later asked notes.report before middle after stays then
may_write_later asked notes before middle after stays then = stays_again before middle after stays then
