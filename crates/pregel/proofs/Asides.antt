-- What a command tells is told whatever is written behind it.
use Rattle.std.proofs.Common.{◌≡◌, ℕ, Bool, true, false, List, MatchBool, inl, inr, refl, sym, true≢false}
use Rattle.requests.specs.declared.request.Request.{Request}
use Rattle.requests.specs.declared.request.Request.TheVariants as request
use Rattle.sources.specs.Disk.{Disk, Stays}
use Rattle.pregel.specs.FileCommands.{MayPrint, writes_file}
use Rattle.plain_commands.specs.Sheets.{MayWriteSheets, asks_sheets}
use Rattle.plain_commands.specs.declared.noting.RunNotes.{RunNotes}
use Rattle.plain_commands.proofs.SheetFiles.{may_write_later}
use Rattle.pregel.specs.Program.{CommandTold, IsToldOf}

-- of a command that asks for a report or a chart, which is a run
told_aside : (before after : Disk) (asked : Request) (status : ℕ) (told : List ℕ) → asks_sheets asked ≡ true → MayPrint before after asked status told → IsToldOf before asked status told
told_aside before after (request.Run asked) status told asks (inl is) = inl is
told_aside before after (request.Run asked) status told asks (inr refused) =
    inr (refused.fault, refused.because, refused.status_of_fault, refused.line_of_fault)
told_aside before after (request.Call m input) status told asks tells = absurd (true≢false (sym asks))
told_aside before after (request.Replay asked steps) status told asks tells = absurd (true≢false (sym asks))
told_aside before after (request.Upgrade path newer) status told asks tells = absurd (true≢false (sym asks))
told_aside before after (request.Assemble m binary) status told asks tells = absurd (true≢false (sym asks))
told_aside before after (request.Fit m binary) status told asks tells = absurd (true≢false (sym asks))
told_aside before after (request.Print m) status told asks tells = absurd (true≢false (sym asks))
told_aside before after (request.Verify m) status told asks tells = absurd (true≢false (sym asks))
told_aside before after (request.Import asked) status told asks tells = absurd (true≢false (sym asks))

-- a run writes no file itself
unwritten : (asked : Request) → asks_sheets asked ≡ true → writes_file asked ≡ false
unwritten (request.Run asked) asks = refl
unwritten (request.Call m input) asks = refl
unwritten (request.Replay asked steps) asks = refl
unwritten (request.Print m) asks = refl
unwritten (request.Verify m) asks = refl
unwritten (request.Upgrade path newer) asks = absurd (true≢false (sym asks))
unwritten (request.Assemble m binary) asks = absurd (true≢false (sym asks))
unwritten (request.Fit m binary) asks = absurd (true≢false (sym asks))
unwritten (request.Import asked) asks = absurd (true≢false (sym asks))

by_case : (b : Bool) (P Q : Type 0) → (b ≡ true → P) → (b ≡ false → Q) → MatchBool b P Q
by_case true P Q at_true at_false = at_true refl
by_case false P Q at_true at_false = at_false refl

-- where nothing is asked for, nothing is written behind it
pub command_told : (before middle after : Disk) (asked : Request) (notes : RunNotes) (status : ℕ) (told : List ℕ)
    → (asks_sheets asked ≡ false → MayPrint before after asked status told) → MayPrint before middle asked status told
    → (writes_file asked ≡ false → Stays before middle) → MayWriteSheets asked notes middle after → CommandTold before after asked status told
command_told before middle after asked notes status told same tells kept writes =
    by_case (asks_sheets asked) _ _
    (λ asks.
    let behind = may_write_later asked notes before middle after (kept (unwritten asked asks)) writes in
    (told_aside before middle asked status told asks tells, (notes, behind)))
    same
