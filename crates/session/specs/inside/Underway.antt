-- How far serving a session has come.
use Rattle.std.specs.Prelude.{◌≡◌, ◌≤◌, ◌<◌, ℕ, Bool, true, List, length, map, take, Option, Some, None, Result, MatchResult, MatchBool}
use Rattle.std.specs.List.{list_any}
use Rattle.std.specs.Io.KnownBytes.{Appends, Consumes, IsAtEnd, Keeps}
use Rattle.line_text.specs.Output.{HasBegun}
use Rattle.sources.specs.Disk.{Disk}
use Rattle.session.specs.declared.serving.ServeFault.{ServeFault}
use Rattle.session.specs.declared.serving.ServeFault.TheVariants as fault
use Rattle.session.specs.declared.lines.TheConstants.{KEPT}
use Rattle.session.specs.Lines.{lines_from, rest_from}
use Rattle.session.specs.Commands.{Asked, asked_of, is_quit}
use Rattle.session.specs.Maps.{Maps}
use Rattle.session.specs.Runs.{Runs}
use Rattle.session.specs.Transcript.{IsReplyTo, Reaches, Tells}

-- what was read: nothing, if the read was interrupted
abbrev pub GetsSome : (unread left : Option (List ℕ)) → (chunk : List ℕ) → Option ℕ → Type 0
GetsSome unread left chunk None = Keeps unread left
GetsSome unread left chunk (Some count) =
    (count ≤ length chunk) × Consumes unread left (take count chunk) × (count ≡ 0 → 0 < length chunk → IsAtEnd left)

-- ---- a line

-- A command was answered, and its reply written, or a beginning of it.
pub record AnswersLine (disk : Disk) (runs : Runs) (maps : Maps) (asked : Asked) (old new : Option (List ℕ)) (now : Maps)
    (result : Result Bool ServeFault) : Type 0 where
  pub reply : List ℕ
  pub answers : IsReplyTo disk runs maps asked reply now
  pub written : MatchResult result (λ quits. Appends old new reply × (quits ≡ is_quit asked))
      (λ told. (told ≡ fault.Write) × HasBegun old new reply)

-- ---- commands one after another

-- None of the commands is `quit`. They were answered, and all replies were written.
pub record IsUnderway (disk : Disk) (runs : Runs) (maps : Maps) (asked : List Asked) (old new : Option (List ℕ)) (now : Maps) : Type 0 where
  pub told : List ℕ
  pub reaches : Reaches disk runs maps asked told now
  pub appends : Appends old new told

-- All replies to these commands were written.
pub record HasTold (disk : Disk) (runs : Runs) (maps : Maps) (asked : List Asked) (old new : Option (List ℕ)) : Type 0 where
  pub told : List ℕ
  pub tells : Tells disk runs maps asked told
  pub appends : Appends old new told

-- A beginning of the replies to these commands was written.
pub record HasBroken (disk : Disk) (runs : Runs) (maps : Maps) (asked : List Asked) (old new : Option (List ℕ)) : Type 0 where
  pub told : List ℕ
  pub tells : Tells disk runs maps asked told
  pub begun : HasBegun old new told

-- ---- bytes

-- the commands of the lines that end in these bytes, where these others of the first line are kept
abbrev pub asked_from : (kept bytes : List ℕ) → List Asked
asked_from kept bytes = map asked_of (lines_from kept bytes)

-- none of them is `quit`, and the bytes after the last line feed are kept
pub record GoesOn (disk : Disk) (runs : Runs) (maps : Maps) (kept bytes : List ℕ) (old new : Option (List ℕ)) (now : Maps) (left : List ℕ) : Type 0 where
  pub underway : IsUnderway disk runs maps (asked_from kept bytes) old new now
  pub keeps : left ≡ take KEPT (rest_from kept bytes)

-- one of them is `quit`
pub record Quits (disk : Disk) (runs : Runs) (maps : Maps) (kept bytes : List ℕ) (old new : Option (List ℕ)) : Type 0 where
  pub told : HasTold disk runs maps (asked_from kept bytes) old new
  pub quits : list_any is_quit (asked_from kept bytes) ≡ true

-- these commands were answered if serving stopped with this fault
abbrev pub BreaksAt : Disk → Runs → Maps → List Asked → (old new : Option (List ℕ)) → ServeFault → Type 0
BreaksAt disk runs maps asked old new fault.Read = ⊥
BreaksAt disk runs maps asked old new fault.Write = HasBroken disk runs maps asked old new
BreaksAt disk runs maps asked old new fault.OutOfMemory = HasTold disk runs maps asked old new

abbrev pub AnswersBytes : Disk → Runs → Maps → (kept bytes : List ℕ) → (old new : Option (List ℕ)) → (now : Maps) → (left : List ℕ)
    → Result Bool ServeFault → Type 0
AnswersBytes disk runs maps kept bytes old new now left result = MatchResult result
    (λ quits. MatchBool quits (Quits disk runs maps kept bytes old new) (GoesOn disk runs maps kept bytes old new now left))
    (λ told. (count : ℕ) × BreaksAt disk runs maps (take count (asked_from kept bytes)) old new told)
