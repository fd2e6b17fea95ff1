-- The whole of serving a session.
use Rattle.std.specs.Prelude.{◌≡◌, ◌⊎◌, ⊤, ℕ, true, List, length, take, Option, Result, Ok, Err, OnOk}
use Rattle.std.specs.List.{list_any}
use Rattle.std.specs.Io.KnownBytes.{Appends, Consumes, IsAtEnd}
use Rattle.line_text.specs.Output.{HasBegun}
use Rattle.sources.specs.Disk.{Disk}
use Rattle.session.specs.declared.serving.ServeFault.{ServeFault}
use Rattle.session.specs.declared.serving.ServeFault.TheVariants as fault
use Rattle.session.specs.Commands.{Asked, asked_in, is_quit}
use Rattle.session.specs.Maps.{Maps}
use Rattle.session.specs.Runs.{Runs}
use Rattle.session.specs.Transcript.{Tells}

-- the replies were written: all of them, or a beginning if the writer failed
abbrev pub IsWritten : {A : Type 0} → Result A ServeFault → (old new : Option (List ℕ)) → (told : List ℕ) → Type 0
IsWritten (Err fault.Write) old new told = HasBegun old new told
IsWritten _ old new told = Appends old new told

-- how many of the commands were answered: all, unless the writer failed or memory ran out
abbrev pub AreAnswered : {A : Type 0} → Result A ServeFault → List Asked → ℕ → Type 0
AreAnswered (Ok done) asked answered = answered ≡ length asked
AreAnswered (Err fault.Read) asked answered = answered ≡ length asked
AreAnswered _ asked answered = ⊤

-- Bytes were read, and the commands in them were answered: all of them if serving ended well, which is by `quit` or at the
-- end of the input.
pub record Serves {A : Type 0} (disk : Disk) (runs : Runs) (maps : Maps) (unread left old new : Option (List ℕ))
    (result : Result A ServeFault) : Type 0 where
  pub read : List ℕ
  pub consumed : Consumes unread left read
  pub answered : ℕ
  pub all : AreAnswered result (asked_in read) answered
  pub told : List ℕ
  pub tells : Tells disk runs maps (take answered (asked_in read)) told
  pub written : IsWritten result old new told
  pub ended : OnOk result ((list_any is_quit (asked_in read) ≡ true) ⊎ IsAtEnd left)
