-- What a command tells, from what its parts answered.
use Rattle.std.proofs.Common.{inl, inr, ◌≡◌, ◌⊎◌, ◌++◌, ◌∷◌, [], ℕ, IfOk, List, Option, Result, Ok, Err, refl, subst, sym, take}
use Rattle.std.specs.Io.KnownBytes.{Appends}
use Rattle.sources.specs.declared.fault.CommandFault.{CommandFault}
use Rattle.sources.specs.declared.fault.CommandFault.TheVariants as command
use Rattle.requests.specs.declared.request.Request.{Request}
use Rattle.requests.specs.declared.request.Request.TheVariants as request
use Rattle.wasm_decode.specs.Canonical.{canonical}
use Rattle.checkpoint.specs.Checkpoint.{checkpoint_bytes}
use Rattle.sources.specs.Disk.{Disk, Stays, Tries}
use Rattle.sources.specs.Writing.{TriesAll}
use Rattle.conversions.specs.Importing.{files_of}
use Rattle.call_lines.specs.OutputLines.{line}
use Rattle.sources.specs.Refusal.{fault_text, status_of}
use Rattle.conversions.specs.Causes.{IsBeforeWriting}
use Rattle.pregel.specs.FileCommands.{IsCause, MayTry, MayPrint}
use Rattle.plain_commands.specs.Outputs.{HasPrinted}
use Rattle.sources.proofs.Disks.{stays_again}

-- memory may run out at any command
pub want_is_cause : (disk : Disk) (asked : Request) → IsCause disk asked command.OutOfMemory
want_is_cause disk (request.Call m input_path) = inl (inl (inl tt))
want_is_cause disk (request.Run asked) = inl tt
want_is_cause disk (request.Replay asked steps_path) = inl (inl (inl (inl tt)))
want_is_cause disk (request.Upgrade path newer_path) = inl (inl tt)
want_is_cause disk (request.Assemble module_path binary_path) = inl tt
want_is_cause disk (request.Fit module_path binary_path) = inl tt
want_is_cause disk (request.Print module_path) = inl tt
want_is_cause disk (request.Verify m) = inl (inl tt)
want_is_cause disk (request.Import asked) = inl (inl tt)

-- the fault is told, or in its place that there is no memory for its line
pub refusal_told : (before after : Disk) (asked : Request) (fault other : CommandFault) → IsCause before asked fault
    → (IsBeforeWriting fault → Stays before after) → MayTry before after asked → (other ≡ fault) ⊎ (other ≡ command.OutOfMemory)
    → MayPrint before after asked (status_of other) (line (fault_text other))
refusal_told before after asked fault other cause unwritten tried (inl same) =
    inr (record {
      fault = fault;
      because = cause;
      unwritten = unwritten;
      tried = tried;
      status_of_fault = rw same refl;
      line_of_fault = rw same refl;
    })
refusal_told before after asked fault other cause unwritten tried (inr same) =
    inr (record {
      fault = command.OutOfMemory;
      because = want_is_cause before asked;
      unwritten = λ early. absurd early;
      tried = tried;
      status_of_fault = rw same refl;
      line_of_fault = rw same refl;
    })

-- what holds of the text that is printed with this status
pub printed_with : {E : Type 0} (old new : Option (List ℕ)) (answer : Result ℕ E) (status : ℕ) (told : List ℕ) (P : ℕ → List ℕ → Type 0)
    → HasPrinted old new status told answer → P status told → IfOk answer (λ s. (text : List ℕ) × Appends old new text × P s text)
printed_with old new (Ok s) status told P is holds = (told, is.1, subst (λ n. P n told) (sym is.0) holds)
printed_with old new (Err e) status told P is holds = tt

-- ---- what was tried stays so where nothing more is written

begun_on : (path bytes : List ℕ) (middle after : Disk) → Stays middle after → (earlier : List (List ℕ × List ℕ))
    → middle.wrote earlier ⊎ ((count : ℕ) × middle.wrote (earlier ++ (path, take count bytes) ∷ []))
    → after.wrote earlier ⊎ ((count : ℕ) × after.wrote (earlier ++ (path, take count bytes) ∷ []))
begun_on path bytes middle after last earlier (inl none) = inl (last.wrote earlier none)
begun_on path bytes middle after last earlier (inr (count, some)) =
    inr (count, last.wrote (earlier ++ (path, take count bytes) ∷ []) some)

tries_on : (path bytes : List ℕ) (before middle after : Disk) → Tries path bytes before middle → Stays middle after → Tries path bytes before after
tries_on path bytes before middle after tries last = λ earlier wrote. begun_on path bytes middle after last earlier (tries earlier wrote)

tries_all_on : (items : List (List ℕ × List ℕ)) (before middle after : Disk) → TriesAll items before middle → Stays middle after → TriesAll items before after
tries_all_on items before middle after tries last = λ earlier wrote.
    let tried = tries earlier wrote in
    (tried.0, tried.1, last.wrote (earlier ++ tried.0) tried.2)

pub may_try_on : (before middle after : Disk) (asked : Request) → MayTry before middle asked → Stays middle after → MayTry before after asked
may_try_on before middle after (request.Call m input_path) stays last = stays_again before middle after stays last
may_try_on before middle after (request.Run asked) stays last = stays_again before middle after stays last
may_try_on before middle after (request.Replay asked steps_path) stays last = stays_again before middle after stays last
may_try_on before middle after (request.Upgrade path newer_path) (inl stays) last = inl (stays_again before middle after stays last)
may_try_on before middle after (request.Upgrade path newer_path) (inr (state, is, tries)) last =
    inr (state, is, tries_on newer_path.now (checkpoint_bytes state) before middle after tries last)
may_try_on before middle after (request.Assemble module_path binary_path) (inl stays) last = inl (stays_again before middle after stays last)
may_try_on before middle after (request.Assemble module_path binary_path) (inr (m, is, tries)) last =
    inr (m, is, tries_on binary_path.now (canonical m) before middle after tries last)
may_try_on before middle after (request.Fit module_path binary_path) (inl stays) last = inl (stays_again before middle after stays last)
may_try_on before middle after (request.Fit module_path binary_path) (inr (m, is, (made, fits, tries))) last =
    inr (m, is, (made, fits, tries_on binary_path.now (canonical made) before middle after tries last))
may_try_on before middle after (request.Import asked) (inl stays) last = inl (stays_again before middle after stays last)
may_try_on before middle after (request.Import asked) (inr (made, is, tries)) last =
    inr (made, is, tries_all_on (files_of asked made) before middle after tries last)
may_try_on before middle after (request.Print module_path) stays last = stays_again before middle after stays last
may_try_on before middle after (request.Verify m) stays last = stays_again before middle after stays last
