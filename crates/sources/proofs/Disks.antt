-- What one step says of files, after another that wrote nothing.
use Rattle.std.proofs.Common.{inl, inr, ◌≡◌, ◌⊎◌, ◌<◌, ◌≤◌, ◌∙◌, ℕ, zero, suc, Bool, true, false, List, [], ◌∷◌, length, take, Some, None, ap, arith, refl, subst, sym}
use Rattle.wasm_ast.specs.declared.module.Module.{Module}
use Rattle.wasm_ast.specs.Limits.{IsWithinLimits, max_module_bytes}
use Rattle.wasm_items.specs.declared.fault.DecodeFault.{DecodeFault}
use Rattle.sources.specs.declared.fault.CommandFault.{CommandFault}
use Rattle.sources.specs.declared.fault.CommandFault.TheVariants as command
use Rattle.sources.specs.declared.file_contents.Source.{Source}
use Rattle.sources.specs.Disk.{Disk, HoldsAt, Stays, Tries, Writes}
use Rattle.sources.specs.Modules.{IsModuleAt, MeansBy}
use Rattle.wat_asm.specs.Paths.{is_text_path}
use Rattle.sources.specs.Source.{RefusesModule, content, is_text}
use Rattle.sources.specs.Jobs.{RefusesGraph}
use Rattle.sources.specs.Reading.{HoldsSource, IsNoBinary, IsNoFile, IsNoGraphAt, IsNoSource, IsRefusedAt, IsUnread, IsUnwritable}

-- nothing was done
pub stays_same : (disk : Disk) → Stays disk disk
stays_same disk = record { holds = λ path found held. held; refuses = λ path refuses. refuses; wrote = λ writes wrote. wrote }

-- nothing is written in two steps that write nothing
pub stays_again : (before middle after : Disk) → Stays before middle → Stays middle after → Stays before after
stays_again before middle after first then = record {
  holds = λ path found held. first.holds path found (then.holds path found held);
  refuses = λ path refuses. first.refuses path (then.refuses path refuses);
  wrote = λ writes wrote. then.wrote writes (first.wrote writes wrote);
}

pub writes_then : (path bytes : List ℕ) (before middle after : Disk) → Stays before middle → Writes path bytes middle after → Writes path bytes before after
writes_then path bytes before middle after first writes = λ earlier wrote. writes earlier (first.wrote earlier wrote)

pub tries_then : (path bytes : List ℕ) (before middle after : Disk) → Stays before middle → Tries path bytes middle after → Tries path bytes before after
tries_then path bytes before middle after first tries = λ earlier wrote. tries earlier (first.wrote earlier wrote)

-- what is not tried is tried and came to nothing
pub tries_nothing : (path bytes : List ℕ) (disk : Disk) → Tries path bytes disk disk
tries_nothing path bytes disk = λ earlier wrote. inl wrote

-- what may be found after a read could be found before
pub holds_before : (before after : Disk) (path : List ℕ) (P : List ℕ → Type 0) → Stays before after → HoldsAt after path P → HoldsAt before path P
holds_before before after path P stays (content, held, is) = (content, stays.holds path (Some content) held, is)

no_file_before : (is_text : Bool) (before after : Disk) (path : List ℕ) → Stays before after → IsNoFile is_text after path → IsNoFile is_text before path
no_file_before true before after path stays (inl none) = inl (stays.holds path None none)
no_file_before true before after path stays (inr (bytes, held, bad)) = inr (bytes, stays.holds path (Some bytes) held, bad)
no_file_before false before after path stays none = stays.holds path None none

-- what cannot be read after a read could not be read before
pub unread_before : (is_text : Bool) (before after : Disk) (path : List ℕ) → Stays before after → (fault : CommandFault)
    → IsUnread is_text after path fault → IsUnread is_text before path fault
unread_before is_text before after path stays (command.Unread missing) (same, none) = (same, no_file_before is_text before after path stays none)
unread_before is_text before after path stays command.OutOfMemory is = tt
unread_before is_text before after path stays fault is = absurd is

-- where no graph is found after a read, none was found before
pub no_graph_before : (before after : Disk) (path : List ℕ) → Stays before after → (fault : CommandFault)
    → IsNoGraphAt after path fault → IsNoGraphAt before path fault
no_graph_before before after path stays fault (inl unread) = inl (unread_before true before after path stays fault unread)
no_graph_before before after path stays fault (inr held) = inr (holds_before before after path (λ text. RefusesGraph text fault) stays held)

-- what cannot be written after a read could not be written before
pub unwritable_before : (before after : Disk) (path : List ℕ) → Stays before after → (fault : CommandFault)
    → IsUnwritable after path fault → IsUnwritable before path fault
unwritable_before before after path stays (command.Unwritable refused) (same, refuses) = (same, stays.refuses path refuses)
unwritable_before before after path stays command.OutOfMemory is = tt
unwritable_before before after path stays fault is = absurd is

-- ---- modules

-- the source that was read of a file means this module
pub module_at : (disk : Disk) (path : List ℕ) (read : Source) → HoldsSource disk path read → (m : Module)
    → MeansBy (is_text read) (content read) m → IsModuleAt disk path m
module_at disk path read holds m means = (content read, holds.held, subst (λ b. MeansBy b (content read) m) holds.kind means)

-- the source that was read of a file is refused
pub refused_at : (disk : Disk) (path : List ℕ) (read : Source) (refuses : Bool → List ℕ → CommandFault → Type 0) → HoldsSource disk path read
    → (fault : CommandFault) → refuses (is_text read) (content read) fault → IsRefusedAt disk path refuses fault
refused_at disk path read refuses holds fault refused =
    inr (content read, holds.held, subst (λ b. refuses b (content read) fault) holds.kind refused)

-- where a module's file is not read, no module is found in it
pub no_source : (is_text : Bool) (disk : Disk) (path : List ℕ) (refuses : Bool → List ℕ → CommandFault → Type 0)
    → ((content : List ℕ) (fault : CommandFault) → RefusesModule is_text content fault → refuses is_text content fault)
    → (fault : CommandFault) → IsNoSource is_text disk path fault
    → IsUnread is_text disk path fault ⊎ HoldsAt disk path (λ content. refuses is_text content fault)
no_source true disk path refuses more fault unread = inl unread
no_source false disk path refuses more fault (inl unread) = inl unread
no_source false disk path refuses more fault (inr (bytes, held, refused)) = inr (bytes, held, more bytes fault refused.1)

within_by : (is_text : Bool) (content : List ℕ) (m : Module) → MeansBy is_text content m → IsWithinLimits m
within_by true content m means = means.within
within_by false content m means = means.limited

pub within_at : (disk : Disk) (path : List ℕ) (m : Module) → IsModuleAt disk path m → IsWithinLimits m
within_at disk path m read = within_by (is_text_path path) read.0 m read.2

-- ---- fronts of files

-- a front that is shorter than it may be is all
pub all_of : {A : Type 0} (n : ℕ) (xs : List A) → length (take n xs) < n → take n xs ≡ xs
all_of zero xs lt = absurd (omega (arith, lt))
all_of (suc n) [] lt = refl
all_of (suc n) (x ∷ xs) lt = ap (λ ys. x ∷ ys) (all_of n xs (omega (arith, lt)))

no_longer : {A : Type 0} (n : ℕ) (xs : List A) → length (take n xs) ≤ length xs
no_longer zero xs = omega arith
no_longer (suc n) [] = omega arith
no_longer (suc n) (x ∷ xs) = omega (arith, no_longer n xs)

-- a front of a file that is shorter than it may be is the file's content
pub whole : (disk : Disk) (path front : List ℕ) (n : ℕ) → length front < n → HoldsAt disk path (λ content. front ≡ take n content)
    → disk.holds path (Some front)
whole disk path front n few (content, held, is) =
    let all = all_of n content (subst (λ (bytes : List ℕ). length bytes < n) is few) in
    subst (λ (bytes : List ℕ). disk.holds path (Some bytes)) (sym (is ∙ all)) held

-- a file with a front that is longer than any module's bytes has none
pub too_long : (disk : Disk) (path front : List ℕ) (n : ℕ) (fault : DecodeFault) → max_module_bytes < length front
    → HoldsAt disk path (λ content. front ≡ take n content) → IsNoBinary disk path (command.Decode fault)
too_long disk path front n fault long (content, held, is) =
    let of_front = subst (λ (bytes : List ℕ). max_module_bytes < length bytes) is long in
    let more : max_module_bytes < length content = omega (arith, of_front, no_longer n content) in
    inr (content, held, (more, λ m spells. absurd (omega (arith, more, spells.small))))
