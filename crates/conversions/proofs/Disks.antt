-- What one step of a command says of files, after another that wrote nothing.
use Rattle.std.proofs.Common.{inl, inr, ◌≡◌, ◌≤◌, ℕ, List, length, subst}
use Rattle.wasm_ast.specs.declared.module.Module.{Module}
use Rattle.wasm_ast.specs.Limits.{max_module_bytes}
use Rattle.wasm_decode.specs.Canonical.{canonical}
use Rattle.sources.specs.declared.fault.CommandFault.{CommandFault}
use Rattle.sources.specs.declared.fault.CommandFault.TheVariants as command
use Rattle.sources.specs.Disk.{Disk, Stays}
use Rattle.sources.specs.Source.{RefusesModule}
use Rattle.sources.specs.Reading.{IsRefusedAt, IsUnwritable}
use Rattle.sources.proofs.Disks.{unwritable_before, writes_then}
use Rattle.conversions.specs.Causes.{IsBeforeWriting, IsUnspelled, RefusesSpelled}
use Rattle.conversions.specs.Outputs.{PrintsSpelling, PrintsWritten}

pub unspelled_before : (before after : Disk) (path : List ℕ) (m : Module) → Stays before after → (fault : CommandFault)
    → IsUnspelled after path m fault → IsUnspelled before path m fault
unspelled_before before after path m stays (command.Encode fault) is = is
unspelled_before before after path m stays fault is = unwritable_before before after path stays fault is

-- the module is not read, and so not spelled
pub not_spelled : (disk : Disk) (path binary_path : List ℕ) (fault : CommandFault) → IsRefusedAt disk path RefusesModule fault
    → IsRefusedAt disk path (RefusesSpelled disk binary_path) fault
not_spelled disk path binary_path fault (inl unread) = inl unread
not_spelled disk path binary_path fault (inr (content, held, refused)) = inr (content, held, inl refused)

-- ---- spellings

-- the module's spelling is not written
pub unwritable : (disk : Disk) (path : List ℕ) (m : Module) (fault : CommandFault) → IsUnwritable disk path fault → IsUnspelled disk path m fault
unwritable disk path m (command.Encode fault) is = absurd is
unwritable disk path m fault is = is

-- a file that cannot be written is told of after that
pub written_late : (disk : Disk) (path : List ℕ) (fault : CommandFault) (P : Type 0) → IsUnwritable disk path fault → IsBeforeWriting fault → P
written_late disk path (command.Unwritable refused) P is before = absurd before
written_late disk path command.OutOfMemory P is before = absurd before
written_late disk path fault P is before = absurd is

pub written_then : (before middle after : Disk) (bytes path told : List ℕ) → Stays before middle → PrintsWritten middle after bytes path told
    → PrintsWritten before after bytes path told
written_then before middle after bytes path told first is =
    record { written = writes_then path bytes before middle after first is.written; line_of_length = is.line_of_length }

-- its length is told
pub spelling_told : (before after : Disk) (binary_path bytes told : List ℕ) (m : Module) → bytes ≡ canonical m → length bytes ≤ max_module_bytes
    → PrintsWritten before after bytes binary_path told → PrintsSpelling before after m binary_path told
spelling_told before after binary_path bytes told m same small is = record {
  small = subst (λ bs. length bs ≤ max_module_bytes) same small;
  tells = subst (λ bs. PrintsWritten before after bs binary_path told) same is;
}

pub spelling_then : (before middle after : Disk) (binary_path told : List ℕ) (m : Module) → Stays before middle
    → PrintsSpelling middle after m binary_path told → PrintsSpelling before after m binary_path told
spelling_then before middle after binary_path told m first is =
    record { small = is.small; tells = written_then before middle after (canonical m) binary_path told first is.tells }
