-- What a command that makes one file of another prints, and what it writes.
use Rattle.std.specs.Prelude.{◌≡◌, ℕ, ◌≤◌, List, ◌++◌, codes, length}
use Rattle.std.specs.Fmt.{decimal}
use Rattle.wasm_ast.specs.declared.module.Module.{Module}
use Rattle.wasm_ast.specs.Limits.{max_module_bytes}
use Rattle.wasm_decode.specs.Canonical.{canonical}
use Rattle.wat_syntax.specs.Layout.{layout}
use Rattle.fit.specs.Fit.{IsFitOf}
use Rattle.job_state.specs.State.{Standing}
use Rattle.checkpoint.specs.Checkpoint.{IsCheckpointOf, checkpoint_bytes}
use Rattle.call_lines.specs.OutputLines.{line}
use Rattle.sources.specs.Disk.{Disk, HoldsAt, Tries, Writes}
use Rattle.sources.specs.Modules.{IsModuleAt}

abbrev pub length_line : ℕ → List ℕ
length_line count = line (codes "ok " ++ decimal count)

-- these bytes were written to the file, and nothing else, and their number is printed
pub record PrintsWritten (before after : Disk) (bytes path told : List ℕ) : Type 0 where
  pub written : Writes path bytes before after
  pub line_of_length : told ≡ length_line (length bytes)

-- the canonical spelling of a module was written to the file, and nothing else, and its length is printed
pub record PrintsSpelling (before after : Disk) (m : Module) (binary_path told : List ℕ) : Type 0 where
  pub small : length (canonical m) ≤ max_module_bytes
  pub tells : PrintsWritten before after (canonical m) binary_path told

-- the canonical spelling of a file's module was written to the other file, and its length is printed
abbrev pub PrintsLength : (before after : Disk) → (module_path binary_path told : List ℕ) → Type 0
PrintsLength before after module_path binary_path told =
    (m : Module) × IsModuleAt before module_path m × PrintsSpelling before after m binary_path told

-- the canonical spelling of what this module is rewritten to was written to the file, and its length is told
abbrev pub PrintsFittedOf : (before after : Disk) → Module → (binary_path told : List ℕ) → Type 0
PrintsFittedOf before after m binary_path told = (made : Module) × IsFitOf m made × PrintsSpelling before after made binary_path told

-- the same of a file's module
abbrev pub PrintsFitted : (before after : Disk) → (module_path binary_path told : List ℕ) → Type 0
PrintsFitted before after module_path binary_path told =
    (m : Module) × IsModuleAt before module_path m × PrintsFittedOf before after m binary_path told

-- the file has the checkpoint of this state
abbrev pub IsKeptAt : Disk → (path : List ℕ) → Standing → Type 0
IsKeptAt disk path state = HoldsAt disk path (λ bytes. IsCheckpointOf bytes state)

-- the checkpoint of a file's state was written to the other file, and its length is printed
abbrev pub PrintsUpgraded : (before after : Disk) → (path newer_path told : List ℕ) → Type 0
PrintsUpgraded before after path newer_path told =
    (state : Standing) × IsKeptAt before path state × PrintsWritten before after (checkpoint_bytes state) newer_path told

-- the text of a file's module is printed
abbrev pub PrintsLayout : Disk → (module_path told : List ℕ) → Type 0
PrintsLayout disk module_path told = (m : Module) × IsModuleAt disk module_path m × (told ≡ layout m)

-- ---- what may be written of a file

-- a file's module was to be written to the other file, to which a beginning of its spelling, or nothing, was written
abbrev pub TriesSpelling : (before after : Disk) → (module_path binary_path : List ℕ) → Type 0
TriesSpelling before after module_path binary_path =
    (m : Module) × IsModuleAt before module_path m × Tries binary_path (canonical m) before after

-- what this module is rewritten to was to be written to the file, and no more was written than a beginning of its spelling, there
abbrev pub TriesFittedOf : (before after : Disk) → Module → (binary_path : List ℕ) → Type 0
TriesFittedOf before after m binary_path = (made : Module) × IsFitOf m made × Tries binary_path (canonical made) before after

-- the same of a file's module
abbrev pub TriesFitted : (before after : Disk) → (module_path binary_path : List ℕ) → Type 0
TriesFitted before after module_path binary_path =
    (m : Module) × IsModuleAt before module_path m × TriesFittedOf before after m binary_path

-- a file's checkpoint was to be written to the other file, and no more was written than a beginning of it, there
abbrev pub TriesUpgraded : (before after : Disk) → (path newer_path : List ℕ) → Type 0
TriesUpgraded before after path newer_path =
    (state : Standing) × IsKeptAt before path state × Tries newer_path (checkpoint_bytes state) before after
