-- The results of reading a file, and the reasons why reading or writing fails.
use Rattle.std.specs.Prelude.{◌≡◌, ◌<◌, ◌⊎◌, ℕ, Bool, true, false, List, length, Some, None}
use Rattle.std.specs.Str.{IsUtf8}
use Rattle.wasm_ast.specs.declared.module.Module.{Module}
use Rattle.wasm_ast.specs.Limits.{max_module_bytes}
use Rattle.graph.specs.Entry.{Entry}
use Rattle.sources.specs.declared.fault.CommandFault.{CommandFault}
use Rattle.sources.specs.declared.fault.CommandFault.TheVariants as command
use Rattle.sources.specs.declared.file_contents.Source.{Source}
use Rattle.sources.specs.Disk.{Disk, HoldsAt}
use Rattle.sources.specs.Modules.{Loads}
use Rattle.wat_asm.specs.Paths.{is_text_path}
use Rattle.sources.specs.Source.{RefusesModule, content, is_text}
use Rattle.sources.specs.Jobs.{IsGraphIn, RefusesGraph}

-- ---- contents

-- the file at the path has this content of a module
pub record HoldsSource (disk : Disk) (path : List ℕ) (source : Source) : Type 0 where
  pub kind : is_text source ≡ is_text_path path
  pub held : disk.holds path (Some (content source))

-- the file's module is loaded
abbrev pub IsLoadedAt : Disk → (path : List ℕ) → Module → Type 0
IsLoadedAt disk path m = HoldsAt disk path (λ content. Loads (is_text_path path) content m)

-- the file's text means this graph
abbrev pub IsReadAt : Disk → (path : List ℕ) → List Entry → Type 0
IsReadAt disk path graph = HoldsAt disk path (λ text. IsGraphIn text graph)

-- ---- failures

-- at the path there is no file that can be read; a text has to be in UTF-8
abbrev pub IsNoFile : (is_text : Bool) → Disk → List ℕ → Type 0
IsNoFile true disk path = disk.holds path None ⊎ HoldsAt disk path (λ bytes. ¬ (IsUtf8 bytes))
IsNoFile false disk path = disk.holds path None

-- the fault is a true reason why the file at the path is not read, as a text or as bytes
abbrev pub IsUnread : (is_text : Bool) → Disk → List ℕ → CommandFault → Type 0
IsUnread is_text disk path (command.Unread missing) = (missing.now ≡ path) × IsNoFile is_text disk path
IsUnread is_text disk path command.OutOfMemory = Unit {0}
IsUnread is_text disk path _ = ⊥

-- the binary file of a module is not read, or is refused since it is longer than any module
abbrev pub IsNoBinary : Disk → (path : List ℕ) → CommandFault → Type 0
IsNoBinary disk path fault =
    IsUnread false disk path fault
    ⊎ HoldsAt disk path (λ bytes. (max_module_bytes < length bytes) × RefusesModule false bytes fault)

-- the file of a module is not read, as a text or as bytes
abbrev pub IsNoSource : (is_text : Bool) → Disk → (path : List ℕ) → CommandFault → Type 0
IsNoSource true disk path fault = IsUnread true disk path fault
IsNoSource false disk path fault = IsNoBinary disk path fault

-- the module's file is not read, or its content is refused for this reason
abbrev pub IsRefusedAt : Disk → (module_path : List ℕ) → (refuses : (is_text : Bool) → List ℕ → CommandFault → Type 0)
    → CommandFault → Type 0
IsRefusedAt disk module_path refuses fault =
    IsUnread (is_text_path module_path) disk module_path fault
    ⊎ HoldsAt disk module_path (λ content. refuses (is_text_path module_path) content fault)

-- the graph's file is not read, or its text means no graph
abbrev pub IsNoGraphAt : Disk → (path : List ℕ) → CommandFault → Type 0
IsNoGraphAt disk path fault = IsUnread true disk path fault ⊎ HoldsAt disk path (λ text. RefusesGraph text fault)

-- the fault is a true reason why the file at the path is not written
abbrev pub IsUnwritable : Disk → List ℕ → CommandFault → Type 0
IsUnwritable disk path (command.Unwritable refused) = (refused.now ≡ path) × disk.refuses path
IsUnwritable disk path command.OutOfMemory = Unit {0}
IsUnwritable disk path _ = ⊥
