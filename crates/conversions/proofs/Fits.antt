-- What a rewriting of a file's module comes to, after the file was read.
use Rattle.std.proofs.Common.{inl, inr, ◌≡◌, ◌∙◌, ◌⊎◌, ℕ, List, subst, sym}
use Rattle.wasm_ast.specs.declared.module.Module.{Module}
use Rattle.wasm_ast.specs.Limits.{IsWithinLimits}
use Rattle.wasm_decode.specs.Canonical.{canonical}
use Rattle.verified.specs.Modules.{IsTyped}
use Rattle.verified.specs.Profile.{IsBounded}
use Rattle.fit.specs.Fit.{IsFitOf, KeepsModule}
use Rattle.sources.specs.declared.fault.CommandFault.{CommandFault}
use Rattle.sources.specs.declared.fault.CommandFault.TheVariants as command
use Rattle.sources.specs.Disk.{Disk, Stays}
use Rattle.sources.specs.Modules.{IsModuleAt}
use Rattle.sources.specs.Source.{RefusesModule}
use Rattle.sources.specs.Reading.{IsRefusedAt}
use Rattle.sources.proofs.Disks.{stays_again, tries_then}
use Rattle.conversions.specs.Causes.{IsUnspelled, RefusesFit, RefusesFitted}
use Rattle.conversions.specs.Outputs.{PrintsFittedOf, TriesFitted, TriesFittedOf}
use Rattle.conversions.proofs.Disks.{spelling_then, unspelled_before}

-- the module is not read, and so not rewritten
pub not_fitted : (disk : Disk) (path binary_path : List ℕ) (fault : CommandFault) → IsRefusedAt disk path RefusesModule fault
    → IsRefusedAt disk path (RefusesFitted disk binary_path) fault
not_fitted disk path binary_path fault (inl unread) = inl unread
not_fitted disk path binary_path fault (inr (content, held, refused)) = inr (content, held, inl refused)

pub fitted_then : (before middle after : Disk) (binary_path told : List ℕ) (m : Module) → Stays before middle
    → PrintsFittedOf middle after m binary_path told → PrintsFittedOf before after m binary_path told
fitted_then before middle after binary_path told m first is =
    (is.0, is.1, spelling_then before middle after binary_path told is.0 first is.2)

pub unfitted_before : (before middle : Disk) (binary_path : List ℕ) (m : Module) → Stays before middle → (fault : CommandFault)
    → RefusesFit middle binary_path m fault → RefusesFit before binary_path m fault
unfitted_before before middle binary_path m stays (command.Invalid fault) is = is
unfitted_before before middle binary_path m stays command.OutOfMemory is = is
unfitted_before before middle binary_path m stays fault is =
    (is.0, is.1, unspelled_before before middle binary_path is.0 stays fault is.2)

pub tried_then : (before middle after : Disk) (path binary_path : List ℕ) (m : Module) → Stays before middle → IsModuleAt before path m
    → Stays middle after ⊎ TriesFittedOf middle after m binary_path → Stays before after ⊎ TriesFitted before after path binary_path
tried_then before middle after path binary_path m first at (inl stays) = inl (stays_again before middle after first stays)
tried_then before middle after path binary_path m first at (inr (made, fits, tries)) =
    inr (m, at, (made, fits, tries_then binary_path (canonical made) before middle after first tries))

-- the spelling of what was made is not written
pub unspelled_fit : (disk : Disk) (binary_path : List ℕ) (m made : Module) → IsFitOf m made → (fault : CommandFault)
    → IsUnspelled disk binary_path made fault → RefusesFit disk binary_path m fault
unspelled_fit disk binary_path m made fits (command.Invalid fault) is = absurd is
unspelled_fit disk binary_path m made fits command.OutOfMemory is = tt
unspelled_fit disk binary_path m made fits fault is = (made, fits, is)

-- what is known of what `fit` makes of a module that was found valid
pub fits_of : (given valid made seen : Module) → valid ≡ given → KeepsModule valid made → (IsBounded valid → made ≡ valid) → seen ≡ made
    → IsTyped made → IsWithinLimits made → IsFitOf given seen
fits_of given valid made seen same kept unchanged is typed within =
    subst (λ m. IsFitOf given m) (sym is)
    (record {
      kept = subst (λ m. KeepsModule m made) same kept;
      typed = typed;
      within = within;
      unchanged = λ bounded. unchanged (subst (λ (m : Module). IsBounded m) (sym same) bounded) ∙ same;
    })
