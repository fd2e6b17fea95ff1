-- The module that a file means, by its path and its content.
use Rattle.std.specs.Prelude.{◌≡◌, ℕ, Bool, true, false, List}
use Rattle.wasm_ast.specs.declared.module.Module.{Module}
use Rattle.wasm_ast.specs.Limits.{IsWithinLimits}
use Rattle.wasm_ast.specs.Representable.{IsRepresentable}
use Rattle.wasm_decode.specs.Grammar.{Spells}
use Rattle.wat_syntax.specs.Layout.{layout}
use Rattle.wat_asm.specs.Paths.{is_text_path}
use Rattle.verified.specs.Modules.{IsTyped}
use Rattle.verified.specs.Profile.{IsBounded}
use Rattle.sources.specs.Disk.{Disk, HoldsAt}

-- the text is what `print` writes of this module, which is within the limits and such as a program can hold
pub record IsLayoutOf (m : Module) (text : List ℕ) : Type 0 where
  pub within : IsWithinLimits m
  pub representable : IsRepresentable m
  pub printed : text ≡ layout m

-- The text may be read as this module: the module is within the limits, and if the text is what `print` writes of a module,
-- it is that one. For other texts this leaves open which module they mean.
pub record IsTakenFor (m : Module) (text : List ℕ) : Type 0 where
  pub within : IsWithinLimits m
  pub is_printed : (n : Module) → IsLayoutOf n text → m ≡ n

-- the content, a text or bytes, means this module
abbrev pub MeansBy : (is_text : Bool) → List ℕ → Module → Type 0
MeansBy true text m = IsTakenFor m text
MeansBy false bytes m = Spells bytes m

-- the content spells this module, and so no other
abbrev pub IsSpelledBy : (is_text : Bool) → List ℕ → Module → Type 0
IsSpelledBy true text m = IsLayoutOf m text
IsSpelledBy false bytes m = Spells bytes m

-- the module is valid (Core 1.0, 3.4.10), within the limits and in the bounded profile
pub record IsVerified (m : Module) : Type 0 where
  pub typed : IsTyped m
  pub within : IsWithinLimits m
  pub bounded : IsBounded m

-- the content means this module, which is verified
pub record Loads (is_text : Bool) (content : List ℕ) (m : Module) : Type 0 where
  pub means : MeansBy is_text content m
  pub verified : IsVerified m

-- a file with this path and content means the module
abbrev pub IsModuleOf : (path content : List ℕ) → Module → Type 0
IsModuleOf path content m = MeansBy (is_text_path path) content m

-- the file at the path means the module
abbrev pub IsModuleAt : Disk → (path : List ℕ) → Module → Type 0
IsModuleAt disk path m = HoldsAt disk path (λ content. IsModuleOf path content m)
