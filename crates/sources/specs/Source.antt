-- The content of a module's file, and the reasons why no module is read or loaded from it.
use Rattle.std.specs.Prelude.{◌≡◌, ◌⊎◌, ℕ, Bool, true, false, List, string_bytes}
use Rattle.wasm_ast.specs.declared.module.Module.{Module}
use Rattle.wasm_ast.specs.Limits.{IsWithinLimits}
use Rattle.wasm_items.specs.declared.fault.DecodeFault.TheVariants as decode
use Rattle.wasm_decode.specs.Grammar.{Spells}
use Rattle.wasm_decode.specs.declared.encoder.fault.EncodeFault.TheVariants as encode
use Rattle.wat_syntax.specs.declared.fault.TextFault.TheVariants as text_fault
use Rattle.validate.specs.declared.fault.ValidFault.TheVariants as valid
use Rattle.verified.specs.Modules.{IsTyped}
use Rattle.profile_rules.specs.declared.fault.ProfileFault.{ProfileFault}
use Rattle.profile_rules.specs.declared.fault.ProfileFault.TheVariants as profile
use Rattle.profile_rules.specs.Faults.{Refuses as RefusesBounds}
use Rattle.call_lines.specs.declared.input.InputFault.TheVariants as input
use Rattle.sources.specs.declared.file_contents.Source.{Source}
use Rattle.sources.specs.declared.file_contents.Source.TheVariants as source
use Rattle.sources.specs.declared.fault.CommandFault.{CommandFault}
use Rattle.sources.specs.declared.fault.CommandFault.TheVariants as command
use Rattle.sources.specs.Modules.{IsLayoutOf, MeansBy}

-- ---- a source, modelled as its bytes

abbrev pub is_text : Source → Bool
is_text (source.Text text) = true
is_text (source.Binary bytes) = false

abbrev pub content : Source → List ℕ
content (source.Text text) = string_bytes text
content (source.Binary bytes) = bytes.items

-- ---- refusals

-- memory ran out, in any step
abbrev pub IsWant : CommandFault → Type 0
IsWant (command.Decode fault) = fault ≡ decode.OutOfMemory
IsWant (command.Text fault) = fault ≡ text_fault.OutOfMemory
IsWant (command.Invalid fault) = fault ≡ valid.OutOfMemory
IsWant (command.Unbounded fault) = fault ≡ profile.OutOfMemory
IsWant (command.Input fault) = fault ≡ input.OutOfMemory
IsWant command.Run = Unit {0}
IsWant (command.Encode fault) = fault ≡ encode.OutOfMemory
IsWant command.OutOfMemory = Unit {0}
IsWant _ = ⊥

-- the fault is a true reason why the content is no module; running out of memory needs no reason
abbrev pub RefusesModule : (is_text : Bool) → List ℕ → CommandFault → Type 0
RefusesModule true text (command.Text fault) = (m : Module) → IsLayoutOf m text → fault ≡ text_fault.OutOfMemory
RefusesModule false bytes (command.Decode fault) = (m : Module) → Spells bytes m → fault ≡ decode.OutOfMemory
RefusesModule is_text content _ = ⊥

-- the module is valid, and the fault is a true reason why it is not in the bounded profile
pub record IsUnbounded (m : Module) (fault : ProfileFault) : Type 0 where
  pub typed : IsTyped m
  pub within : IsWithinLimits m
  pub refused : RefusesBounds m fault

-- the fault is a true reason why the module is not verified
abbrev pub RefusesMeant : Module → CommandFault → Type 0
RefusesMeant m (command.Invalid fault) = IsTyped m → IsWithinLimits m → fault ≡ valid.OutOfMemory
RefusesMeant m (command.Unbounded fault) = IsUnbounded m fault
RefusesMeant m _ = ⊥

-- the fault is a true reason why no module is loaded from the content
abbrev pub RefusesLoad : (is_text : Bool) → List ℕ → CommandFault → Type 0
RefusesLoad is_text content fault =
    RefusesModule is_text content fault ⊎ ((m : Module) × MeansBy is_text content m × RefusesMeant m fault)
