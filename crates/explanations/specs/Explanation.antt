-- What the explanation of an error says and shows.
use Rattle.std.specs.Prelude.{◌≡◌, ◌⊎◌, ◌==◌, ℕ, Bool, true, false, List, [], ◌∷◌, ◌++◌, Option, Some, None, Result, String, codes, length, string_bytes, Contains, IfOk, MatchOption, if◌then◌else◌}
use Rattle.std.specs.Borrow.{Bor}
use Rattle.std.specs.Str.Lines.{lines}
use Rattle.wasm_ast.specs.declared.module.Module.{Module}
use Rattle.wat_syntax.specs.declared.fault.TextFault.TheVariants as text
use Rattle.wat_syntax.specs.Layout.{layout}
use Rattle.wasm_items.specs.declared.fault.DecodeFault.TheVariants as decode
use Rattle.validate.specs.declared.fault.Place.{Place}
use Rattle.validate.specs.declared.fault.ValidFault.TheVariants as valid
use Rattle.profile_rules.specs.FaultText.{rule_word}
use Rattle.profile_rules.specs.declared.fault.ProfileFault.TheVariants as profile
use Rattle.sources.specs.declared.file_contents.Source.{Source}
use Rattle.sources.specs.declared.fault.CommandFault.{CommandFault}
use Rattle.sources.specs.declared.fault.CommandFault.TheVariants as command
use Rattle.call_lines.specs.OutputLines.{line}
use Rattle.sources.specs.Modules.{MeansBy}
use Rattle.sources.specs.Source.{content, is_text}
use Rattle.explanations.specs.declared.advice.Advice.{Advice}
use Rattle.explanations.specs.Listing.{IsListing, IsStretch}

-- whether a fault is explained: one of the module's own, except an allocation that failed
abbrev pub is_explained : CommandFault → Bool
is_explained (command.Unbounded profile.OutOfMemory) = false
is_explained (command.Unbounded fault) = true
is_explained (command.Invalid valid.OutOfMemory) = false
is_explained (command.Invalid fault) = true
is_explained (command.Text text.OutOfMemory) = false
is_explained (command.Text fault) = true
is_explained (command.Decode decode.OutOfMemory) = false
is_explained (command.Decode fault) = true
is_explained fault = false

-- ---- words

-- the name of a rule of the profile
abbrev pub beginning : CommandFault → List ℕ
beginning (command.Unbounded (profile.Breaks rule place)) = codes "Rule " ++ rule_word rule ++ codes ": "
beginning (command.Unbounded (profile.Cycle functions)) = codes "Rule P12: "
beginning fault = []

-- the advice for a language, if there is any; 58 is a colon
abbrev pub part_text : (language said : List ℕ) → List ℕ
part_text language said = if length said == 0 then [] else 10 ∷ [] ++ language ++ 58 ∷ 10 ∷ [] ++ said

-- the sentence, and the advice for each language
abbrev pub advice_text : Advice → List ℕ
advice_text advice =
    advice.sentence.now ++ 10 ∷ []
    ++ part_text (codes "In WebAssembly text") advice.text.now
    ++ part_text (codes "In C") advice.c.now
    ++ part_text (codes "In Rust") advice.rust.now

-- ---- the place

-- the place in a module that a fault names
abbrev pub place_of : CommandFault → Option Place
place_of (command.Unbounded (profile.Breaks rule place)) = Some place
place_of (command.Invalid (valid.Breaks rule place)) = Some place
place_of fault = None

-- one of these lines is shown
pub record IsLineShown (all : List (List ℕ)) (shown : List ℕ) : Type 0 where
  pub heading : List ℕ
  pub text : List ℕ
  pub is_line : Contains all text
  pub joined : shown ≡ heading ++ line text

-- adjacent lines of a body among these are listed
pub record IsBodyShown (all : List (List ℕ)) (marked : Option ℕ) (shown : List ℕ) : Type 0 where
  pub body : List (List ℕ)
  pub inside : IsStretch all body
  pub heading : List ℕ
  pub listing : List ℕ
  pub is_listing : IsListing body marked listing
  pub joined : shown ≡ heading ++ listing

-- nothing is shown of these lines, or one, or a part of a function
abbrev pub ShowsLines : List (List ℕ) → (marked : Option ℕ) → (shown : List ℕ) → Type 0
ShowsLines all marked shown = (shown ≡ []) ⊎ (IsLineShown all shown ⊎ IsBodyShown all marked shown)

-- the source is this module, and lines of its text are shown
pub record ShowsModule (source : Source) (marked : Option ℕ) (shown : List ℕ) : Type 0 where
  pub m : Module
  pub means : MeansBy (is_text source) (content source) m
  pub shows : ShowsLines (lines (layout m)) marked shown

-- what is shown of a place: nothing, or lines of the module in the source
abbrev pub ShowsPlace : Option (Bor Source) → Place → (shown : List ℕ) → Type 0
ShowsPlace None place shown = shown ≡ []
ShowsPlace (Some source) place shown = (shown ≡ []) ⊎ ShowsModule source.now place.instruction shown

-- the same where a place is named; otherwise anything, as for a text or bytes
abbrev pub MayShow : Option (Bor Source) → Option Place → (shown : List ℕ) → Type 0
MayShow source None shown = Unit {0}
MayShow source (Some place) shown = ShowsPlace source place shown

-- The explanation of a fault: its beginning, a piece of advice, and then the place.
pub record Explains (source : Option (Bor Source)) (fault : CommandFault) (told : List ℕ) : Type 0 where
  pub advice : Advice
  pub shown : List ℕ
  pub place : MayShow source (place_of fault) shown
  pub joined : told ≡ beginning fault ++ (advice_text advice ++ shown)

-- a fault is explained, or it is not one of those that are
abbrev pub Answers : {Z E : Type 0} → Option (Bor Source) → CommandFault → Result (Option (String Z)) E → Type 0
Answers source fault result = IfOk result (λ told. MatchOption told (is_explained fault ≡ false)
    (λ text. (is_explained fault ≡ true) × Explains source fault (string_bytes text)))
