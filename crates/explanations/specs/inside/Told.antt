-- How an explanation is composed.
use Rattle.std.specs.Prelude.{◌≡◌, ◌⊎◌, ℕ, List, [], ◌++◌, codes, Option, Result, String, IfOk, string_bytes}
use Rattle.std.specs.Borrow.{Bor}
use Rattle.validate.specs.declared.fault.Place.{Place}
use Rattle.call_lines.specs.OutputLines.{line}
use Rattle.sources.specs.declared.file_contents.Source.{Source}
use Rattle.sources.specs.declared.fault.CommandFault.{CommandFault}
use Rattle.explanations.specs.declared.module_place.Seen.{Seen}
use Rattle.explanations.specs.declared.advice.Advice.{Advice}
use Rattle.explanations.specs.Explanation.{Explains, ShowsModule, ShowsPlace, advice_text}
use Rattle.explanations.specs.Listing.{IsListing}

-- the text, if there is one, explains the fault
abbrev pub Tells : {Z E : Type 0} → Option (Bor Source) → CommandFault → Result (String Z) E → Type 0
Tells source fault result = IfOk result (λ text. Explains source fault (string_bytes text))

-- the recursion of functions is explained
abbrev pub NamesRecursion : List ℕ → Type 0
NamesRecursion told = (advice : Advice) × (shown : List ℕ) × (told ≡ codes "Rule P12: " ++ (advice_text advice ++ shown))

-- the line is shown after a heading
abbrev pub ShowsLine : (text told : List ℕ) → Type 0
ShowsLine text told = (heading : List ℕ) × (told ≡ heading ++ line text)

-- lines of a body are listed under a heading
pub record ShowsBody (body : List (List ℕ)) (marked : Option ℕ) (told : List ℕ) : Type 0 where
  pub heading : List ℕ
  pub listing : List ℕ
  pub is_listing : IsListing body marked listing
  pub joined : told ≡ heading ++ listing

-- the text shows this place
abbrev pub SeesPlace : Option (Bor Source) → Place → Seen → Type 0
SeesPlace source place seen = ShowsPlace source place (string_bytes seen.text)

abbrev pub Sees : Source → Place → Seen → Type 0
Sees source place seen = (string_bytes seen.text ≡ []) ⊎ ShowsModule source place.instruction (string_bytes seen.text)
