-- What is shown of a function's lines.
use Rattle.std.specs.Prelude.{◌≡◌, ℕ, List, ◌++◌, Option, count_by, map}
use Rattle.std.specs.Borrow.{Bor}
use Rattle.line_text.specs.declared.text_builder.TextBuilder.{TextBuilder}
use Rattle.line_text.specs.TextBuilder.{Gains}
use Rattle.explanations.specs.Listing.{is_numbered, listed}
use Rattle.explanations.specs.declared.listing.Shown.{Shown}

-- the values of references
abbrev pub texts : List (Bor (List ℕ)) → List (List ℕ)
texts lines = map (λ l. l.now) lines

-- These lines are adjacent in a body, after this many instructions.
pub record IsCut (body part : List (Bor (List ℕ))) (first : ℕ) : Type 0 where
  pub before : List (Bor (List ℕ))
  pub after : List (Bor (List ℕ))
  pub joined : body ≡ before ++ (part ++ after)
  pub numbered : first ≡ count_by (λ l. is_numbered l.now) before

abbrev pub Cuts : List (Bor (List ℕ)) → Shown → Type 0
Cuts body shown = IsCut body shown.lines.now shown.first

-- such lines are put behind a text
pub record ListsPart (old new : TextBuilder) (marked : Option ℕ) (body : List (Bor (List ℕ))) : Type 0 where
  pub part : List (Bor (List ℕ))
  pub first : ℕ
  pub cut : IsCut body part first
  pub gains : Gains old new (listed marked first (texts part))
