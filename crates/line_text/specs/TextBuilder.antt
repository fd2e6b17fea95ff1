-- Texts that are put together of pieces.
use Rattle.std.specs.Prelude.{◌≡◌, ℕ, false, List, ◌++◌, string_bytes}
use Rattle.line_text.specs.declared.text_builder.TextBuilder.{TextBuilder}

-- these bytes were put behind a text, unless it is cut
abbrev pub Gains : (old new : TextBuilder) → List ℕ → Type 0
Gains old new bytes =
    new.is_cut ≡ false → (old.is_cut ≡ false) × (string_bytes new.text ≡ string_bytes old.text ++ bytes)
