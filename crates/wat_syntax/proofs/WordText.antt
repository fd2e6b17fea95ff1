-- Texts that are one word, wherever they stand.
use Rattle.std.proofs.Common.{◌≡◌, ◌<◌, ℕ, Bool, true, List, [], ◌∷◌, length}
use Rattle.std.specs.Prelude.{◌&&◌}
use Rattle.wat_syntax.specs.Words.{is_word}

abbrev pub all_word : List ℕ → Bool
all_word [] = true
all_word (b ∷ bs) = is_word b && all_word bs

pub record IsWordText (w : List ℕ) : Type 0 where
  pub some : 0 < length w
  pub each : all_word w ≡ true
