-- The numbers that the lexer assigns to the names of a text (Core 1.0, 6.3.5).
use Rattle.std.specs.Prelude.{◌≡◌, ◌<◌, ℕ, List, drop, Option, Some, None}
use Rattle.std.specs.BTreeMap.{get_by}
use Rattle.std.specs.Cmp.Lexicographic.{slice_cmp}
use Rattle.std.specs.List.{AllZip}
use Rattle.std.specs.Ordering.{nat_cmp}
use Rattle.wat_syntax.specs.declared.lexer.numbering.Numbering.{Numbering}
use Rattle.wat_syntax.specs.declared.lexer.token.Token.{Token}
use Rattle.wat_syntax.specs.declared.lexer.token.Token.TheVariants as token
use Rattle.wat_syntax.specs.Words.{first_word}

-- the number of a name, if it has one
abbrev pub number_of_name : Numbering → List ℕ → Option ℕ
number_of_name names name = get_by (λ k. slice_cmp nat_cmp name k.now) names.numbers

-- no two names have the same number, and no name has the number that comes next
pub record AreApart (names : Numbering) : Type 0 where
  pub below : (name : List ℕ) (n : ℕ) → number_of_name names name ≡ Some n → n < names.count
  pub apart : (name other : List ℕ) (n : ℕ) → number_of_name names name ≡ Some n → number_of_name names other ≡ Some n → name ≡ other

-- each name keeps its number, and different names still have different numbers
pub record Grows (old new : Numbering) : Type 0 where
  pub kept : (name : List ℕ) (n : ℕ) → number_of_name old name ≡ Some n → number_of_name new name ≡ Some n
  pub apart : AreApart old → AreApart new

-- the number of a token that is a name
abbrev pub number_in : Token → Option ℕ
number_in (token.Name n) = Some n
number_in _ = None

-- a token that is a name has the number of this word
abbrev pub IsNumbered : Numbering → List ℕ → Token → Type 0
IsNumbered names word t = (n : ℕ) → number_in t ≡ Some n → number_of_name names word ≡ Some n

-- in a text, each token that is a name has the number of the word at its position
abbrev pub AreNumbered : List ℕ → Numbering → List Token → List ℕ → Type 0
AreNumbered source names ts places = AllZip (λ t place. IsNumbered names (first_word (drop place source)) t) ts places

-- each token that is a name has the number of its word, and no two words have the same number
abbrev pub AreNamesNumbered : List ℕ → List Token → List ℕ → Type 0
AreNamesNumbered source ts places = (names : Numbering) × AreApart names × AreNumbered source names ts places
