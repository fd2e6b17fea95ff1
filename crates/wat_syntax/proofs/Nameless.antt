-- Tokens among which no name stands.
use Rattle.std.proofs.Common.{◌≡◌, ◌-◌, ℕ, zero, suc, true, List, [], ◌∷◌, length, take, drop, refl, arith}
use Rattle.std.proofs.lemmas.List.{take_all, length-drop}
use Rattle.std.proofs.Math.Seq.{drop-nil}
use Rattle.wat_syntax.specs.declared.lexer.token.Token.{Token}
use Rattle.wat_syntax.specs.declared.lexer.token.Token.TheVariants as token
use Rattle.wat_syntax.specs.inside.ReadingModule.{nameless}

nameless_tail : (t : Token) (ts : List Token) → nameless (t ∷ ts) ≡ true → nameless ts ≡ true
nameless_tail (token.Name n) ts e = absurd cc
nameless_tail _ ts e = e

pub nameless_drop : (ts : List Token) (i : ℕ) → nameless ts ≡ true → nameless (drop i ts) ≡ true
nameless_drop [] i e = rw drop-nil refl
nameless_drop (t ∷ ts) zero e = e
nameless_drop (t ∷ ts) (suc i) e = nameless_drop ts i (nameless_tail t ts e)

-- all tokens from one on, as a program cuts them off
pub all_from : (ts : List Token) (i : ℕ) → take (length ts - i) (drop i ts) ≡ drop i ts
all_from ts i = take_all (length ts - i) (drop i ts) (omega (arith, length-drop i ts))
