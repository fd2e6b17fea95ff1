-- The operands of the code, whose topmost is last, as a list whose topmost is first.
use Rattle.std.proofs.Common.{◌≡◌, ℕ, zero, suc, ◌+◌, ◌<◌, List, [], ◌∷◌, ◌++◌, length, drop, replicate, reverse, refl, sym, ap, ◌∙◌, arith}
use Rattle.std.proofs.lemmas.List.{reverse-append, at_drop_more}
use Rattle.wasm_ast.specs.declared.types.ValType.{ValType}
use Rattle.wasm_ast.specs.declared.types.ValType.TheVariants.{I32}
use Rattle.verified.specs.declared.operand.Operand.{Operand}
use Rattle.verified.specs.declared.operand.Operand.TheVariants.{Unknown}
use Rattle.profile_rules.specs.inside.Tracking.{top, below, forget_each}

pub stacked : (less more : List Operand) (o : Operand) → more ≡ less ++ o ∷ [] → reverse more ≡ o ∷ reverse less
stacked less more o e = ap reverse e ∙ reverse-append less (o ∷ [])

pub topmost : (less more : List Operand) (o : Operand) → more ≡ less ++ o ∷ [] → o ≡ top (reverse more)
topmost less more o e = sym (ap top (stacked less more o e))

pub left : (less more : List Operand) (o : Operand) → more ≡ less ++ o ∷ [] → reverse less ≡ below (reverse more)
left less more o e = sym (ap below (stacked less more o e))

-- one more of the types
pub forget_more : (ts : List ValType) (i : ℕ) (s r : List Operand) → i < length ts → r ≡ below s → forget_each (drop i ts) s ≡ forget_each (drop (i + 1) ts) r
forget_more ts i s r h e =
    at_drop_more (λ (us : List ValType). forget_each us s) ts i I32 h ∙ ap (λ (q : List Operand). forget_each (drop (i + 1) ts) q) (sym e)

-- ---- so many are taken, and so many given

below_suc : (k : ℕ) (xs : List Operand) → below (drop k xs) ≡ drop (suc k) xs
below_suc zero [] = refl
below_suc zero (x ∷ xs) = refl
below_suc (suc k) [] = refl
below_suc (suc k) (x ∷ xs) = below_suc k xs

pub taken_more : (k : ℕ) (less more rest : List Operand) → less ≡ below more → more ≡ drop k rest → less ≡ drop (k + 1) rest
taken_more k less more rest e h =
    let next : k + 1 ≡ suc k = omega arith in
    e ∙ ap below h ∙ below_suc k rest ∙ ap (λ n. drop n rest) (sym next)

pub given_more : (k : ℕ) (less more rest : List Operand) → more ≡ Unknown ∷ less → less ≡ replicate k Unknown ++ rest → more ≡ replicate (k + 1) Unknown ++ rest
given_more k less more rest e h =
    let next : k + 1 ≡ suc k = omega arith in
    e ∙ ap (λ (xs : List Operand). Unknown ∷ xs) h ∙ ap (λ n. replicate n Unknown ++ rest) (sym next)
