-- Globals that are put back by the numbers of those that were set.
use Rattle.std.proofs.Common.{◌≡◌, ℕ, zero, suc, ◌<◌, ◌≤◌, List, [], ◌∷◌, ◌++◌, length, get_or, refl, sym, ap, ◌∙◌, arith}
use Rattle.std.proofs.lemmas.List.{length-set, set-set, set_past}
use Rattle.std.specs.Prelude.{None, slice_get, slice_set}
use Rattle.wasm_ast.specs.declared.types.Value.{Value}
use Rattle.wasm_ast.specs.declared.types.Value.TheVariants.{I64}
use Rattle.interp.specs.inside.Renewed.{AreRenewed, put_back, put_one}

-- what is set to the values of one list may be set in either order
set_either : (f : ℕ → Value) (l : List Value) (x y : ℕ) → slice_set (slice_set l x (f x)) y (f y) ≡ slice_set (slice_set l y (f y)) x (f x)
set_either f [] x y = refl
set_either f (c ∷ l) zero zero = refl
set_either f (c ∷ l) zero (suc y) = refl
set_either f (c ∷ l) (suc x) zero = refl
set_either f (c ∷ l) (suc x) (suc y) = ap (λ (k : List Value). c ∷ k) (set_either (λ n. f (suc n)) l x y)

set_same : (l : List Value) (x : ℕ) → slice_set l x (get_or l x (I64 0)) ≡ l
set_same [] x = refl
set_same (c ∷ l) zero = refl
set_same (c ∷ l) (suc x) = ap (λ (k : List Value). c ∷ k) (set_same l x)

back_one : (ns : List ℕ) (initial here : List Value) (x : ℕ) → put_back ns initial (put_one x initial here) ≡ put_one x initial (put_back ns initial here)
back_one [] initial here x = refl
back_one (n ∷ ns) initial here x =
    ap (put_back ns initial) (set_either (λ k. get_or initial k (I64 0)) here x n) ∙ back_one ns initial (put_one n initial here) x

back_more : (ns : List ℕ) (initial here : List Value) (x : ℕ) → put_back (ns ++ x ∷ []) initial here ≡ put_one x initial (put_back ns initial here)
back_more [] initial here x = refl
back_more (n ∷ ns) initial here x = back_more ns initial (put_one n initial here) x

-- ---- one that is put back

none_past : (l : List Value) (x : ℕ) → slice_get l x ≡ None → length l ≤ x
none_past [] x e = omega arith
none_past (c ∷ l) zero e = absurd cc
none_past (c ∷ l) (suc x) e = omega (arith, none_past l x e)

pub put_past : (initial here : List Value) (x : ℕ) → length here ≡ length initial → None ≡ slice_get initial x → here ≡ put_one x initial here
put_past initial here x same e = sym (set_past here x (get_or initial x (I64 0)) (omega (arith, same, none_past initial x (sym e))))

-- ---- one that is set

-- one more is set
back_after : (ns : List ℕ) (initial here : List Value) (x : ℕ) (v : Value) → put_back ns initial here ≡ initial → put_back (ns ++ x ∷ []) initial (slice_set here x v) ≡ initial
back_after ns initial here x v e =
    back_more ns initial (slice_set here x v) x
    ∙ sym (back_one ns initial (slice_set here x v) x)
    ∙ ap (put_back ns initial) (set-set here x v (get_or initial x (I64 0)))
    ∙ back_one ns initial here x
    ∙ ap (put_one x initial) e
    ∙ set_same initial x

-- one more is set, and noted
pub noted : (initial here : List Value) (ns : List ℕ) (room x : ℕ) (v : Value) → AreRenewed initial here ns room → length ns < length here → AreRenewed initial (slice_set here x v) (ns ++ x ∷ []) room
noted initial here ns room x v a less =
    let same : length (slice_set here x v) ≡ length here = length-set here x v in
    record {
      long = same ∙ a.long;
      spare = omega (arith, same, a.spare);
      back = λ h. back_after ns initial here x v (a.back less);
    }
