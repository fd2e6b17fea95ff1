-- That no groups of the same locals are fewer or shorter than those that are written.
use Rattle.std.proofs.Common.{◌≡◌, ℕ, zero, suc, ◌+◌, ◌≤◌, Bool, true, false, List, [], ◌∷◌, ◌++◌, length, replicate, refl, sym, ap, ◌∙◌, subst, arith, length-append}
use Rattle.std.specs.Prelude.{if◌then◌else◌}
use Rattle.std.specs.List.{flat_map}
use Rattle.leb.specs.Spelling.{u32_spelling}
use Rattle.wasm_ast.specs.declared.types.ValType.{ValType}
use Rattle.wasm_ast.specs.declared.types.ValType.TheVariants.{I32, I64}
use Rattle.wasm_items.specs.Types.{val_type_byte}
use Rattle.wasm_decode.specs.Grammar.{locals_of}
use Rattle.wasm_decode.specs.Canonical.{is_same_type, groups_from, groups_of, group_bytes}
use Rattle.wasm_items.proofs.ShortestParts.{u32_sum}
use Rattle.wasm_decode.proofs.CanonicalGroups.{length-groups_from}
use Rattle.wasm_decode.proofs.CanonicalFunctions.{same_types}

abbrev pub bytes_of : List (ℕ × ValType) → ℕ
bytes_of gs = length (flat_map group_bytes gs)

same_itself : (t : ValType) → is_same_type t t ≡ true
same_itself I32 = refl
same_itself I64 = refl

group_length : (n : ℕ) (t : ValType) → length (group_bytes (n, t)) ≡ length (u32_spelling n) + 1
group_length n t = length-append (u32_spelling n) (val_type_byte t ∷ [])

bytes_of-cons : (g : ℕ × ValType) (gs : List (ℕ × ValType)) → bytes_of (g ∷ gs) ≡ length (group_bytes g) + bytes_of gs
bytes_of-cons g gs = length-append (group_bytes g) (flat_map group_bytes gs)

-- a first group in two is no shorter
two_in_one : (a b : ℕ) (t : ValType) (us : List ValType) → bytes_of (groups_from (a + b) t us) ≤ length (group_bytes (a, t)) + bytes_of (groups_from b t us)
two_in_one a b t [] =
    omega (arith, u32_sum a b, group_length (a + b) t, group_length a t, group_length b t, bytes_of-cons (a + b, t) [], bytes_of-cons (b, t) [])
two_in_one a b t (u ∷ us) = by_case (is_same_type u t) a b t u us (two_in_one a (b + 1) t us)
  where
    longer : (a b : ℕ) (t : ValType) (us : List ValType)
        → bytes_of (groups_from (a + (b + 1)) t us) ≤ length (group_bytes (a, t)) + bytes_of (groups_from (b + 1) t us)
        → bytes_of (groups_from (a + b + 1) t us) ≤ length (group_bytes (a, t)) + bytes_of (groups_from (b + 1) t us)
    longer a b t us le =
        let e : a + (b + 1) ≡ a + b + 1 = omega arith in
        subst (λ (n : ℕ). bytes_of (groups_from n t us) ≤ length (group_bytes (a, t)) + bytes_of (groups_from (b + 1) t us)) e le

    by_case : (same : Bool) (a b : ℕ) (t u : ValType) (us : List ValType)
        → bytes_of (groups_from (a + (b + 1)) t us) ≤ length (group_bytes (a, t)) + bytes_of (groups_from (b + 1) t us)
        → bytes_of (if same then groups_from (a + b + 1) t us else (a + b, t) ∷ groups_from 1 u us)
        ≤ length (group_bytes (a, t)) + bytes_of (if same then groups_from (b + 1) t us else (b, t) ∷ groups_from 1 u us)
    by_case true a b t u us le = longer a b t us le
    by_case false a b t u us le =
        omega (arith, u32_sum a b, group_length (a + b) t, group_length a t, group_length b t, bytes_of-cons (a + b, t) (groups_from 1 u us), bytes_of-cons (b, t) (groups_from 1 u us))

-- locals of the type of the first group are more of it
repeats : (k n : ℕ) (t : ValType) (us : List ValType) → groups_from n t (replicate k t ++ us) ≡ groups_from (n + k) t us
repeats zero n t us = let e : n ≡ n + 0 = omega arith in ap (λ (m : ℕ). groups_from m t us) e
repeats (suc k) n t us =
    let e : n + 1 + k ≡ n + suc k = omega arith in
    rw (same_itself t) (repeats k (n + 1) t us ∙ ap (λ (m : ℕ). groups_from m t us) e)

-- one group more: at most one more is written, and no more bytes than it has
record OneMore (n : ℕ) (t : ValType) (before after : List (ℕ × ValType)) : Type 0 where
  pub count : length after ≤ 1 + length before
  pub bytes : bytes_of after ≤ length (group_bytes (n, t)) + bytes_of before

begun : (n : ℕ) (t : ValType) (us : List ValType) → OneMore n t (groups_of us) (groups_from n t us)
begun n t [] = record { count = omega arith; bytes = omega (arith, bytes_of-cons (n, t) []) }
begun n t (u ∷ us) = by_case (is_same_type u t) n t u us (same_types u t)
  where
    joins : (n : ℕ) (t u : ValType) (us : List ValType) → u ≡ t → OneMore n t (groups_from 1 u us) (groups_from (n + 1) t us)
    joins n t u us e =
        rw e (record { count = omega (arith, length-groups_from (n + 1) 1 t us); bytes = two_in_one n 1 t us })

    by_case : (same : Bool) (n : ℕ) (t u : ValType) (us : List ValType) → (same ≡ true → u ≡ t)
        → OneMore n t (groups_from 1 u us) (if same then groups_from (n + 1) t us else (n, t) ∷ groups_from 1 u us)
    by_case true n t u us e = joins n t u us (e refl)
    by_case false n t u us e = record { count = omega arith; bytes = omega (arith, bytes_of-cons (n, t) (groups_from 1 u us)) }

more_locals : (n : ℕ) (t : ValType) (us : List ValType) → OneMore n t (groups_of us) (groups_of (replicate n t ++ us))
more_locals zero t us = record { count = omega arith; bytes = omega arith }
more_locals (suc k) t us =
    let e : groups_from (suc k) t us ≡ groups_from 1 t (replicate k t ++ us) =
    let s : suc k ≡ 1 + k = omega arith in
    ap (λ (m : ℕ). groups_from m t us) s ∙ sym (repeats k 1 t us) in
    subst (λ (gs : List (ℕ × ValType)). OneMore (suc k) t (groups_of us) gs) e (begun (suc k) t us)

-- the groups that are written, against any
pub record IsNoLonger (written given : List (ℕ × ValType)) : Type 0 where
  pub count : length written ≤ length given
  pub bytes : bytes_of written ≤ bytes_of given

pub groups_are_shortest : (gs : List (ℕ × ValType)) → IsNoLonger (groups_of (locals_of gs)) gs
groups_are_shortest [] = record { count = omega arith; bytes = omega arith }
groups_are_shortest (g ∷ gs) =
    let others = groups_are_shortest gs in
    let one = more_locals g.0 g.1 (locals_of gs) in
    record {
      count = omega (arith, others.count, one.count);
      bytes = omega (arith, others.bytes, one.bytes, bytes_of-cons g gs);
    }
