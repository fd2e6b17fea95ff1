-- How locals are grouped, one local at a time.
use Rattle.std.proofs.Common.{◌≡◌, ℕ, ◌+◌, ◌<◌, ◌≤◌, Bool, true, false, List, [], ◌∷◌, ◌++◌, length, get_or, drop, refl, sym, ap, ◌∙◌, add-one, append_assoc, drop-cons, arith}
use Rattle.std.proofs.lemmas.List.{append-nil, drop_all}
use Rattle.std.specs.Prelude.{if◌then◌else◌}
use Rattle.std.specs.List.{flat_map}
use denote.Enum.Bare.{sameb}
use Rattle.wasm_ast.specs.declared.types.ValType.{ValType}
use Rattle.wasm_ast.specs.declared.types.ValType.TheVariants.{I32, I64}
use Rattle.wasm_ast.specs.contracts.types.ValType.{the_type}
use Rattle.wasm_decode.specs.Canonical.{is_same_type, groups_from, group_bytes}

-- how many groups there are does not go by how many locals the first has
pub length-groups_from : (m n : ℕ) (t : ValType) (us : List ValType) → length (groups_from m t us) ≡ length (groups_from n t us)
length-groups_from m n t [] = refl
length-groups_from m n t (u ∷ us) =
    by_case (is_same_type u t) m n t us u (length-groups_from (m + 1) (n + 1) t us)
  where
    by_case : (b : Bool) (m n : ℕ) (t : ValType) (us : List ValType) (u : ValType)
        → length (groups_from (m + 1) t us) ≡ length (groups_from (n + 1) t us)
        → length (if b then groups_from (m + 1) t us else (m, t) ∷ groups_from 1 u us)
        ≡ length (if b then groups_from (n + 1) t us else (n, t) ∷ groups_from 1 u us)
    by_case true m n t us u same = same
    by_case false m n t us u same = refl

-- the types of a program are compared so
pub same_type-is : (s t : ValType) → sameb the_type s t ≡ is_same_type s t
same_type-is I32 I32 = refl
same_type-is I32 I64 = refl
same_type-is I64 I32 = refl
same_type-is I64 I64 = refl

-- ---- the groups are counted

-- so many groups are behind, counting that of the last type, and so many are to come
pub record Counted (first : ValType) (us : List ValType) (groups : ℕ) (t : ValType) (k : ℕ) : Type 0 where
  pub few : groups ≤ k + 1
  pub so_far : groups + length (groups_from 1 t (drop k us)) ≡ 1 + length (groups_from 1 first us)

-- another of the last type
pub counted_same : (first : ValType) (us : List ValType) (groups : ℕ) (t : ValType) (k : ℕ) (d : ValType) → Counted first us groups t k
    → k < length us → is_same_type (get_or us k d) t ≡ true → Counted first us groups t (k + 1)
counted_same first us groups t k d c below same =
    let here : drop k us ≡ get_or us k d ∷ drop (k + 1) us = rw add-one (drop-cons us k d below) in
    let step : length (groups_from 1 t (drop k us)) ≡ length (groups_from 1 t (drop (k + 1) us)) =
    ap (λ (xs : List ValType). length (groups_from 1 t xs)) here ∙ rw same (length-groups_from (1 + 1) 1 t (drop (k + 1) us)) in
    record { few = omega (arith, c.few); so_far = omega (arith, c.so_far, step) }

-- ---- the groups are written

-- what is written, and what is to come once a group of so many has begun
pub record Grouped (us : List ValType) (whole out : List ℕ) (count : ℕ) (t : ValType) (k : ℕ) : Type 0 where
  pub few : count ≤ k + 1
  pub so_far : out ++ flat_map group_bytes (groups_from count t (drop k us)) ≡ whole

-- another of the last type
pub grouped_same : (us : List ValType) (whole out : List ℕ) (count : ℕ) (t : ValType) (k : ℕ) (d : ValType) → Grouped us whole out count t k
    → k < length us → is_same_type (get_or us k d) t ≡ true → Grouped us whole out (count + 1) t (k + 1)
grouped_same us whole out count t k d g below same =
    let here : drop k us ≡ get_or us k d ∷ drop (k + 1) us = rw add-one (drop-cons us k d below) in
    let step : groups_from count t (drop k us) ≡ groups_from (count + 1) t (drop (k + 1) us) =
    ap (λ (xs : List ValType). groups_from count t xs) here ∙ rw same refl in
    record { few = omega (arith, g.few); so_far = rw (← step) g.so_far }

-- one of another type, behind the group that it ends
pub grouped_next : (us : List ValType) (whole out longer : List ℕ) (count : ℕ) (t : ValType) (k : ℕ) (d : ValType) → Grouped us whole out count t k
    → k < length us → is_same_type (get_or us k d) t ≡ false → longer ≡ out ++ group_bytes (count, t)
    → Grouped us whole longer 1 (get_or us k d) (k + 1)
grouped_next us whole out longer count t k d g below other wrote =
    let here : drop k us ≡ get_or us k d ∷ drop (k + 1) us = rw add-one (drop-cons us k d below) in
    let step : groups_from count t (drop k us) ≡ (count, t) ∷ groups_from 1 (get_or us k d) (drop (k + 1) us) =
    ap (λ (xs : List ValType). groups_from count t xs) here ∙ rw other refl in
    record { few = omega arith; so_far = rw (wrote, append_assoc) (rw step at g.so_far) }

-- the last group
pub grouped_last : (us : List ValType) (whole out : List ℕ) (count : ℕ) (t : ValType) (k : ℕ) → Grouped us whole out count t k → length us ≤ k
    → out ++ group_bytes (count, t) ≡ whole
grouped_last us whole out count t k g all =
    let none : drop k us ≡ [] = drop_all k us all in
    let last : out ++ flat_map group_bytes (groups_from count t []) ≡ whole = rw none at g.so_far in
    ap (λ (bs : List ℕ). out ++ bs) (sym (append-nil (group_bytes (count, t)))) ∙ last
