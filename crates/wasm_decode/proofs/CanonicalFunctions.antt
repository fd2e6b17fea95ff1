-- That what is written is a spelling: functions.
use Rattle.std.proofs.Common.{◌≡◌, ℕ, ◌+◌, ◌<◌, ◌≤◌, ◌^◌, Bool, true, false, List, [], ◌∷◌, ◌++◌, length, replicate, refl, sym, ap, ◌∙◌, append_assoc, arith, length-append}
use Rattle.std.proofs.lemmas.List.{replicate-append-replicate}
use Rattle.std.specs.Prelude.{if◌then◌else◌}
use Rattle.std.specs.List.{AllByRecursion}
use Rattle.leb.specs.Spelling.{u32_spelling}
use Rattle.wasm_ast.specs.declared.types.ValType.{ValType}
use Rattle.wasm_ast.specs.declared.types.ValType.TheVariants.{I32, I64}
use Rattle.wasm_ast.specs.declared.module.Function.{Function}
use Rattle.wasm_items.specs.Bytes.{Then}
use Rattle.wasm_items.specs.Instructions.{SpellsExpression}
use Rattle.wasm_items.specs.Canonical.{val_type_bytes, expression_bytes}
use Rattle.wasm_decode.specs.Grammar.{SpellsGroup, locals_of, SpellsLocals, SpellsFunction}
use Rattle.wasm_decode.specs.Canonical.{is_same_type, groups_from, groups_of, group_bytes, locals_bytes, function_bytes}
use Rattle.wasm_ast.specs.Representable.{IsU32, IsFunctionHeld}
use Rattle.wasm_items.proofs.CanonicalParts.{IsSmall, IsSpelled, u32_spelled, some_u32, joined, small_front, small_back, sized_spelled, small_sized, some_sized, vector_spelled}
use Rattle.wasm_items.proofs.CanonicalInstructions.{expression_is_spelled}

pub same_types : (s t : ValType) → is_same_type s t ≡ true → s ≡ t
same_types I32 I32 e = refl
same_types I32 I64 e = absurd cc
same_types I64 I32 e = absurd cc
same_types I64 I64 e = refl

repeated : (n : ℕ) (t : ValType) (ts : List ValType) → replicate n t ++ (t ∷ ts) ≡ replicate (n + 1) t ++ ts
repeated n t ts =
    sym (ap (λ (xs : List ValType). xs ++ ts) (sym (replicate-append-replicate n 1 t)) ∙ append_assoc (replicate n t) (replicate 1 t) ts)

-- the locals of which these are the groups
grouped : (n : ℕ) (t : ValType) (us : List ValType) → locals_of (groups_from n t us) ≡ replicate n t ++ us
grouped n t [] = refl
grouped n t (u ∷ us) = by_case (is_same_type u t) n t u us (same_types u t) (grouped (n + 1) t us) (grouped 1 u us)
  where
    by_case : (b : Bool) (n : ℕ) (t u : ValType) (us : List ValType) → (b ≡ true → u ≡ t)
        → locals_of (groups_from (n + 1) t us) ≡ replicate (n + 1) t ++ us
        → locals_of (groups_from 1 u us) ≡ replicate 1 u ++ us
        → locals_of (if b then groups_from (n + 1) t us else (n, t) ∷ groups_from 1 u us) ≡ replicate n t ++ (u ∷ us)
    by_case true n t u us same longer other = longer ∙ sym (repeated n t us) ∙ ap (λ (x : ValType). replicate n t ++ (x ∷ us)) (sym (same refl))
    by_case false n t u us same longer other = ap (λ (xs : List ValType). replicate n t ++ xs) other

locals_are_grouped : (ts : List ValType) → ts ≡ locals_of (groups_of ts)
locals_are_grouped [] = refl
locals_are_grouped (t ∷ ts) = sym (grouped 1 t ts)

abbrev IsGroupHeld : ℕ × ValType → Type 0
IsGroupHeld g = IsU32 g.0

-- a group has no more locals than there are
groups_held : (n : ℕ) (t : ValType) (us : List ValType) → n + length us < 2 ^ 32 → AllByRecursion IsGroupHeld (groups_from n t us)
groups_held n t [] few = (omega (arith, few), tt)
groups_held n t (u ∷ us) few =
    by_case (is_same_type u t) n t u us (omega (arith, few)) (groups_held (n + 1) t us (omega (arith, few))) (groups_held 1 u us (omega (arith, few)))
  where
    by_case : (b : Bool) (n : ℕ) (t u : ValType) (us : List ValType) → n < 2 ^ 32
        → AllByRecursion IsGroupHeld (groups_from (n + 1) t us) → AllByRecursion IsGroupHeld (groups_from 1 u us)
        → AllByRecursion IsGroupHeld (if b then groups_from (n + 1) t us else (n, t) ∷ groups_from 1 u us)
    by_case true n t u us few longer other = longer
    by_case false n t u us few longer other = (few, other)

all_groups_held : (ts : List ValType) → length ts < 2 ^ 32 → AllByRecursion IsGroupHeld (groups_of ts)
all_groups_held [] few = tt
all_groups_held (t ∷ ts) few = groups_held 1 t ts (omega (arith, few))

group_is_spelled : IsSpelled IsGroupHeld SpellsGroup group_bytes
group_is_spelled g held small = joined (u32_spelling g.0) (val_type_bytes g.1) (u32_spelled g.0 held) refl

some_group : (g : ℕ × ValType) → 1 ≤ length (group_bytes g)
some_group g = omega (arith, some_u32 g.0, length-append (u32_spelling g.0) (val_type_bytes g.1))

locals_spelled : (ts : List ValType) → length ts < 2 ^ 32 → IsSmall (locals_bytes ts) → SpellsLocals ts (locals_bytes ts)
unfolding locals_bytes
locals_spelled ts few small =
    record {
      groups = groups_of ts;
      grouped = locals_are_grouped ts;
      spelled = vector_spelled IsGroupHeld SpellsGroup group_bytes group_is_spelled some_group (groups_of ts) (all_groups_held ts few) small;
    }

-- with few locals
abbrev pub IsFunctionSpelled : Function → Type 0
IsFunctionSpelled f = IsFunctionHeld f × (length f.locals < 2 ^ 32)

pub function_is_spelled : IsSpelled IsFunctionSpelled SpellsFunction function_bytes
unfolding function_bytes
function_is_spelled f held small =
    let front = locals_bytes f.locals in
    let back = expression_bytes f.body in
    let less = small_sized (front ++ back) small in
    sized_spelled (Then (SpellsLocals f.locals) (SpellsExpression f.body)) (front ++ back) small
    (joined front back (locals_spelled f.locals held.1 (small_front front back less)) (expression_is_spelled f.body held.0.1 (small_back front back less)))

pub some_function : (f : Function) → 1 ≤ length (function_bytes f)
unfolding function_bytes
some_function f = some_sized (locals_bytes f.locals ++ expression_bytes f.body)
