-- The calls in code: none is larger than the code, and each gives one operand at most.
use Rattle.std.proofs.Common.{◌≡◌, ℕ, zero, suc, ◌≤◌, List, [], ◌∷◌, ◌++◌, slice_get, Option, Some, None, refl, sym, subst, arith}
use Rattle.std.specs.Option.{option_map}
use Rattle.std.proofs.lemmas.Option.{slice_get-map}
use Rattle.std.specs.List.{AllByRecursion}
use Rattle.wasm_ast.specs.declared.types.FuncType.{FuncType}
use Rattle.wasm_ast.specs.declared.module.Module.{Module}
use Rattle.wasm_ast.specs.Code.{Code}
use Rattle.wasm_ast.specs.Code as code
use Rattle.verified.specs.Spaces.{spaces_of}
use Rattle.verified.specs.Modules.{TypeHolds}
use Rattle.verified.specs.Calls.{calls_of}
use Rattle.verified.specs.Sizes.{code_size}
use Rattle.verified.specs.Arities.{type_arity, known_arity, call_arity}

-- ---- each call is no larger than the code that makes it

joined : (P : ℕ → Type 0) (xs ys : List ℕ) → AllByRecursion P xs → AllByRecursion P ys → AllByRecursion P (xs ++ ys)
joined P [] ys h g = g
joined P (x ∷ xs) ys h g = (h.0, joined P xs ys h.1 g)

pub calls_small : (m : Module) (sizes : ℕ → ℕ) (n : ℕ) (c : Code) → code_size m sizes c ≤ n → AllByRecursion (λ f. sizes f ≤ n) (calls_of c)
calls_small m sizes n code.end h = tt
calls_small m sizes n (code.plain p rest) h = calls_small m sizes n rest (omega arith)
calls_small m sizes n (code.branch b rest) h = calls_small m sizes n rest (omega arith)
calls_small m sizes n (code.call f rest) h = (omega arith, calls_small m sizes n rest (omega arith))
calls_small m sizes n (code.call_indirect t rest) h = calls_small m sizes n rest (omega arith)
calls_small m sizes n (code.unreachable rest) h = calls_small m sizes n rest (omega arith)
calls_small m sizes n (code.block t body rest) h =
    joined (λ f. sizes f ≤ n) (calls_of body) (calls_of rest) (calls_small m sizes n body (omega arith)) (calls_small m sizes n rest (omega arith))
calls_small m sizes n (code.loop t body rest) h =
    joined (λ f. sizes f ≤ n) (calls_of body) (calls_of rest) (calls_small m sizes n body (omega arith)) (calls_small m sizes n rest (omega arith))
calls_small m sizes n (code.choice t body other rest) h =
    joined (λ f. sizes f ≤ n) (calls_of body) (calls_of other ++ calls_of rest) (calls_small m sizes n body (omega arith)) (joined (λ f. sizes f ≤ n) (calls_of other) (calls_of rest) (calls_small m sizes n other (omega arith)) (calls_small m sizes n rest (omega arith)))

-- ---- what types say of calls

type_at : (P : FuncType → Type 0) (ts : List FuncType) (n : ℕ) (t : FuncType) → AllByRecursion P ts → slice_get ts n ≡ Some t → P t
type_at P [] n t h e = absurd cc
type_at P (u ∷ ts) zero t h e = let same : u ≡ t = cc in subst P same h.0
type_at P (u ∷ ts) (suc n) t h e = type_at P ts n t h.1 e

pub narrow_calls : (m : Module) → AllByRecursion TypeHolds m.types → (f : ℕ) → (call_arity m f).gives ≤ 1
narrow_calls m h f =
    subst (λ o. (known_arity o).gives ≤ 1) (sym (slice_get-map (λ n. type_arity (slice_get m.types n)) (spaces_of m).functions f)) (by_number (slice_get (spaces_of m).functions f))
  where
    by_type : (o : Option FuncType) → ((t : FuncType) → o ≡ Some t → TypeHolds t) → (type_arity o).gives ≤ 1
    by_type None g = omega arith
    by_type (Some t) g = g t refl

    by_number : (o : Option ℕ) → (known_arity (option_map (λ n. type_arity (slice_get m.types n)) o)).gives ≤ 1
    by_number None = omega arith
    by_number (Some n) = by_type (slice_get m.types n) (λ t e. type_at TypeHolds m.types n t h e)
