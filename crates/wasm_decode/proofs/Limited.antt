-- Items that are spelled so and within limits: apart, the spelling of all of them and the limits of each.
use Rattle.std.proofs.Common.{ℕ, zero, suc, ◌≤◌, inl, inr, List, [], ◌∷◌, arith}
use Rattle.std.specs.List.{AllByRecursion}
use Rattle.wasm_ast.specs.declared.types.FuncType.{FuncType}
use Rattle.wasm_ast.specs.Limits.{IsTypeWithin, parameters_of, max_locals}
use Rattle.wasm_items.specs.Bytes.{Items, Vector}
use Rattle.wasm_decode.specs.Grammar.{VectorSection}
use Rattle.wasm_items.proofs.Tools.{Spelling, Within}
use Rattle.wasm_decode.proofs.SectionParts.{Section-map}

-- no type has more parameters than a function may have
pub are_few : (types : List FuncType) → AllByRecursion IsTypeWithin types → (t : ℕ) → parameters_of types t ≤ max_locals
are_few [] h t = omega arith
are_few (type ∷ types) h zero = h.0.0
are_few (type ∷ types) h (suc t) = are_few types h.1 t

module _ {A : Type 0} (spelled : Spelling A) (limits : A → Type 0) where
  Items-apart : (xs : List A) (bytes : List ℕ) → Items (Within spelled limits) xs bytes → Items spelled xs bytes × AllByRecursion limits xs
  Items-apart [] bytes h = (h, tt)
  Items-apart (x ∷ xs) bytes h =
      let others = Items-apart xs h.back h.is_second in
      (record { front = h.front; back = h.back; is_first = h.is_first.0; is_second = others.0; parts = h.parts }, (h.is_first.1, others.1))

  Items-together : (xs : List A) (bytes : List ℕ) → Items spelled xs bytes → AllByRecursion limits xs → Items (Within spelled limits) xs bytes
  Items-together [] bytes h all = h
  Items-together (x ∷ xs) bytes h all =
      let others = Items-together xs h.back h.is_second all.1 in
      record { front = h.front; back = h.back; is_first = (h.is_first, all.0); is_second = others; parts = h.parts }

  pub Vector-apart : (xs : List A) (bytes : List ℕ) → Vector (Within spelled limits) xs bytes → Vector spelled xs bytes × AllByRecursion limits xs
  Vector-apart xs bytes h =
      let items = Items-apart xs h.back h.is_second in
      (record { front = h.front; back = h.back; is_first = h.is_first; is_second = items.0; parts = h.parts }, items.1)

  pub Vector-together : (xs : List A) (bytes : List ℕ) → Vector spelled xs bytes → AllByRecursion limits xs → Vector (Within spelled limits) xs bytes
  Vector-together xs bytes h all =
      record { front = h.front; back = h.back; is_first = h.is_first; is_second = Items-together xs h.back h.is_second all; parts = h.parts }

  pub VectorSection-apart : (number : ℕ) (xs : List A) (bytes : List ℕ) → VectorSection number (Within spelled limits) xs bytes
      → VectorSection number spelled xs bytes × AllByRecursion limits xs
  VectorSection-apart number xs bytes (inl h) =
      (inl (Section-map number bytes (λ inside v. (Vector-apart xs inside v).0) h), (Vector-apart xs h.is_second.inside h.is_second.spelled).1)
  VectorSection-apart number [] bytes (inr h) = (inr h, tt)
  VectorSection-apart number (x ∷ xs) bytes (inr h) = absurd (let none = h.0 in cc)

  pub VectorSection-together : (number : ℕ) (xs : List A) (bytes : List ℕ) → VectorSection number spelled xs bytes → AllByRecursion limits xs
      → VectorSection number (Within spelled limits) xs bytes
  VectorSection-together number xs bytes (inl h) all = inl (Section-map number bytes (λ inside v. Vector-together xs inside v all) h)
  VectorSection-together number xs bytes (inr h) all = inr h
