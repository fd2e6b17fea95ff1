-- Sections, of which some may be absent, whichever way they are looked at.
use Rattle.std.proofs.Common.{◌≡◌, ℕ, suc, ◌⊎◌, List, [], ◌∷◌, length, Option, Some, refl, ap}
use Rattle.wasm_ast.specs.declared.module.Function.{Function}
use Rattle.wasm_decode.specs.Grammar.{type_numbers, Customs, Section}

-- a section with this content, or nothing where this may stand for it
abbrev pub MaySpell : {A : Type 0} → ℕ → Option A → A → (List ℕ → Type 0) → List ℕ → Type 0
MaySpell number absent x content bytes = Section number content bytes ⊎ ((absent ≡ Some x) × (bytes ≡ []))

pub Section-map : {P Q : List ℕ → Type 0} (number : ℕ) (bytes : List ℕ) → ((inside : List ℕ) → P inside → Q inside)
    → Section number P bytes → Section number Q bytes
Section-map number bytes f h =
    let sized = h.is_second in
    record {
      front = h.front;
      back = h.back;
      is_first = h.is_first;
      is_second = record {
        size = sized.size;
        inside = sized.inside;
        counted = sized.counted;
        spelled = f sized.inside sized.spelled;
        parts = sized.parts;
      };
      parts = h.parts;
    }

pub Customs-nil : Customs []
Customs-nil = record { contents = []; spelled = refl }

pub length-type_numbers : (functions : List Function) → length (type_numbers functions) ≡ length functions
length-type_numbers [] = refl
length-type_numbers (f ∷ fs) = ap suc (length-type_numbers fs)
