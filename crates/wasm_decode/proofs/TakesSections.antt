-- What is read is spelled so: sections, and the custom ones between them.
use Rattle.std.proofs.Common.{◌≡◌, ℕ, zero, suc, ◌≤◌, inl, inr, List, [], ◌∷◌, ◌++◌, length, Option, Some, None, refl, sym, arith}
use Rattle.leb.specs.inside.Bytes.{IsBytes}
use Rattle.wasm_items.specs.Bytes.{Then, Byte}
use Rattle.wasm_items.specs.inside.Reading.{Reads, is_empty, name_at, vector_at}
use Rattle.wasm_decode.specs.Grammar.{Section, IsCustom, Customs, VectorSection}
use Rattle.wasm_decode.specs.inside.ReadingModule.{customs_at, skip_customs, is_later, section_at, present_or, section_with}
use Rattle.wasm_items.proofs.TakesParts.{IsPart, part_takes, Sized-part, name_takes, Limited, vector_takes}
use Rattle.wasm_items.proofs.Tools.{Spelling, bind_some, guarded_some, some_is, never, by_byte, all_bytes, Takes, IsSound, Takes-cons, Takes-all, Takes-map, Takes-back, Then_takes, made_takes, Then-joined}
use Rattle.wasm_decode.proofs.SectionParts.{MaySpell, Section-map, Customs-nil}

-- ---- custom sections

one_more : (f g inside : List ℕ) → IsPart inside f → IsCustom inside → Customs g → Customs (0 ∷ (f ++ g))
one_more f g inside part custom others = record {
  contents = inside ∷ others.contents;
  spelled = Then-joined (0 ∷ f) g (Then-joined (0 ∷ []) f refl (Sized-part _ inside f part (refl, custom))) others.spelled;
}

customs_take : (n : ℕ) (bytes rest : List ℕ) → IsBytes bytes → customs_at n bytes ≡ Some rest → Takes Customs bytes rest
unfolding customs_at
customs_take zero bytes rest fits e = never rest e
customs_take (suc n) [] rest fits e = rw (← some_is [] rest e) (record { front = []; is_spelled = Customs-nil; parts = refl })
customs_take (suc n) (b ∷ bytes) rest fits e =
    let tail : IsBytes bytes = λ i. fits (suc i) in
    by_byte b 0 _ _ _ e (λ is h. rw is (Takes-cons 0 (
    Then_takes _ {R = λ f. Customs (0 ∷ f)} part_takes tail h λ inside f after s fits1 e1.
    let name = bind_some (name_at inside) _ rest e1 in
    let named = name_takes inside name.0 s.are_bytes name.1 in
    let custom : IsCustom inside = record {
      name = name.0.0;
      front = named.front;
      back = name.0.1;
      named = named.is_spelled;
      are_bytes = all_bytes name.0.1 (Takes-back named s.are_bytes);
      parts = named.parts;
    } in
    Takes-map (customs_take n after rest fits1 name.2) λ g t. one_more f g inside s custom t)))
    λ e1. rw (← some_is (b ∷ bytes) rest e1) (record { front = []; is_spelled = Customs-nil; parts = refl })

pub skip_customs_takes : (bytes rest : List ℕ) → IsBytes bytes → skip_customs bytes ≡ Some rest → Takes Customs bytes rest
unfolding skip_customs
skip_customs_takes bytes rest fits e = customs_take (suc (length bytes)) bytes rest fits e

-- ---- sections

-- a section with this content, or none
abbrev Holds : ℕ → Option (List ℕ) → List ℕ → Type 0
Holds number None bytes = bytes ≡ []
Holds number (Some inside) bytes = Then (Byte number) (IsPart inside) bytes

section_at_takes : (number : ℕ) → IsSound (section_at number) (Holds number)
unfolding section_at
section_at_takes number [] x fits e = rw (← some_is (None, []) x e) (record { front = []; is_spelled = refl; parts = refl })
section_at_takes number (b ∷ bytes) x fits e =
    let tail : IsBytes bytes = λ i. fits (suc i) in
    by_byte b number _ _ _ e (λ is h. rw is (Takes-cons number (
    made_takes (λ inside f. Holds number inside (number ∷ f)) part_takes tail h λ inside f s.
    Then-joined (number ∷ []) f refl s)))
    λ e1.
    let g = guarded_some (is_later number b) _ x e1 in
    rw (← some_is (None, b ∷ bytes) x g.1) (record { front = []; is_spelled = refl; parts = refl })

module _ {A : Type 0} {content : Reads A} (absent : Option A) (number : ℕ) (P : Spelling A) (sound : IsSound content P) where
  -- the section, if it is there, and the custom ones behind it
  abbrev pub SectionAndCustoms : A → List ℕ → Type 0
  SectionAndCustoms x bytes = Then (MaySpell number absent x (P x)) Customs bytes

  closed_takes : (section : Option (List ℕ)) (f after : List ℕ) (x : A × List ℕ) → Holds number section f → IsBytes after
      → present_or content absent section after ≡ Some x → Takes (λ g. SectionAndCustoms x.0 (f ++ g)) after x.1
  unfolding skip_customs
  closed_takes None f after x s fits e =
      let a = bind_some absent (λ x. Some (x, after)) x e in
      let one : MaySpell number absent a.0 (P a.0) f = inr (a.1, s) in
      rw (← some_is (a.0, after) x a.2) (record { front = []; is_spelled = Then-joined f [] one Customs-nil; parts = refl })
  closed_takes (Some inside) f after x s fits e =
      let a = bind_some (content inside) _ x e in
      let g = guarded_some (is_empty a.0.1) _ x a.2 in
      let rest = bind_some (skip_customs after) _ x g.1 in
      let whole = Takes-all inside a.0.1 (sound inside a.0 s.is_second.are_bytes a.1) g.0 in
      let sized = Sized-part (P a.0.0) inside s.back s.is_second whole in
      let here : Section number (P a.0.0) f = record { front = s.front; back = s.back; is_first = s.is_first; is_second = sized; parts = s.parts } in
      let customs = skip_customs_takes after rest.0 fits rest.1 in
      let all : SectionAndCustoms a.0.0 (f ++ customs.front) = Then-joined f customs.front (inl here) customs.is_spelled in
      rw (← some_is (a.0.0, rest.0) x rest.2) (record { front = customs.front; is_spelled = all; parts = customs.parts })

  pub section_takes : IsSound (section_with content absent number) SectionAndCustoms
  unfolding section_with
  section_takes bytes x fits e =
      Then_takes _ (section_at_takes number) fits e λ section f after s fits1 e1.
      closed_takes section f after x s fits1 e1

-- a section of at most so many items, and the custom sections behind it
pub record IsVectorSection {A : Type 0} (most number : ℕ) (spelled : Spelling A) (xs : List A) (bytes : List ℕ) : Type 0 where
  pub few : length xs ≤ most
  pub and_customs : Then (VectorSection number spelled xs) Customs bytes

is_vector_section : {A : Type 0} (most number : ℕ) (spelled : Spelling A) (xs : List A) (front back : List ℕ)
    → MaySpell number (Some []) xs (Limited most spelled xs) front → Customs back → IsVectorSection most number spelled xs (front ++ back)
is_vector_section most number spelled xs front back (inl h) customs = record {
  few = h.is_second.spelled.few;
  and_customs = Then-joined front back (inl (Section-map number front (λ inside s. s.is_vector) h)) customs;
}
is_vector_section most number spelled xs front back (inr h) customs =
    let empty = some_is [] xs h.0 in
    record { few = rw (← empty) (omega arith); and_customs = Then-joined front back (inr (sym empty, h.1)) customs }

pub vector_section_takes : {A : Type 0} {item : Reads A} (spelled : Spelling A) → IsSound item spelled → (most number : ℕ)
    → IsSound (section_with (vector_at item most) (Some []) number) (IsVectorSection most number spelled)
vector_section_takes spelled sound most number bytes x fits e =
    Takes-map (section_takes (Some []) number (Limited most spelled) (vector_takes spelled sound most) bytes x fits e) λ f s.
    rw s.parts (is_vector_section most number spelled x.0 s.front s.back s.is_first s.is_second)
