-- What is spelled so is read: sections, of which some are absent, and the custom ones between them.
use Rattle.std.proofs.Common.{◌≡◌, ℕ, zero, suc, ◌≤◌, ◌<◌, ◌&&◌, nat_le, inl, inr, Bool, true, List, [], ◌∷◌, ◌++◌, length, Option, Some, None, refl, sym, ap, ◌∙◌, arith, length-append}
use Rattle.std.proofs.lemmas.Bool.{eq-eqb, ne_eqb, le-leb, leb-true, lt-ltb, and_from, and_parts}
use Rattle.std.proofs.lemmas.List.{append-nil}
use Rattle.wasm_items.specs.Bytes.{Then, Items}
use Rattle.wasm_items.specs.inside.Reading.{Reads}
use Rattle.wasm_decode.specs.Grammar.{SpellsCustom, Customs, Section}
use Rattle.wasm_decode.specs.inside.ReadingModule.{customs_at, skip_customs, section_at, section_with}
use Rattle.wasm_items.proofs.AgainParts.{part_again, name_again}
use Rattle.wasm_items.proofs.Tools.{IsRead, Then-append, Then-Byte}
use Rattle.wasm_decode.proofs.SectionParts.{MaySpell}

-- without the custom sections in front of the bytes these are left, by any bound above the number of bytes
abbrev pub Skips : List ℕ → List ℕ → Type 0
Skips bytes rest = (n : ℕ) → length bytes < n → customs_at n bytes ≡ Some rest

custom_before : (content : List ℕ) (n : ℕ) (front after rest : List ℕ) → SpellsCustom content front → customs_at n after ≡ Some rest
    → customs_at (suc n) (front ++ after) ≡ Some rest
unfolding customs_at
custom_before content n front after rest h others =
    let custom = h.is_second.spelled.1 in
    rw (Then-Byte h, part_again after h.is_second, custom.parts, name_again custom.name custom.front custom.back custom.named) others

items_before : (contents : List (List ℕ)) (front after rest : List ℕ) → Items SpellsCustom contents front → Skips after rest
    → Skips (front ++ after) rest
items_before [] front after rest h skips n lt = rw h (skips n (rw h at lt))
items_before (content ∷ contents) front after rest h skips zero lt = absurd (omega arith)
items_before (content ∷ contents) front after rest h skips (suc n) lt =
    let behind = h.back ++ after in
    let split = Then-append front after h in
    let less : length behind < n = omega (arith, ap length split, length-append h.front behind, ap length (Then-Byte h.is_first)) in
    rw split (custom_before content n h.front behind rest h.is_first (items_before contents h.back after rest h.is_second skips n less))

pub customs_before : (front after rest : List ℕ) → Customs front → Skips after rest → Skips (front ++ after) rest
customs_before front after rest customs skips = items_before customs.contents front after rest customs.spelled skips

-- nothing stands there, or a section with this number or a later one
abbrev pub begins : (number : ℕ) → List ℕ → Bool
begins number [] = true
begins number (b ∷ bytes) = nat_le number b && nat_le b 11

-- what is left of the bytes without the custom sections in front of them
pub record Leads (number : ℕ) (bytes rest : List ℕ) : Type 0 where
  pub skips : Skips bytes rest
  pub is_section : begins number rest ≡ true

begins_more : (number : ℕ) (bytes : List ℕ) → begins (suc number) bytes ≡ true → begins number bytes ≡ true
begins_more number [] h = refl
begins_more number (b ∷ bytes) h =
    let parts = and_parts (nat_le (suc number) b) (nat_le b 11) h in
    let low : number ≤ b = omega (arith, leb-true (suc number) b parts.0) in
    and_from (nat_le number b) (nat_le b 11) (le-leb number b low) parts.1

-- reading from a section on, where custom ones may stand before it, reads it and skips the custom sections behind it
pub record IsSectionRead {A : Type 0} (content : Reads A) (absent : Option A) (number : ℕ) (x : A) (bytes rest : List ℕ) : Type 0 where
  pub start : List ℕ
  pub leads : Leads number bytes start
  pub is_read : section_with content absent number start ≡ Some (x, rest)

Skips-section : (number : ℕ) (bytes : List ℕ) → 1 ≤ number → Skips (number ∷ bytes) (number ∷ bytes)
unfolding customs_at
Skips-section number bytes some zero lt = absurd (omega arith)
Skips-section number bytes some (suc n) lt = rw (ne_eqb number 0 (λ e. absurd (omega arith))) refl

section_at-missing : (number : ℕ) (bytes : List ℕ) → begins (suc number) bytes ≡ true → section_at number bytes ≡ Some (None, bytes)
unfolding section_at
section_at-missing number [] h = refl
section_at-missing number (b ∷ bytes) h =
    let parts = and_parts (nat_le (suc number) b) (nat_le b 11) h in
    let low : suc number ≤ b = leb-true (suc number) b parts.0 in
    let another = ne_eqb b number (λ e. absurd (omega arith)) in
    rw (another, lt-ltb number b low, parts.1) refl

module _ {A : Type 0} (content : Reads A) (absent : Option A) (number : ℕ) {x : A} {P : List ℕ → Type 0} (some : 1 ≤ number) (last : number ≤ 11)
    (again : IsRead content x P) where
  present : (front behind rest : List ℕ) → Section number P front → Skips behind rest → IsSectionRead content absent number x (front ++ behind) rest
  unfolding section_with section_at skip_customs
  present front behind rest h skips =
      let inside = h.is_second.inside in
      let read : content inside ≡ Some (x, []) = ap content (sym (append-nil inside)) ∙ again inside [] h.is_second.spelled in
      let same = eq-eqb number number refl in
      let starts : front ++ behind ≡ number ∷ (h.back ++ behind) = ap (λ (f : List ℕ). f ++ behind) (Then-Byte h) in
      let is_section = and_from (nat_le number number) (nat_le number 11) (le-leb number number (omega arith)) (le-leb number 11 last) in
      record {
        start = number ∷ (h.back ++ behind);
        leads = record { skips = rw starts (Skips-section number (h.back ++ behind) some); is_section = is_section };
        is_read = rw (same, part_again behind h.is_second, read, skips (suc (length behind)) (omega arith)) refl;
      }

  missing : (behind rest : List ℕ) → absent ≡ Some x → Leads (suc number) behind rest → IsSectionRead content absent number x behind rest
  unfolding section_with
  missing behind rest none leads = record {
    start = rest;
    leads = record { skips = leads.skips; is_section = begins_more number rest leads.is_section };
    is_read = rw (section_at-missing number rest leads.is_section, none) refl;
  }

  -- the section, if it is there, and custom ones stand before what follows
  pub section_again : {V Q : List ℕ → Type 0} (bytes rest : List ℕ) → (h : Then V (Then Customs Q) bytes) → MaySpell number absent x P h.front
      → Leads (suc number) h.is_second.back rest → IsSectionRead content absent number x bytes rest
  section_again bytes rest h spelled leads =
      let after = h.is_second in
      let skips = customs_before after.front after.back rest after.is_first leads.skips in
      rw (h.parts, after.parts) (elim spelled [
        | inl here ↦ present h.front (after.front ++ after.back) rest here skips
        | inr gone ↦ rw gone.1 (missing (after.front ++ after.back) rest gone.0 (record { skips = skips; is_section = leads.is_section }))
      ])
