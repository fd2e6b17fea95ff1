-- Names, by their bytes.
use Rattle.std.proofs.Common.{◌≡◌, ℕ, List, Some, None, refl}
use Rattle.std.proofs.lemmas.Bool.{false_from_ne_true}
use Rattle.std.proofs.lemmas.Str.{IsUtf8-from_is_utf8, is_utf8-from_IsUtf8}
use Rattle.std.specs.Str.{IsUtf8, is_utf8}
use Rattle.wasm_items.specs.inside.Reading.{u32_at, take_at, part_at, name_at}

pub name_at-utf8 : (bytes mid text rest : List ℕ) (len : ℕ) → u32_at bytes ≡ Some (len, mid) → take_at len mid ≡ Some (text, rest)
    → IsUtf8 text → name_at bytes ≡ Some (text, rest)
unfolding name_at part_at
name_at-utf8 bytes mid text rest len e f utf8 = rw (e, f, is_utf8-from_IsUtf8 text utf8) refl

pub name_at-not_utf8 : (bytes mid text rest : List ℕ) (len : ℕ) → u32_at bytes ≡ Some (len, mid) → take_at len mid ≡ Some (text, rest)
    → ¬ (IsUtf8 text) → name_at bytes ≡ None
unfolding name_at part_at
name_at-not_utf8 bytes mid text rest len e f not_utf8 =
    rw (e, f, false_from_ne_true (is_utf8 text) (λ utf8. not_utf8 (IsUtf8-from_is_utf8 text utf8))) refl
