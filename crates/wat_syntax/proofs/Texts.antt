-- Strings that are names.
use Rattle.std.proofs.Common.{◌≡◌, ℕ, List, Bool, true, false, Some, None, refl}
use Rattle.std.specs.Prelude.{if◌then◌else◌}
use Rattle.std.specs.Str.{IsUtf8, is_utf8}
use Rattle.std.proofs.lemmas.Str.{IsUtf8-from_is_utf8}
use Rattle.wat_syntax.specs.declared.fault.Failure.{Failure}
use Rattle.wat_syntax.specs.inside.Reading.{State, text_at, name_at}
use Rattle.wat_syntax.proofs.Repeats.{Said, Failed, then_failed}

refused : (bytes : List ℕ) (after : State) (b : Bool) (f : Failure) → (b ≡ true → ⊥) → Failed {Y = List ℕ × State} f (if b then Some (bytes, after) else None)
refused bytes after true f bad = absurd (bad refl)
refused bytes after false f bad = tt

-- bytes that are not in UTF-8 are no name
pub name_failed : (bytes : List ℕ) (s after : State) (f : Failure) → Said (bytes, after) (text_at s) → (IsUtf8 bytes → ⊥) → Failed f (name_at s)
unfolding name_at
name_failed bytes s after f h bad =
    then_failed (bytes, after) (text_at s) (λ x. if is_utf8 x.0 then Some x else None) f h
    (refused bytes after (is_utf8 bytes) f (λ e. bad (IsUtf8-from_is_utf8 bytes e)))
