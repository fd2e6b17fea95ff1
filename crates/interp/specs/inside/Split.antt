-- Operands and locals in two parts: those of the innermost entry or frame, and those below, with the room for all of
-- them. Operands are in order with the topmost first, locals with the first one first.
use Rattle.std.specs.Prelude.{ℕ, ◌+◌, ◌-◌, ◌<◌, List, length}
use Rattle.wasm_ast.specs.declared.types.Value.{Value}

pub record Below : Type 0 where
  pub values : List Value
  pub room : ℕ

pub record Split : Type 0 where
  pub here : List Value
  pub below : Below

-- the number of all
abbrev pub all_of : Split → ℕ
all_of s = length s.here + length s.below.values

-- the room above those below
abbrev pub free_of : Split → ℕ
free_of s = s.below.room - length s.below.values

-- there is room for one more
abbrev pub HasSpare : Split → Type 0
HasSpare s = all_of s < s.below.room
