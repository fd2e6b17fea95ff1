-- Globals that are renewed by the numbers of those that were set.
use Rattle.std.specs.Prelude.{◌≡◌, ◌<◌, ◌≤◌, ℕ, List, [], ◌∷◌, length, get_or, slice_set}
use Rattle.wasm_ast.specs.declared.types.Value.{Value}
use Rattle.wasm_ast.specs.declared.types.Value.TheVariants.{I64}

-- the globals, and their initial values
pub record Renewed : Type 0 where
  pub here : List Value
  pub initial : List Value

-- sets one global, or those with these numbers, to the initial value
abbrev pub put_one : (number : ℕ) (initial here : List Value) → List Value
put_one number initial here = slice_set here number (get_or initial number (I64 0))

abbrev pub put_back : (numbers : List ℕ) (initial here : List Value) → List Value
put_back [] initial here = here
put_back (n ∷ ns) initial here = put_back ns initial (put_one n initial here)

-- There is room for as many numbers as there are globals. While fewer are noted, they are all that were set.
pub record AreRenewed (initial here : List Value) (numbers : List ℕ) (room : ℕ) : Type 0 where
  pub long : length here ≡ length initial
  pub spare : length here ≤ room
  pub back : length numbers < length here → put_back numbers initial here ≡ initial
