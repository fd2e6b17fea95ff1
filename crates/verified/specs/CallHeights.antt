-- The height of functions above those that call nothing.
use Rattle.std.specs.Prelude.{ℕ, ◌+◌, max, List, [], ◌∷◌, Option, Some, None}
use Rattle.wasm_ast.specs.Code.{Code}
use Rattle.verified.specs.Calls.{calls_of}

-- the greatest of the functions' ranks, or 0 where there are no functions
abbrev pub most : (ℕ → ℕ) → List ℕ → ℕ
most rank [] = 0
most rank (f ∷ fs) = max (rank f) (most rank fs)

-- one more than the greatest rank that the body calls, or 0 where there is no body
abbrev pub height : (ℕ → ℕ) → Option Code → ℕ
height rank None = 0
height rank (Some body) = 1 + most rank (calls_of body)
