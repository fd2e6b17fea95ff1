-- How the reached bytes are found: marks of bytes, what is known along code, and extents of adjacent bytes.
use Rattle.std.specs.Prelude.{◌≡◌, ℕ, zero, suc, ◌+◌, ◌-◌, ◌≤◌, List, [], ◌∷◌, get_or, set, Bool, true, false, cond}
use Rattle.wasm_ast.specs.declared.body.Instr.{Instr}
use Rattle.wasm_ast.specs.declared.plain.Plain.{Plain}
use Rattle.wasm_ast.specs.Code.{Code}
use Rattle.wasm_ast.specs.Code as code
use Rattle.wasm_ast.specs.View.{then_code}
use Rattle.verified.specs.declared.arity.Arity.{Arity}
use Rattle.verified.specs.declared.operand.Operand.{Operand}
use Rattle.verified.specs.declared.extents.Extent.{Extent}
use Rattle.verified.specs.Arities.{branch_arity, arity_at, block_arity, test_arity}
use Rattle.verified.specs.Reached.{Access, known_after, known_behind, plain_accesses}
use Rattle.verified.specs.inside.Extents.{AreInOrder, in_extent, in_extents}

-- ---- marks, one for each byte of the memory

-- this many bytes are marked; those past the memory are left out
abbrev pub marked_to : ℕ → ℕ → List Bool → List Bool
marked_to from zero marks = marks
marked_to from (suc width) marks = set (marked_to from width marks) (from + width) true

abbrev pub marked : Access → List Bool → List Bool
marked a marks = marked_to a.from a.width marks

abbrev pub marked_all : List Access → List Bool → List Bool
marked_all [] marks = marks
marked_all (a ∷ others) marks = marked_all others (marked a marks)

-- what is known along code, and the marks so far
pub record Trail : Type 0 where
  pub known : List Operand
  pub marks : List Bool

abbrev pub trail : List Operand → List Bool → Trail
trail known marks = record { known = known; marks = marks }

abbrev pub passing : Arity → Trail → Trail
passing a s = trail (known_after a s.known) s.marks

abbrev pub with_plain : Plain → Trail → Trail
with_plain p s = trail (known_behind p s.known) (marked_all (plain_accesses p s.known) s.marks)

abbrev pub trail_along : List Arity → Trail → Code → Trail
trail_along arities s code.end = s
trail_along arities s (code.plain p rest) = trail_along arities (with_plain p s) rest
trail_along arities s (code.branch b rest) = trail_along arities (passing (branch_arity b) s) rest
trail_along arities s (code.call f rest) = trail_along arities (passing (arity_at arities f) s) rest
trail_along arities s (code.call_indirect t rest) = trail_along arities s rest
trail_along arities s (code.unreachable rest) = trail_along arities s rest
trail_along arities s (code.block t body rest) =
    trail_along arities (trail (known_after (block_arity t) s.known) (trail_along arities (trail [] s.marks) body).marks) rest
trail_along arities s (code.loop t body rest) =
    trail_along arities (trail (known_after (block_arity t) s.known) (trail_along arities (trail [] s.marks) body).marks) rest
trail_along arities s (code.choice t body other rest) =
    trail_along arities (trail (known_after (block_arity t) (known_after test_arity s.known)) (trail_along arities (trail [] (trail_along arities (trail [] s.marks) body).marks) other).marks) rest

-- the marks after code that begins with no operands
abbrev pub marks_along : List Arity → Code → List Bool → List Bool
marks_along arities body marks = (trail_along arities (trail [] marks) body).marks

-- after an instruction
abbrev pub trail_behind : List Arity → Instr → Trail → Trail
trail_behind arities i s = trail_along arities s (then_code i code.end)

-- the number of marked bytes below this byte
abbrev pub marked_below : List Bool → ℕ → ℕ
marked_below marks zero = 0
marked_below marks (suc byte) = marked_below marks byte + cond (get_or marks byte false) 1 0

-- ---- extents

-- the end of the last one
abbrev pub end_of : ℕ → List Extent → ℕ
end_of low [] = low
end_of low (s ∷ ss) = end_of s.to ss

-- the number of bytes in all of them
abbrev pub size_of : ℕ → List Extent → ℕ
size_of below [] = below
size_of below (s ∷ ss) = size_of (below + (s.to - s.from)) ss

-- the extents are those of the marked bytes
pub record AreExtents (marks : List Bool) (extents : List Extent) : Type 0 where
  pub order : AreInOrder 0 0 extents
  pub count : (byte : ℕ) → in_extents extents byte ≡ marked_below marks byte

-- the extents end at this byte or before it, and have `below` bytes together
pub record IsUpTo (extents : List Extent) (byte below : ℕ) : Type 0 where
  pub order : AreInOrder 0 0 extents
  pub behind : end_of 0 extents ≤ byte
  pub size : size_of 0 extents ≡ below

-- one more extent, with its bytes
pub record Adds (s : Extent) (old new : List Extent) : Type 0 where
  pub up_to : IsUpTo new s.to (s.below + (s.to - s.from))
  pub sum : (byte : ℕ) → in_extents new byte ≡ in_extents old byte + in_extent s byte
