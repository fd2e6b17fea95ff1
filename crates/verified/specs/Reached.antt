-- The bytes of the memory that loads and stores of a module reach (Core 1.0, 4.4.4). All functions count, called or
-- not. Their addresses are known constants (P10): a constant instruction gives one, which is known until it is taken.
use Rattle.std.specs.Prelude.{ℕ, zero, suc, ◌+◌, List, [], ◌∷◌, ◌++◌, drop, get_or, replicate, leb, ltb, Bool, false, cond, ◌&&◌, ◌||◌}
use Rattle.wasm_ast.specs.declared.plain.Memory.{Memory}
use Rattle.wasm_ast.specs.declared.plain.Memory.TheVariants as memory
use Rattle.wasm_ast.specs.declared.plain.Plain.{Plain}
use Rattle.wasm_ast.specs.declared.plain.Plain.TheVariants as plain
use Rattle.wasm_ast.specs.declared.module.Function.{Function}
use Rattle.wasm_ast.specs.declared.module.Module.{Module}
use Rattle.wasm_ast.specs.Code.{Code}
use Rattle.wasm_ast.specs.Code as code
use Rattle.wasm_ast.specs.Widths.{load_width, store_width}
use Rattle.verified.specs.declared.arity.Arity.{Arity}
use Rattle.verified.specs.declared.operand.Operand.{Operand}
use Rattle.verified.specs.declared.operand.Operand.TheVariants.{Unknown, Known}
use Rattle.verified.specs.Arities.{plain_arity, branch_arity, arity_at, arity_table, block_arity, test_arity}
use Rattle.verified.specs.Memory.{memory_bytes, number_of}

-- the bytes that one load or store reaches
pub record Access : Type 0 where
  pub from : ℕ
  pub width : ℕ

-- what is known of the operands, the topmost first, after this many were taken and given
abbrev pub known_after : Arity → List Operand → List Operand
known_after a known = replicate a.gives Unknown ++ drop a.takes known

abbrev pub known_behind : Plain → List Operand → List Operand
known_behind (plain.Const v) known = Known (number_of v) ∷ known
known_behind p known = known_after (plain_arity p) known

-- the access at a known address, with the offset added
abbrev pub access_at : Operand → ℕ → ℕ → List Access
access_at Unknown offset width = []
access_at (Known address) offset width = record { from = address + offset; width = width } ∷ []

-- the address of a store is below the value that it stores
abbrev pub memory_accesses : Memory → List Operand → List Access
memory_accesses (memory.Load op a) known = access_at (get_or known 0 Unknown) a.offset (load_width op)
memory_accesses (memory.Store op a) known = access_at (get_or known 1 Unknown) a.offset (store_width op)
memory_accesses memory.Size known = []
memory_accesses memory.Grow known = []

abbrev pub plain_accesses : Plain → List Operand → List Access
plain_accesses (plain.Memory op) known = memory_accesses op known
plain_accesses p known = []

-- the accesses of code, where `known` is what is known of the operands; `arities` has the arity of a call of each
-- function
abbrev pub accesses_along : List Arity → Code → List Operand → List Access
accesses_along arities code.end known = []
accesses_along arities (code.plain p rest) known =
    plain_accesses p known ++ accesses_along arities rest (known_behind p known)
accesses_along arities (code.branch b rest) known = accesses_along arities rest (known_after (branch_arity b) known)
accesses_along arities (code.call f rest) known = accesses_along arities rest (known_after (arity_at arities f) known)
accesses_along arities (code.call_indirect t rest) known = accesses_along arities rest known
accesses_along arities (code.unreachable rest) known = accesses_along arities rest known
accesses_along arities (code.block t body rest) known =
    accesses_along arities body [] ++ accesses_along arities rest (known_after (block_arity t) known)
accesses_along arities (code.loop t body rest) known =
    accesses_along arities body [] ++ accesses_along arities rest (known_after (block_arity t) known)
accesses_along arities (code.choice t body other rest) known =
    accesses_along arities body []
    ++ (accesses_along arities other [] ++ accesses_along arities rest (known_after (block_arity t) (known_after test_arity known)))

abbrev pub accesses_in : List Arity → List Function → List Access
accesses_in arities [] = []
accesses_in arities (f ∷ fs) = accesses_along arities f.body [] ++ accesses_in arities fs

-- the accesses of all functions
abbrev pub accesses : Module → List Access
accesses m = accesses_in (arity_table m) m.functions

abbrev pub covers : ℕ → Access → Bool
covers byte a = leb a.from byte && ltb byte (a.from + a.width)

abbrev pub is_covered : ℕ → List Access → Bool
is_covered byte [] = false
is_covered byte (a ∷ others) = covers byte a || is_covered byte others

-- the byte is in the memory, and some load or store reaches it
abbrev pub is_reached : Module → ℕ → Bool
is_reached m byte = ltb byte (memory_bytes m) && is_covered byte (accesses m)

-- the number of reached bytes below this byte
abbrev pub reached_below : Module → ℕ → ℕ
reached_below m zero = 0
reached_below m (suc byte) = reached_below m byte + cond (is_reached m byte) 1 0

-- the number of all reached bytes
abbrev pub reached_bytes : Module → ℕ
reached_bytes m = reached_below m (memory_bytes m)
