-- The height of the operand stack in a call of a function (Core 1.0, 4.2.12). It counts the operands of all active
-- functions, and those under each block.
use Rattle.std.specs.Prelude.{◌≡◌, ℕ, ◌+◌, ◌-◌, max, Option, Some, None}
use Rattle.wasm_ast.specs.declared.module.Module.{Module}
use Rattle.wasm_ast.specs.Code.{Code}
use Rattle.wasm_ast.specs.Code as code
use Rattle.verified.specs.Calls.{body_of}
use Rattle.verified.specs.declared.arity.Arity.{Arity}
use Rattle.verified.specs.Arities.{plain_arity, branch_arity, call_arity, block_arity, test_arity}

-- the height after an instruction
abbrev pub after : Arity → ℕ → ℕ
after a here = here - a.takes + a.gives

-- The greatest height in code that begins with this many operands. `heights` is the greatest height in a call of each
-- function, which begins on the operands below its arguments. The operands under a block stay while it runs. There
-- are no calls through a table.
abbrev pub peak : Module → (ℕ → ℕ) → Code → ℕ → ℕ
peak m heights code.end here = here
peak m heights (code.plain p rest) here = max here (peak m heights rest (after (plain_arity p) here))
peak m heights (code.branch b rest) here = max here (peak m heights rest (after (branch_arity b) here))
peak m heights (code.call f rest) here =
    max here (max (here - (call_arity m f).takes + heights f) (peak m heights rest (after (call_arity m f) here)))
peak m heights (code.call_indirect t rest) here = max here (peak m heights rest here)
peak m heights (code.unreachable rest) here = max here (peak m heights rest here)
peak m heights (code.block t body rest) here =
    max (here + peak m heights body 0) (peak m heights rest (after (block_arity t) here))
peak m heights (code.loop t body rest) here =
    max (here + peak m heights body 0) (peak m heights rest (after (block_arity t) here))
peak m heights (code.choice t body other rest) here =
    max here (max (after test_arity here + max (peak m heights body 0) (peak m heights other 0)) (peak m heights rest (after (block_arity t) (after test_arity here))))

abbrev pub peak_in : Module → (ℕ → ℕ) → Option Code → ℕ
peak_in m heights None = 0
peak_in m heights (Some body) = peak m heights body 0

-- each function has the greatest height of its body; an imported one has no operands of its own
abbrev pub AreHeights : Module → (ℕ → ℕ) → Type 0
AreHeights m heights = (f : ℕ) → heights f ≡ peak_in m heights (body_of m f)
