-- The number of instructions that a run executes, and its units.
use Rattle.std.specs.Prelude.{ℕ, zero, suc, ◌+◌}
use Rattle.wasm_ast.specs.declared.module.Module.{Module}
use Rattle.wasm_ast.specs.Code as code
use Rattle.semantics.specs.Machine.{Machine, Running, Done, Trapped, Stuck, advance}

-- the number of instructions that the next step takes: one, except where it leaves a label or a frame
abbrev pub next_instructions : Machine → ℕ
next_instructions (Running vs code.end ls st) = 0
next_instructions (Running vs next ls st) = 1
next_instructions (Done st) = 0
next_instructions (Trapped count) = 0
next_instructions (Stuck count) = 0

-- the number of instructions that this many steps take
abbrev pub instructions : Module → ℕ → Machine → ℕ
instructions m zero x = 0
instructions m (suc n) x = next_instructions x + instructions m n (advance m x)

-- the units so far
abbrev pub units : Machine → ℕ
units (Running vs is ls st) = st.count
units (Done st) = st.count
units (Trapped count) = count
units (Stuck count) = count
