-- The size of code with calls inlined.
use Rattle.std.specs.Prelude.{◌≡◌, ℕ, ◌+◌, ◌<◌, ◌≤◌, Option, Some, None, MatchOption}
use Rattle.wasm_ast.specs.declared.body.Instr.TheVariants as instr
use Rattle.wasm_ast.specs.declared.module.Module.{Module}
use Rattle.wasm_ast.specs.Code.{Code, end, plain, branch, call, call_indirect, unreachable, block, loop, choice}
use Rattle.verified.specs.Weights.{units_of}
use Rattle.verified.specs.Calls.{body_of}

-- the sum over the instructions; a call also adds the size of its function in `sizes`
abbrev pub code_size : Module → (ℕ → ℕ) → Code → ℕ
code_size m sizes end = 0
code_size m sizes (plain p rest) = units_of m (instr.Plain p) + code_size m sizes rest
code_size m sizes (branch b rest) = units_of m (instr.Branch b) + code_size m sizes rest
code_size m sizes (call f rest) = units_of m (instr.Call f) + sizes f + code_size m sizes rest
code_size m sizes (call_indirect t rest) = units_of m (instr.CallIndirect t) + code_size m sizes rest
code_size m sizes (unreachable rest) = units_of m instr.Unreachable + code_size m sizes rest
code_size m sizes (block t body rest) = units_of m (instr.Block t body) + code_size m sizes body + code_size m sizes rest
code_size m sizes (loop t body rest) = units_of m (instr.Loop t body) + code_size m sizes body + code_size m sizes rest
code_size m sizes (choice t body other rest) =
    units_of m (instr.If t body other) + code_size m sizes body + code_size m sizes other + code_size m sizes rest

abbrev pub size_in : Module → (ℕ → ℕ) → Option Code → ℕ
size_in m sizes None = 0
size_in m sizes (Some body) = code_size m sizes body

-- each function has the size of its body; an imported function has size 0, since the host's work costs no units
abbrev pub AreSizes : Module → (ℕ → ℕ) → Type 0
AreSizes m sizes = (f : ℕ) → sizes f ≡ size_in m sizes (body_of m f)

-- there is exactly one such assignment of sizes
abbrev pub HasOneSizing : Module → Type 0
HasOneSizing m =
    (sizes : ℕ → ℕ) × AreSizes m sizes
    × ((others : ℕ → ℕ) → AreSizes m others → (f : ℕ) → others f ≡ sizes f)

-- the largest size that is reported
abbrev pub max_size : ℕ
max_size = 8388608

-- the answer is the size of f, or none exactly where the size passes the largest that is reported
abbrev pub IsReportedSize : Module → ℕ → Option ℕ → Type 0
IsReportedSize m f answer =
    (sizes : ℕ → ℕ) → AreSizes m sizes →
    MatchOption answer (max_size < sizes f) (λ size. (size ≡ sizes f) × (size ≤ max_size))
