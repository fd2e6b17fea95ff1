-- An outline of code: the units of its own instructions without its callees, and the functions that it calls.
use Rattle.std.specs.Prelude.{ℕ, ◌+◌, min, List, [], ◌∷◌, ◌++◌}
use Rattle.wasm_ast.specs.declared.body.Instr.TheVariants as instr
use Rattle.wasm_ast.specs.Code.{Code, end, plain, branch, call, call_indirect, unreachable, block, loop, choice}
use Rattle.wasm_ast.specs.declared.module.Module.{Module}
use Rattle.verified.specs.Weights.{units_of}
use Rattle.verified.specs.Sizes.{max_size}

-- counts stop at one more than the largest size that is reported
abbrev pub cap : ℕ
cap = max_size + 1

pub record Summary : Type 0 where
  pub own : ℕ
  pub calls : List ℕ

abbrev pub nothing : Summary
nothing = record { own = 0; calls = [] }

abbrev pub with_units : ℕ → Summary → Summary
with_units units o = record o { own = min (o.own + units) cap }

abbrev pub with_call : ℕ → Summary → Summary
with_call f o = record o { calls = o.calls ++ f ∷ [] }

-- the outline, extended by the code
abbrev pub with_code : Module → Summary → Code → Summary
with_code m o end = o
with_code m o (plain p rest) = with_code m (with_units (units_of m (instr.Plain p)) o) rest
with_code m o (branch b rest) = with_code m (with_units (units_of m (instr.Branch b)) o) rest
with_code m o (call f rest) = with_code m (with_call f (with_units (units_of m (instr.Call f)) o)) rest
with_code m o (call_indirect t rest) = with_code m (with_units (units_of m (instr.CallIndirect t)) o) rest
with_code m o (unreachable rest) = with_code m (with_units (units_of m instr.Unreachable) o) rest
with_code m o (block t body rest) = with_code m (with_code m (with_units (units_of m (instr.Block t body)) o) body) rest
with_code m o (loop t body rest) = with_code m (with_code m (with_units (units_of m (instr.Loop t body)) o) body) rest
with_code m o (choice t body other rest) =
    with_code m (with_code m (with_code m (with_units (units_of m (instr.If t body other)) o) body) other) rest
