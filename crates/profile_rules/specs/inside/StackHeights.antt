-- The height of the operand stack along code, in counts that saturate.
use Rattle.std.specs.Prelude.{ℕ, ◌+◌, ◌-◌, min, max, List, get_or}
use Rattle.wasm_ast.specs.declared.body.Instr.{Instr}
use Rattle.wasm_ast.specs.Code.{Code}
use Rattle.wasm_ast.specs.Code as code
use Rattle.wasm_ast.specs.View.{then_code}
use Rattle.verified.specs.declared.arity.Arity.{Arity}
use Rattle.profile_rules.specs.declared.stack_height.StackHeight.{StackHeight}
use Rattle.verified.specs.Arities.{arity_at, plain_arity, branch_arity, block_arity, test_arity}

abbrev pub greatest : ℕ
greatest = 18446744073709551615

abbrev pub ground_level : StackHeight
ground_level = record { here = 0; most = 0 }

abbrev pub height_at : List ℕ → ℕ → ℕ
height_at heights f = get_or heights f 0

abbrev pub reaching : ℕ → StackHeight → StackHeight
reaching above s = record s { most = max (min (s.here + above) greatest) s.most }

abbrev pub stepping : Arity → StackHeight → StackHeight
stepping a s =
    record { here = min (s.here - a.takes + a.gives) greatest; most = max s.most (min (s.here - a.takes + a.gives) greatest) }

abbrev pub with_call : List Arity → List ℕ → ℕ → StackHeight → StackHeight
with_call arities heights f s =
    stepping (arity_at arities f) (record s { most = max (min (s.here - (arity_at arities f).takes + height_at heights f) greatest) s.most })

-- the height after the code; `most` is at least the greatest height so far
abbrev pub with_code : List Arity → List ℕ → StackHeight → Code → StackHeight
with_code arities heights s code.end = s
with_code arities heights s (code.plain p rest) = with_code arities heights (stepping (plain_arity p) s) rest
with_code arities heights s (code.branch b rest) = with_code arities heights (stepping (branch_arity b) s) rest
with_code arities heights s (code.call f rest) = with_code arities heights (with_call arities heights f s) rest
with_code arities heights s (code.call_indirect t rest) = with_code arities heights s rest
with_code arities heights s (code.unreachable rest) = with_code arities heights s rest
with_code arities heights s (code.block t body rest) =
    with_code arities heights (stepping (block_arity t) (reaching (with_code arities heights ground_level body).most s)) rest
with_code arities heights s (code.loop t body rest) =
    with_code arities heights (stepping (block_arity t) (reaching (with_code arities heights ground_level body).most s)) rest
with_code arities heights s (code.choice t body other rest) =
    with_code arities heights (stepping (block_arity t) (reaching (with_code arities heights ground_level other).most (reaching (with_code arities heights ground_level body).most (stepping test_arity s)))) rest

-- the greatest height in code that begins with no operands
abbrev pub most_along : List Arity → List ℕ → Code → ℕ
most_along arities heights body = (with_code arities heights ground_level body).most

-- the height after an instruction
abbrev pub with_instr : List Arity → List ℕ → Instr → StackHeight → StackHeight
with_instr arities heights i s = with_code arities heights s (then_code i code.end)
