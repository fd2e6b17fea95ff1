-- The models of the code's values, and the meaning of its answers.
use Rattle.std.specs.Prelude.{◌≡◌, Bool, true, false, List, [], reverse, Option, Result, MatchResult}
use Rattle.wasm_ast.specs.declared.types.ValType.{ValType}
use Rattle.wasm_ast.specs.declared.body.Instr.{Instr}
use Rattle.wasm_ast.specs.Code.{Code}
use Rattle.wasm_ast.specs.View.{then_code}
use Rattle.validate.specs.declared.fault.ValidFault.{ValidFault}
use Rattle.validate.specs.declared.operands.Operands.{Operands}
use Rattle.validate.specs.declared.operands.OperandType.{OperandType}
use Rattle.validate.specs.declared.context.BodyContext.{BodyContext}
use Rattle.validate.specs.declared.labels.Labels.{Labels}
use Rattle.verified.specs.Spaces.{Spaces}
use Rattle.verified.specs.Instructions.{Context, operands_of, with_label}
use Rattle.validate.specs.inside.Findings.{Finds, NoneBut}
use Rattle.validate.specs.inside.Steps.{run, closes}
use Rattle.validate.specs.inside.Stack.{Stack, bottom, any_below, give_all, push_all, take_any}

abbrev pub base_of : Bool → Stack
base_of true = any_below
base_of false = bottom

abbrev pub stack_of : Operands → Stack
stack_of o = push_all (base_of o.is_unreachable) o.types.items

-- the context of an instruction; the code keeps the innermost label last
abbrev pub context_of : BodyContext → Labels → Context
context_of f n = record { spaces = f.spaces.now; locals = f.locals.items; labels = reverse n.labels.items; outcome = f.outcome }

-- ---- operands

-- the operands are as the step leaves them; a fault means that there is no such step
abbrev pub Makes : (Stack → Option Stack) → (old new : Operands) → Result (Unit {0}) ValidFault → Type 0
Makes step old new answer = Finds (step (stack_of old)) answer (stack_of new)

-- the stack with a result of this type pushed
abbrev pub with_result : Option ValType → Stack → Stack
with_result t s = give_all (operands_of t) s

-- whatever step comes next, it gets the operand that was topmost; a fault means that there is none
abbrev pub TakesTopmost : (old new : Operands) → Result OperandType ValidFault → Type 0
TakesTopmost old new answer =
    (next : OperandType → Stack → Option Stack)
    → MatchResult answer (λ k. take_any (stack_of old) next ≡ next k (stack_of new)) (λ e. NoneBut e (take_any (stack_of old) next))

-- whatever code comes after the instruction, it starts with the operands as they are then; a fault means that no such
-- code is typed
abbrev pub StepsOver : Instr → Context → (old new : Operands) → Result (Unit {0}) ValidFault → Type 0
StepsOver instr c old new answer =
    (rest : Code)
    → MatchResult answer (λ _. run (then_code instr rest) c (stack_of old) ≡ run rest c (stack_of new))
    (λ e. NoneBut e (run (then_code instr rest) c (stack_of old)))

-- ---- bodies

-- code that starts with no operands, in a block with this label, leaves exactly the block's result
abbrev pub inside_passes : (label gives : Option ValType) → Code → Context → Bool
inside_passes label gives body c = closes (run body (with_label label c) bottom) gives

-- the body passes the check
abbrev pub body_passes : Spaces → List ValType → Option ValType → Code → Bool
body_passes s locals outcome body =
    inside_passes outcome outcome body (record { spaces = s; locals = locals; labels = []; outcome = outcome })

abbrev pub passes_in : BodyContext → Code → Bool
passes_in f body = body_passes f.spaces.now f.locals.items f.outcome body
