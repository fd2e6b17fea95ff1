-- The model of instructions: the code that contracts speak of.
use Rattle.std.specs.Prelude.{List, [], ◌∷◌}
use Rattle.wasm_ast.specs.Code.{Code, end, plain, branch, call, call_indirect, unreachable, block, loop, choice}
use Rattle.wasm_ast.specs.declared.body.Instr.{Instr}
use Rattle.wasm_ast.specs.declared.body.Instr.TheVariants as instr

-- the code that consists of an instruction and the code after it
abbrev pub then_code : Instr → Code → Code
then_code (instr.Plain p) rest = plain p rest
then_code (instr.Branch b) rest = branch b rest
then_code (instr.Call f) rest = call f rest
then_code (instr.CallIndirect t) rest = call_indirect t rest
then_code instr.Unreachable rest = unreachable rest
then_code (instr.Block t body) rest = block t body rest
then_code (instr.Loop t body) rest = loop t body rest
then_code (instr.If t body other) rest = choice t body other rest

abbrev pub code_of : List Instr → Code
code_of [] = end
code_of (i ∷ is) = then_code i (code_of is)
