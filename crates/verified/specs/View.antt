-- The model of flat instructions: the code that contracts speak of.
use Rattle.std.specs.Prelude.{List, [], ◌∷◌, Option, Some, None}
use Rattle.wasm_ast.specs.declared.plain.Branch.TheVariants as branches
use Rattle.wasm_ast.specs.declared.plain.Plain.{Plain}
use Rattle.wasm_ast.specs.Code.{Code, end, plain, branch, call, call_indirect, unreachable, block, loop, choice}
use Rattle.verified.specs.declared.body.FlatInstr.{FlatInstr}
use Rattle.verified.specs.declared.body.FlatInstr.TheVariants as flat
use Rattle.verified.specs.Plains.{plain_of}

-- a branch, a call or a sequence, and the code after it
abbrev pub then_control : FlatInstr → Code → Code
then_control (flat.Br l) rest = branch (branches.Br l) rest
then_control (flat.BrIf l) rest = branch (branches.BrIf l) rest
then_control (flat.Branch b) rest = branch b rest
then_control (flat.Call f) rest = call f rest
then_control (flat.CallIndirect t) rest = call_indirect t rest
then_control flat.Unreachable rest = unreachable rest
then_control (flat.Block t body) rest = block t body rest
then_control (flat.Loop t body) rest = loop t body rest
then_control (flat.If t body other) rest = choice t body other rest
then_control _ rest = unreachable rest

abbrev pub then_plain : Option Plain → FlatInstr → Code → Code
then_plain (Some p) i rest = plain p rest
then_plain None i rest = then_control i rest

-- the code that consists of an instruction and the code after it
abbrev pub then_code : FlatInstr → Code → Code
then_code i rest = then_plain (plain_of i) i rest

abbrev pub code_of : List FlatInstr → Code
code_of [] = end
code_of (i ∷ is) = then_code i (code_of is)

-- the code of instructions before other code
abbrev pub code_before : List FlatInstr → Code → Code
code_before [] rest = rest
code_before (i ∷ is) rest = then_code i (code_before is rest)
