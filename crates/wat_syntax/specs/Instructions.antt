-- Instructions as they are printed (Core 1.0, 6.5). In a function's body each is on a line of its own. In an initial
-- value or an offset all are on one line.
use Rattle.std.specs.Prelude.{ℕ, ◌+◌, ◌≤◌, ⊤, ◌^◌, ◌==◌, List, ◌∷◌, Option, Some, None, if◌then◌else◌}
use Rattle.wasm_ast.specs.declared.types.ValType.{ValType}
use Rattle.wasm_ast.specs.declared.types.ValType.TheVariants as val_type
use Rattle.wasm_ast.specs.declared.types.Value.{Value}
use Rattle.wasm_ast.specs.declared.types.Value.TheVariants as value
use Rattle.wasm_ast.specs.declared.plain.Variable.{Variable}
use Rattle.wasm_ast.specs.declared.plain.Variable.TheVariants as variable
use Rattle.wasm_ast.specs.declared.plain.MemoryArgument.{MemoryArgument}
use Rattle.wasm_ast.specs.declared.plain.Memory.{Memory}
use Rattle.wasm_ast.specs.declared.plain.Memory.TheVariants as memory
use Rattle.wasm_ast.specs.declared.plain.Plain.{Plain}
use Rattle.wasm_ast.specs.declared.plain.Plain.TheVariants as leaf
use Rattle.wasm_ast.specs.declared.plain.Branch.{Branch}
use Rattle.wasm_ast.specs.declared.plain.Branch.TheVariants as jump
use Rattle.wasm_ast.specs.Code.{Code, end, plain, branch, call, call_indirect, unreachable, block, loop, choice}
use Rattle.wasm_ast.specs.Numeric.{signed}
use Rattle.wasm_ast.specs.Widths.{load_width, store_width}
use Rattle.wat_syntax.specs.declared.pieces.Gap.{Gap}
use Rattle.wat_syntax.specs.declared.pieces.Gap.TheVariants as gap
use Rattle.wat_syntax.specs.declared.keyword.Keyword.TheVariants as keyword
use Rattle.wat_syntax.specs.Pieces.{Piece, opens, says, counts, signs, offset_is, align_is, closes, each}

-- a reference to a type: (type n)
abbrev pub type_use : ℕ → List Piece → List Piece
type_use n more = opens gap.Space keyword.FuncType ∷ counts n ∷ closes ∷ more

abbrev pub number : ℕ → List Piece → List Piece
number n more = counts n ∷ more

-- a type, with a blank before it
abbrev pub type_word : ValType → List Piece → List Piece
type_word t more = says gap.Space (keyword.Type t) ∷ more

abbrev pub variable_line : Gap → Variable → List Piece → List Piece
variable_line g (variable.LocalGet n) more = says g keyword.LocalGet ∷ counts n ∷ more
variable_line g (variable.LocalSet n) more = says g keyword.LocalSet ∷ counts n ∷ more
variable_line g (variable.LocalTee n) more = says g keyword.LocalTee ∷ counts n ∷ more
variable_line g (variable.GlobalGet n) more = says g keyword.GlobalGet ∷ counts n ∷ more
variable_line g (variable.GlobalSet n) more = says g keyword.GlobalSet ∷ counts n ∷ more

abbrev pub offset_part : ℕ → List Piece → List Piece
offset_part offset more = if offset == 0 then more else offset_is offset ∷ more

abbrev pub align_part : (alignment width : ℕ) → List Piece → List Piece
align_part alignment width more = if alignment == width then more else align_is alignment ∷ more

-- the offset where it is not 0, and the alignment where it is not the width in bytes
abbrev pub memory_argument : (width : ℕ) → MemoryArgument → List Piece → List Piece
memory_argument width argument more = offset_part argument.offset (align_part (2 ^ argument.align) width more)

abbrev pub memory_line : Gap → Memory → List Piece → List Piece
memory_line g (memory.Load op argument) more = says g (keyword.Load op) ∷ memory_argument (load_width op) argument more
memory_line g (memory.Store op argument) more = says g (keyword.Store op) ∷ memory_argument (store_width op) argument more
memory_line g memory.Size more = says g keyword.MemorySize ∷ more
memory_line g memory.Grow more = says g keyword.MemoryGrow ∷ more

-- a constant, as a signed number
abbrev pub constant_line : Gap → Value → List Piece → List Piece
constant_line g (value.I32 x) more = says g (keyword.Const val_type.I32) ∷ signs (signed 32 x) ∷ more
constant_line g (value.I64 x) more = says g (keyword.Const val_type.I64) ∷ signs (signed 64 x) ∷ more

abbrev pub plain_line : Gap → Plain → List Piece → List Piece
plain_line g leaf.Nop more = says g keyword.Nop ∷ more
plain_line g leaf.Drop more = says g keyword.Drop ∷ more
plain_line g leaf.Select more = says g keyword.Select ∷ more
plain_line g (leaf.Const x) more = constant_line g x more
plain_line g (leaf.Numeric op) more = says g (keyword.Numeric op) ∷ more
plain_line g (leaf.Variable op) more = variable_line g op more
plain_line g (leaf.Memory op) more = memory_line g op more

-- a branch; a `br_table` has its labels and then the default
abbrev pub branch_line : Gap → Branch → List Piece → List Piece
branch_line g (jump.Br l) more = says g keyword.Br ∷ counts l ∷ more
branch_line g (jump.BrIf l) more = says g keyword.BrIf ∷ counts l ∷ more
branch_line g (jump.BrTable labels default) more = says g keyword.BrTable ∷ each number labels (counts default ∷ more)
branch_line g jump.Return more = says g keyword.Return ∷ more

-- (result t), where a block has a result
abbrev pub block_type : Option ValType → List Piece → List Piece
block_type None more = more
block_type (Some t) more = opens gap.Space keyword.Result ∷ says gap.Space (keyword.Type t) ∷ closes ∷ more

-- one level further in, where instructions have lines of their own
abbrev pub deeper : Gap → Gap
deeper gap.Nothing = gap.Nothing
deeper gap.Space = gap.Space
deeper (gap.Line level) = gap.Line (level + 1)

-- `else`, or nothing before an empty arm
abbrev pub else_line : Gap → Code → List Piece → List Piece
else_line g end more = more
else_line g _ more = says g keyword.Else ∷ more

-- instructions, each with this gap before it, and those of a block one level further in
abbrev pub code : Gap → Code → List Piece → List Piece
code g end more = more
code g (plain p rest) more = plain_line g p (code g rest more)
code g (branch b rest) more = branch_line g b (code g rest more)
code g (call f rest) more = says g keyword.Call ∷ counts f ∷ code g rest more
code g (call_indirect t rest) more = says g keyword.CallIndirect ∷ type_use t (code g rest more)
code g (unreachable rest) more = says g keyword.Unreachable ∷ code g rest more
code g (block t body rest) more =
    says g keyword.Block ∷ block_type t (code (deeper g) body (says g keyword.End ∷ code g rest more))
code g (loop t body rest) more =
    says g keyword.Loop ∷ block_type t (code (deeper g) body (says g keyword.End ∷ code g rest more))
code g (choice t body other rest) more =
    says g keyword.If ∷ block_type t (code (deeper g) body
    (else_line g other (code (deeper g) other (says g keyword.End ∷ code g rest more))))

-- this many levels of blocks can be indented below this gap
abbrev pub HasRoom : Gap → ℕ → Type 0
HasRoom (gap.Line level) levels = level + levels ≤ 130
HasRoom _ levels = ⊤
