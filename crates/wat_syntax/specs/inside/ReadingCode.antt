-- Reading the tokens of printed instructions (Core 1.0, 6.5).
use Rattle.std.specs.Prelude.{ℕ, negsuc, zero, suc, ◌+◌, ◌-◌, ◌^◌, Bool, true, false, nat_lt, ◌==◌, List, [], ◌∷◌, ◌++◌, Option, Some, None, if◌then◌else◌}
use Rattle.wasm_ast.specs.declared.types.ValType.{ValType}
use Rattle.wasm_ast.specs.declared.types.ValType.TheVariants as val_type
use Rattle.wasm_ast.specs.declared.types.Value.{Value}
use Rattle.wasm_ast.specs.declared.types.Value.TheVariants as value
use Rattle.wasm_ast.specs.declared.plain.Variable.TheVariants as variable
use Rattle.wasm_ast.specs.declared.plain.MemoryArgument.{MemoryArgument}
use Rattle.wasm_ast.specs.declared.plain.Memory.TheVariants as memory
use Rattle.wasm_ast.specs.declared.plain.Load.{Load}
use Rattle.wasm_ast.specs.declared.plain.Store.{Store}
use Rattle.wasm_ast.specs.declared.plain.Plain.{Plain}
use Rattle.wasm_ast.specs.declared.plain.Plain.TheVariants as leaf
use Rattle.wasm_ast.specs.declared.plain.Branch.TheVariants as jump
use Rattle.wasm_ast.specs.declared.body.Instr.{Instr}
use Rattle.wasm_ast.specs.declared.body.Instr.TheVariants as instr
use Rattle.wasm_ast.specs.Code.{Code, end}
use Rattle.wasm_ast.specs.View.{code_of}
use Rattle.wasm_ast.specs.Widths.{load_width, store_width}
use Rattle.wat_syntax.specs.declared.keyword.Keyword.{Keyword}
use Rattle.wat_syntax.specs.declared.keyword.Keyword.TheVariants as keyword
use Rattle.wat_syntax.specs.inside.Follows.{◌>>=◌}
use Rattle.wat_syntax.specs.inside.Tokens.{Tok, closes, key, number, signed, offset_is, align_is}
use Rattle.wat_syntax.specs.inside.Reading.{State, Reads, repeated, unnamed_at, number_at, number_first, block_type_at, type_use_at}

-- ---- immediates

unfoldable pub offset_at : State → ℕ × State
offset_at (offset_is n ∷ ts, types) = (n, (ts, types))
offset_at s = (0, s)

-- the first of `count` exponents from e on with 2 to this power equal to n
unfoldable pub exponent_from : (e count n : ℕ) → Option ℕ
exponent_from e zero n = None
exponent_from e (suc count) n = if 2 ^ e == n then Some e else exponent_from (e + 1) count n

unfoldable pub exponent : ℕ → Option ℕ
exponent n = exponent_from 0 32 n

unfoldable pub alignment_at : (width : ℕ) → Reads ℕ
alignment_at width (align_is n ∷ ts, types) = exponent n >>= λ e. Some (e, (ts, types))
alignment_at width s = exponent width >>= λ e. Some (e, s)

unfoldable pub memory_argument_at : (width : ℕ) → Reads MemoryArgument
memory_argument_at width s =
    alignment_at width (offset_at s).1 >>= λ e. Some (record { align = e.0; offset = (offset_at s).0 }, e.1)

-- a constant: a number without a sign, or one below 0
abbrev pub constant_of : ValType → Tok → Option Value
constant_of val_type.I32 (number n) = if nat_lt n (2 ^ 32) then Some (value.I32 n) else None
constant_of val_type.I32 (signed (negsuc n)) = if nat_lt n (2 ^ 31) then Some (value.I32 (2 ^ 32 - suc n)) else None
constant_of val_type.I64 (number n) = Some (value.I64 n)
constant_of val_type.I64 (signed (negsuc n)) = Some (value.I64 (2 ^ 64 - suc n))
constant_of _ _ = None

unfoldable pub constant_at : ValType → Reads Value
constant_at t (tok ∷ ts, types) = constant_of t tok >>= λ v. Some (v, (ts, types))
constant_at t _ = None

-- ---- instructions that contain no others

abbrev pub simple : Plain → State → Option (Instr × State)
simple p s = Some (instr.Plain p, s)

abbrev pub with_number : (ℕ → Instr) → State → Option (Instr × State)
with_number make s = number_at s >>= λ n. Some (make n.0, n.1)

unfoldable pub load_at : Load → Reads Instr
load_at op s = memory_argument_at (load_width op) s >>= λ a. Some (instr.Plain (leaf.Memory (memory.Load op a.0)), a.1)

unfoldable pub store_at : Store → Reads Instr
store_at op s = memory_argument_at (store_width op) s >>= λ a. Some (instr.Plain (leaf.Memory (memory.Store op a.0)), a.1)

-- one more label, after the labels so far and the last one
abbrev pub label_step : (List ℕ × ℕ) × State → Option ((List ℕ × ℕ) × State)
label_step x = number_at x.1 >>= λ n. Some ((x.0.0 ++ x.0.1 ∷ [], n.0), n.1)

unfoldable pub branch_table_at : ℕ → Reads Instr
branch_table_at n s =
    number_at s >>= λ l. repeated number_first label_step n (([], l.0), l.1) >>= λ x. Some (instr.Branch (jump.BrTable x.0.0 x.0.1), x.1)

unfoldable pub variable_at : Keyword → Reads Instr
variable_at keyword.LocalGet s = with_number (λ n. instr.Plain (leaf.Variable (variable.LocalGet n))) s
variable_at keyword.LocalSet s = with_number (λ n. instr.Plain (leaf.Variable (variable.LocalSet n))) s
variable_at keyword.LocalTee s = with_number (λ n. instr.Plain (leaf.Variable (variable.LocalTee n))) s
variable_at keyword.GlobalGet s = with_number (λ n. instr.Plain (leaf.Variable (variable.GlobalGet n))) s
variable_at keyword.GlobalSet s = with_number (λ n. instr.Plain (leaf.Variable (variable.GlobalSet n))) s
variable_at _ s = None

unfoldable pub plain_at : ℕ → Keyword → Reads Instr
plain_at n keyword.Nop s = simple leaf.Nop s
plain_at n keyword.Drop s = simple leaf.Drop s
plain_at n keyword.Select s = simple leaf.Select s
plain_at n keyword.Unreachable s = Some (instr.Unreachable, s)
plain_at n keyword.Return s = Some (instr.Branch jump.Return, s)
plain_at n keyword.MemorySize s = simple (leaf.Memory memory.Size) s
plain_at n keyword.MemoryGrow s = simple (leaf.Memory memory.Grow) s
plain_at n (keyword.Numeric op) s = simple (leaf.Numeric op) s
plain_at n (keyword.Const t) s = constant_at t s >>= λ v. Some (instr.Plain (leaf.Const v.0), v.1)
plain_at n (keyword.Load op) s = load_at op s
plain_at n (keyword.Store op) s = store_at op s
plain_at n keyword.Call s = with_number instr.Call s
plain_at n keyword.CallIndirect s = type_use_at s >>= λ t. Some (instr.CallIndirect t.0, t.1)
plain_at n keyword.Br s = with_number (λ l. instr.Branch (jump.Br l)) s
plain_at n keyword.BrIf s = with_number (λ l. instr.Branch (jump.BrIf l)) s
plain_at n keyword.BrTable s = branch_table_at n s
plain_at n k s = variable_at k s

-- ---- instructions that contain others

-- the inside of a block
abbrev pub Inner : Type 0
Inner = Reads Code

unfoldable pub end_at : State → Option State
end_at (key keyword.End ∷ ts, types) = unnamed_at (ts, types)
end_at _ = None

-- a block's type, after its keyword
unfoldable pub header_at : Reads (Option ValType)
header_at s = unnamed_at s >>= λ a. block_type_at a

-- the body after `else`, which is empty where there is no `else`
unfoldable pub else_with : Inner → Reads Code
else_with inner (key keyword.Else ∷ ts, types) = unnamed_at (ts, types) >>= λ a. inner a
else_with inner s = Some (end, s)

-- a block's body, and its `end`
unfoldable pub ended_with : Inner → Reads Code
ended_with inner s = inner s >>= λ body. end_at body.1 >>= λ e. Some (body.0, e)

-- the arm for 0, and the `end`
unfoldable pub other_with : Inner → Reads Code
other_with inner s = else_with inner s >>= λ o. end_at o.1 >>= λ e. Some (o.0, e)

unfoldable pub block_with : Inner → Reads Instr
block_with inner s = header_at s >>= λ t. ended_with inner t.1 >>= λ body. Some (instr.Block t.0 body.0, body.1)

unfoldable pub loop_with : Inner → Reads Instr
loop_with inner s = header_at s >>= λ t. ended_with inner t.1 >>= λ body. Some (instr.Loop t.0 body.0, body.1)

unfoldable pub if_with : Inner → Reads Instr
if_with inner s =
    header_at s >>= λ t. inner t.1 >>= λ body. other_with inner body.1 >>= λ o. Some (instr.If t.0 body.0 o.0, o.1)

-- an instruction, after its keyword
unfoldable pub linear_with : ℕ → Inner → Keyword → Reads Instr
linear_with n inner keyword.Block s = block_with inner s
linear_with n inner keyword.Loop s = loop_with inner s
linear_with n inner keyword.If s = if_with inner s
linear_with n inner k s = plain_at n k s

unfoldable pub instr_with : ℕ → Inner → Reads Instr
instr_with n inner (key k ∷ ts, types) = linear_with n inner k (ts, types)
instr_with n inner _ = None

-- whether instructions end here
abbrev pub stops : List Tok → Bool
stops [] = true
stops (closes ∷ ts) = true
stops (key keyword.End ∷ ts) = true
stops (key keyword.Else ∷ ts) = true
stops _ = false

abbrev pub goes_on : List Tok → Option Bool
goes_on ts = Some (if stops ts then false else true)

-- one more instruction
abbrev pub instr_step : ℕ → Inner → List Instr × State → Option (List Instr × State)
instr_step n inner x = instr_with n inner x.1 >>= λ i. Some (x.0 ++ i.0 ∷ [], i.1)

-- the inside of a block, where this many more levels may open
unfoldable pub inner_at : (levels n : ℕ) → Reads Code
inner_at zero n s = None
inner_at (suc levels) n s =
    repeated goes_on (instr_step n (inner_at levels n)) n ([], s) >>= λ y. Some (code_of y.0, y.1)

-- instructions after these, with blocks of at most this many levels inside each other
unfoldable pub instrs_at : (levels n : ℕ) → List Instr × State → Option (List Instr × State)
instrs_at levels n x = repeated goes_on (instr_step n (inner_at levels n)) n x

unfoldable pub code_at : (levels n : ℕ) → Reads Code
code_at levels n s = instrs_at levels n ([], s) >>= λ y. Some (code_of y.0, y.1)

-- ---- with blocks of at most this many levels inside each other

abbrev pub instr_in : (levels n : ℕ) → Reads Instr
instr_in levels n = instr_with n (inner_at levels n)

abbrev pub linear_in : (levels : ℕ) → Keyword → (n : ℕ) → Reads Instr
linear_in levels k n = linear_with n (inner_at levels n) k

abbrev pub ended_in : (levels n : ℕ) → Reads Code
ended_in levels n = ended_with (inner_at levels n)

abbrev pub if_in : (levels n : ℕ) → Reads Instr
if_in levels n = if_with (inner_at levels n)

abbrev pub other_in : (levels n : ℕ) → Reads Code
other_in levels n = other_with (inner_at levels n)

abbrev pub else_in : (levels n : ℕ) → Reads Code
else_in levels n = else_with (inner_at levels n)
