-- The keywords of the text format, and their spellings (Core 1.0, 6.3.1 and 6.5).
use Rattle.std.specs.Prelude.{ℕ, List, [], ◌∷◌, ◌++◌, codes, Option, Some, None, if◌then◌else◌}
use Rattle.std.specs.Str.{bytes_eq}
use Rattle.wasm_ast.specs.declared.types.ValType.{ValType}
use Rattle.wasm_ast.specs.declared.types.ValType.TheVariants as val_type
use Rattle.wasm_ast.specs.declared.numeric.Unary.{Unary}
use Rattle.wasm_ast.specs.declared.numeric.Unary.TheVariants as unary
use Rattle.wasm_ast.specs.declared.numeric.Binary.{Binary}
use Rattle.wasm_ast.specs.declared.numeric.Binary.TheVariants as binary
use Rattle.wasm_ast.specs.declared.numeric.Division.{Division}
use Rattle.wasm_ast.specs.declared.numeric.Division.TheVariants as division
use Rattle.wasm_ast.specs.declared.numeric.Comparison.{Comparison}
use Rattle.wasm_ast.specs.declared.numeric.Comparison.TheVariants as comparison
use Rattle.wasm_ast.specs.declared.numeric.Conversion.{Conversion}
use Rattle.wasm_ast.specs.declared.numeric.Conversion.TheVariants as conversion
use Rattle.wasm_ast.specs.declared.numeric.Numeric.{Numeric}
use Rattle.wasm_ast.specs.declared.numeric.Numeric.TheVariants as numeric
use Rattle.wasm_ast.specs.declared.plain.Load.{Load}
use Rattle.wasm_ast.specs.declared.plain.Load.TheVariants as load
use Rattle.wasm_ast.specs.declared.plain.Store.{Store}
use Rattle.wasm_ast.specs.declared.plain.Store.TheVariants as store
use Rattle.wat_syntax.specs.declared.keyword.Keyword.{Keyword}
use Rattle.wat_syntax.specs.declared.keyword.Keyword.TheVariants as keyword

abbrev pub type_text : ValType → List ℕ
type_text val_type.I32 = codes "i32"
type_text val_type.I64 = codes "i64"

-- an operation of a type: the type, a dot and the operation
abbrev pub of_type : ValType → List ℕ → List ℕ
of_type t operation = type_text t ++ 46 ∷ operation

abbrev pub unary_text : Unary → List ℕ
unary_text unary.Clz = codes "clz"
unary_text unary.Ctz = codes "ctz"
unary_text unary.Popcnt = codes "popcnt"

abbrev pub binary_text : Binary → List ℕ
binary_text binary.Add = codes "add"
binary_text binary.Sub = codes "sub"
binary_text binary.Mul = codes "mul"
binary_text binary.And = codes "and"
binary_text binary.Or = codes "or"
binary_text binary.Xor = codes "xor"
binary_text binary.Shl = codes "shl"
binary_text binary.ShrS = codes "shr_s"
binary_text binary.ShrU = codes "shr_u"
binary_text binary.Rotl = codes "rotl"
binary_text binary.Rotr = codes "rotr"

abbrev pub division_text : Division → List ℕ
division_text division.DivS = codes "div_s"
division_text division.DivU = codes "div_u"
division_text division.RemS = codes "rem_s"
division_text division.RemU = codes "rem_u"

abbrev pub comparison_text : Comparison → List ℕ
comparison_text comparison.Eq = codes "eq"
comparison_text comparison.Ne = codes "ne"
comparison_text comparison.LtS = codes "lt_s"
comparison_text comparison.LtU = codes "lt_u"
comparison_text comparison.GtS = codes "gt_s"
comparison_text comparison.GtU = codes "gt_u"
comparison_text comparison.LeS = codes "le_s"
comparison_text comparison.LeU = codes "le_u"
comparison_text comparison.GeS = codes "ge_s"
comparison_text comparison.GeU = codes "ge_u"

abbrev pub conversion_text : Conversion → List ℕ
conversion_text conversion.Wrap = codes "i32.wrap_i64"
conversion_text conversion.ExtendS = codes "i64.extend_i32_s"
conversion_text conversion.ExtendU = codes "i64.extend_i32_u"

abbrev pub numeric_text : Numeric → List ℕ
numeric_text (numeric.Eqz t) = of_type t (codes "eqz")
numeric_text (numeric.Comparison t op) = of_type t (comparison_text op)
numeric_text (numeric.Unary t op) = of_type t (unary_text op)
numeric_text (numeric.Binary t op) = of_type t (binary_text op)
numeric_text (numeric.Division t op) = of_type t (division_text op)
numeric_text (numeric.Conversion op) = conversion_text op

abbrev pub load_text : Load → List ℕ
load_text load.I32 = codes "i32.load"
load_text load.I64 = codes "i64.load"
load_text load.I32From8S = codes "i32.load8_s"
load_text load.I32From8U = codes "i32.load8_u"
load_text load.I32From16S = codes "i32.load16_s"
load_text load.I32From16U = codes "i32.load16_u"
load_text load.I64From8S = codes "i64.load8_s"
load_text load.I64From8U = codes "i64.load8_u"
load_text load.I64From16S = codes "i64.load16_s"
load_text load.I64From16U = codes "i64.load16_u"
load_text load.I64From32S = codes "i64.load32_s"
load_text load.I64From32U = codes "i64.load32_u"

abbrev pub store_text : Store → List ℕ
store_text store.I32 = codes "i32.store"
store_text store.I64 = codes "i64.store"
store_text store.I32To8 = codes "i32.store8"
store_text store.I32To16 = codes "i32.store16"
store_text store.I64To8 = codes "i64.store8"
store_text store.I64To16 = codes "i64.store16"
store_text store.I64To32 = codes "i64.store32"

abbrev pub keyword_text : Keyword → List ℕ
keyword_text keyword.Module = codes "module"
keyword_text keyword.FuncType = codes "type"
keyword_text keyword.Func = codes "func"
keyword_text keyword.Param = codes "param"
keyword_text keyword.Result = codes "result"
keyword_text keyword.Local = codes "local"
keyword_text keyword.Import = codes "import"
keyword_text keyword.Export = codes "export"
keyword_text keyword.Table = codes "table"
keyword_text keyword.Memory = codes "memory"
keyword_text keyword.Global = codes "global"
keyword_text keyword.Mut = codes "mut"
keyword_text keyword.Start = codes "start"
keyword_text keyword.Elem = codes "elem"
keyword_text keyword.Data = codes "data"
keyword_text keyword.Offset = codes "offset"
keyword_text keyword.Funcref = codes "funcref"
keyword_text (keyword.Type t) = type_text t
keyword_text keyword.Block = codes "block"
keyword_text keyword.Loop = codes "loop"
keyword_text keyword.If = codes "if"
keyword_text keyword.Then = codes "then"
keyword_text keyword.Else = codes "else"
keyword_text keyword.End = codes "end"
keyword_text keyword.Br = codes "br"
keyword_text keyword.BrIf = codes "br_if"
keyword_text keyword.BrTable = codes "br_table"
keyword_text keyword.Return = codes "return"
keyword_text keyword.Call = codes "call"
keyword_text keyword.CallIndirect = codes "call_indirect"
keyword_text keyword.Unreachable = codes "unreachable"
keyword_text keyword.Nop = codes "nop"
keyword_text keyword.Drop = codes "drop"
keyword_text keyword.Select = codes "select"
keyword_text keyword.LocalGet = codes "local.get"
keyword_text keyword.LocalSet = codes "local.set"
keyword_text keyword.LocalTee = codes "local.tee"
keyword_text keyword.GlobalGet = codes "global.get"
keyword_text keyword.GlobalSet = codes "global.set"
keyword_text keyword.MemorySize = codes "memory.size"
keyword_text keyword.MemoryGrow = codes "memory.grow"
keyword_text (keyword.Load op) = load_text op
keyword_text (keyword.Store op) = store_text op
keyword_text (keyword.Const t) = of_type t (codes "const")
keyword_text (keyword.Numeric op) = numeric_text op

-- the first of these keywords with this spelling
abbrev pub lookup : List Keyword → List ℕ → Option Keyword
lookup [] word = None
lookup (k ∷ ks) word = if bytes_eq (keyword_text k) word then Some k else lookup ks word
