-- Each piece of a printed module has a spelling: numbers fit their tokens, and bytes are bytes.
use Rattle.std.proofs.Common.{ℕ, suc, ◌-◌, ◌<◌, ◌≤◌, ◌^◌, ◌==◌, Bool, true, false, inl, inr, List, [], ◌∷◌, Option, Some, None, sym, subst, arith}
use Rattle.std.specs.Prelude.{⊤, if◌then◌else◌}
use Rattle.std.specs.List.{AllByRecursion}
use Rattle.std.proofs.Math.Pow.{pow-lt}
use Rattle.std.proofs.lemmas.Bool.{cases_lt}
use Rattle.wasm_ast.specs.declared.types.ValType.{ValType}
use Rattle.wasm_ast.specs.declared.types.Value.TheVariants as value
use Rattle.wasm_ast.specs.declared.types.FuncType.{FuncType}
use Rattle.wasm_ast.specs.declared.types.Limits.{Limits}
use Rattle.wasm_ast.specs.declared.types.Mutability.{Mutability}
use Rattle.wasm_ast.specs.declared.types.Mutability.TheVariants as mutability
use Rattle.wasm_ast.specs.declared.plain.Variable.{Variable}
use Rattle.wasm_ast.specs.declared.plain.Variable.TheVariants as variable
use Rattle.wasm_ast.specs.declared.plain.Memory.TheVariants as memory
use Rattle.wasm_ast.specs.declared.plain.Plain.{Plain}
use Rattle.wasm_ast.specs.declared.plain.Plain.TheVariants as leaf
use Rattle.wasm_ast.specs.declared.plain.Branch.{Branch}
use Rattle.wasm_ast.specs.declared.plain.Branch.TheVariants as jump
use Rattle.wasm_ast.specs.declared.module.ImportDescription.{ImportDescription}
use Rattle.wasm_ast.specs.declared.module.ImportDescription.TheVariants as import
use Rattle.wasm_ast.specs.declared.module.Import.{Import}
use Rattle.wasm_ast.specs.declared.module.Function.{Function}
use Rattle.wasm_ast.specs.declared.module.Global.{Global}
use Rattle.wasm_ast.specs.declared.module.ExportDescription.{ExportDescription}
use Rattle.wasm_ast.specs.declared.module.ExportDescription.TheVariants as export
use Rattle.wasm_ast.specs.declared.module.Export.{Export}
use Rattle.wasm_ast.specs.declared.module.Element.{Element}
use Rattle.wasm_ast.specs.declared.module.Data.{Data}
use Rattle.wasm_ast.specs.declared.module.Module.{Module}
use Rattle.wasm_ast.specs.Code.{Code, end, plain, branch, call, call_indirect, unreachable, block, loop, choice}
use Rattle.wasm_ast.specs.Numeric.{signed}
use Rattle.wasm_ast.specs.Widths.{load_width, store_width}
use Rattle.wasm_ast.specs.Limits.{max_align, max_nesting, IsPlainWithin, IsCodeWithin, IsBodyWithin, IsWithinLimits}
use Rattle.wasm_ast.specs.Representable.{IsU32, IsOptionalU32, AreLimitsHeld, IsVariableHeld, IsPlainHeld, IsBranchHeld, IsCodeHeld, IsImportDescriptionHeld, IsImportHeld, IsFunctionHeld, IsGlobalHeld, IsExportDescriptionHeld, IsExportHeld, IsElementHeld, IsDataHeld, IsRepresentable}
use Rattle.wat_syntax.specs.declared.pieces.Gap.{Gap}
use Rattle.wat_syntax.specs.declared.pieces.Gap.TheVariants as gap
use Rattle.wat_syntax.specs.declared.keyword.Keyword.{Keyword}
use Rattle.wat_syntax.specs.declared.keyword.Keyword.TheVariants as keyword
use Rattle.wat_syntax.specs.Pieces.{Piece, each}
use Rattle.wat_syntax.specs.Pieces as piece
use Rattle.wat_syntax.specs.Instructions.{type_use, number, type_word, variable_line, offset_part, align_part, plain_line, branch_line, block_type, deeper, else_line, code}
use Rattle.wat_syntax.specs.Layout.{type_group, maximum_part, limits, value_type, number_part, offset, type_field, import_description, import_field, function_field, table_field, memory_field, global_field, export_description, export_field, start_field, element_field, data_field, pieces}
use Rattle.wat_syntax.specs.inside.Tokens.{IsSignedHeld, IsPieceHeld, ArePiecesHeld}
use Rattle.wat_syntax.proofs.AgainBytes.{utf8_bytes}
use Rattle.wat_syntax.proofs.AgainTools.{all_both, all_of}
use Rattle.wat_syntax.proofs.AgainInstructions.{signed_low, signed_high}
use Rattle.wat_syntax.proofs.Codes.{bodies_within}

-- ---- parts

-- a word may stand behind this gap
abbrev IsBlank : Gap → Type 0
IsBlank gap.Nothing = ⊥
IsBlank _ = ⊤

says_held : (g : Gap) (k : Keyword) → IsBlank g → IsPieceHeld (piece.says g k)
says_held gap.Nothing k b = b
says_held gap.Space k b = tt
says_held (gap.Line level) k b = tt

deeper_blank : (g : Gap) → IsBlank g → IsBlank (deeper g)
deeper_blank gap.Nothing b = b
deeper_blank gap.Space b = tt
deeper_blank (gap.Line level) b = tt

if_held : (b : Bool) (ps qs : List Piece) → ArePiecesHeld ps → ArePiecesHeld qs → ArePiecesHeld (if b then ps else qs)
if_held true ps qs p q = p
if_held false ps qs p q = q

each_held : {A : Type 0} (one : A → List Piece → List Piece) (fine : A → Type 0) → ((x : A) (more : List Piece) → fine x → ArePiecesHeld more → ArePiecesHeld (one x more))
    → (xs : List A) (more : List Piece) → AllByRecursion fine xs → ArePiecesHeld more → ArePiecesHeld (each one xs more)
each_held one fine held [] more all m = m
each_held one fine held (x ∷ xs) more all m = held x (each one xs more) all.0 (each_held one fine held xs more all.1 m)

numbers_held : (ns : List ℕ) (more : List Piece) → AllByRecursion IsU32 ns → ArePiecesHeld more → ArePiecesHeld (each number ns more)
numbers_held ns more all m = each_held number IsU32 (λ n after h m. (h, m)) ns more all m

type_use_held : (n : ℕ) (more : List Piece) → IsU32 n → ArePiecesHeld more → ArePiecesHeld (type_use n more)
type_use_held n more h m = (tt, (h, (tt, m)))

type_group_held : (k : Keyword) (ts : List ValType) (more : List Piece) → ArePiecesHeld more → ArePiecesHeld (type_group k ts more)
type_group_held k [] more m = m
type_group_held k (t ∷ ts) more m =
    (tt, each_held type_word (λ t. Unit {0}) (λ t after h m. (tt, m)) (t ∷ ts) (piece.closes ∷ more) (all_of (λ t. Unit {0}) (λ t. tt) (t ∷ ts)) (tt, m))

maximum_held : (n : Option ℕ) (more : List Piece) → IsOptionalU32 n → ArePiecesHeld more → ArePiecesHeld (maximum_part n more)
maximum_held None more h m = m
maximum_held (Some n) more h m = (h, m)

limits_held : (l : Limits) (more : List Piece) → AreLimitsHeld l → ArePiecesHeld more → ArePiecesHeld (limits l more)
limits_held l more h m = (h.0, maximum_held l.maximum more h.1 m)

value_type_held : (u : Mutability) (t : ValType) (more : List Piece) → ArePiecesHeld more → ArePiecesHeld (value_type u t more)
value_type_held mutability.Constant t more m = (tt, m)
value_type_held mutability.Variable t more m = (tt, (tt, (tt, m)))

-- ---- instructions

i32_held : (x : ℕ) → x < 2 ^ 32 → IsSignedHeld (signed 32 x)
i32_held x fits = elim (cases_lt x (2 ^ 31)) [
  | inl low ↦
      let held : x < 2 ^ 63 = omega arith in
      subst IsSignedHeld (sym (signed_low 32 x low)) held
  | inr high ↦
      let held : 2 ^ 32 - suc x < 2 ^ 63 = omega arith in
      subst IsSignedHeld (sym (signed_high 32 x high fits)) held
]

i64_held : (x : ℕ) → x < 2 ^ 64 → IsSignedHeld (signed 64 x)
i64_held x fits = elim (cases_lt x (2 ^ 63)) [
  | inl low ↦ subst IsSignedHeld (sym (signed_low 64 x low)) low
  | inr high ↦
      let held : 2 ^ 64 - suc x < 2 ^ 63 = omega arith in
      subst IsSignedHeld (sym (signed_high 64 x high fits)) held
]

memory_argument_held : (width align offset : ℕ) (more : List Piece) → align ≤ max_align → IsU32 offset → ArePiecesHeld more
    → ArePiecesHeld (offset_part offset (align_part (2 ^ align) width more))
memory_argument_held width align offset more le h m =
    let lt : align < 32 = omega arith in
    let small : 2 ^ align < 2 ^ 32 = pow-lt lt in
    let rest : ArePiecesHeld (align_part (2 ^ align) width more) = if_held ((2 ^ align) == width) more (piece.align_is (2 ^ align) ∷ more) m (small, m) in
    if_held (offset == 0) (align_part (2 ^ align) width more) (piece.offset_is offset ∷ align_part (2 ^ align) width more) rest (h, rest)

module _ (g : Gap) (b : IsBlank g) where
  variable_held : (op : Variable) (more : List Piece) → IsVariableHeld op → ArePiecesHeld more → ArePiecesHeld (variable_line g op more)
  variable_held (variable.LocalGet x) more h m = (says_held g keyword.LocalGet b, (h, m))
  variable_held (variable.LocalSet x) more h m = (says_held g keyword.LocalSet b, (h, m))
  variable_held (variable.LocalTee x) more h m = (says_held g keyword.LocalTee b, (h, m))
  variable_held (variable.GlobalGet x) more h m = (says_held g keyword.GlobalGet b, (h, m))
  variable_held (variable.GlobalSet x) more h m = (says_held g keyword.GlobalSet b, (h, m))

  plain_held : (p : Plain) (more : List Piece) → IsPlainHeld p → IsPlainWithin p → ArePiecesHeld more → ArePiecesHeld (plain_line g p more)
  plain_held leaf.Nop more h w m = (says_held g _ b, m)
  plain_held leaf.Drop more h w m = (says_held g _ b, m)
  plain_held leaf.Select more h w m = (says_held g _ b, m)
  plain_held (leaf.Const (value.I32 x)) more h w m = (says_held g _ b, (i32_held x h, m))
  plain_held (leaf.Const (value.I64 x)) more h w m = (says_held g _ b, (i64_held x h, m))
  plain_held (leaf.Numeric op) more h w m = (says_held g _ b, m)
  plain_held (leaf.Variable op) more h w m = variable_held op more h m
  plain_held (leaf.Memory (memory.Load op a)) more h w m = (says_held g (keyword.Load op) b, memory_argument_held (load_width op) a.align a.offset more w h.1 m)
  plain_held (leaf.Memory (memory.Store op a)) more h w m = (says_held g (keyword.Store op) b, memory_argument_held (store_width op) a.align a.offset more w h.1 m)
  plain_held (leaf.Memory memory.Size) more h w m = (says_held g keyword.MemorySize b, m)
  plain_held (leaf.Memory memory.Grow) more h w m = (says_held g keyword.MemoryGrow b, m)

  branch_held : (j : Branch) (more : List Piece) → IsBranchHeld j → ArePiecesHeld more → ArePiecesHeld (branch_line g j more)
  branch_held (jump.Br l) more h m = (says_held g keyword.Br b, (h, m))
  branch_held (jump.BrIf l) more h m = (says_held g keyword.BrIf b, (h, m))
  branch_held (jump.BrTable ls l) more h m = (says_held g keyword.BrTable b, numbers_held ls (piece.counts l ∷ more) h.0 (h.1, m))
  branch_held jump.Return more h m = (says_held g keyword.Return b, m)

  else_held : (other : Code) (more : List Piece) → ArePiecesHeld more → ArePiecesHeld (else_line g other more)
  else_held end more m = m
  else_held other more m = (says_held g keyword.Else b, m)

block_type_held : (t : Option ValType) (more : List Piece) → ArePiecesHeld more → ArePiecesHeld (block_type t more)
block_type_held None more m = m
block_type_held (Some t) more m = (tt, (tt, (tt, m)))

code_held : (c : Code) (levels : ℕ) (g : Gap) (more : List Piece) → IsBlank g → IsCodeHeld c → IsCodeWithin levels c → ArePiecesHeld more → ArePiecesHeld (code g c more)
code_held end levels g more b h w m = m
code_held (plain p rest) levels g more b h w m = plain_held g b p (code g rest more) h.0 w.0 (code_held rest levels g more b h.1 w.1 m)
code_held (branch j rest) levels g more b h w m = branch_held g b j (code g rest more) h.0 (code_held rest levels g more b h.1 w.1 m)
code_held (call f rest) levels g more b h w m = (says_held g keyword.Call b, (h.0, code_held rest levels g more b h.1 w m))
code_held (call_indirect t rest) levels g more b h w m =
    (says_held g keyword.CallIndirect b, type_use_held t (code g rest more) h.0 (code_held rest levels g more b h.1 w m))
code_held (unreachable rest) levels g more b h w m = (says_held g keyword.Unreachable b, code_held rest levels g more b h w m)
code_held (block t body rest) levels g more b h w m =
    let ended : List Piece = piece.says g keyword.End ∷ code g rest more in
    let after : ArePiecesHeld ended = (says_held g keyword.End b, code_held rest levels g more b h.1 w.2 m) in
    (says_held g keyword.Block b, block_type_held t (code (deeper g) body ended) (code_held body (levels - 1) (deeper g) ended (deeper_blank g b) h.0 w.1 after))
code_held (loop t body rest) levels g more b h w m =
    let ended : List Piece = piece.says g keyword.End ∷ code g rest more in
    let after : ArePiecesHeld ended = (says_held g keyword.End b, code_held rest levels g more b h.1 w.2 m) in
    (says_held g keyword.Loop b, block_type_held t (code (deeper g) body ended) (code_held body (levels - 1) (deeper g) ended (deeper_blank g b) h.0 w.1 after))
code_held (choice t body other rest) levels g more b h w m =
    let ended : List Piece = piece.says g keyword.End ∷ code g rest more in
    let after : ArePiecesHeld ended = (says_held g keyword.End b, code_held rest levels g more b h.2 w.3 m) in
    let second : ArePiecesHeld (code (deeper g) other ended) = code_held other (levels - 1) (deeper g) ended (deeper_blank g b) h.1 w.2 after in
    let arm : List Piece = else_line g other (code (deeper g) other ended) in (
      says_held g keyword.If b,
      block_type_held t (code (deeper g) body arm) (code_held body (levels - 1) (deeper g) arm (deeper_blank g b) h.0 w.1
          (else_held g b other (code (deeper g) other ended) second)),
    )

-- ---- fields

type_held : (t : FuncType) (more : List Piece) → ArePiecesHeld more → ArePiecesHeld (type_field t more)
type_held t more m = (
  tt,
  (
    tt,
    type_group_held keyword.Param t.parameters (type_group keyword.Result t.results (piece.closes ∷ piece.closes ∷ more))
        (type_group_held keyword.Result t.results (piece.closes ∷ piece.closes ∷ more) (tt, (tt, m))),
  ),
)

import_description_held : (d : ImportDescription) (more : List Piece) → IsImportDescriptionHeld d → ArePiecesHeld more → ArePiecesHeld (import_description d more)
import_description_held (import.Function n) more h m = (tt, type_use_held n (piece.closes ∷ more) h (tt, m))
import_description_held (import.Table l) more h m = (tt, limits_held l (piece.says gap.Space keyword.Funcref ∷ piece.closes ∷ more) h (tt, (tt, m)))
import_description_held (import.Memory l) more h m = (tt, limits_held l (piece.closes ∷ more) h (tt, m))
import_description_held (import.Global t) more h m = (tt, value_type_held t.mutability t.value (piece.closes ∷ more) (tt, m))

import_held : (i : Import) (more : List Piece) → IsImportHeld i → ArePiecesHeld more → ArePiecesHeld (import_field i more)
import_held i more h m = (tt, (utf8_bytes i.module h.0, (utf8_bytes i.name h.1, import_description_held i.description (piece.closes ∷ more) h.2 (tt, m))))

function_held : (f : Function) (more : List Piece) → IsFunctionHeld f × IsBodyWithin f.body → ArePiecesHeld more → ArePiecesHeld (function_field f more)
function_held f more h m =
    let body : List Piece = code (gap.Line 2) f.body (piece.closes_line 1 ∷ more) in (
      tt,
      type_use_held f.type_number (type_group keyword.Local f.locals body) h.0.0
          (type_group_held keyword.Local f.locals body (code_held f.body max_nesting (gap.Line 2) (piece.closes_line 1 ∷ more) tt h.0.1 h.1 (tt, m))),
    )

table_held : (l : Limits) (more : List Piece) → AreLimitsHeld l → ArePiecesHeld more → ArePiecesHeld (table_field l more)
table_held l more h m = (tt, limits_held l (piece.says gap.Space keyword.Funcref ∷ piece.closes ∷ more) h (tt, (tt, m)))

memory_held : (l : Limits) (more : List Piece) → AreLimitsHeld l → ArePiecesHeld more → ArePiecesHeld (memory_field l more)
memory_held l more h m = (tt, limits_held l (piece.closes ∷ more) h (tt, m))

global_held : (x : Global) (more : List Piece) → IsGlobalHeld x × IsBodyWithin x.initial → ArePiecesHeld more → ArePiecesHeld (global_field x more)
global_held x more h m = (
  tt,
  value_type_held x.global_type.mutability x.global_type.value (code gap.Space x.initial (piece.closes ∷ more))
      (code_held x.initial max_nesting gap.Space (piece.closes ∷ more) tt h.0 h.1 (tt, m)),
)

export_description_held : (d : ExportDescription) (more : List Piece) → IsExportDescriptionHeld d → ArePiecesHeld more → ArePiecesHeld (export_description d more)
export_description_held (export.Function n) more h m = (tt, (h, (tt, m)))
export_description_held (export.Table n) more h m = (tt, (h, (tt, m)))
export_description_held (export.Memory n) more h m = (tt, (h, (tt, m)))
export_description_held (export.Global n) more h m = (tt, (h, (tt, m)))

export_held : (e : Export) (more : List Piece) → IsExportHeld e → ArePiecesHeld more → ArePiecesHeld (export_field e more)
export_held e more h m = (tt, (utf8_bytes e.name h.0, export_description_held e.description (piece.closes ∷ more) h.1 (tt, m)))

start_held : (start : Option ℕ) (more : List Piece) → IsOptionalU32 start → ArePiecesHeld more → ArePiecesHeld (start_field start more)
start_held None more h m = m
start_held (Some n) more h m = (tt, (h, (tt, m)))

-- the number of a segment's table or memory, and its offset
placed_held : (n : ℕ) (body : Code) (more : List Piece) → IsU32 n → IsCodeHeld body → IsBodyWithin body → ArePiecesHeld more → ArePiecesHeld (number_part n (offset body more))
placed_held n body more h c w m =
    let rest : ArePiecesHeld (offset body more) = (tt, code_held body max_nesting gap.Space (piece.closes ∷ more) tt c w (tt, m)) in
    if_held (n == 0) (offset body more) (piece.counts n ∷ offset body more) rest (h, rest)

element_held : (e : Element) (more : List Piece) → IsElementHeld e × IsBodyWithin e.offset → ArePiecesHeld more → ArePiecesHeld (element_field e more)
element_held e more h m =
    (tt, placed_held e.table e.offset (each number e.functions (piece.closes ∷ more)) h.0.0 h.0.1 h.1 (numbers_held e.functions (piece.closes ∷ more) h.0.2 (tt, m)))

segment_held : (d : Data) (more : List Piece) → IsDataHeld d × IsBodyWithin d.offset → ArePiecesHeld more → ArePiecesHeld (data_field d more)
segment_held d more h m =
    (tt, placed_held d.memory d.offset (piece.quotes d.bytes ∷ piece.closes ∷ more) h.0.0 h.0.1 h.1 (h.0.2, (tt, m)))

-- ---- modules

pub pieces_held : (m : Module) → IsRepresentable m → IsWithinLimits m → ArePiecesHeld (pieces m [])
pieces_held m h w =
    let functions = all_both IsFunctionHeld (λ (f : Function). IsBodyWithin f.body) m.functions h.functions (bodies_within m.types m.functions w.functions) in
    let globals = all_both IsGlobalHeld (λ (g : Global). IsBodyWithin g.initial) m.globals h.globals w.globals in
    let elements = all_both IsElementHeld (λ (e : Element). IsBodyWithin e.offset) m.elements h.elements w.elements in
    let segments = all_both IsDataHeld (λ (d : Data). IsBodyWithin d.offset) m.data h.segments w.segments in (
      tt,
      each_held type_field (λ (t : FuncType). Unit {0}) (λ t after u held. type_held t after held) m.types _ (all_of (λ (t : FuncType). Unit {0}) (λ t. tt) m.types)
          (each_held import_field IsImportHeld import_held m.imports _ h.imports
          (each_held function_field (λ (f : Function). IsFunctionHeld f × IsBodyWithin f.body) function_held m.functions _ functions
          (each_held table_field AreLimitsHeld table_held m.tables _ h.tables
          (each_held memory_field AreLimitsHeld memory_held m.memories _ h.memories
          (each_held global_field (λ (g : Global). IsGlobalHeld g × IsBodyWithin g.initial) global_held m.globals _ globals
          (each_held export_field IsExportHeld export_held m.exports _ h.exports
          (start_held m.start _ h.start
          (each_held element_field (λ (e : Element). IsElementHeld e × IsBodyWithin e.offset) element_held m.elements _ elements
          (each_held data_field (λ (d : Data). IsDataHeld d × IsBodyWithin d.offset) segment_held m.data (piece.closes_line 0 ∷ []) segments (tt, tt)))))))))),
    )
