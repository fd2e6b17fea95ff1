-- What is printed is read again: the fields of a module.
use Rattle.std.proofs.Common.{◌≡◌, ℕ, zero, suc, ◌-◌, ◌<◌, ◌≤◌, false, List, [], ◌∷◌, length, Some, refl, ◌∙◌, arith}
use Rattle.std.proofs.lemmas.Bool.{ne_eqb}
use Rattle.wasm_ast.specs.declared.types.ValType.{ValType}
use Rattle.wasm_ast.specs.declared.types.FuncType.{FuncType}
use Rattle.wasm_ast.specs.declared.types.Limits.{Limits}
use Rattle.wasm_ast.specs.declared.types.Mutability.{Mutability}
use Rattle.wasm_ast.specs.declared.types.Mutability.TheVariants as mutability
use Rattle.wasm_ast.specs.declared.module.ImportDescription.{ImportDescription}
use Rattle.wasm_ast.specs.declared.module.ImportDescription.TheVariants as import
use Rattle.wasm_ast.specs.declared.module.Import.{Import}
use Rattle.wasm_ast.specs.declared.module.Function.{Function}
use Rattle.wasm_ast.specs.declared.module.Global.{Global}
use Rattle.wasm_ast.specs.declared.module.ExportDescription.{ExportDescription}
use Rattle.wasm_ast.specs.declared.module.ExportDescription.TheVariants as export
use Rattle.wasm_ast.specs.declared.module.Export.{Export}
use Rattle.wasm_ast.specs.declared.module.Element.{Element}
use Rattle.wasm_ast.specs.declared.module.Data.{Data}
use Rattle.wasm_ast.specs.declared.module.Module.{Module}
use Rattle.wasm_ast.specs.Code.{Code, size_of}
use Rattle.wasm_ast.specs.Limits.{max_labels, IsBodyWithin}
use Rattle.wasm_ast.specs.Representable.{IsU32, AreLimitsHeld, IsCodeHeld, IsImportDescriptionHeld, IsImportHeld, IsFunctionHeld, IsGlobalHeld, IsExportDescriptionHeld, IsExportHeld, IsElementHeld, IsDataHeld}
use Rattle.wat_syntax.specs.declared.pieces.Gap.TheVariants as gap
use Rattle.wat_syntax.specs.declared.keyword.Keyword.TheVariants as keyword
use Rattle.wat_syntax.specs.Pieces.{Piece, each}
use Rattle.wat_syntax.specs.Pieces as piece
use Rattle.wat_syntax.specs.Instructions.{number, type_use, code}
use Rattle.wat_syntax.specs.Layout.{type_group, limits, value_type, global_type, number_part, offset, import_description, import_field, function_field, table_field, memory_field, global_field, export_description, export_field, element_field, data_field}
use Rattle.wat_syntax.specs.inside.Tokens.{sorted}
use Rattle.wat_syntax.specs.inside.Tokens as tok
use Rattle.wat_syntax.specs.inside.Reading.{Reads, opened_at, closed_at, funcref_at, limits_at, number_first, text_at, signature_first}
use Rattle.wat_syntax.specs.inside.ReadingModule.{with_import, with_function, with_table, with_memory, with_global, with_export, with_element, with_segment, has_definition, imported_at, import_description_at, import_at, exported_at, export_description_at, export_at, inline_first, inline_at, heading_at, defined_at, function_at, table_at, global_at, number_or_0_at, inner_offset_at, offset_at, numbers_at, element_at, text_first, text_step, bytes_at, segment_at, field_at, field_step}
use Rattle.wat_syntax.proofs.AgainTools.{unnamed_again, Ends, closes_ends, key_ends, step_again, stop_again}
use Rattle.wat_syntax.proofs.AgainTypes.{number_again, numbers_again, name_again, limits_again, global_type_again, locals_again, type_use_again}
use Rattle.wat_syntax.proofs.AgainCode.{code_ends, body_again}

-- ---- imports and exports

import_description_again : (d : ImportDescription) (more : List Piece) (types : List FuncType) → IsImportDescriptionHeld d
    → import_description_at (sorted (import_description d more), types) ≡ Some (d, (sorted more, types))
unfolding import_description_at opened_at imported_at table_at closed_at funcref_at
import_description_again (import.Function n) more types h = rw (unnamed_again (type_use n (piece.closes ∷ more)) types, type_use_again n (piece.closes ∷ more) types h refl) refl
import_description_again (import.Table l) more types h =
    let after : List Piece = piece.says gap.Space keyword.Funcref ∷ piece.closes ∷ more in
    rw (unnamed_again (limits l after) types, limits_again l after types h (key_ends _ _)) refl
import_description_again (import.Memory l) more types h = rw (unnamed_again (limits l (piece.closes ∷ more)) types, limits_again l (piece.closes ∷ more) types h (closes_ends _)) refl
import_description_again (import.Global t) more types h =
    rw (unnamed_again (global_type t (piece.closes ∷ more)) types, global_type_again t (piece.closes ∷ more) types) refl

pub import_again : (n : ℕ) (m : Module) (i : Import) (more : List Piece) (types : List FuncType) → has_definition m ≡ false → IsImportHeld i
    → field_step n (m, (sorted (import_field i more), types)) ≡ Some (with_import m i, (sorted more, types))
unfolding field_step opened_at field_at import_at closed_at
import_again n m i more types none h =
    let after : List Piece = import_description i.description (piece.closes ∷ more) in
    rw (
      none,
      name_again i.module (tok.text i.name ∷ sorted after) types h.0,
      name_again i.name (sorted after) types h.1,
      import_description_again i.description (piece.closes ∷ more) types h.2,
    ) refl

export_description_again : (d : ExportDescription) (more : List Piece) (types : List FuncType) → IsExportDescriptionHeld d
    → export_description_at (sorted (export_description d more), types) ≡ Some (d, (sorted more, types))
unfolding export_description_at opened_at exported_at closed_at
export_description_again (export.Function n) more types h = rw (number_again n (tok.closes ∷ sorted more) types h) refl
export_description_again (export.Table n) more types h = rw (number_again n (tok.closes ∷ sorted more) types h) refl
export_description_again (export.Memory n) more types h = rw (number_again n (tok.closes ∷ sorted more) types h) refl
export_description_again (export.Global n) more types h = rw (number_again n (tok.closes ∷ sorted more) types h) refl

pub export_again : (n : ℕ) (m : Module) (e : Export) (more : List Piece) (types : List FuncType) → IsExportHeld e
    → field_step n (m, (sorted (export_field e more), types)) ≡ Some (with_export m e, (sorted more, types))
unfolding field_step opened_at field_at export_at closed_at
export_again n m e more types h =
    rw (name_again e.name (sorted (export_description e.description (piece.closes ∷ more))) types h.0, export_description_again e.description (piece.closes ∷ more) types h.1) refl

-- ---- definitions

-- neither a name nor an import or export stands behind the keyword
defined_again : {A : Type 0} (item : Reads A) (with_item : Module → A → Module) (m : Module) (a : A) (ps more : List Piece) (types : List FuncType) → inline_first (sorted ps) ≡ false
    → item (sorted ps, types) ≡ Some (a, (sorted more, types)) → defined_at item with_item (m, (sorted ps, types)) ≡ Some (with_item m a, (sorted more, types))
unfolding defined_at heading_at inline_at
defined_again item with_item m a ps more types plain read = rw (unnamed_again ps types, plain, read) refl

no_signature : (ts : List ValType) (more : List Piece) → signature_first (sorted more) ≡ false → signature_first (sorted (type_group keyword.Local ts more)) ≡ false
no_signature [] more e = e
no_signature (t ∷ ts) more e = refl

-- what a function needs, to be read in so many steps
abbrev pub IsFunctionFine : ℕ → Function → Type 0
IsFunctionFine n f = IsFunctionHeld f × (length f.locals < n) × IsBodyWithin f.body × (size_of f.body ≤ n)

pub function_again : (n : ℕ) (m : Module) (f : Function) (more : List Piece) (types : List FuncType) → max_labels < n → IsFunctionFine n f
    → field_step n (m, (sorted (function_field f more), types)) ≡ Some (with_function m f, (sorted more, types))
unfolding field_step opened_at field_at function_at closed_at
function_again n m f more types lt h =
    let ended : List Piece = piece.closes_line 1 ∷ more in
    let body : List Piece = code (gap.Line 2) f.body ended in
    let locals : List Piece = type_group keyword.Local f.locals body in
    let ends : Ends (sorted body) = code_ends (gap.Line 2) f.body ended (closes_ends _) in
    rw (defined_again (function_at n) with_function m f (type_use f.type_number locals) ended types refl
    (rw (
      type_use_again f.type_number locals types h.0.0 (no_signature f.locals body ends.no_signature),
      locals_again f.locals n body types h.1 ends.no_locals,
      body_again f.body n (gap.Line 2) ended types h.0.1 h.2 lt h.3 refl,
    ) refl)) refl

pub table_again : (n : ℕ) (m : Module) (l : Limits) (more : List Piece) (types : List FuncType) → AreLimitsHeld l
    → field_step n (m, (sorted (table_field l more), types)) ≡ Some (with_table m l, (sorted more, types))
unfolding field_step opened_at field_at table_at funcref_at closed_at
table_again n m l more types h =
    let after : List Piece = piece.says gap.Space keyword.Funcref ∷ piece.closes ∷ more in
    rw (defined_again table_at with_table m l (limits l after) (piece.closes ∷ more) types refl (rw (limits_again l after types h (key_ends _ _)) refl)) refl

pub memory_again : (n : ℕ) (m : Module) (l : Limits) (more : List Piece) (types : List FuncType) → AreLimitsHeld l
    → field_step n (m, (sorted (memory_field l more), types)) ≡ Some (with_memory m l, (sorted more, types))
unfolding field_step opened_at field_at closed_at
memory_again n m l more types h =
    rw (defined_again limits_at with_memory m l (limits l (piece.closes ∷ more)) (piece.closes ∷ more) types refl (limits_again l (piece.closes ∷ more) types h (closes_ends _))) refl

not_inline : (m : Mutability) (t : ValType) (more : List Piece) → inline_first (sorted (value_type m t more)) ≡ false
not_inline mutability.Constant t more = refl
not_inline mutability.Variable t more = refl

abbrev pub IsGlobalFine : ℕ → Global → Type 0
IsGlobalFine n g = IsGlobalHeld g × IsBodyWithin g.initial × (size_of g.initial ≤ n)

pub global_again : (n : ℕ) (m : Module) (g : Global) (more : List Piece) (types : List FuncType) → max_labels < n → IsGlobalFine n g
    → field_step n (m, (sorted (global_field g more), types)) ≡ Some (with_global m g, (sorted more, types))
unfolding field_step opened_at field_at global_at closed_at
global_again n m g more types lt h =
    let body : List Piece = code gap.Space g.initial (piece.closes ∷ more) in
    rw (defined_again (global_at n) with_global m g (global_type g.global_type body) (piece.closes ∷ more) types (not_inline g.global_type.mutability g.global_type.value body)
    (rw (global_type_again g.global_type body types, body_again g.initial n gap.Space (piece.closes ∷ more) types h.0 h.1 lt h.2 refl) refl)) refl

-- ---- segments

number_part_again : (n : ℕ) (more : List Piece) (types : List FuncType) → IsU32 n → number_first (sorted more) ≡ Some false
    → number_or_0_at (sorted (number_part n more), types) ≡ Some (n, (sorted more, types))
unfolding number_or_0_at number_first
number_part_again zero more types h off = rw off refl
number_part_again (suc n) more types h off = rw (ne_eqb (suc n) 0 (λ same. absurd (omega arith)), number_again (suc n) (sorted more) types h) refl

offset_again : (n : ℕ) (c : Code) (more : List Piece) (types : List FuncType) → max_labels < n → IsCodeHeld c → IsBodyWithin c → size_of c ≤ n
    → offset_at n (sorted (offset c more), types) ≡ Some (c, (sorted more, types))
unfolding offset_at inner_offset_at closed_at
offset_again n c more types lt h w le = rw (body_again c n gap.Space (piece.closes ∷ more) types h w lt le refl) refl

abbrev pub IsElementFine : ℕ → Element → Type 0
IsElementFine n e = IsElementHeld e × IsBodyWithin e.offset × (size_of e.offset ≤ n) × (length e.functions < n)

pub element_again : (n : ℕ) (m : Module) (e : Element) (more : List Piece) (types : List FuncType) → max_labels < n → IsElementFine n e
    → field_step n (m, (sorted (element_field e more), types)) ≡ Some (with_element m e, (sorted more, types))
unfolding field_step opened_at field_at element_at numbers_at number_first closed_at
element_again n m e more types lt h =
    let functions : List Piece = each number e.functions (piece.closes ∷ more) in
    rw (
      number_part_again e.table (offset e.offset functions) types h.0.0 refl,
      offset_again n e.offset functions types lt h.0.1 h.1 h.2,
      numbers_again e.functions n (piece.closes ∷ more) types h.0.2 h.3 refl,
    ) refl

bytes_again : (n : ℕ) (bytes : List ℕ) (more : List Piece) (types : List FuncType) → 2 ≤ n
    → bytes_at n (tok.text bytes ∷ tok.closes ∷ sorted more, types) ≡ Some (bytes, (tok.closes ∷ sorted more, types))
unfolding bytes_at text_first text_at
bytes_again n bytes more types le =
    step_again text_first text_step n ([], (tok.text bytes ∷ tok.closes ∷ sorted more, types)) (bytes, (tok.closes ∷ sorted more, types)) (omega arith) refl refl
    ∙ stop_again text_first text_step (n - 1) (bytes, (tok.closes ∷ sorted more, types)) (omega arith) refl

abbrev pub IsDataFine : ℕ → Data → Type 0
IsDataFine n d = IsDataHeld d × IsBodyWithin d.offset × (size_of d.offset ≤ n)

pub segment_again : (n : ℕ) (m : Module) (d : Data) (more : List Piece) (types : List FuncType) → max_labels < n → IsDataFine n d
    → field_step n (m, (sorted (data_field d more), types)) ≡ Some (with_segment m d, (sorted more, types))
unfolding field_step opened_at field_at segment_at number_first closed_at
segment_again n m d more types lt h =
    let strings : List Piece = piece.quotes d.bytes ∷ piece.closes ∷ more in
    rw (
      number_part_again d.memory (offset d.offset strings) types h.0.0 refl,
      offset_again n d.offset strings types lt h.0.1 h.1 h.2,
      bytes_again n d.bytes more types (omega arith),
    ) refl
