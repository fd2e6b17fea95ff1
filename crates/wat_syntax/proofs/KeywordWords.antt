-- Each keyword is a word, and means itself.
use Rattle.std.proofs.Common.{◌≡◌, true, length, Some, refl}
use Rattle.std.specs.Prelude.{nat_lt}
use Rattle.wasm_ast.specs.declared.types.ValType.{ValType}
use Rattle.wasm_ast.specs.declared.types.ValType.TheVariants as val_type
use Rattle.wasm_ast.specs.declared.numeric.Unary.{Unary}
use Rattle.wasm_ast.specs.declared.numeric.Unary.TheVariants as unary
use Rattle.wasm_ast.specs.declared.numeric.Binary.{Binary}
use Rattle.wasm_ast.specs.declared.numeric.Binary.TheVariants as binary
use Rattle.wasm_ast.specs.declared.numeric.Division.{Division}
use Rattle.wasm_ast.specs.declared.numeric.Division.TheVariants as division
use Rattle.wasm_ast.specs.declared.numeric.Comparison.{Comparison}
use Rattle.wasm_ast.specs.declared.numeric.Comparison.TheVariants as comparison
use Rattle.wasm_ast.specs.declared.numeric.Conversion.{Conversion}
use Rattle.wasm_ast.specs.declared.numeric.Conversion.TheVariants as conversion
use Rattle.wasm_ast.specs.declared.numeric.Numeric.{Numeric}
use Rattle.wasm_ast.specs.declared.numeric.Numeric.TheVariants as numeric
use Rattle.wasm_ast.specs.declared.plain.Load.{Load}
use Rattle.wasm_ast.specs.declared.plain.Load.TheVariants as load
use Rattle.wasm_ast.specs.declared.plain.Store.{Store}
use Rattle.wasm_ast.specs.declared.plain.Store.TheVariants as store
use Rattle.wat_syntax.specs.declared.keyword.Keyword.{Keyword}
use Rattle.wat_syntax.specs.declared.keyword.Keyword.TheVariants as keyword
use Rattle.wat_syntax.specs.Keywords.{keyword_text}
use Rattle.wat_syntax.specs.inside.Lexing.{plain_of, word_of}
use Rattle.wat_syntax.specs.Words.{is_word}
use Rattle.wat_syntax.specs.inside.Tokens.{key}
use Rattle.wat_syntax.proofs.WordText.{all_word, IsWordText}
use borrow.Author.Tests.{ltb-true}

abbrev IsKept : Keyword → Type 0
IsKept k = (word_of (keyword_text k) ≡ Some (key k)) × (all_word (keyword_text k) ≡ true) × (nat_lt 0 (length (keyword_text k)) ≡ true)

kept_unary : (t : ValType) (op : Unary) → IsKept (keyword.Numeric (numeric.Unary t op))
unfolding word_of plain_of is_word
kept_unary val_type.I32 unary.Clz = (refl, refl, refl)
kept_unary val_type.I64 unary.Clz = (refl, refl, refl)
kept_unary _ _ = (refl, refl, refl)

kept_binary : (t : ValType) (op : Binary) → IsKept (keyword.Numeric (numeric.Binary t op))
unfolding word_of plain_of is_word
kept_binary val_type.I32 binary.Add = (refl, refl, refl)
kept_binary val_type.I64 binary.Add = (refl, refl, refl)
kept_binary _ _ = (refl, refl, refl)

kept_division : (t : ValType) (op : Division) → IsKept (keyword.Numeric (numeric.Division t op))
unfolding word_of plain_of is_word
kept_division val_type.I32 division.DivS = (refl, refl, refl)
kept_division val_type.I64 division.DivS = (refl, refl, refl)
kept_division _ _ = (refl, refl, refl)

kept_comparison : (t : ValType) (op : Comparison) → IsKept (keyword.Numeric (numeric.Comparison t op))
unfolding word_of plain_of is_word
kept_comparison val_type.I32 comparison.Eq = (refl, refl, refl)
kept_comparison val_type.I64 comparison.Eq = (refl, refl, refl)
kept_comparison _ _ = (refl, refl, refl)

kept_eqz : (t : ValType) → IsKept (keyword.Numeric (numeric.Eqz t))
unfolding word_of plain_of is_word
kept_eqz val_type.I32 = (refl, refl, refl)
kept_eqz val_type.I64 = (refl, refl, refl)

kept_conversion : (op : Conversion) → IsKept (keyword.Numeric (numeric.Conversion op))
unfolding word_of plain_of is_word
kept_conversion conversion.Wrap = (refl, refl, refl)
kept_conversion _ = (refl, refl, refl)

kept_numeric : (op : Numeric) → IsKept (keyword.Numeric op)
kept_numeric (numeric.Eqz t) = kept_eqz t
kept_numeric (numeric.Comparison t op) = kept_comparison t op
kept_numeric (numeric.Unary t op) = kept_unary t op
kept_numeric (numeric.Binary t op) = kept_binary t op
kept_numeric (numeric.Division t op) = kept_division t op
kept_numeric (numeric.Conversion op) = kept_conversion op

kept_load : (op : Load) → IsKept (keyword.Load op)
unfolding word_of plain_of is_word
kept_load load.I32 = (refl, refl, refl)
kept_load _ = (refl, refl, refl)

kept_store : (op : Store) → IsKept (keyword.Store op)
unfolding word_of plain_of is_word
kept_store store.I32 = (refl, refl, refl)
kept_store _ = (refl, refl, refl)

kept_type : (t : ValType) → IsKept (keyword.Type t)
unfolding word_of plain_of is_word
kept_type val_type.I32 = (refl, refl, refl)
kept_type val_type.I64 = (refl, refl, refl)

kept_const : (t : ValType) → IsKept (keyword.Const t)
unfolding word_of plain_of is_word
kept_const val_type.I32 = (refl, refl, refl)
kept_const val_type.I64 = (refl, refl, refl)

kept : (k : Keyword) → IsKept k
unfolding word_of plain_of is_word
kept (keyword.Type t) = kept_type t
kept (keyword.Const t) = kept_const t
kept (keyword.Load op) = kept_load op
kept (keyword.Store op) = kept_store op
kept (keyword.Numeric op) = kept_numeric op
kept _ = (refl, refl, refl)

pub keyword_reads : (k : Keyword) → word_of (keyword_text k) ≡ Some (key k)
keyword_reads k = (kept k).0

pub keyword_word : (k : Keyword) → IsWordText (keyword_text k)
keyword_word k = record { some = ltb-true 0 (length (keyword_text k)) (kept k).2; each = (kept k).1 }
