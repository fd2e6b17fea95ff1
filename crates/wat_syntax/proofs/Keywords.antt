-- No two keywords are spelled alike, and the table has them all.
use Rattle.std.proofs.Common.{◌≡◌, ◌↔◌, ℕ, Bool, true, false, cond, List, [], ◌∷◌, Option, Some, ◌⊎◌, inl, inr, refl, sym, ap, ◌∙◌}
use Rattle.std.specs.Str.{bytes_eq}
use Rattle.std.proofs.lemmas.Slice.Eq.{bytes_eq-Decides}
use Rattle.wasm_ast.specs.declared.types.ValType.{ValType}
use Rattle.wasm_ast.specs.declared.types.ValType.TheVariants as val_type
use Rattle.wasm_ast.specs.declared.numeric.Unary.{Unary}
use Rattle.wasm_ast.specs.declared.numeric.Unary.TheVariants as unary
use Rattle.wasm_ast.specs.declared.numeric.Binary.{Binary}
use Rattle.wasm_ast.specs.declared.numeric.Binary.TheVariants as binary
use Rattle.wasm_ast.specs.declared.numeric.Division.{Division}
use Rattle.wasm_ast.specs.declared.numeric.Division.TheVariants as division
use Rattle.wasm_ast.specs.declared.numeric.Comparison.{Comparison}
use Rattle.wasm_ast.specs.declared.numeric.Comparison.TheVariants as comparison
use Rattle.wasm_ast.specs.declared.numeric.Conversion.{Conversion}
use Rattle.wasm_ast.specs.declared.numeric.Conversion.TheVariants as conversion
use Rattle.wasm_ast.specs.declared.numeric.Numeric.{Numeric}
use Rattle.wasm_ast.specs.declared.numeric.Numeric.TheVariants as numeric
use Rattle.wasm_ast.specs.declared.plain.Load.{Load}
use Rattle.wasm_ast.specs.declared.plain.Load.TheVariants as load
use Rattle.wasm_ast.specs.declared.plain.Store.{Store}
use Rattle.wasm_ast.specs.declared.plain.Store.TheVariants as store
use Rattle.wat_syntax.specs.declared.keyword.TheConstants.{KEYWORDS}
use Rattle.wat_syntax.specs.declared.keyword.Keyword.{Keyword}
use Rattle.wat_syntax.specs.declared.keyword.Keyword.TheVariants as keyword
use Rattle.wat_syntax.specs.Keywords.{keyword_text, lookup}

-- a keyword is found by its spelling
abbrev IsFound : Keyword → Type 0
IsFound k = lookup KEYWORDS (keyword_text k) ≡ Some k

found_unary : (t : ValType) (op : Unary) → IsFound (keyword.Numeric (numeric.Unary t op))
found_unary val_type.I32 unary.Clz = refl
found_unary val_type.I64 unary.Clz = refl
found_unary _ _ = refl

found_binary : (t : ValType) (op : Binary) → IsFound (keyword.Numeric (numeric.Binary t op))
found_binary val_type.I32 binary.Add = refl
found_binary val_type.I64 binary.Add = refl
found_binary _ _ = refl

found_division : (t : ValType) (op : Division) → IsFound (keyword.Numeric (numeric.Division t op))
found_division val_type.I32 division.DivS = refl
found_division val_type.I64 division.DivS = refl
found_division _ _ = refl

found_comparison : (t : ValType) (op : Comparison) → IsFound (keyword.Numeric (numeric.Comparison t op))
found_comparison val_type.I32 comparison.Eq = refl
found_comparison val_type.I64 comparison.Eq = refl
found_comparison _ _ = refl

found_eqz : (t : ValType) → IsFound (keyword.Numeric (numeric.Eqz t))
found_eqz val_type.I32 = refl
found_eqz val_type.I64 = refl

found_conversion : (op : Conversion) → IsFound (keyword.Numeric (numeric.Conversion op))
found_conversion conversion.Wrap = refl
found_conversion _ = refl

found_load : (op : Load) → IsFound (keyword.Load op)
found_load load.I32 = refl
found_load _ = refl

found_store : (op : Store) → IsFound (keyword.Store op)
found_store store.I32 = refl
found_store _ = refl

found_numeric : (op : Numeric) → IsFound (keyword.Numeric op)
found_numeric (numeric.Eqz t) = found_eqz t
found_numeric (numeric.Comparison t op) = found_comparison t op
found_numeric (numeric.Unary t op) = found_unary t op
found_numeric (numeric.Binary t op) = found_binary t op
found_numeric (numeric.Division t op) = found_division t op
found_numeric (numeric.Conversion op) = found_conversion op

found_type : (t : ValType) → IsFound (keyword.Type t)
found_type val_type.I32 = refl
found_type val_type.I64 = refl

found_const : (t : ValType) → IsFound (keyword.Const t)
found_const val_type.I32 = refl
found_const val_type.I64 = refl

found : (k : Keyword) → IsFound k
found (keyword.Type t) = found_type t
found (keyword.Const t) = found_const t
found (keyword.Load op) = found_load op
found (keyword.Store op) = found_store op
found (keyword.Numeric op) = found_numeric op
found _ = refl

first_or_rest : (b : Bool) (x k : Keyword) (r : Option Keyword) → cond b (Some x) r ≡ Some k → ((b ≡ true) × (x ≡ k)) ⊎ (r ≡ Some k)
first_or_rest true x k r e = inl (refl, cc)
first_or_rest false x k r e = inr e

-- what is found is spelled so
spelled : (ks : List Keyword) (word : List ℕ) (k : Keyword) → lookup ks word ≡ Some k → keyword_text k ≡ word
spelled [] word k e = absurd cc
spelled (x ∷ ks) word k e =
    elim (first_or_rest (bytes_eq (keyword_text x) word) x k (lookup ks word) e) [
      | inl h ↦ ap keyword_text (sym h.1) ∙ (bytes_eq-Decides (keyword_text x) word).0 h.0
      | inr h ↦ spelled ks word k h
    ]

pub named_is : (word : List ℕ) (r : Option Keyword) → r ≡ lookup KEYWORDS word → (k : Keyword) → (r ≡ Some k) ↔ (keyword_text k ≡ word)
named_is word r e k =
    (λ h. spelled KEYWORDS word k (sym e ∙ h), λ h. e ∙ ap (λ (w : List ℕ). lookup KEYWORDS w) (sym h) ∙ found k)
