-- What is printed is read again: instructions that hold no others.
use Rattle.std.proofs.Common.{◌≡◌, ℕ, pos, negsuc, ◌-ℤ◌, zero, suc, ◌-◌, ◌<◌, ◌≤◌, ◌^◌, Bool, true, false, inl, inr, List, [], ◌∷◌, ◌++◌, length, Option, Some, refl, sym, ap, ◌∙◌, subst, append_assoc, add-one, arith}
use Rattle.std.specs.Prelude.{if◌then◌else◌}
use Rattle.std.specs.List.{AllByRecursion}
use Rattle.std.proofs.Math.Pow.{pow-lt}
use Rattle.std.proofs.lemmas.Bool.{lt-ltb, le-ltb, eq-eqb, ne_eqb, cases_lt, cases_eq}
use Rattle.std.proofs.lemmas.Int.{ints}
use Rattle.wasm_ast.specs.declared.types.ValType.TheVariants as val_type
use Rattle.wasm_ast.specs.declared.types.FuncType.{FuncType}
use Rattle.wasm_ast.specs.declared.types.Value.TheVariants as value
use Rattle.wasm_ast.specs.declared.plain.Variable.{Variable}
use Rattle.wasm_ast.specs.declared.plain.Variable.TheVariants as variable
use Rattle.wasm_ast.specs.declared.plain.MemoryArgument.{MemoryArgument}
use Rattle.wasm_ast.specs.declared.plain.Memory.TheVariants as memory
use Rattle.wasm_ast.specs.declared.plain.Plain.{Plain}
use Rattle.wasm_ast.specs.declared.plain.Plain.TheVariants as leaf
use Rattle.wasm_ast.specs.declared.plain.Branch.{Branch}
use Rattle.wasm_ast.specs.declared.plain.Branch.TheVariants as jump
use Rattle.wasm_ast.specs.declared.body.Instr.{Instr}
use Rattle.wasm_ast.specs.declared.body.Instr.TheVariants as instr
use Rattle.wasm_ast.specs.Numeric.{signed}
use Rattle.wasm_ast.specs.Widths.{load_width, store_width}
use Rattle.wasm_ast.specs.Limits.{max_align, max_labels, IsPlainWithin, IsBranchWithin}
use Rattle.wasm_ast.specs.Representable.{IsU32, IsVariableHeld, IsPlainHeld, IsBranchHeld}
use Rattle.wat_syntax.specs.declared.pieces.Gap.{Gap}
use Rattle.wat_syntax.specs.declared.keyword.Keyword.TheVariants as keyword
use Rattle.wat_syntax.specs.inside.Follows.{◌>>=◌}
use Rattle.wat_syntax.specs.Pieces.{Piece, each}
use Rattle.wat_syntax.specs.Pieces as piece
use Rattle.wat_syntax.specs.Instructions.{number, type_use, variable_line, offset_part, align_part, memory_argument, plain_line, branch_line}
use Rattle.wat_syntax.specs.inside.Tokens.{sorted, number_of}
use Rattle.wat_syntax.specs.inside.Tokens as tok
use Rattle.wat_syntax.specs.inside.Reading.{repeated, number_first}
use Rattle.wat_syntax.specs.inside.ReadingCode.{Inner, offset_at, exponent, exponent_from, alignment_at, memory_argument_at, constant_of, constant_at, load_at, store_at, label_step, branch_table_at, variable_at, plain_at, instr_with, linear_with, stops}
use Rattle.wat_syntax.proofs.AgainTools.{Ends, step_again, stop_again}
use Rattle.wat_syntax.proofs.AgainTypes.{number_again, type_use_again}
use Rattle.wat_syntax.proofs.Exponents.{exponent_found, exponent_goes_on, exponent_starts}

-- ---- constants

pub signed_low : (bits x : ℕ) → x < 2 ^ (bits - 1) → signed bits x ≡ pos x
signed_low bits x low = rw (lt-ltb x (2 ^ (bits - 1)) low) refl

pub signed_high : (bits x : ℕ) → 2 ^ (bits - 1) ≤ x → x < 2 ^ bits → signed bits x ≡ negsuc (2 ^ bits - suc x)
signed_high bits x high fits =
    let below : pos x -ℤ pos (2 ^ bits) ≡ negsuc (2 ^ bits - suc x) = omega (arith, ints) in
    rw (le-ltb x (2 ^ (bits - 1)) high) below

i32_again : (x : ℕ) → x < 2 ^ 32 → constant_of val_type.I32 (number_of (signed 32 x)) ≡ Some (value.I32 x)
i32_again x fits = elim (cases_lt x (2 ^ 31)) [
  | inl low ↦ ap (λ z. constant_of val_type.I32 (number_of z)) (signed_low 32 x low) ∙ rw (lt-ltb x (2 ^ 32) fits) refl
  | inr high ↦
      let small : 2 ^ 32 - suc x < 2 ^ 31 = omega arith in
      let back : 2 ^ 32 - suc (2 ^ 32 - suc x) ≡ x = omega arith in
      ap (λ z. constant_of val_type.I32 (number_of z)) (signed_high 32 x high fits) ∙ rw (lt-ltb (2 ^ 32 - suc x) (2 ^ 31) small, back) refl
]

i64_again : (x : ℕ) → x < 2 ^ 64 → constant_of val_type.I64 (number_of (signed 64 x)) ≡ Some (value.I64 x)
i64_again x fits = elim (cases_lt x (2 ^ 63)) [
  | inl low ↦ ap (λ z. constant_of val_type.I64 (number_of z)) (signed_low 64 x low)
  | inr high ↦
      let back : 2 ^ 64 - suc (2 ^ 64 - suc x) ≡ x = omega arith in
      ap (λ z. constant_of val_type.I64 (number_of z)) (signed_high 64 x high fits) ∙ rw back refl
]

-- ---- memory arguments

reached : (e target : ℕ) → e ≤ target → target < 32 → exponent_from e (32 - e) (2 ^ target) ≡ exponent (2 ^ target)
reached zero target le lt = exponent_starts (2 ^ target)
reached (suc e) target le lt =
    let less : 2 ^ e < 2 ^ target = pow-lt le in
    let differ : 2 ^ e ≡ 2 ^ target → ⊥ = λ same. absurd (omega arith) in
    subst (λ (d : ℕ). exponent_from d (32 - d) (2 ^ target) ≡ exponent (2 ^ target)) (add-one e)
    (exponent_goes_on e (2 ^ target) (2 ^ e) (omega arith) refl differ (reached e target (omega arith) lt))

power_again : (e : ℕ) → e < 32 → exponent (2 ^ e) ≡ Some e
power_again e lt = sym (exponent_found e (2 ^ e) (2 ^ e) lt refl refl (reached e e (omega arith) lt))

no_offset : (same : Bool) (alignment : ℕ) (more : List Piece) (types : List FuncType) → Ends (sorted more)
    → offset_at (sorted (if same then more else piece.align_is alignment ∷ more), types) ≡ (0, (sorted (if same then more else piece.align_is alignment ∷ more), types))
unfolding offset_at
no_offset true alignment more types e = e.no_offset types
no_offset false alignment more types e = refl

offset_again : (offset alignment width : ℕ) (more : List Piece) (types : List FuncType) → Ends (sorted more)
    → offset_at (sorted (offset_part offset (align_part alignment width more)), types) ≡ (offset, (sorted (align_part alignment width more), types))
unfolding offset_at
offset_again zero alignment width more types e = no_offset _ alignment more types e
offset_again (suc n) alignment width more types e = rw (ne_eqb (suc n) 0 (λ same. absurd (omega arith))) refl

alignment_again : (e width : ℕ) (more : List Piece) (types : List FuncType) → e < 32 → Ends (sorted more)
    → alignment_at width (sorted (align_part (2 ^ e) width more), types) ≡ Some (e, (sorted more, types))
unfolding alignment_at
alignment_again e width more types lt ends = elim (cases_eq (2 ^ e) width) [
  | inl same ↦ rw (eq-eqb (2 ^ e) width same) (ends.no_alignment width types ∙ ap (λ (o : Option ℕ). o >>= λ e. Some (e, (sorted more, types))) (ap exponent (sym same) ∙ power_again e lt))
  | inr differ ↦ rw (ne_eqb (2 ^ e) width differ, power_again e lt) refl
]

memory_argument_again : (width : ℕ) (a : MemoryArgument) (more : List Piece) (types : List FuncType) → a.align ≤ max_align → Ends (sorted more)
    → memory_argument_at width (sorted (memory_argument width a more), types) ≡ Some (a, (sorted more, types))
unfolding memory_argument_at
memory_argument_again width a more types le e =
    let lt : a.align < 32 = omega arith in
    rw (offset_again a.offset (2 ^ a.align) width more types e, alignment_again a.align width more types lt e) refl

-- ---- labels

-- labels behind the last one so far, and the default
labels_again : (ls front : List ℕ) (l default n : ℕ) (more : List Piece) (types : List FuncType) → AllByRecursion IsU32 ls → IsU32 default → suc (length ls) < n
    → number_first (sorted more) ≡ Some false
    → repeated number_first label_step n ((front, l), (sorted (each number ls (piece.counts default ∷ more)), types)) ≡ Some ((front ++ l ∷ ls, default), (sorted more, types))
unfolding number_first
labels_again [] front l default n more types all small lt off =
    step_again number_first label_step n ((front, l), (tok.number default ∷ sorted more, types)) ((front ++ l ∷ [], default), (sorted more, types)) (omega arith)
    refl (rw (number_again default (sorted more) types small) refl)
    ∙ stop_again number_first label_step (n - 1) ((front ++ l ∷ [], default), (sorted more, types)) (omega arith) off
labels_again (x ∷ xs) front l default n more types all small lt off =
    let after : List Piece = each number xs (piece.counts default ∷ more) in
    step_again number_first label_step n ((front, l), (tok.number x ∷ sorted after, types)) ((front ++ l ∷ [], x), (sorted after, types)) (omega arith)
    refl (rw (number_again x (sorted after) types all.0) refl)
    ∙ labels_again xs (front ++ l ∷ []) x default (n - 1) more types all.1 small (omega arith) off
    ∙ ap (λ ys. Some ((ys, default), (sorted more, types))) (append_assoc front (l ∷ []) (x ∷ xs))

branch_table_again : (ls : List ℕ) (default n : ℕ) (more : List Piece) (types : List FuncType) → AllByRecursion IsU32 ls → IsU32 default → length ls < n → number_first (sorted more) ≡ Some false
    → branch_table_at n (sorted (each number ls (piece.counts default ∷ more)), types) ≡ Some (instr.Branch (jump.BrTable ls default), (sorted more, types))
unfolding branch_table_at
branch_table_again [] default n more types all small lt off =
    rw (number_again default (sorted more) types small, stop_again number_first label_step n (([], default), (sorted more, types)) (omega arith) off) refl
branch_table_again (l ∷ ls) default n more types all small lt off =
    rw (number_again l (sorted (each number ls (piece.counts default ∷ more))) types all.0, labels_again ls [] l default n more types all.1 small lt off) refl

-- ---- one instruction

-- these pieces say an instruction, and then there are more
pub record Stands (n : ℕ) (inner : Inner) (i : Instr) (ps more : List Piece) : Type 0 where
  pub goes_on : stops (sorted ps) ≡ false
  pub reads : (types : List FuncType) → instr_with n inner (sorted ps, types) ≡ Some (i, (sorted more, types))

module _ (n : ℕ) (inner : Inner) (g : Gap) where
  variable_stands : (op : Variable) (more : List Piece) → IsVariableHeld op → Stands n inner (instr.Plain (leaf.Variable op)) (variable_line g op more) more
  unfolding instr_with linear_with plain_at variable_at
  variable_stands (variable.LocalGet x) more h = record { goes_on = refl; reads = λ types. rw (number_again x (sorted more) types h) refl }
  variable_stands (variable.LocalSet x) more h = record { goes_on = refl; reads = λ types. rw (number_again x (sorted more) types h) refl }
  variable_stands (variable.LocalTee x) more h = record { goes_on = refl; reads = λ types. rw (number_again x (sorted more) types h) refl }
  variable_stands (variable.GlobalGet x) more h = record { goes_on = refl; reads = λ types. rw (number_again x (sorted more) types h) refl }
  variable_stands (variable.GlobalSet x) more h = record { goes_on = refl; reads = λ types. rw (number_again x (sorted more) types h) refl }

  pub plain_stands : (p : Plain) (more : List Piece) → IsPlainHeld p → IsPlainWithin p → Ends (sorted more) → Stands n inner (instr.Plain p) (plain_line g p more) more
  unfolding instr_with linear_with plain_at load_at store_at constant_at
  plain_stands leaf.Nop more h w e = record { goes_on = refl; reads = λ types. refl }
  plain_stands leaf.Drop more h w e = record { goes_on = refl; reads = λ types. refl }
  plain_stands leaf.Select more h w e = record { goes_on = refl; reads = λ types. refl }
  plain_stands (leaf.Const (value.I32 x)) more h w e = record { goes_on = refl; reads = λ types. rw (i32_again x h) refl }
  plain_stands (leaf.Const (value.I64 x)) more h w e = record { goes_on = refl; reads = λ types. rw (i64_again x h) refl }
  plain_stands (leaf.Numeric op) more h w e = record { goes_on = refl; reads = λ types. refl }
  plain_stands (leaf.Variable op) more h w e = variable_stands op more h
  plain_stands (leaf.Memory (memory.Load op a)) more h w e =
      record { goes_on = refl; reads = λ types. rw (memory_argument_again (load_width op) a more types w e) refl }
  plain_stands (leaf.Memory (memory.Store op a)) more h w e =
      record { goes_on = refl; reads = λ types. rw (memory_argument_again (store_width op) a more types w e) refl }
  plain_stands (leaf.Memory memory.Size) more h w e = record { goes_on = refl; reads = λ types. refl }
  plain_stands (leaf.Memory memory.Grow) more h w e = record { goes_on = refl; reads = λ types. refl }

  pub branch_stands : (b : Branch) (more : List Piece) → max_labels < n → IsBranchHeld b → IsBranchWithin b → Ends (sorted more) → Stands n inner (instr.Branch b) (branch_line g b more) more
  unfolding instr_with linear_with plain_at
  branch_stands (jump.Br l) more lt h w e = record { goes_on = refl; reads = λ types. rw (number_again l (sorted more) types h) refl }
  branch_stands (jump.BrIf l) more lt h w e = record { goes_on = refl; reads = λ types. rw (number_again l (sorted more) types h) refl }
  branch_stands (jump.BrTable ls l) more lt h w e =
      let few : length ls < n = omega (arith, w, lt) in
      record { goes_on = refl; reads = λ types. branch_table_again ls l n more types h.0 h.1 few e.no_number }
  branch_stands jump.Return more lt h w e = record { goes_on = refl; reads = λ types. refl }

  pub call_stands : (f : ℕ) (more : List Piece) → IsU32 f → Stands n inner (instr.Call f) (piece.says g keyword.Call ∷ piece.counts f ∷ more) more
  unfolding instr_with linear_with plain_at
  call_stands f more h = record { goes_on = refl; reads = λ types. rw (number_again f (sorted more) types h) refl }

  pub call_indirect_stands : (t : ℕ) (more : List Piece) → IsU32 t → Ends (sorted more) → Stands n inner (instr.CallIndirect t) (piece.says g keyword.CallIndirect ∷ type_use t more) more
  unfolding instr_with linear_with plain_at
  call_indirect_stands t more h e = record { goes_on = refl; reads = λ types. rw (type_use_again t more types h e.no_signature) refl }

  pub unreachable_stands : (more : List Piece) → Stands n inner instr.Unreachable (piece.says g keyword.Unreachable ∷ more) more
  unfolding instr_with linear_with plain_at
  unreachable_stands more = record { goes_on = refl; reads = λ types. refl }
