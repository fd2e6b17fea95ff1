-- How code is written an instruction at a time.
use Rattle.std.proofs.Common.{◌≡◌, ℕ, ◌+◌, ◌<◌, ◌≤◌, List, [], ◌∷◌, ◌++◌, length, get_or, drop, refl, ap, sym, ◌∙◌, append_assoc}
use Rattle.std.proofs.lemmas.List.{append-nil}
use Rattle.std.specs.Prelude.{◌==◌, false}
use Rattle.wasm_ast.specs.declared.body.Instr.{Instr}
use Rattle.wasm_ast.specs.declared.body.Instr.TheVariants as instr
use Rattle.wasm_ast.specs.Code.{Code}
use Rattle.wasm_ast.specs.View.{code_of, then_code}
use Rattle.wasm_ast.proofs.Codes.{code_step, code_done}
use Rattle.wasm_items.specs.Canonical.{code_bytes, instr_bytes, else_bytes}

-- an instruction, and what comes after it
code_bytes-then : (i : Instr) (c : Code) → code_bytes (then_code i c) ≡ instr_bytes i ++ code_bytes c
code_bytes-then (instr.Plain p) c = simp append-nil
code_bytes-then (instr.Branch b) c = simp append-nil
code_bytes-then (instr.Call f) c = simp append-nil
code_bytes-then (instr.CallIndirect t) c = simp append_assoc
code_bytes-then instr.Unreachable c = refl
code_bytes-then (instr.Block t body) c = simp append_assoc
code_bytes-then (instr.Loop t body) c = simp append_assoc
code_bytes-then (instr.If t body other) c = simp append_assoc

-- what is written so far, and what is still to be written
pub code_goes_on : (out whole : List ℕ) (is : List Instr) (k : ℕ) (i : Instr) → k < length is → i ≡ get_or is k i
    → out ++ code_bytes (code_of (drop k is)) ≡ whole → (out ++ instr_bytes i) ++ code_bytes (code_of (drop (k + 1) is)) ≡ whole
code_goes_on out whole is k i lt here so_far =
    append_assoc out (instr_bytes i) _
    ∙ ap (λ (xs : List ℕ). out ++ xs) (sym (code_bytes-then i (code_of (drop (k + 1) is))))
    ∙ ap (λ (c : Code). out ++ code_bytes c) (sym (code_step is k i lt here))
    ∙ so_far

pub code_is_done : (out whole : List ℕ) (is : List Instr) (k : ℕ) → length is ≤ k
    → out ++ code_bytes (code_of (drop k is)) ≡ whole → out ≡ whole
code_is_done out whole is k le so_far =
    sym (append-nil out) ∙ ap (λ (c : Code). out ++ code_bytes c) (sym (code_done is k le)) ∙ so_far

-- an arm that is not empty stands behind its `else`
else_is_there : (is : List Instr) (bytes : List ℕ) → length is == 0 ≡ false → else_bytes (code_of is) bytes ≡ 0x05 ∷ bytes
else_is_there [] bytes some = absurd cc
else_is_there (instr.Plain p ∷ is) bytes some = refl
else_is_there (instr.Branch b ∷ is) bytes some = refl
else_is_there (instr.Call f ∷ is) bytes some = refl
else_is_there (instr.CallIndirect t ∷ is) bytes some = refl
else_is_there (instr.Unreachable ∷ is) bytes some = refl
else_is_there (instr.Block t body ∷ is) bytes some = refl
else_is_there (instr.Loop t body ∷ is) bytes some = refl
else_is_there (instr.If t body other ∷ is) bytes some = refl

pub else_is_written : (is : List Instr) (arm : Code) (bytes : List ℕ) → code_of is ≡ arm → length is == 0 ≡ false → else_bytes arm bytes ≡ 0x05 ∷ bytes
else_is_written is arm bytes e some = ap (λ (c : Code). else_bytes c bytes) (sym e) ∙ else_is_there is bytes some
