-- A walk along a sequence of instructions.
use Rattle.std.proofs.Common.{◌≡◌, ◌↔◌, ℕ, ◌+◌, ◌<◌, List, length, get_or, drop, Bool, true, false, IsTrue, refl, sym, subst, arith}
use Rattle.wasm_ast.specs.declared.body.Instr.{Instr}
use Rattle.wasm_ast.specs.Code.{Code}
use Rattle.wasm_ast.specs.Code as code
use Rattle.wasm_ast.specs.View.{code_of, then_code}
use Rattle.wasm_ast.proofs.Codes.{code_step, code_done, code_over}
use Rattle.verified.specs.Shapes.{Everywhere}

-- the test whether an instruction is the last of its sequence
pub last_or_not : (is : List Instr) (k : ℕ) (last : Bool) → k < length is → (last ≡ true → k + 1 ≡ length is) → (k + 1 ≡ length is → last ≡ true) → IsTrue last ↔ (code_of (drop (k + 1) is) ≡ code.end)
last_or_not is k last h yes_if no_if =
    (λ t. let e = yes_if t in code_done is (k + 1) (omega arith), λ e. let over = code_over is (k + 1) e in no_if (omega arith))

abbrev pub Says : (Code → Type 0) → Instr → Bool → Bool → Type 0
Says P i last result =
    (rest : Code) → (IsTrue last ↔ (rest ≡ code.end)) → (IsTrue result × Everywhere P rest) ↔ Everywhere P (then_code i rest)

-- one instruction more
pub goes_on : (P : Code → Type 0) (is : List Instr) (k : ℕ) (i : Instr) (last : Bool) → k < length is → i ≡ get_or is k i → (IsTrue last ↔ (code_of (drop (k + 1) is) ≡ code.end)) → Says P i last true → (Everywhere P (code_of is) ↔ Everywhere P (code_of (drop k is))) → Everywhere P (code_of is) ↔ Everywhere P (code_of (drop (k + 1) is))
goes_on P is k i last h e l s before =
    let here = code_step is k i h e in
    let both = s (code_of (drop (k + 1) is)) l in
    (λ all. (both.1 (subst (Everywhere P) here (before.0 all))).1, λ rest. before.1 (subst (Everywhere P) (sym here) (both.0 (refl, rest))))

-- an instruction that breaks the rule
pub breaks : (P : Code → Type 0) (is : List Instr) (k : ℕ) (i : Instr) (last : Bool) → k < length is → i ≡ get_or is k i → (IsTrue last ↔ (code_of (drop (k + 1) is) ≡ code.end)) → Says P i last false → (Everywhere P (code_of is) ↔ Everywhere P (code_of (drop k is))) → Everywhere P (code_of is) → ⊥
breaks P is k i last h e l s before all =
    let here = code_step is k i h e in
    let both = s (code_of (drop (k + 1) is)) l in
    let no : false ≡ true = (both.1 (subst (Everywhere P) here (before.0 all))).0 in
    absurd cc
