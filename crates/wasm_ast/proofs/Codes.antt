-- Code as a loop over its instructions meets it.
use Rattle.std.proofs.Common.{◌≡◌, ℕ, suc, ◌+◌, ◌<◌, ◌≤◌, List, [], ◌∷◌, length, get_or, drop, ap, sym, ◌∙◌, arith, add-one, drop-cons, length-drop}
use Rattle.std.proofs.lemmas.List.{drop_all}
use Rattle.wasm_ast.specs.declared.body.Instr.{Instr}
use Rattle.wasm_ast.specs.declared.body.Instr.TheVariants as instr
use Rattle.wasm_ast.specs.Code.{Code, end}
use Rattle.wasm_ast.specs.View.{code_of, then_code}

-- what is left from an instruction on is that instruction, and then what is left behind it
pub code_step : (is : List Instr) (k : ℕ) (i : Instr) → k < length is → i ≡ get_or is k i → code_of (drop k is) ≡ then_code i (code_of (drop (k + 1) is))
code_step is k i lt e =
    let here : drop k is ≡ get_or is k i ∷ drop (suc k) is = drop-cons is k i lt in
    let here' : drop k is ≡ i ∷ drop (suc k) is = here ∙ ap (λ (x : Instr). x ∷ drop (suc k) is) (sym e) in
    rw add-one (ap code_of here')

-- behind the last one nothing is left
pub code_done : (is : List Instr) (k : ℕ) → length is ≤ k → code_of (drop k is) ≡ end
code_done is k le = ap code_of (drop_all k is le)

some_code : (i : Instr) (rest : Code) → then_code i rest ≡ end → ⊥
some_code (instr.Plain p) rest e = cc
some_code (instr.Branch b) rest e = cc
some_code (instr.Call f) rest e = cc
some_code (instr.CallIndirect t) rest e = cc
some_code instr.Unreachable rest e = cc
some_code (instr.Block t body) rest e = cc
some_code (instr.Loop t body) rest e = cc
some_code (instr.If t body other) rest e = cc

no_code : (is : List Instr) → code_of is ≡ end → length is ≤ 0
no_code [] e = omega arith
no_code (i ∷ is) e = absurd (some_code i (code_of is) e)

-- where nothing is left, there was no instruction
pub code_over : (is : List Instr) (k : ℕ) → code_of (drop k is) ≡ end → length is ≤ k
code_over is k e = let none = no_code (drop k is) e in omega (arith, none, length-drop k is)
