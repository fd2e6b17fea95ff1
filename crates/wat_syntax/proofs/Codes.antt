-- Instructions as a loop over them meets them.
use Rattle.std.proofs.Common.{◌≡◌, ◌↔◌, Bool, eqb, IsTrue, ℕ, suc, ◌+◌, ◌<◌, List, [], ◌∷◌, length, get_or, drop, subst, sym, ◌∙◌, arith}
use Rattle.wasm_ast.specs.declared.body.Instr.{Instr}
use Rattle.wasm_ast.specs.declared.body.Instr.TheVariants as instr
use Rattle.wasm_ast.specs.Code.{Code, end}
use Rattle.wasm_ast.specs.View.{code_of, then_code}
use Rattle.std.specs.List.{AllByRecursion}
use Rattle.wasm_ast.specs.declared.types.FuncType.{FuncType}
use Rattle.wasm_ast.specs.declared.module.Function.{Function}
use Rattle.wasm_ast.specs.Limits.{IsCodeWithin, IsBodyWithin, IsFunctionWithin}
use Rattle.wasm_ast.proofs.Codes.{code_step}

-- an instruction by itself is within the limits
within_first : (n : ℕ) (i : Instr) (rest : Code) → IsCodeWithin n (then_code i rest) → IsCodeWithin n (then_code i end)
within_first n (instr.Plain p) rest h = (h.0, tt)
within_first n (instr.Branch b) rest h = (h.0, tt)
within_first n (instr.Call f) rest h = tt
within_first n (instr.CallIndirect t) rest h = tt
within_first n instr.Unreachable rest h = tt
within_first n (instr.Block t body) rest h = (h.0, h.1, tt)
within_first n (instr.Loop t body) rest h = (h.0, h.1, tt)
within_first n (instr.If t body other) rest h = (h.0, h.1, h.2, tt)

pub within_item : (n : ℕ) (is : List Instr) (k : ℕ) (i : Instr) → k < length is → i ≡ get_or is k i → IsCodeWithin n (code_of (drop k is)) → IsCodeWithin n (then_code i end)
within_item n is k i lt e h = within_first n i (code_of (drop (k + 1) is)) (subst (λ c. IsCodeWithin n c) (code_step is k i lt e) h)

not_end : (i : Instr) (rest : Code) → then_code i rest ≡ end → ⊥
not_end (instr.Plain p) rest e = cc
not_end (instr.Branch b) rest e = cc
not_end (instr.Call f) rest e = cc
not_end (instr.CallIndirect t) rest e = cc
not_end instr.Unreachable rest e = cc
not_end (instr.Block t body) rest e = cc
not_end (instr.Loop t body) rest e = cc
not_end (instr.If t body other) rest e = cc

-- code without instructions is `end`
pub empty_is_end : (is : List Instr) (c : Code) (b : Bool) → code_of is ≡ c → b ≡ eqb (length is) 0 → IsTrue b ↔ (c ≡ end)
empty_is_end [] c b e t = (λ _. sym e, λ _. t)
empty_is_end (i ∷ is) c b e t = (λ h. absurd (not_true is b t h), λ z. absurd (not_end i (code_of is) (e ∙ z)))
  where
    not_true : (is : List Instr) (b : Bool) → b ≡ eqb (suc (length is)) 0 → IsTrue b → ⊥
    not_true is b t h = grind arith

-- of functions within the limits the bodies are
pub bodies_within : (types : List FuncType) (fs : List Function) → AllByRecursion (IsFunctionWithin types) fs → AllByRecursion (λ (f : Function). IsBodyWithin f.body) fs
bodies_within types [] h = tt
bodies_within types (f ∷ fs) h = (h.0.1, bodies_within types fs h.1)

-- where nothing is asked of any
pub all_held : {A : Type 0} (xs : List A) → AllByRecursion (λ (x : A). Unit {0}) xs
all_held [] = tt
all_held (x ∷ xs) = (tt, all_held xs)
