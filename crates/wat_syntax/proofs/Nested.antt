-- Instructions one after another, and those in a block, as loops and calls read them.
use Rattle.std.proofs.Common.{◌≡◌, ℕ, zero, suc, ◌-◌, ◌≤◌, true, false, List, [], ◌∷◌, ◌++◌, Option, Some, None, refl, sym, subst, arith}
use Rattle.wasm_ast.specs.declared.types.FuncType.{FuncType}
use Rattle.wasm_ast.specs.declared.body.Instr.{Instr}
use Rattle.wasm_ast.specs.View.{code_of}
use Rattle.wat_syntax.specs.declared.fault.Failure.{Failure}
use Rattle.wat_syntax.specs.inside.Tokens.{Tok, opens}
use Rattle.wat_syntax.specs.inside.Reading.{State, open_first}
use Rattle.wat_syntax.specs.inside.ReadingCode.{Inner, instr_with, instr_step, stops, goes_on, instrs_at, inner_at}
use Rattle.wat_syntax.proofs.Repeats.{Said, Failed, IsAnswer, answers, then_said, first_failed}

pub goes : (ts : List Tok) → stops ts ≡ false → IsAnswer (goes_on ts) true
goes ts e = answers (goes_on ts) true (rw e refl)

pub ends : (ts : List Tok) → stops ts ≡ true → IsAnswer (goes_on ts) false
ends ts e = answers (goes_on ts) false (rw e refl)

-- no folded instruction is read
folded_unread : (n : ℕ) (inner : Inner) (ts : List Tok) (types : List FuncType) → open_first ts ≡ true → instr_with n inner (ts, types) ≡ None
unfolding instr_with
folded_unread n inner (opens ∷ ts) types e = refl
folded_unread n inner _ types e = absurd cc

none_said : {Y : Type 0} (v : Y) (o : Option Y) → o ≡ None → Said v o
none_said v None e = tt
none_said v (Some y) e = absurd cc

none_failed : {Y : Type 0} (f : Failure) (o : Option Y) → o ≡ None → Failed f o
none_failed f None e = tt
none_failed f (Some y) e = absurd cc

step_unread : (n : ℕ) (inner : Inner) (front : List Instr) (ts : List Tok) (types : List FuncType) → open_first ts ≡ true → instr_step n inner (front, (ts, types)) ≡ None
step_unread n inner front ts types e = rw (folded_unread n inner ts types e) refl

pub folded_said : (n : ℕ) (inner : Inner) (front : List Instr) (ts : List Tok) (types : List FuncType) (y : List Instr × State)
    → open_first ts ≡ true → Said y (instr_step n inner (front, (ts, types)))
folded_said n inner front ts types y e = none_said y (instr_step n inner (front, (ts, types))) (step_unread n inner front ts types e)

pub folded_failed : (n : ℕ) (inner : Inner) (front : List Instr) (ts : List Tok) (types : List FuncType) (f : Failure)
    → open_first ts ≡ true → Failed f (instr_step n inner (front, (ts, types)))
folded_failed n inner front ts types f e = none_failed f (instr_step n inner (front, (ts, types))) (step_unread n inner front ts types e)

pub instr_said : (n : ℕ) (inner : Inner) (front : List Instr) (i : Instr) (s after : State) → Said (i, after) (instr_with n inner s) → Said (front ++ i ∷ [], after) (instr_step n inner (front, s))
instr_said n inner front i s after h =
    then_said (i, after) (instr_with n inner s) (λ i. Some (front ++ i.0 ∷ [], i.1)) (front ++ i ∷ [], after) h refl

pub instr_failed : (n : ℕ) (inner : Inner) (front : List Instr) (s : State) (f : Failure) → Failed f (instr_with n inner s) → Failed f (instr_step n inner (front, s))
instr_failed n inner front s f h = first_failed (instr_with n inner s) (λ i. Some (front ++ i.0 ∷ [], i.1)) f h

-- inside of a block, where the parser is as it is here and is left so
pub inner_said : (levels below n : ℕ) (before instrs : List Instr) (s here after left : State) → 1 ≤ levels → below ≡ levels - 1 → before ≡ [] → here ≡ s → left ≡ after
    → Said (instrs, after) (instrs_at below n (before, here)) → Said (code_of instrs, left) (inner_at levels n s)
unfolding instrs_at inner_at
inner_said zero below n before instrs s here after left some fewer none at stays h = absurd (omega arith)
inner_said (suc levels) below n before instrs s here after left some fewer none at stays h =
    let same : below ≡ levels = omega arith in
    let read : Said (instrs, after) (instrs_at levels n ([], here)) = subst (λ (l : ℕ). Said (instrs, after) (instrs_at l n ([], here))) same (subst (λ (l : List Instr). Said (instrs, after) (instrs_at below n (l, here))) none h) in
    let all : Said (code_of instrs, after) (inner_at (suc levels) n here) = then_said (instrs, after) (instrs_at levels n ([], here)) (λ y. Some (code_of y.0, y.1)) (code_of instrs, after) read refl in
    subst (λ (l : State). Said (code_of instrs, l) (inner_at (suc levels) n s)) (sym stays) (subst (λ (l : State). Said (code_of instrs, after) (inner_at (suc levels) n l)) at all)

pub inner_failed : (levels below n : ℕ) (before : List Instr) (s here : State) (f : Failure) → 1 ≤ levels → below ≡ levels - 1 → before ≡ [] → here ≡ s
    → Failed f (instrs_at below n (before, here)) → Failed f (inner_at levels n s)
unfolding instrs_at inner_at
inner_failed zero below n before s here f some fewer none at h = absurd (omega arith)
inner_failed (suc levels) below n before s here f some fewer none at h =
    let same : below ≡ levels = omega arith in
    let read : Failed f (instrs_at levels n ([], here)) = subst (λ (l : ℕ). Failed f (instrs_at l n ([], here))) same (subst (λ (l : List Instr). Failed f (instrs_at below n (l, here))) none h) in
    let all : Failed f (inner_at (suc levels) n here) = first_failed (instrs_at levels n ([], here)) (λ y. Some (code_of y.0, y.1)) f read in
    subst (λ (l : State). Failed f (inner_at (suc levels) n l)) at all
