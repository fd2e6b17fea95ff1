-- The labels of a `br_table`, one after another.
use Rattle.std.proofs.Common.{◌≡◌, ℕ, true, false, List, [], ◌∷◌, ◌++◌, Some, refl, subst}
use Rattle.wasm_ast.specs.declared.plain.Branch.TheVariants as jump
use Rattle.wasm_ast.specs.declared.body.Instr.TheVariants as instr
use Rattle.wat_syntax.specs.declared.fault.Failure.{Failure}
use Rattle.wat_syntax.specs.inside.Reading.{State, repeated, number_at, number_first}
use Rattle.wat_syntax.specs.inside.ReadingCode.{label_step, branch_table_at}
use Rattle.wat_syntax.proofs.Repeats.{Said, Failed, Onward, IsAnswer, then_said, then_failed, first_failed, loop_fails, loop_done}

pub label_said : (front : List ℕ) (last n : ℕ) (s after : State) → Said (n, after) (number_at s) → Said ((front ++ last ∷ [], n), after) (label_step ((front, last), s))
label_said front last n s after h =
    then_said (n, after) (number_at s) (λ n. Some ((front ++ last ∷ [], n.0), n.1)) ((front ++ last ∷ [], n), after) h refl

pub label_failed : (front : List ℕ) (last : ℕ) (s : State) (f : Failure) → Failed f (number_at s) → Failed f (label_step ((front, last), s))
label_failed front last s f h = first_failed (number_at s) (λ n. Some ((front ++ last ∷ [], n.0), n.1)) f h

pub table_fails : (front labels : List ℕ) (first last n : ℕ) (s0 s1 s : State) (f : Failure) → front ≡ [] → Said (first, s1) (number_at s0)
    → IsAnswer (number_first s.0) true → Failed f (number_at s) → Onward number_first label_step ((front, first), s1) ((labels, last), s)
    → Failed f (branch_table_at n s0)
unfolding branch_table_at
table_fails front labels first last n s0 s1 s f none h on bad so_far =
    let start : Onward number_first label_step (([], first), s1) ((labels, last), s) = subst (λ (l : List ℕ). Onward number_first label_step ((l, first), s1) ((labels, last), s)) none so_far in
    then_failed (first, s1) (number_at s0) _ f h
    (first_failed (repeated number_first label_step n (([], first), s1)) _ f
    (loop_fails number_first label_step (([], first), s1) ((labels, last), s) f n on (label_failed labels last s f bad) start))

pub table_said : (front labels : List ℕ) (first last n : ℕ) (s0 s1 s : State) → front ≡ [] → Said (first, s1) (number_at s0)
    → IsAnswer (number_first s.0) false → Onward number_first label_step ((front, first), s1) ((labels, last), s)
    → Said (instr.Branch (jump.BrTable labels last), s) (branch_table_at n s0)
unfolding branch_table_at
table_said front labels first last n s0 s1 s none h off so_far =
    let start : Onward number_first label_step (([], first), s1) ((labels, last), s) = subst (λ (l : List ℕ). Onward number_first label_step ((l, first), s1) ((labels, last), s)) none so_far in
    then_said (first, s1) (number_at s0) _ _ h
    (then_said ((labels, last), s) (repeated number_first label_step n (([], first), s1)) _ _
    (loop_done number_first label_step (([], first), s1) ((labels, last), s) n off start) refl)
