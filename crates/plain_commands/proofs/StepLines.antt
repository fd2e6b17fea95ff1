-- One line after another: the steps of the lines so far.
use Rattle.std.proofs.Common.{◌≡◌, ℕ, suc, ◌+◌, ◌≤◌, List, [], ◌∷◌, ◌++◌, length, drop, map, Result, Ok, Err, refl, ap, sym, ◌∙◌, add-one, append_assoc, drop-cons, arith}
use Rattle.std.specs.Str.Lines.{lines}
use Rattle.std.proofs.lemmas.List.{append-nil, drop_all}
use Rattle.rollback.specs.declared.simulation.Step.{Step}
use Rattle.call_lines.specs.declared.input.InputFault.{InputFault}
use Rattle.call_lines.specs.declared.input.InputFault.TheVariants as fault
use Rattle.plain_commands.specs.declared.step_line.StepLine.{StepLine}
use Rattle.plain_commands.specs.declared.step_line.StepLine.TheVariants.{Skipped, Says, Bad}
use Rattle.plain_commands.specs.StepLine.{step_line_of}
use Rattle.plain_commands.specs.Steps.{IsStepsFault, put_first, steps_from}
use Rattle.plain_commands.specs.inside.Stepping.{with_step}
use Rattle.call_lines.proofs.TextLines.{Comes}

-- steps, and those that come then
abbrev pub behind : List Step → Result (List Step) ℕ → Result (List Step) ℕ
behind steps (Ok rest) = Ok (steps ++ rest)
behind steps (Err number) = Err number

-- these are the steps of so many lines, of which none is bad
pub record HaveRead (all : List StepLine) (read : ℕ) (steps : List Step) : Type 0 where
  pub same : steps_from 1 all ≡ behind steps (steps_from (read + 1) (drop read all))

behind_then : (steps : List Step) (step : Step) (rest : Result (List Step) ℕ)
    → behind steps (put_first step rest) ≡ behind (steps ++ step ∷ []) rest
behind_then steps step (Ok rest) = ap Ok (sym (append_assoc steps (step ∷ []) rest))
behind_then steps step (Err number) = refl

behind_none : (rest : Result (List Step) ℕ) → behind [] rest ≡ rest
behind_none (Ok rest) = refl
behind_none (Err number) = refl

pub none_read : (all : List StepLine) (steps : List Step) → steps ≡ [] → HaveRead all 0 steps
none_read all steps none = record { same = sym (ap (λ xs. behind xs (steps_from 1 all)) none ∙ behind_none (steps_from 1 all)) }

front : (all : List StepLine) (read : ℕ) (said : StepLine) → Comes all read said → drop read all ≡ said ∷ drop (read + 1) all
front all read said comes =
    drop-cons all read said comes.short ∙ ap (λ line. line ∷ drop (suc read) all) comes.stands ∙ ap (λ n. said ∷ drop n all) (sym (add-one read))

next_line : (n : ℕ) (rest : List StepLine) (said : StepLine) (old new : List Step) → with_step old said ≡ Ok new
    → behind old (steps_from n (said ∷ rest)) ≡ behind new (steps_from (suc n) rest)
next_line n rest Skipped old new added = let same : old ≡ new = cc in ap (λ steps. behind steps (steps_from (suc n) rest)) same
next_line n rest (Says step) old new added =
    let same : old ++ step ∷ [] ≡ new = cc in
    behind_then old step (steps_from (suc n) rest) ∙ ap (λ steps. behind steps (steps_from (suc n) rest)) same
next_line n rest Bad old new added = absurd cc

-- one line more
pub reads_next : (all : List StepLine) (read : ℕ) (said : StepLine) (old new : List Step) → Comes all read said
    → with_step old said ≡ Ok new → HaveRead all read old → HaveRead all (read + 1) new
reads_next all read said old new comes added have = record {
  same =
      have.same
      ∙ ap (λ ls. behind old (steps_from (read + 1) ls)) (front all read said comes)
      ∙ next_line (read + 1) (drop (read + 1) all) said old new added
      ∙ ap (λ n. behind new (steps_from n (drop (read + 1) all))) (sym (add-one (read + 1)));
}

bad_front : (all : List StepLine) (read : ℕ) (said : StepLine) (steps : List Step) → Comes all read said → said ≡ Bad
    → HaveRead all read steps → steps_from 1 all ≡ Err (read + 1)
bad_front all read said steps comes bad have =
    have.same
    ∙ ap (λ ls. behind steps (steps_from (read + 1) ls)) (front all read said comes)
    ∙ ap (λ line. behind steps (steps_from (read + 1) (line ∷ drop (read + 1) all))) bad

-- a line that was not added is the first bad one, where memory did not run out
pub refused_next : (text : List ℕ) (read index : ℕ) (said : StepLine) (steps : List Step) (told : InputFault) → index ≡ read
    → Comes (map step_line_of (lines text)) read said → HaveRead (map step_line_of (lines text)) read steps
    → (((told ≡ fault.OutOfMemory) → ⊥) → (told ≡ fault.Line (index + 1)) × (said ≡ Bad)) → IsStepsFault text told
refused_next text read index said steps fault.OutOfMemory counted comes have refused = tt
refused_next text read index said steps (fault.Line number) counted comes have refused =
    let why = refused (λ e. absurd (cc)) in
    let same : number ≡ index + 1 = cc in
    let here : read + 1 ≡ number = omega (arith, same, counted) in
    bad_front (map step_line_of (lines text)) read said steps comes why.1 have ∙ ap Err here

-- all lines were read
pub reads_all : (all : List StepLine) (read : ℕ) (steps : List Step) → length all ≤ read → HaveRead all read steps
    → steps_from 1 all ≡ Ok steps
reads_all all read steps past have =
    have.same
    ∙ ap (λ ls. behind steps (steps_from (read + 1) ls)) (drop_all read all past)
    ∙ ap Ok (append-nil steps)
