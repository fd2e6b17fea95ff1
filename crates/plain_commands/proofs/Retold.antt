-- The same answer of other words.
use Rattle.std.proofs.Common.{◌≡◌, ℕ, List, Option, Result, subst}
use Rattle.plain_commands.specs.Outputs.{HasPrinted}

-- the same answer of other words for the status and the text
pub retold : {E : Type 0} (old new : Option (List ℕ)) (answer : Result ℕ E) (status other : ℕ) (told text : List ℕ) → status ≡ other
    → told ≡ text → HasPrinted old new status told answer → HasPrinted old new other text answer
retold old new answer status other told text same spelled is =
    subst (λ n. HasPrinted old new n text answer) same (subst (λ t. HasPrinted old new status t answer) spelled is)
