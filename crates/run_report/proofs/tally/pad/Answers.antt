use Rattle.std.proofs.Common.{◌≡◌, ◌∙◌, ℕ, zero, suc, ◌++◌, ◌∷◌, [], List, ap, arith, get_or, refl}
use Rattle.run_report.specs.Tally.{row_in}
use Rattle.run_report.proofs.tally.pad.Goals as goal

get_or_padded : {X : Type 0} (xs : List X) (d : X) (i : ℕ) → get_or (xs ++ d ∷ []) i d ≡ get_or xs i d
get_or_padded [] d zero = refl
get_or_padded [] d (suc i) = refl
get_or_padded (x ∷ xs) d zero = refl
get_or_padded (x ∷ xs) d (suc i) = get_or_padded xs d i

pub loop-next-preserved : goal.loop-next-preserved
loop-next-preserved c =
    let pushed = c.in_ok-push.ensures in
    let so_far = c.loop-next.invariant in
    record {
      reached = omega (arith, pushed.len, so_far.reached);
      same = λ place. ap (λ rows. row_in rows place) pushed.items ∙ get_or_padded c.loop-next.rows.items _ place ∙ so_far.same place;
    }
