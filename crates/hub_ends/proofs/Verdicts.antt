-- What is told of losses, and what is heard of it.
use Rattle.std.proofs.Common.{◌≡◌, ◌∙◌, ℕ, ◌+◌, false, List, [], ◌∷◌, ◌++◌, map, Result, Ok, Err, OnOk, ap, refl, sym, subst}
use mathlib.Core.List.{IsPrefix, append-nil, map-append}
use Rattle.hub_ends.specs.Protocol.{has_bye, of}
use Rattle.hub_ends.specs.Verdicts.{from_coordinator, never_closes, was_counted}
use Rattle.hub_ends.specs.declared.verdict.Verdict.{Verdict}

pub no_bye : (xs : List Verdict) → has_bye never_closes xs ≡ false
no_bye [] = refl
no_bye (x ∷ xs) = no_bye xs

all_of : (xs : List Verdict) → of from_coordinator 0 xs ≡ xs
all_of [] = refl
all_of (x ∷ xs) = ap (λ l. x ∷ l) (all_of xs)

pub verdict_more : (xs ys : List Verdict) (v : Verdict) → ys ≡ xs ++ v ∷ [] → map was_counted ys ≡ map was_counted xs ++ v.counted ∷ []
verdict_more xs ys v e = ap (map was_counted) e ∙ map-append was_counted xs (v ∷ [])

pub verdict_sent : {A E : Type 0} (r : Result A E) (xs ys : List Verdict) (v : Verdict) → OnOk r (ys ≡ xs ++ v ∷ []) → OnOk r (map was_counted ys ≡ map was_counted xs ++ v.counted ∷ [])
verdict_sent (Ok a) xs ys v e = verdict_more xs ys v e
verdict_sent (Err x) xs ys v e = tt

pub verdict_prefix : (n : ℕ) (sent got : List Verdict) → n ≡ 0 → IsPrefix (of from_coordinator n got) sent → IsPrefix (map was_counted got) (map was_counted sent)
verdict_prefix n sent got e p =
    let q : IsPrefix got sent = subst (λ l. IsPrefix l sent) (ap (λ (k : ℕ). of from_coordinator k got) e ∙ all_of got) p in
    (map was_counted q.0, sym (map-append was_counted got q.0) ∙ ap (map was_counted) q.1)
