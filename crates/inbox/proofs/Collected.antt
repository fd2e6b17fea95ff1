-- What a collection of results holds where each is `Ok`.
use Rattle.std.proofs.Common.{◌≡◌, List, [], ◌∷◌, map, Result, Ok, Err, IfOk, MatchResult}
use Rattle.std.specs.List.{AllZip}

pub IfOk-from_match : {T E : Type 0} (r : Result T E) (P Q : T → Type 0) (R : E → Type 0) → MatchResult r P R → ((v : T) → P v → Q v) → IfOk r Q
IfOk-from_match (Ok v) P Q R h turn = turn v h
IfOk-from_match (Err e) P Q R h turn = tt

-- where all results are `Ok`, each value is what an `Ok` result says
pub all_collected : {X Y E : Type 0} (Q : X → Y → Type 0) (xs : List X) (rs : List (Result Y E)) (ys : List Y) → AllZip (λ x r. IfOk r (Q x)) xs rs → rs ≡ map Ok ys → AllZip Q xs ys
all_collected Q [] [] [] zip is = tt
all_collected Q [] [] (y ∷ ys) zip is = cc
all_collected Q [] (r ∷ rs) ys zip is = absurd zip
all_collected Q (x ∷ xs) [] ys zip is = absurd zip
all_collected Q (x ∷ xs) (r ∷ rs) [] zip is = cc
all_collected Q (x ∷ xs) (r ∷ rs) (y ∷ ys) zip is =
    let first : r ≡ Ok y = cc in
    let others : rs ≡ map Ok ys = cc in
    (rw first at zip.0, all_collected Q xs rs ys zip.1 others)
