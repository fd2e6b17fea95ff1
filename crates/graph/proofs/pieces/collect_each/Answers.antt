use Rattle.std.proofs.Common.{◌≡◌, List, [], ◌∷◌, map, Result, Ok, Err, IfOk, MatchResult, ap, ◌∙◌}
use Rattle.std.specs.List.{AllZip}
use Rattle.rayon.proofs.ToStd.{slice-AllZip}
use Rattle.graph.specs.inside.Pieces.{IsCollected}
use Rattle.graph.proofs.pieces.collect_each.Goals as goal

ok_from_match : {T E : Type 0} (r : Result T E) (P Q : T → Type 0) (R : E → Type 0) → MatchResult r P R → ((v : T) → P v → Q v) → IfOk r Q
ok_from_match (Ok v) P Q R h turn = turn v h
ok_from_match (Err e) P Q R h turn = tt

-- where all results are `Ok`, each value is what an `Ok` result says
all_ok : {X Y E : Type 0} (Q : X → Y → Type 0) (xs : List X) (rs : List (Result Y E)) (ys : List Y) → AllZip (λ x r. IfOk r (Q x)) xs rs → rs ≡ map Ok ys → AllZip Q xs ys
all_ok Q [] [] [] zip is = tt
all_ok Q [] [] (y ∷ ys) zip is = cc
all_ok Q [] (r ∷ rs) ys zip is = absurd zip
all_ok Q (x ∷ xs) [] ys zip is = absurd zip
all_ok Q (x ∷ xs) (r ∷ rs) [] zip is = cc
all_ok Q (x ∷ xs) (r ∷ rs) (y ∷ ys) zip is =
    let first : r ≡ Ok y = cc in
    let others : rs ≡ map Ok ys = cc in
    (rw first at zip.0, all_ok Q xs rs ys zip.1 others)

pub returns : goal.returns
returns g c =
    let done = c.in_ok-collect.ensures in
    let chain = rw (c.map.ensures.base, c.map.ensures.f) at done.1 in
    let slice = ap (λ it. it.slice.now) c.with_min_len.ensures.base ∙ c.par_iter.ensures in
    ok_from_match c.in_ok-collect.field-0 _ _ _ done.2 (λ all items.
    rw items.2 (slice-AllZip chain.0 c.args.pieces.now (chain.1 ∙ slice) IsCollected items.0 (all_ok (λ piece one. IsCollected piece.now one) chain.0 done.0 items.0 chain.2 items.1)))
