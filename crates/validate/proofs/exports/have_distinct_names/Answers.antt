use Rattle.std.proofs.Common.{◌≡◌, ◌<◌, ◌++◌, ◌∷◌, [], Bool, true, false, not, map, take, drop, length, refl, sym, ap, ◌∙◌, subst, arith, suc}
use Rattle.verified.specs.Modules.{name_of_export, AreDistinct}
use Rattle.validate.proofs.Distinct.{is_among, AreDistinct-push, twice, names_more, names_split, has_name, seen_push}
use Rattle.validate.proofs.exports.have_distinct_names.Goals as goal

not_is : (r b : Bool) → r ≡ not b → b ≡ not r
not_is true true e = absurd cc
not_is true false e = refl
not_is false true e = refl
not_is false false e = absurd cc

pub returns-then-not-branch : goal.returns-then-not-branch
returns-then-not-branch c =
    let i = c.loop-export.export-index in
    let es = c.args.exports.now in
    let e = c.export-item.result in
    let before = map name_of_export (take i es) in
    let within : i < length es = omega arith in
    let had : has_name c.loop-export.seen c.as_str.result.now ≡ true = not_is _ _ c.in_ok-insert.ensures.added ∙ ap not c.if-not-branch.true in
    let among : is_among before e.name ≡ true = ap (is_among before) (sym c.as_str.ensures) ∙ sym (c.loop-export.invariant.seen c.as_str.result.now) ∙ had in
    (λ f. absurd cc, λ distinct. absurd (twice before (map name_of_export (drop (suc i) es)) e.name among (subst AreDistinct (names_split es i e within c.export-item.is) distinct)))

pub loop-export-preserved : goal.loop-export-preserved
loop-export-preserved c =
    let i = c.loop-export.export-index in
    let es = c.args.exports.now in
    let e = c.export-item.result in
    let before = map name_of_export (take i es) in
    let within : i < length es = omega arith in
    let had : has_name c.loop-export.seen c.as_str.result.now ≡ false = not_is _ _ c.in_ok-insert.ensures.added ∙ ap not c.if-not-branch.false in
    let among : is_among before e.name ≡ false = ap (is_among before) (sym c.as_str.ensures) ∙ sym (c.loop-export.invariant.seen c.as_str.result.now) ∙ had in
    let more = names_more es i e within c.export-item.is in
    record {
      distinct = subst AreDistinct (sym more) (AreDistinct-push before e.name c.loop-export.invariant.distinct among);
      seen = λ name.
          seen_push c.loop-export.seen c.insert.new.self before c.as_str.result.now c.loop-export.invariant.seen c.in_ok-insert.ensures.updates.0 name
          ∙ ap (λ n. is_among (before ++ n ∷ []) name) c.as_str.ensures
          ∙ ap (λ names. is_among names name) (sym more);
    }
