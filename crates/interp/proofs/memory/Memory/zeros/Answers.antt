use Rattle.std.proofs.Common.{replicate, sym, ap, ◌∙◌, length}
use Rattle.std.proofs.lemmas.List.{length-replicate}
use Rattle.interp.specs.inside.Kept.{count_kept, spread}
use Rattle.semantics.specs.inside.Touched.{marks}
use Rattle.interp.proofs.Kept.{all_reached, fresh_bytes, kept_fresh}
use Rattle.interp.proofs.memory.Memory.zeros.Goals as goal

pub returns-clause-zeros : goal.returns-clause-zeros
returns-clause-zeros c =
    let m = c.args.verified.now in
    ap (spread (marks m)) c.in_ok-bytes.ensures ∙ ap (λ n. spread (marks m) (replicate n 0)) c.reach.ensures ∙ fresh_bytes m

pub returns-clause-kept : goal.returns-clause-kept
returns-clause-kept c =
    let m = c.args.verified.now in
    ap count_kept (ap (spread (marks m)) c.in_ok-bytes.ensures ∙ ap (λ n. spread (marks m) (replicate n 0)) c.reach.ensures ∙ fresh_bytes m) ∙ kept_fresh m

pub invariant_of-result : goal.invariant_of-result
invariant_of-result c =
    let m = c.args.verified.now in
    let ms = marks m in
    ap (λ l. count_kept (spread ms l)) c.in_ok-bytes.ensures ∙ ap (λ n. count_kept (spread ms (replicate n 0))) c.reach.ensures ∙ ap count_kept (fresh_bytes m) ∙ kept_fresh m
    ∙ sym (ap length c.in_ok-bytes.ensures ∙ length-replicate c.reach.result 0 ∙ c.reach.ensures ∙ all_reached m)
