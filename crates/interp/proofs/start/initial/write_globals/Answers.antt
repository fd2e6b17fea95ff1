use Rattle.std.proofs.Common.{◌≡◌, ◌+◌, ◌<◌, ◌∷◌, [], Some, drop, length, take, suc, arith, ap, ◌∙◌, sym, subst, rules}
use Rattle.std.specs.Prelude.{get_or, slice_set}
use Rattle.std.proofs.lemmas.List.{drop_more, length-set}
use Rattle.semantics.specs.Start.{constant_value}
use Rattle.wasm_ast.specs.declared.types.Value.TheVariants.{I64}
use Rattle.interp.proofs.Resetting.{SoFar, one_more, take-set_next}
use Rattle.interp.proofs.start.initial.write_globals.Goals as goal

pub loop-definition-preserved : goal.loop-definition-preserved
loop-definition-preserved c =
    let all = c.args.definitions.now in
    let i = c.loop-definition.definition-index in
    let g = c.definition-item.result in
    let h : i < length all = search rules in
    let item : get_or all i g ≡ g = search rules in
    let left : drop i all ≡ g ∷ drop (i + 1) all = drop_more all i g h ∙ ap (λ x. x ∷ drop (i + 1) all) item in
    let is : Some c.in-Some.value ≡ constant_value [] g.initial = search rules in
    let place = c.loop-definition.place in
    let inv = c.loop-definition.invariant in
    let within : place < length c.loop-definition.globals = omega (arith, h, inv.long, inv.place) in
    let cut = take-set_next place c.loop-definition.globals (I64 c.of_value.result) within in
    let next_place : place + 1 ≡ suc place = omega arith in
    let next = one_more all (drop i all) (drop (i + 1) all) g (take place c.loop-definition.globals) c.in-Some.value c.of_value.result left is c.of_value.ensures.same c.of_value.ensures.fits inv.so_far in
    record {
      so_far = subst (λ l. SoFar all (drop (i + 1) all) l) (sym (ap (λ l. take (place + 1) l) c.set_at.ensures ∙ ap (λ n. take n (slice_set c.loop-definition.globals place (I64 c.of_value.result))) next_place ∙ cut)) next;
      long = inv.long ∙ sym (ap length c.set_at.ensures ∙ length-set c.loop-definition.globals place (I64 c.of_value.result));
      place = ap (λ n. n + 1) inv.place;
    }
