use Rattle.std.proofs.Common.{◌≡◌, ◌+◌, ◌<◌, List, length, get_or, set, sym, ap, ◌∙◌, subst, arith}
use Rattle.std.proofs.lemmas.List.{length-set}
use Rattle.wasm_ast.specs.declared.module.Function.{Function}
use Rattle.wasm_ast.specs.declared.module.Module.{Module}
use Rattle.wasm_ast.specs.Limits.{imported_functions}
use Rattle.cost.specs.Marks.{rank_at}
use Rattle.verified.specs.Arities.{arity_table}
use Rattle.profile_rules.specs.inside.StackHeights.{ground_level, with_code}
use Rattle.bounded_profile.proofs.Leveling.{begins, skips, sets, ends, length_of_table}
use Rattle.bounded_profile.proofs.heights.add_heights.Goals as goal
use Rattle.bounded_profile.proofs.heights.add_heights.Goals.{then-rank, else-rank}

pub loop-index-init : goal.loop-index-init
loop-index-init c =
    let m = c.args.valid.now in
    let n = c.imported_function_count-imported.result in
    let e : n ≡ imported_functions m.imports = c.imported_function_count-imported.ensures ∙ ap imported_functions (c.as_slice.ensures ∙ ap (λ (k : Module). k.imports) c.module-module.ensures.value) in
    record {
      told = begins m c.args.ranks.now c.requires.ranked c.args.heights.now c.args.rank n c.requires.positive e c.requires.told;
      long = c.requires.long;
    }

pub set-requires : goal.set-requires
set-requires c =
    let m = c.args.valid.now in
    let n = c.imported_function_count-imported.result in
    let e : n ≡ imported_functions m.imports = c.imported_function_count-imported.ensures ∙ ap imported_functions (c.as_slice.ensures ∙ ap (λ (k : Module). k.imports) c.module-module.ensures.value) in
    let f : length c.as_slice-function-items.result.now ≡ length m.functions = ap length (c.as_slice-function-items.ensures ∙ ap (λ (k : Module). k.functions) c.module-module.ensures.value) in
    let t = length_of_table m in
    let a = ap length c.requires.arities in
    let l = c.loop-index.invariant.long in
    omega (arith, e, f, t, a, l)

pub loop-index-preserved : goal.loop-index-preserved
loop-index-preserved c =
    let m = c.args.valid.now in
    let n = c.imported_function_count-imported.result in
    let i = c.loop-index.index in
    let e : n ≡ imported_functions m.imports = c.imported_function_count-imported.ensures ∙ ap imported_functions (c.as_slice.ensures ∙ ap (λ (k : Module). k.imports) c.module-module.ensures.value) in
    let same = c.as_slice-function-items.ensures ∙ ap (λ (k : Module). k.functions) c.module-module.ensures.value in
    let f : length c.as_slice-function-items.result.now ≡ length m.functions = ap length same in
    let t = length_of_table m in
    let a = ap length c.requires.arities in
    let l = c.loop-index.invariant.long in
    let g = c.function-item.result in
    let here : c.rank.result ≡ c.args.rank → rank_at c.args.ranks.now (n + i) ≡ c.args.rank = λ h. sym c.rank.ensures ∙ h in
    let h : i < length m.functions = omega (arith, f) in
    let is : g ≡ get_or m.functions i g = subst (λ (xs : List Function). g ≡ get_or xs i g) same c.function-item.is in
    elim c.if-rank.branch [
      | then-rank w ↦
          let v = w.height_along-height.result in
          let value : v ≡ (with_code (arity_table m) c.loop-index.heights ground_level g.body).most = w.height_along-height.ensures ∙ ap (λ k. (with_code k c.loop-index.heights ground_level g.body).most) c.requires.arities in
          let next = sets m c.args.ranks.now c.requires.ranked c.module-module.ensures.typed.types c.loop-index.heights c.args.rank n i v g e h is (omega (arith, e, f, t, a, l)) (here w.if-rank.true) value c.loop-index.invariant.told in
          let long : length (set c.loop-index.heights (n + i) v) ≡ length c.args.arities.now = length-set c.loop-index.heights (n + i) v ∙ l in
          rw (w.heights-is, w.set.ensures) (record { told = next; long = long })
      | else-rank w ↦
          let next = skips m c.args.ranks.now c.requires.ranked c.loop-index.heights c.args.rank n i (λ q. absurd (w.if-rank.false (c.rank.ensures ∙ q))) c.loop-index.invariant.told in
          rw w.heights-is (record { told = next; long = l })
    ]

pub returns-clause-told : goal.returns-clause-told
returns-clause-told c =
    let m = c.args.valid.now in
    let n = c.imported_function_count-imported.result in
    let e : n ≡ imported_functions m.imports = c.imported_function_count-imported.ensures ∙ ap imported_functions (c.as_slice.ensures ∙ ap (λ (k : Module). k.imports) c.module-module.ensures.value) in
    let f : length c.as_slice-function-items.result.now ≡ length m.functions = ap length (c.as_slice-function-items.ensures ∙ ap (λ (k : Module). k.functions) c.module-module.ensures.value) in
    ends m c.args.ranks.now c.requires.ranked c.loop-index.heights c.args.rank n c.loop-index.index c.requires.positive e (omega (arith, f, c.loop-index-test.false)) c.loop-index.invariant.told
