use Rattle.std.proofs.Common.{◌≡◌, ◌+◌, ◌<◌, ◌++◌, ℕ, List, Bool, Some, None, true, if◌then◌else◌, drop, length, take, sym, ap, ◌∙◌, arith}
use Rattle.std.specs.Vec.{with_items}
use Rattle.std.proofs.lemmas.List.{with_items_is}
use Rattle.wasm_ast.specs.declared.module.Module.{Module}
use Rattle.interp.specs.inside.Kept.{count_kept, is_kept, kept_laid, laid_over, marked_before, spread}
use Rattle.semantics.specs.inside.Touched.{marks}
use Rattle.interp.proofs.Kept.{kept-laid_over, laid_spread, place_within, spread_there}
use Rattle.interp.proofs.memory.Memory.write.Goals as goal

-- what was written lies where it is kept
laid_in_place : (m : Module) (bytes lent written items others : List ℕ) (place start : ℕ) → is_kept place (length others) (spread (marks m) bytes) ≡ true → 0 < length others → start ≡ marked_before (marks m) place → lent ≡ bytes → written ≡ take start lent ++ others ++ drop (start + length others) lent → items ≡ written → laid_over place others (spread (marks m) bytes) ≡ spread (marks m) items
laid_in_place m bytes lent written items others place start kept some here same value is =
    laid_spread (marks m) bytes place others kept some
    ∙ ap (λ k. spread (marks m) (take k bytes ++ others ++ drop (k + length others) bytes)) (sym here)
    ∙ ap (λ l. spread (marks m) (take start l ++ others ++ drop (start + length others) l)) (sym same)
    ∙ ap (spread (marks m)) (sym value)
    ∙ ap (spread (marks m)) (sym is)

pub kept_place-start-requires : goal.kept_place-start-requires
kept_place-start-requires c =
    let m = c.self.inside.verified.now in
    let bs = c.self.inside.bytes.items in
    let n = length c.args.others.now in
    let kept : is_kept c.args.place n (spread (marks m) bs) ≡ true = ap (is_kept c.args.place n) c.self.view_is ∙ c.requires.kept in
    omega (arith, place_within m bs c.args.place n kept)

pub write_at-requires : goal.write_at-requires
write_at-requires c =
    let m = c.self.inside.verified.now in
    let bs = c.self.inside.bytes.items in
    let n = length c.args.others.now in
    let kept : is_kept c.args.place n (spread (marks m) bs) ≡ true = ap (is_kept c.args.place n) c.self.view_is ∙ c.requires.kept in
    omega (arith, spread_there (marks m) bs c.args.place n kept c.requires.some, c.kept_place-start.ensures.place, ap length c.deref_mut.ensures.value)

pub invariant_of-self : goal.invariant_of-self
invariant_of-self c =
    let m = c.self.inside.verified.now in
    let bs = c.self.inside.bytes.items in
    let others = c.args.others.now in
    let n = length others in
    let kept : is_kept c.args.place n (spread (marks m) bs) ≡ true = ap (is_kept c.args.place n) c.self.view_is ∙ c.requires.kept in
    let is = with_items_is c.self.inside.bytes c.write_at.new.bytes (omega (arith, c.write_at.ensures.len, c.deref_mut.ensures.len)) in
    let laid = laid_in_place m bs c.deref_mut.result.now c.write_at.new.bytes (with_items c.self.inside.bytes c.write_at.new.bytes).items others c.args.place c.kept_place-start.result kept c.requires.some c.kept_place-start.ensures.place c.deref_mut.ensures.value c.write_at.ensures.value is in
    ap count_kept (sym laid) ∙ kept-laid_over c.args.place others (spread (marks m) bs) ∙ c.self.invariant ∙ sym (ap length is ∙ c.write_at.ensures.len ∙ ap length c.deref_mut.ensures.value)

pub returns-clause-laid : goal.returns-clause-laid
returns-clause-laid c =
    let m = c.self.inside.verified.now in
    let bs = c.self.inside.bytes.items in
    let others = c.args.others.now in
    let n = length others in
    let kept : is_kept c.args.place n (spread (marks m) bs) ≡ true = ap (is_kept c.args.place n) c.self.view_is ∙ c.requires.kept in
    let is = with_items_is c.self.inside.bytes c.write_at.new.bytes (omega (arith, c.write_at.ensures.len, c.deref_mut.ensures.len)) in
    let laid = laid_in_place m bs c.deref_mut.result.now c.write_at.new.bytes (with_items c.self.inside.bytes c.write_at.new.bytes).items others c.args.place c.kept_place-start.result kept c.requires.some c.kept_place-start.ensures.place c.deref_mut.ensures.value c.write_at.ensures.value is in
    sym (ap (kept_laid c.args.place others) c.self.view_is)
    ∙ ap (λ (b : Bool). if b then Some (laid_over c.args.place others (spread (marks m) bs)) else None) kept
    ∙ ap (λ l. Some l) laid

pub returns-clause-kept : goal.returns-clause-kept
returns-clause-kept c =
    let m = c.self.inside.verified.now in
    let bs = c.self.inside.bytes.items in
    let others = c.args.others.now in
    let n = length others in
    let kept : is_kept c.args.place n (spread (marks m) bs) ≡ true = ap (is_kept c.args.place n) c.self.view_is ∙ c.requires.kept in
    let is = with_items_is c.self.inside.bytes c.write_at.new.bytes (omega (arith, c.write_at.ensures.len, c.deref_mut.ensures.len)) in
    let laid = laid_in_place m bs c.deref_mut.result.now c.write_at.new.bytes (with_items c.self.inside.bytes c.write_at.new.bytes).items others c.args.place c.kept_place-start.result kept c.requires.some c.kept_place-start.ensures.place c.deref_mut.ensures.value c.write_at.ensures.value is in
    ap count_kept (sym laid) ∙ kept-laid_over c.args.place others (spread (marks m) bs) ∙ ap count_kept c.self.view_is
