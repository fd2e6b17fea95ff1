use Rattle.std.proofs.Common.{◌≡◌, ◌+◌, ◌<◌, ◌≤◌, ◌++◌, ◌∷◌, [], drop, take, length, sym, ap, ◌∙◌, arith, rules, append_assoc}
use Rattle.std.proofs.lemmas.List.{drop_more, length-take, map-append, take-append-le}
use Rattle.wasm_ast.specs.declared.types.ValType.TheVariants as val_type
use Rattle.wasm_ast.specs.declared.types.Value.TheVariants.{I64}
use Rattle.interp.specs.inside.Cells.{zero_cells}
use Rattle.interp.proofs.Stored.{stored}
use Rattle.interp.proofs.locals.add_zeros.Goals as goal

pub loop-preserved : goal.loop-preserved
loop-preserved c =
    let types = c.args.types.now in
    let i = c.loop.index in
    let items = c.loop.cells.items in
    let h : i < length types = search rules in
    let more = drop_more types i val_type.I64 h in
    let pushed : c.push_reserved.new.self.items ≡ items ++ 0 ∷ [] = c.push_reserved.ensures.items in
    let zeros = zero_cells (drop (i + 1) types) in
    let old = c.args.cells.now.items in
    let long : length old ≤ length items = omega (arith, ap length c.loop.invariant.kept, length-take (length old) items) in
    record {
      so_far = ap (λ l. stored l ++ zeros) pushed ∙ ap (λ l. l ++ zeros) (map-append I64 items (0 ∷ [])) ∙ append_assoc (stored items) (I64 0 ∷ []) zeros ∙ ap (λ l. stored items ++ zero_cells l) (sym more) ∙ c.loop.invariant.so_far;
      kept = ap (λ l. take (length old) l) pushed ∙ take-append-le (length old) items (0 ∷ []) long ∙ c.loop.invariant.kept;
      long = omega (arith, c.push_reserved.ensures.len, c.loop.invariant.long);
      room = c.push_reserved.ensures.capacity ∙ c.loop.invariant.room;
    }

pub push_reserved-requires : goal.push_reserved-requires
push_reserved-requires c =
    let h : c.loop.index < length c.args.types.now = search rules in
    omega (arith, h, c.loop.invariant.long, c.loop.invariant.room, c.requires)
