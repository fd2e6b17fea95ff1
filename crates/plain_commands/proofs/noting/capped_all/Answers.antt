use Rattle.std.proofs.Common.{◌∷◌, [], ◌++◌, ◌∙◌, ap₂, arith, sym}
use Rattle.std.proofs.lemmas.List.{map_more, take_all}
use Rattle.run_report.specs.Tally.{capped}
use Rattle.plain_commands.proofs.noting.capped_all.Goals as goal

pub loop-number-preserved : goal.loop-number-preserved
loop-number-preserved c = record {
  items =
      c.push_reserved.ensures.items
      ∙ ap₂ (λ front one. front ++ one ∷ []) c.loop-number.invariant.items c.capped.ensures
      ∙ sym (map_more capped c.args.numbers.now c.loop-number.number-index 0 c.loop-number-test.true);
  len = omega (arith, c.push_reserved.ensures.len, c.loop-number.invariant.len);
  room = c.push_reserved.ensures.capacity ∙ c.loop-number.invariant.room;
}

pub push_reserved-requires : goal.push_reserved-requires
push_reserved-requires c = omega (arith, c.loop-number.invariant.len, c.loop-number.invariant.room, c.loop-number-test.true)

pub returns : goal.returns
returns c = rw (take_all c.loop-number.number-index c.args.numbers.now c.loop-number-test.false) at c.loop-number.invariant.items
