use Rattle.std.proofs.Common.{refl, sym, arith}
use Rattle.std.proofs.lemmas.Map.Text.{btree_map_updates_str}
use Rattle.wat_syntax.specs.declared.lexer.numbering.Numbering.{Numbering}
use Rattle.wat_syntax.proofs.Numbering.{grows}
use Rattle.wat_syntax.proofs.lexer.numbering.Numbering.number.Goals as goal

pub returns-clause-grows : goal.returns-clause-grows
returns-clause-grows c =
    let new : Numbering = record { numbers = c.insert.new.self; count = c.in-Some-checked_add.count } in
    let numbers = btree_map_updates_str c.args.name.now c.args.self.now.numbers c.insert.new.self _ c.in_ok-insert.ensures.updates in
    grows c.args.self.now new c.args.name.now _ numbers (sym c.in_default.ensures.value) refl (omega (arith, c.in-Some-checked_add.ensures))
