use Rattle.std.proofs.Common.{◌≡◌, ◌+◌, ◌∙◌, drop, get_or, of_z, rules, take, to_z, w64}
use Rattle.std.proofs.lemmas.Int.{to_z-of_z}
use Rattle.std.specs.Prelude.{pos}
use Rattle.line_text.specs.Output.{HasBegun}
use Rattle.graph.specs.Print.{value_line, value_lines}
use Rattle.line_text.proofs.Writing.{begun_front, begun_piece}
use Rattle.graph.proofs.Printing.{lines_cut, lines_front}
use Rattle.graph.proofs.print.print_values.Goals as goal

pub returns-in_err-line-clause-begun : goal.returns-in_err-line-clause-begun
returns-in_err-line-clause-begun g c =
    let begun : HasBegun (g.O.Output.contents c.args.out.now) (g.O.Output.contents c.loop-id.out) (value_lines c.args.values.now) =
    begun_front _ _ _ (value_lines (drop c.loop-id.id-index c.args.values.now)) (value_lines c.args.values.now) c.loop-id.invariant (lines_front c.args.values.now c.loop-id.id-index) in
    search (rules, begun)

pub returns-in_err-write_all-clause-begun : goal.returns-in_err-write_all-clause-begun
returns-in_err-write_all-clause-begun g c =
    let values = c.args.values.now in
    let k = c.loop-id.id-index in
    let fits : to_z w64 (of_z w64 (get_or values k (0, pos 0)).1) ≡ (get_or values k (0, pos 0)).1 = search (rules, to_z-of_z) in
    let line : c.as_bytes.result.now ≡ value_line (get_or values k (0, pos 0)) = c.as_bytes.ensures.value ∙ rw fits at c.in_ok-line.ensures in
    let begun : HasBegun (g.O.Output.contents c.args.out.now) (g.O.Output.contents c.write_all.new.out) (value_lines values) =
    begun_piece _ (g.O.Output.contents c.loop-id.out) _ (value_lines (take k values)) (value_line (get_or values k (0, pos 0))) (value_lines (drop (k + 1) values)) (value_lines values)
    c.loop-id.invariant (rw line at c.in_err-write_all.ensures.begun) (lines_cut values k (0, pos 0) c.loop-id-test.true) in
    search (rules, begun)
