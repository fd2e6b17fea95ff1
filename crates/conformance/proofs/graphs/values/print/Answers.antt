use Rattle.conformance.proofs.Values.{rising_values}
use Rattle.conformance.proofs.graphs.values.print.Goals as goal

pub print_values-outcome-requires : goal.print_values-outcome-requires
print_values-outcome-requires c = rw c.deref.ensures.value (rising_values c.args.vertices.now c.in_ok-values.values.items c.requires c.in_ok-values.ensures)
