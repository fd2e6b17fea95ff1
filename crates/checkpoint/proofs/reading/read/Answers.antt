use Rattle.std.proofs.Common.{arith}
use Rattle.checkpoint.proofs.Again.{is_only}
use Rattle.checkpoint.proofs.Found.{is_found}
use Rattle.checkpoint.proofs.reading.read.Goals as goal

pub returns-clause-found : goal.returns-clause-found
returns-clause-found c = is_found c.args.bytes.now c.read_state.result (λ i. omega (arith, c.type_inv.bytes i)) c.read_state.ensures

pub returns-clause-only : goal.returns-clause-only
returns-clause-only c = is_only c.args.bytes.now c.read_state.result c.read_state.ensures
