use Rattle.wat_syntax.proofs.Codes.{empty_is_end}
use Rattle.wat_syntax.proofs.instructions.is_empty.Goals as goal

pub returns : goal.returns
returns c = empty_is_end c.as_slice.result.now c.args.body.now c.is_empty.result c.as_slice.ensures c.is_empty.ensures
