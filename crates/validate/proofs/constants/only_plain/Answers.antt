use Rattle.std.proofs.Common.{sym}
use Rattle.validate.proofs.ConstantCode.{no_plain}
use Rattle.validate.proofs.constants.only_plain.Goals as goal

pub returns-in_default-3 : goal.returns-in_default-3
returns-in_default-3 c =
    sym (no_plain c.as_slice.result.now c.args.body.now c.in_default.len_at_least c.as_slice.ensures)
