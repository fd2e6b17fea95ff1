use Rattle.std.proofs.Common.{◌∙◌}
use Rattle.validate.proofs.Stacks.{emptiness}
use Rattle.validate.proofs.operands.Operands.is_empty.Goals as goal

pub returns : goal.returns
returns c =
    c.is_empty.ensures ∙ emptiness c.args.self.now.is_unreachable c.args.self.now.types.items _ c.args.self.now.types.ok.0
