use Rattle.std.proofs.Common.{sym, ◌∙◌}
use Rattle.checkpoint.proofs.Again.{checkpoint_is_read}
use Rattle.checkpoint.proofs.Tools.{ok_is}
use Rattle.checkpoint.proofs.laws.a_checkpoint_is_of_one_state.Goals as goal

pub returns : goal.returns
returns c = λ bytes one other first second. ok_is one other (sym (checkpoint_is_read bytes one first) ∙ checkpoint_is_read bytes other second)
