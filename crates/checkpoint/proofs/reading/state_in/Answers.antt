use Rattle.std.proofs.Common.{rules}
use Rattle.checkpoint.proofs.Sound.{is_state}
use Rattle.checkpoint.proofs.reading.state_in.Goals as goal

pub of-requires : goal.of-requires
of-requires c = is_state _ (search rules) (search rules) c.requires.told c.requires.few
