use Rattle.interp.proofs.Accesses.{calls_touch_reached}
use Rattle.interp.proofs.laws.calls_touch_reached_bytes.Goals as goal

pub returns : goal.returns
returns c = calls_touch_reached
