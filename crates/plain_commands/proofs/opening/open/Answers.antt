use Rattle.plain_commands.proofs.Unopened.{settings_refused}
use Rattle.plain_commands.proofs.opening.open.Goals as goal

pub returns-in-Err : goal.returns-in-Err
returns-in-Err c = rw c.opening_fault.ensures (record { opened = settings_refused c.args.settings c.in-Err.fault c.in-Err.ensures.refused })
