use Rattle.verified.proofs.Table.{only_named}
use Rattle.verified.proofs.laws.each_import_is_one_call.Goals as goal

pub returns-clause-only : goal.returns-clause-only
returns-clause-only c = only_named
