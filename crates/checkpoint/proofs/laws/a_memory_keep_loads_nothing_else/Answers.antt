use Rattle.checkpoint.proofs.InMemory.{loads_nothing_else}
use Rattle.checkpoint.proofs.laws.a_memory_keep_loads_nothing_else.Goals as goal

pub returns : goal.returns
returns c = loads_nothing_else
