use Rattle.std.proofs.Common.{take}
use Rattle.std.specs.List.{AllByRecursion}
use Rattle.verified.specs.Modules.{MemoryHolds}
use Rattle.validate.proofs.types.check_memories.Given as goal

abbrev pub invariant-loop-memory : goal.invariant-loop-memory
invariant-loop-memory l = AllByRecursion MemoryHolds (take l.memory-index l.memories)
