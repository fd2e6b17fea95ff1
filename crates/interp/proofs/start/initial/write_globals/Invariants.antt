use Rattle.std.proofs.Common.{◌≡◌, drop, length, take}
use Rattle.interp.proofs.Resetting.{SoFar}
use Rattle.interp.proofs.start.initial.write_globals.Given as goal

abbrev pub invariant-loop-definition : goal.invariant-loop-definition
invariant-loop-definition l = record {
  so_far : SoFar l.definitions (drop l.definition-index l.definitions) (take l.place l.globals);
  long : length l.definitions ≡ length l.globals;
  place : l.place ≡ l.definition-index;
}
