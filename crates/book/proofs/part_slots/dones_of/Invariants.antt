use Rattle.std.proofs.Common.{◌≡◌, ◌++◌, map}
use Rattle.book.specs.declared.part_slots.PartSlot.TheVariants.{Back}
use Rattle.book.proofs.part_slots.dones_of.Given as goal

abbrev pub invariant-loop-slot : goal.invariant-loop-slot
invariant-loop-slot g l = record {
  back : map Back l.dones.items ≡ l.yielded;
  left : l.yielded ++ l.slot-iterator.rest.items ≡ l.fn.part_slots.items;
}
