-- What holds of assigned tasks.
use Rattle.std.specs.Prelude.{◌≡◌, ◌<◌, ◌≤◌, ◌%◌, ℕ, List, length, take, slice_index_or, Bool, true, false, Some, None}
use Rattle.control.specs.declared.control.Out.{Out}
use Rattle.control.specs.Machine.{Machine, count_set, is_alive}

-- a part that is not done
abbrev pub IsOpen : List Bool → ℕ → Type 0
IsOpen done part = (part < length done) × (slice_index_or done part true ≡ false)

-- a worker's task, if it is of this epoch, is an open part of its own
pub record IsSoundOut (m : Machine) (w : ℕ) (task : Out) : Type 0 where
  pub past : task.epoch ≤ m.epoch
  pub superstep : task.epoch ≡ m.epoch → task.superstep ≡ m.superstep
  pub part : task.epoch ≡ m.epoch → IsOpen m.done task.part
  pub alive : task.epoch ≡ m.epoch → is_alive m w ≡ true
  pub own : task.epoch ≡ m.epoch → task.part % count_set m.alive ≡ count_set (take w m.alive)

pub record IsSound (m : Machine) : Type 0 where
  pub width : length m.out ≡ length m.alive
  pub outs : (w : ℕ) (task : Out) → w < length m.out → slice_index_or m.out w None ≡ Some task → IsSoundOut m w task
