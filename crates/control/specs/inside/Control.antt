-- The control as it is kept.
use Rattle.std.specs.Prelude.{◌≡◌, ◌<◌, ◌≤◌, ◌+◌, ◌*◌, ◌^◌, ℕ, length, true}
use Rattle.control.specs.declared.control.Control.TheInside.{Inside}
use Rattle.control.specs.Machine.{Machine, count_set, is_running, saved_or_first}

abbrev pub machine_of : Inside → Machine
machine_of c = record {
  settings = c.settings;
  superstep = c.superstep;
  epoch = c.epoch;
  done = c.done.items;
  alive = c.alive.items;
  waiting = c.waiting.items;
  out = c.out.items;
  age = c.age.items;
  spent = c.spent.items;
  saved = c.saved;
  missed = c.missed;
  restarts = c.restarts;
  ending = c.ending;
}

-- A worker is lost at most once more often than it joins, and joins only while the epoch is small.
abbrev pub epochs_used : Machine → ℕ
epochs_used m = m.epoch + count_set m.alive + 2 * count_set m.waiting

abbrev pub epochs_there : Machine → ℕ
epochs_there m = 2 ^ 32 + 3 * length m.alive

-- there is one of each for each worker, and no number is too great
abbrev pub IsInRange : Machine → Type 0
IsInRange m =
    (length m.waiting ≡ length m.alive)
    × (length m.out ≡ length m.alive)
    × (length m.age ≡ length m.alive)
    × (length m.spent ≡ length m.alive)
    × (length m.alive ≤ 2 ^ 20)
    × (epochs_used m ≤ epochs_there m)
    × (0 < m.settings.every)
    × (is_running m.ending ≡ true → (m.superstep < m.settings.limit) × (saved_or_first m.saved < m.settings.limit))
    × (length m.done ≤ 2 ^ 20)
