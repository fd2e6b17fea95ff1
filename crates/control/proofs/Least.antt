-- The least part that is open, found one after another.
use Rattle.std.proofs.Common.{◌≡◌, ℕ, ◌+◌, ◌<◌, ◌%◌, List, length, drop, get_or, Bool, false, ◌&&◌, not, refl, add-one}
use Rattle.std.specs.Prelude.{◌==◌}
use Rattle.std.proofs.Math.Seq.{drop-cons}
use Rattle.control.specs.Machine.{least}

pub least_step : (k place i : ℕ) (done : List Bool) → i < length done → ((i % k == place) && not (get_or done i false)) ≡ false → least k place (i + 1) (drop (i + 1) done) ≡ least k place i (drop i done)
least_step k place i done lt none = rw (add-one, drop-cons done i false, none) refl
