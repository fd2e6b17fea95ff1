-- The ranges of a job's settings.
use Rattle.std.specs.Prelude.{◌≡◌, ℕ, Bool, ◌&&◌, nat_le, not, Option, Some, None, if◌then◌else◌}
use Rattle.job_state.specs.declared.settings.Settings.{Settings}
use Rattle.job_state.specs.declared.settings.Setting.{Setting}
use Rattle.job_state.specs.declared.settings.Setting.TheVariants.{Parts, Workers, Every, Limit, Lease}
use Rattle.job_state.specs.declared.fault.JobFault.{JobFault}
use Rattle.job_state.specs.declared.fault.JobFault.TheVariants as fault
use Rattle.job_state.specs.declared.fault.Place.TheVariants.{Open}

-- whether the number is from 1 to `most`
abbrev pub is_up_to : ℕ → ℕ → Bool
is_up_to most n = nat_le 1 n && nat_le n most

-- the first setting that is out of its range
abbrev pub first_bad : Settings → Option Setting
first_bad settings =
    if not (is_up_to 256 settings.parts) then Some Parts
    else if not (is_up_to 64 settings.workers) then Some Workers
    else if not (is_up_to 1000 settings.every) then Some Every
    else if not (is_up_to 1000000 settings.limit) then Some Limit
    else if not (is_up_to 1000000 settings.lease) then Some Lease
    else None

-- the fault reports the setting that is out of its range, or else that memory ran out
abbrev pub Refuses : Option Setting → JobFault → Type 0
Refuses (Some setting) told = told ≡ fault.Settings setting
Refuses None told = told ≡ fault.OutOfMemory Open
