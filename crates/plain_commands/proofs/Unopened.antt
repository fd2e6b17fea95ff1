-- A job that was not opened.
use Rattle.std.proofs.Common.{◌≡◌, ◌-◌, refl}
use Rattle.job_state.specs.declared.fault.JobFault.{JobFault}
use Rattle.job_state.specs.declared.settings.Settings.{Settings}
use Rattle.job_state.specs.declared.settings.Setting.{Setting}
use Rattle.job_state.specs.Settings.{Refuses, first_bad}
use Rattle.std.specs.Prelude.{None, Option, Some}
use Rattle.sources.specs.Jobs.{RefusesSettings}
use Rattle.plain_commands.specs.inside.Answering.{opening_fault}

refused_by : (bad : Option Setting) (settings : Settings) → first_bad settings ≡ bad → (fault : JobFault) → Refuses bad fault
    → RefusesSettings settings (opening_fault fault)
refused_by (Some setting) settings same fault told = rw told same
refused_by None settings same fault told = rw told same

pub settings_refused : (settings : Settings) (fault : JobFault) → Refuses (first_bad settings) fault → RefusesSettings settings (opening_fault fault)
settings_refused settings fault told = refused_by (first_bad settings) settings refl fault told
