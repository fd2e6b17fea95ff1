-- The request on a machine with this many processors.
use Rattle.std.specs.Prelude.{ℕ, ◌*◌, Bool, min, if◌then◌else◌}
use Rattle.job_state.specs.declared.settings.Settings.{Settings}
use Rattle.requests.specs.declared.request.Cores.{Cores}
use Rattle.requests.specs.declared.request.Options.{Options}
use Rattle.requests.specs.declared.request.Options.TheVariants as options
use Rattle.requests.specs.declared.request.Request.{Request}
use Rattle.requests.specs.declared.request.Request.TheVariants as request
use Rattle.requests.specs.declared.request.RunRequest.{RunRequest}

-- a number that the words give, or else the other
abbrev pub chosen : (given : Bool) → (number otherwise : ℕ) → ℕ
chosen given number otherwise = if given then number else otherwise

-- a worker for each processor, at most 64, and four parts for each worker, where the words do not give these numbers
abbrev pub on_all : (processors : ℕ) → Cores → Settings → Settings
on_all processors cores settings = record settings {
  parts = chosen cores.parts_given settings.parts (min processors 64 * 4);
  workers = chosen cores.workers_given settings.workers (min processors 64);
}

abbrev pub settings_on : (processors : ℕ) → Cores → Settings → Settings
settings_on processors cores settings = if cores.all then on_all processors cores settings else settings

abbrev pub run_on : (processors : ℕ) → RunRequest → RunRequest
run_on processors asked = record asked { job = record asked.job { settings = settings_on processors asked.cores asked.job.settings } }

-- only the settings of a run depend on the machine
abbrev pub request_on : (processors : ℕ) → Request → Request
request_on processors (request.Run asked) = request.Run (run_on processors asked)
request_on processors asked = asked

abbrev pub options_on : (processors : ℕ) → Options → Options
options_on processors (options.Command asked explains) = options.Command (request_on processors asked) explains
options_on processors options.Session = options.Session
