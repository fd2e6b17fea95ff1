-- The models of sessions, without references, and the faults that replies report.
use Rattle.std.specs.Prelude.{◌≡◌, ◌⊎◌, ℕ, List}
use Rattle.std.specs.BTreeMap.{get_by_text}
use Rattle.sources.specs.declared.fault.CommandFault.{CommandFault}
use Rattle.session.specs.declared.sessions.Session.{Session}
use Rattle.session.specs.Maps.{Maps}
use Rattle.session.specs.Transcript.{ReportsFault}
use Rattle.session.specs.Replies.{memory_line}

-- the reply reports a fault for which there is this cause, or that memory ran out
abbrev pub IsToldOf : (Cause : CommandFault → Type 0) → (told : List ℕ) → Type 0
IsToldOf Cause told = ReportsFault Cause told ⊎ (told ≡ memory_line)

-- the things that a session holds
abbrev pub maps_of : Session → Maps
maps_of session = record {
  modules = get_by_text session.modules;
  graphs = get_by_text session.graphs;
  jobs = get_by_text session.jobs;
}
