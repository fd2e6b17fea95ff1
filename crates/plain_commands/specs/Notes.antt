-- What is noted of a run for its report.
use Rattle.std.specs.Prelude.{◌≡◌, ◌⊎◌, ℕ, Bool, List, map, vec_len, codes, Some, None, IsSomeAnd, Result, Ok, Err, true}
use Rattle.verified.specs.Facts.{IsSizeOfCompute}
use Rattle.run_report.specs.Tally.{capped, counts_of_end, counts_until}
use Rattle.run_report.specs.declared.report.Outcome.{Outcome}
use Rattle.run_report.specs.declared.report.RunReport.{RunReport}
use Rattle.run_report.specs.declared.report.RunSettings.{RunSettings}
use Rattle.run_report.specs.declared.tally.Ended.{Ended}
use Rattle.run_report.specs.declared.tally.Tally.{Tally}
use Rattle.job_state.specs.declared.fault.JobFault.{JobFault}
use Rattle.job_state.specs.declared.settings.Settings.{Settings}
use Rattle.superstep.specs.Ending.{is_finished}
use Rattle.job_state.specs.Faults.{fault_word}
use Rattle.superstep.specs.Job.{IsCount, IsEdgeCount, Work}
use Rattle.book.specs.declared.report.Report.{Report}
use Rattle.call_lines.specs.OutputLines.{end_word, ended_lines}
use Rattle.sources.specs.declared.fault.CommandFault.{CommandFault}
use Rattle.sources.specs.declared.fault.CommandFault.TheVariants as command
use Rattle.plain_commands.specs.declared.noting.RunNotes.{RunNotes}

-- the outcome of a job with this answer; its counts stop at the greatest number of 64 bits
pub record IsOutcomeOf (report : Report) (outcome : Outcome) : Type 0 where
  pub how : outcome.how.now ≡ end_word (is_finished report.ended.how)
  pub fault : outcome.fault ≡ None
  pub superstep : outcome.superstep ≡ Some report.ended.superstep
  pub units : outcome.units ≡ Some (capped report.ended.units)
  pub dropped : outcome.dropped ≡ Some (capped report.ended.dropped)
  pub epoch : outcome.epoch ≡ Some report.epoch
  pub missed : outcome.missed ≡ Some report.missed
  pub restarts : outcome.restarts ≡ Some report.restarts

-- the outcome of a job that ended with this fault after so many supersteps; nothing else is known of it
pub record IsOutcomeOfFault (fault : JobFault) (reached : ℕ) (outcome : Outcome) : Type 0 where
  pub how : outcome.how.now ≡ codes "fault"
  pub word : IsSomeAnd outcome.fault (λ word. word.now ≡ fault_word fault)
  pub superstep : outcome.superstep ≡ Some reached
  pub units : outcome.units ≡ None
  pub dropped : outcome.dropped ≡ None
  pub epoch : outcome.epoch ≡ None
  pub missed : outcome.missed ≡ None
  pub restarts : outcome.restarts ≡ None

abbrev pub settings_in : Settings → RunSettings
settings_in settings = record {
  parts = settings.parts;
  workers = settings.workers;
  every = settings.every;
  limit = settings.limit;
  lease = settings.lease;
}

-- the report is of this job
pub record IsOfJob (job : Work) (noted : RunReport) : Type 0 where
  pub settings : noted.settings ≡ settings_in job.settings
  pub size : IsSizeOfCompute job.«module» noted.size
  pub vertices : IsCount job noted.vertices
  pub edges : IsEdgeCount job noted.edges

-- these numbers are those of the answer
pub record IsEndedOf (report : Report) (ended : Ended) : Type 0 where
  pub superstep : ended.superstep ≡ report.ended.superstep
  pub since : ended.since ≡ report.ended.since
  pub units : ended.units.now ≡ report.ended.by_superstep.items
  pub dropped : ended.dropped ≡ report.ended.dropped

-- The report has the numbers of this answer. This leaves open which calls and messages were counted.
pub record IsOfEnd (report : Report) (noted : RunReport) : Type 0 where
  pub outcome : IsOutcomeOf report noted.outcome
  pub spent : noted.spent.items ≡ map capped report.spent.items
  pub tally : Tally
  pub ended : Ended
  pub is_ended : IsEndedOf report ended
  pub supersteps : noted.supersteps.items ≡ counts_of_end tally ended

-- The report is of a job without an answer. This leaves open how far it came.
pub record IsOfFault (fault : JobFault) (noted : RunReport) : Type 0 where
  pub outcome : IsOutcomeOfFault fault (vec_len noted.supersteps) noted.outcome
  pub spent : vec_len noted.spent ≡ 0
  pub tally : Tally
  pub supersteps : noted.supersteps.items ≡ counts_until tally (vec_len noted.supersteps)

abbrev pub IsOfAnswer : Result Report JobFault → RunReport → Type 0
IsOfAnswer (Ok report) noted = IsOfEnd report noted
IsOfAnswer (Err fault) noted = IsOfFault fault noted

-- what is reported of a job with this answer
pub record IsReportOf (job : Work) (answer : Result Report JobFault) (noted : RunReport) : Type 0 where
  pub of_job : IsOfJob job noted
  pub of_answer : IsOfAnswer answer noted

-- there is what is reported of a job with this answer, or there was no memory for it
abbrev pub HasNoted : Work → Result Report JobFault → RunNotes → Type 0
HasNoted job answer notes = (notes.is_short ≡ true) ⊎ IsSomeAnd notes.report (IsReportOf job answer)

-- nothing is noted but what the job ended with
abbrev pub NotesOnly : Work → (before after : RunNotes) → Type 0
NotesOnly job before after = (after ≡ before) ⊎ ((answer : Result Report JobFault) × HasNoted job answer after)

-- these are the lines of what the job ended with, and that is noted
abbrev pub NotesEnd : Work → (tells_units : Bool) → RunNotes → (lines : List ℕ) → Type 0
NotesEnd job tells_units notes lines =
    (report : Report) × (lines ≡ ended_lines tells_units report.ended) × HasNoted job (Ok report) notes

-- if the job ended with a fault, that is noted
abbrev pub NotesFault : Work → RunNotes → CommandFault → Type 0
NotesFault job notes (command.Job fault) = HasNoted job (Err fault) notes
NotesFault job notes _ = Unit {0}
