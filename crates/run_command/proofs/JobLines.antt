-- The lines of what a job ended with.
use Rattle.std.proofs.Common.{◌≡◌, ℕ, ◌-◌, Bool, List, map, refl, ap, sym, ◌∙◌, arith, subst}
use Rattle.std.specs.List.{range_with_len}
use Rattle.job_state.specs.declared.fault.JobFault.{JobFault}
use Rattle.superstep.specs.declared.ending.JobEnd.{JobEnd}
use Rattle.superstep.specs.Ending.{Ends, IsEndOf, answer_of}
use Rattle.superstep.specs.Job.{Meaning, Work}
use Rattle.superstep.specs.PlainRun.{units_at}
use Rattle.std.specs.Prelude.{Err, IfErr, Ok, Result}
use Rattle.call_lines.specs.OutputLines.{ended_lines, job_lines}
use Rattle.book.specs.declared.report.Report.{Report}
use Rattle.sources.specs.declared.fault.CommandFault.{CommandFault}
use Rattle.coordinator.specs.JobAnswers.{IsRunFault}
use Rattle.run_command.specs.Jobs.{AreEndLines, AreJobLines, IsFaultOfRun}
use Rattle.plain_commands.specs.Notes.{HasNoted, NotesFault}
use Rattle.plain_commands.specs.declared.noting.RunNotes.{RunNotes}
use Rattle.run_command.specs.inside.Answering.{AreLinesOfAnswer, IsFaultOfAnswer}

-- ---- the lines of an end

minus_none : (n : ℕ) → n - 0 ≡ n
minus_none n = omega arith

pub ended_printed : (job : Work) (meaning : Meaning job) (tells_units : Bool) (ended : JobEnd) (told : List ℕ) → ended.since ≡ 0
    → Ends job meaning ended → told ≡ job_lines tells_units (answer_of ended) ended.since ended.by_superstep.items
    → told ≡ job_lines tells_units (answer_of ended) 0
    (map (units_at meaning.outcomes meaning.graph) (range_with_len 0 ended.superstep))
ended_printed job meaning tells_units ended told none ends printed =
    let units = map (units_at meaning.outcomes meaning.graph) in
    printed
    ∙ ap (λ n. job_lines tells_units (answer_of ended) n ended.by_superstep.items) none
    ∙ ap (λ xs. job_lines tells_units (answer_of ended) 0 xs)
    (ends.by_superstep ∙ ap (λ n. units (range_with_len n (ended.superstep - n))) none
    ∙ ap (λ n. units (range_with_len 0 n)) (minus_none ended.superstep))

-- so they are the job's, if it is the end of the job
pub answer_printed : (job : Work) (tells_units : Bool) (ended : JobEnd) (told : List ℕ) → IsEndOf job ended → ended.since ≡ 0
    → told ≡ ended_lines tells_units ended → AreJobLines job tells_units told
answer_printed job tells_units ended told ends none printed = λ meaning. record {
  answer = answer_of ended;
  ends = (ends meaning).answer;
  printed = ended_printed job meaning tells_units ended told none (ends meaning) printed;
}

-- ---- what a run ended with

-- lines are printed of an answer alone
pub lines_report : (answer : Result Report JobFault) (tells_units : Bool) (lines : List ℕ) → AreLinesOfAnswer answer tells_units lines
    → (report : Report) × (answer ≡ Ok report) × (lines ≡ ended_lines tells_units report.ended)
lines_report (Ok report) tells_units lines told = (report, refl, told)
lines_report (Err fault) tells_units lines told = absurd told

pub lines_end : (answer : Result Report JobFault) (tells_units : Bool) (lines : List ℕ) → AreLinesOfAnswer answer tells_units lines → AreEndLines tells_units lines
lines_end answer tells_units lines told = let r = lines_report answer tells_units lines told in (r.0.ended, r.2)

pub fault_of_run : (answer : Result Report JobFault) (told : CommandFault) → IfErr answer IsRunFault → IsFaultOfAnswer answer told → IsFaultOfRun told
fault_of_run (Ok report) told known is = subst (λ f. IsFaultOfRun f) (sym is) tt
fault_of_run (Err fault) told known is = subst (λ f. IsFaultOfRun f) (sym is) known

pub fault_noted : (job : Work) (notes : RunNotes) (answer : Result Report JobFault) (told : CommandFault) → HasNoted job answer notes → IsFaultOfAnswer answer told → NotesFault job notes told
fault_noted job notes (Ok report) told noted is = subst (λ f. NotesFault job notes f) (sym is) tt
fault_noted job notes (Err fault) told noted is = subst (λ f. NotesFault job notes f) (sym is) noted
