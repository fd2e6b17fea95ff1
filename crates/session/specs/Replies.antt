-- The replies, each on its line.
use Rattle.std.specs.Prelude.{ℕ, List, [], ◌∷◌, ◌++◌, Option, Some, None, codes, if◌then◌else◌}
use Rattle.std.specs.Fmt.{decimal}
use Rattle.std.specs.Str.{bytes_eq}
use Rattle.serde_json.specs.Data.{Data, null, string, number, unsigned, object, member, no_members}
use Rattle.serde_json.specs.Written.{compact_text}
use Rattle.graph.specs.Print.{value_lines}
use Rattle.job_state.specs.declared.fault.JobFault.{JobFault}
use Rattle.superstep.specs.declared.ending.JobEnd.{JobEnd}
use Rattle.superstep.specs.Ending.{is_finished}
use Rattle.job_state.specs.Faults.{fault_word}
use Rattle.sources.specs.declared.fault.CommandFault.{CommandFault}
use Rattle.sources.specs.declared.fault.CommandFault.TheVariants as command
use Rattle.call_lines.specs.OutputLines.{end_word, line}
use Rattle.sources.specs.Refusal.{fault_text}
use Rattle.session.specs.declared.run_state.RunState.{RunState}
use Rattle.session.specs.declared.run_state.RunState.TheVariants as state
use Rattle.session.specs.declared.status.Numbers.{Numbers}
use Rattle.session.specs.Words.{words_of}

-- ---- replies to what was done

abbrev pub module_line : (name : List ℕ) → (size : ℕ) → List ℕ
module_line name size = line (codes "ok module " ++ name ++ codes " " ++ decimal size)

abbrev pub graph_line : (name : List ℕ) → (vertices edges : ℕ) → List ℕ
graph_line name vertices edges = line (codes "ok graph " ++ name ++ codes " " ++ decimal vertices ++ codes " " ++ decimal edges)

abbrev pub job_line : (name : List ℕ) → List ℕ
job_line name = line (codes "ok job " ++ name)

-- how a job ended, and in which superstep
abbrev pub run_line : (name : List ℕ) → JobEnd → List ℕ
run_line name ended = line (codes "ok run " ++ name ++ codes " " ++ end_word (is_finished ended.how) ++ codes " " ++ decimal ended.superstep)

-- the values of all vertices, one a line, and a line with a point
abbrev pub values_text : JobEnd → List ℕ
values_text ended = value_lines ended.values.items ++ line (codes ".")

abbrev pub drop_line : List ℕ
drop_line = line (codes "ok drop")

abbrev pub bye_line : List ℕ
bye_line = line (codes "ok bye")

-- ---- the state of a job

abbrev pub state_word : RunState → List ℕ
state_word state.Waiting = codes "waiting"
state_word (state.Ended report) = end_word (is_finished report.ended.how)
state_word (state.Failed fault) = codes "fault"

-- the word of the fault that a job ended with, or null
abbrev pub fault_data : RunState → Data
fault_data (state.Failed fault) = string (fault_word fault)
fault_data _ = null

-- the numbers of the report that a job ended with; all are 0 if there is none
abbrev pub numbers_of : RunState → Numbers
numbers_of (state.Ended report) = record {
  superstep = report.ended.superstep;
  units = report.ended.units;
  dropped = report.ended.dropped;
  epoch = report.epoch;
  missed = report.missed;
  restarts = report.restarts;
}
numbers_of _ = record { superstep = 0; units = 0; dropped = 0; epoch = 0; missed = 0; restarts = 0 }

-- the JSON object of the state of a job
abbrev pub status_data : (name : List ℕ) → RunState → Data
status_data name end =
    let numbers = numbers_of end in
    object (member (codes "dropped") (string (decimal numbers.dropped))
    (member (codes "epoch") (number (unsigned numbers.epoch))
    (member (codes "fault") (fault_data end)
    (member (codes "missed") (number (unsigned numbers.missed))
    (member (codes "name") (string name)
    (member (codes "restarts") (number (unsigned numbers.restarts))
    (member (codes "state") (string (state_word end))
    (member (codes "superstep") (number (unsigned numbers.superstep))
    (member (codes "units") (string (decimal numbers.units)) no_members)))))))))

-- the reply with the state of a job as compact JSON
abbrev pub status_line : (name : List ℕ) → RunState → List ℕ
status_line name end = line (codes "ok " ++ compact_text (status_data name end))

-- ---- refusals

-- the reply with the number and the word of a refusal
abbrev pub no_line : List ℕ → List ℕ
no_line text = line (codes "no " ++ text)

abbrev pub usage_line : List ℕ
usage_line = no_line (codes "1 Usage")

abbrev pub taken_line : List ℕ
taken_line = no_line (codes "2 NameTaken")

abbrev pub unknown_line : List ℕ
unknown_line = no_line (codes "3 UnknownName")

abbrev pub file_line : List ℕ
file_line = no_line (codes "4 File")

abbrev pub not_waiting_line : List ℕ
not_waiting_line = no_line (codes "11 NotWaiting")

abbrev pub not_ended_line : List ℕ
not_ended_line = no_line (codes "12 NotEnded")

-- the reply to a run that ended with a fault
abbrev pub failed_line : JobFault → List ℕ
failed_line fault = no_line (codes "13 " ++ fault_word fault)

abbrev pub memory_line : List ℕ
memory_line = no_line (codes "14 OutOfMemory")

-- the word of a fault is the third word of the line that the program prints for it
abbrev pub third : List (List ℕ) → List ℕ
third (first ∷ second ∷ word ∷ rest) = word
third _ = []

abbrev pub word_of : CommandFault → List ℕ
word_of fault = third (words_of (fault_text fault))

-- a refusal with a word; if the word is `OutOfMemory`, it is `no 14 OutOfMemory`
abbrev pub with_word : (code word : List ℕ) → List ℕ
with_word code word =
    if bytes_eq word (codes "OutOfMemory") then memory_line else no_line (code ++ codes " " ++ word)

-- the number of the refusals of this kind, if their reply has a word
abbrev pub number_of : CommandFault → Option (List ℕ)
number_of (command.Decode fault) = Some (codes "5")
number_of (command.Text fault) = Some (codes "6")
number_of (command.Invalid fault) = Some (codes "7")
number_of (command.Unbounded fault) = Some (codes "8")
number_of (command.Graph fault) = Some (codes "9")
number_of (command.Settings setting) = Some (codes "10")
number_of _ = None

abbrev pub refusal_by : Option (List ℕ) → (word : List ℕ) → List ℕ
refusal_by None word = memory_line
refusal_by (Some code) word = with_word code word

-- the reply that refuses a file, or the settings of a job
abbrev pub refusal_line : CommandFault → List ℕ
refusal_line (command.Unread path) = file_line
refusal_line fault = refusal_by (number_of fault) (word_of fault)
