-- The lines of a call's outcome and of a job's end.
use Rattle.std.specs.Prelude.{ℕ, suc, ℤ, Bool, true, false, List, [], ◌∷◌, ◌++◌, codes, if◌then◌else◌, Result, String, string_bytes, IfOk}
use Rattle.std.specs.List.{flat_map}
use Rattle.std.specs.Fmt.{decimal, signed_decimal}
use Rattle.verified.specs.declared.call.CallOutcome.{CallOutcome}
use Rattle.graph.specs.Print.{value_lines}
use Rattle.superstep.specs.PlainRun.{Answer}
use Rattle.superstep.specs.Ending.{answer_of}
use Rattle.superstep.specs.declared.ending.JobEnd.{JobEnd}

-- the bytes of the resulting text have this property
abbrev pub IfText : {Z E : Type 0} → Result (String Z) E → (List ℕ → Type 0) → Type 0
IfText answer P = IfOk answer (λ text. P (string_bytes text))

abbrev pub line : List ℕ → List ℕ
line text = text ++ 10 ∷ []

-- a vertex that voted to halt is not active
abbrev pub active_digit : Bool → ℕ
active_digit true = 0
active_digit false = 1

abbrev pub send_line : ℤ × ℤ → List ℕ
send_line message = line (codes "send " ++ signed_decimal message.0 ++ codes " " ++ signed_decimal message.1)

abbrev pub give_line : ℕ × ℤ → List ℕ
give_line contribution = line (codes "give " ++ decimal contribution.0 ++ codes " " ++ signed_decimal contribution.1)

-- the value, whether the vertex is active, and the units
abbrev pub state_lines : ℤ → Bool → ℕ → List ℕ
state_lines value halted units =
    line (codes "value " ++ signed_decimal value)
    ++ line (codes "active " ++ decimal (active_digit halted))
    ++ line (codes "units " ++ decimal units)

-- the value, whether the vertex is active, the units, and then sends and contributions in their order
abbrev pub outcome_lines : CallOutcome → List ℕ
outcome_lines outcome =
    state_lines outcome.value outcome.halted outcome.units
    ++ flat_map send_line outcome.sends.items
    ++ flat_map give_line outcome.contributions.items

-- the word for how a job ended
abbrev pub end_word : Bool → List ℕ
end_word true = codes "finished"
end_word false = codes "limit"

-- how the job ended and in which superstep, the units of all calls, and the number of messages to no vertex
abbrev pub end_line : Answer → List ℕ
end_line answer =
    line (codes "end " ++ end_word answer.finished ++ codes " supersteps " ++ decimal answer.superstep
    ++ codes " units " ++ decimal answer.units ++ codes " dropped " ++ decimal answer.dropped)

-- a word, a number and the units of that number
abbrev pub numbered_line : (word : List ℕ) → (number units : ℕ) → List ℕ
numbered_line word number units = line (word ++ codes " " ++ decimal number ++ codes " " ++ decimal units)

-- a line for each of these units, with rising numbers
abbrev pub numbered_lines : (word : List ℕ) → (number : ℕ) → List ℕ → List ℕ
numbered_lines word number [] = []
numbered_lines word number (units ∷ rest) = numbered_line word number units ++ numbered_lines word (suc number) rest

-- a line for each of these units, with rising supersteps
abbrev pub units_lines : (superstep : ℕ) → List ℕ → List ℕ
units_lines superstep units = numbered_lines (codes "units") superstep units

-- the values, the end, and, if asked for, the units of each superstep from this one on
abbrev pub job_lines : (tells_units : Bool) → Answer → (since : ℕ) → List ℕ → List ℕ
job_lines tells_units answer since units =
    value_lines answer.values ++ end_line answer ++ (if tells_units then units_lines since units else [])

-- the lines of what a job ended with
abbrev pub ended_lines : (tells_units : Bool) → JobEnd → List ℕ
ended_lines tells_units ended = job_lines tells_units (answer_of ended) ended.since ended.by_superstep.items
