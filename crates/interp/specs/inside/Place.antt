-- The place of a run, and how its parts are stored: as a tuple.
use Rattle.std.specs.Prelude.{◌≡◌, ◌+◌, ◌<◌, ◌≤◌, length, ℕ, ℤ, pos, Bool, false, List, [], ◌⊎◌, refl}
use Rattle.std.specs.Coded.{Coded, code_by, coded_list, coded_bool, coded_ℕ, coded_ℤ, coded×, coded⊎}
use mathlib.Core.Logic.{inl, inr}
use Rattle.wasm_ast.specs.declared.types.Value.{Value}
use Rattle.wasm_ast.specs.contracts.types.Value as value_type
use Rattle.wasm_ast.specs.Code.{Code, coded_code}
use Rattle.wasm_ast.specs.Limits.{max_locals}
use Rattle.verified.specs.Host.{Host}
use Rattle.semantics.specs.Configuration.{State}
use Rattle.semantics.specs.Heights.{beneath, held}
use Rattle.semantics.specs.Machine.{Machine, Running, ControlEntry, Label, Frame}

-- a configuration that runs
pub record Place : Type 0 where
  pub values : List Value
  pub code : Code
  pub entries : List ControlEntry
  pub state : State

abbrev pub running : Place → Machine
running p = Running p.values p.code p.entries p.state

-- the room in the lists for entries, operands and locals, the initial globals, and the number of kept bytes
pub record Room : Type 0 where
  pub entries : ℕ
  pub operands : ℕ
  pub locals : ℕ
  pub globals : List Value
  pub bytes : ℕ

-- the state of a run, except for the code and the count
pub record Standing : Type 0 where
  pub values : List Value
  pub entries : List ControlEntry
  pub locals : List Value
  pub globals : List Value
  pub memory : List ℕ
  pub host : Host
  pub room : Room

-- A walk holds no host: its standing has this one, which no instruction that it takes reads. A call puts its own in the
-- place.
abbrev pub no_host : Host
no_host = record {
  id = pos 0;
  superstep = pos 0;
  num_vertices = pos 0;
  value = pos 0;
  messages = [];
  edges = [];
  message = pos 0;
  edge = (pos 0, pos 0);
  aggregated = [];
  sends = [];
  contributions = [];
  halted = false;
}

abbrev pub hosted : Standing → Host → Standing
hosted s host = record s { host = host }

abbrev pub state_of : Standing → ℕ → State
state_of s count =
    record { locals = s.locals; globals = s.globals; memory = s.memory; host = s.host; count = count }

-- there is room for one more entry
abbrev pub HasEntryRoom : Standing → Type 0
HasEntryRoom s = length s.entries < s.room.entries

-- there is room for one more operand
abbrev pub HasOperandRoom : Standing → Type 0
HasOperandRoom s = length s.values + beneath s.entries < s.room.operands

-- there is room for one more operand and one more frame, with the most locals that a function may have
pub record HasFrameRoom (s : Standing) : Type 0 where
  pub entries : HasEntryRoom s
  pub operands : HasOperandRoom s
  pub locals : length s.locals + held s.entries + max_locals ≤ s.room.locals

abbrev pub at : Standing → Code → ℕ → Place
at s code count = record { values = s.values; code = code; entries = s.entries; state = state_of s count }

-- ---- the stored form

abbrev pub values_code : Coded (List Value)
values_code = coded_list value_type.the_row.coded

abbrev pub EntryParts : Type 0
EntryParts = (Bool × (List Value × (Code × Code))) ⊎ (Bool × (List Value × (List Value × Code)))

abbrev pub entry_parts_code : Coded EntryParts
entry_parts_code =
    coded⊎ (coded× coded_bool (coded× values_code (coded× coded_code coded_code))) (coded× coded_bool (coded× values_code (coded× values_code coded_code)))

abbrev pub parts : ControlEntry → EntryParts
parts (Label keeps vs t a) = inl (keeps, (vs, (t, a)))
parts (Frame keeps ls vs a) = inr (keeps, (ls, (vs, a)))

abbrev pub whole : EntryParts → ControlEntry
whole (inl p) = Label p.0 p.1.0 p.1.1.0 p.1.1.1
whole (inr p) = Frame p.0 p.1.0 p.1.1.0 p.1.1.1

pub whole-parts : (l : ControlEntry) → whole (parts l) ≡ l
whole-parts (Label keeps vs t a) = refl
whole-parts (Frame keeps ls vs a) = refl

abbrev pub entry_code : Coded ControlEntry
entry_code = code_by EntryParts entry_parts_code parts whole whole-parts

abbrev pub seen_code : Coded (List (ℤ × ℤ))
seen_code = coded_list (coded× coded_ℤ coded_ℤ)

-- what a call only reads
abbrev pub GivenParts : Type 0
GivenParts = ℤ × (ℤ × (ℤ × (List ℤ × (List ℤ × List (ℤ × ℤ)))))

abbrev pub given_code : Coded GivenParts
given_code = coded× coded_ℤ (coded× coded_ℤ (coded× coded_ℤ (coded× (coded_list coded_ℤ) (coded× (coded_list coded_ℤ) seen_code))))

-- what a call changes
abbrev pub LeftParts : Type 0
LeftParts = ℤ × (ℤ × ((ℤ × ℤ) × (List (ℤ × ℤ) × (List (ℕ × ℤ) × Bool))))

abbrev pub left_code : Coded LeftParts
left_code =
    coded× coded_ℤ (coded× coded_ℤ (coded× (coded× coded_ℤ coded_ℤ) (coded× seen_code (coded× (coded_list (coded× coded_ℕ coded_ℤ)) coded_bool))))

abbrev pub given_parts_of : Host → GivenParts
given_parts_of h = (h.id, (h.superstep, (h.num_vertices, (h.aggregated, (h.messages, h.edges)))))

abbrev pub left_of_host : Host → LeftParts
left_of_host h = (h.value, (h.message, (h.edge, (h.sends, (h.contributions, h.halted)))))

abbrev pub host_whole : GivenParts × LeftParts → Host
host_whole p = record {
  id = p.0.0;
  superstep = p.0.1.0;
  num_vertices = p.0.1.1.0;
  aggregated = p.0.1.1.1.0;
  messages = p.0.1.1.1.1.0;
  edges = p.0.1.1.1.1.1;
  value = p.1.0;
  message = p.1.1.0;
  edge = p.1.1.1.0;
  sends = p.1.1.1.1.0;
  contributions = p.1.1.1.1.1.0;
  halted = p.1.1.1.1.1.1;
}

abbrev pub host_code : Coded Host
host_code = code_by (GivenParts × LeftParts) (coded× given_code left_code) (λ h. (given_parts_of h, left_of_host h)) host_whole (λ _. refl)

abbrev pub RoomParts : Type 0
RoomParts = ℕ × (ℕ × (ℕ × (List Value × ℕ)))

abbrev pub room_code : Coded Room
room_code =
    code_by RoomParts (coded× coded_ℕ (coded× coded_ℕ (coded× coded_ℕ (coded× values_code coded_ℕ)))) (λ r. (r.entries, (r.operands, (r.locals, (r.globals, r.bytes))))) (λ p. record { entries = p.0; operands = p.1.0; locals = p.1.1.0; globals = p.1.1.1.0; bytes = p.1.1.1.1 }) (λ _. refl)

abbrev pub StandingParts : Type 0
StandingParts = List Value × (List ControlEntry × (List Value × (List Value × (List ℕ × (Host × Room)))))

abbrev pub standing_code : Coded Standing
standing_code =
    code_by StandingParts (coded× values_code (coded× (coded_list entry_code) (coded× values_code (coded× values_code (coded× (coded_list coded_ℕ) (coded× host_code room_code)))))) (λ s. (s.values, (s.entries, (s.locals, (s.globals, (s.memory, (s.host, s.room))))))) (λ p. record { values = p.0; entries = p.1.0; locals = p.1.1.0; globals = p.1.1.1.0; memory = p.1.1.1.1.0; host = p.1.1.1.1.1.0; room = p.1.1.1.1.1.1 }) (λ _. refl)
