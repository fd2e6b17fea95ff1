-- What the results of the walk say of the machine's run.
use Rattle.std.specs.Prelude.{◌≡◌, ◌≢◌, ℕ, ◌+◌, ◌-◌, ◌*◌, ◌^◌, ◌<◌, ◌≤◌, List, [], ◌∷◌, length, slice_get, Bool, false, Option}
use Rattle.wasm_ast.specs.declared.types.ValType.{ValType}
use Rattle.wasm_ast.specs.declared.types.ValType.TheVariants.{I32}
use Rattle.wasm_ast.specs.declared.types.Value.{Value}
use Rattle.wasm_ast.specs.declared.module.Function.{Function}
use Rattle.wasm_ast.specs.declared.module.Module.{Module}
use Rattle.wasm_ast.specs.Code.{Code}
use Rattle.wasm_ast.specs.Code as code
use Rattle.verified.specs.View.{code_of}
use Rattle.interp.specs.declared.walk.Turn.{Turn}
use Rattle.interp.specs.declared.walk.Turn.TheVariants as turn
use Rattle.semantics.specs.Configuration.{State}
use Rattle.wasm_ast.specs.Limits.{max_locals}
use Rattle.semantics.specs.Heights.{entries, locals, operands}
use Rattle.semantics.specs.Machine.{Machine, Running, Done, ControlEntry, Label, arm, arrive, back, enter, functions_of, jump, next_units, run, taking}
use Rattle.interp.specs.inside.Cells.{cell_next, cell_take_call, celled, cells_place, cells_state, seen}
use Rattle.interp.specs.inside.Given.{HasGiven}
use Rattle.interp.specs.inside.Fits.{MachineFits}
use Rattle.semantics.specs.inside.Touched.{AreMarked, Touches, marks}
use Rattle.interp.specs.inside.Place.{Place, Room, Standing, at, running, state_of}

-- The machine is at a loop with this body, and a step further it is at the body's first instruction, in a label of the
-- loop. The walk stands there already.
pub record BeginsAgain (x : Machine) (body : Code) (s : Standing) (count : ℕ) : Type 0 where
  pub block_type : Option ValType
  pub after : Code
  pub values : List Value
  pub entries : List ControlEntry
  pub at_loop : x ≡ Running values (code.loop block_type body after) entries (state_of s count)
  pub inside : s.values ≡ []
  pub label : s.entries ≡ Label false values (code.loop block_type body after) after ∷ entries

-- the machine is this: it runs at the returned place, is at a loop that begins again, or is done
abbrev pub Turned : Turn → Machine → Standing → Type 0
Turned (turn.Next code count) x s = x ≡ running (at s (code_of code.now) count)
Turned (turn.Again body count) x s = BeginsAgain x body.now s count
Turned (turn.Finished count) x s = x ≡ Done (state_of s count)

-- ---- what the parts of a walk do, by the operands, the code, the entries and the state

-- the walk turned from one place to another by this step
abbrev pub Turns : Turn → (List Value → Code → List ControlEntry → State → Machine) → Code → (count : ℕ) → (old new : Standing) → Type 0
Turns t step code count old new = Turned t (step old.values code old.entries (state_of old count)) new

-- takes an instruction off a whole sequence, of which the rest is the code
abbrev pub taken : (Value → Bool) → Module → (whole : Code) → List Value → Code → List ControlEntry → State → Machine
taken may m whole vs is ls st = cell_next may m vs whole ls st

-- enters a sequence in a label
abbrev pub opened : (keeps : Bool) (target body : Code) → List Value → Code → List ControlEntry → State → Machine
opened keeps target body vs is ls st = Running [] body (Label keeps vs target is ∷ ls) st

-- enters one of two sequences in a label
abbrev pub chosen : (keeps : Bool) (then_body else_body : Code) → List Value → Code → List ControlEntry → State → Machine
chosen keeps then_body else_body vs is ls st =
    taking (seen (I32 ∷ []) vs) st.count (λ n us. Running [] (arm n then_body else_body) (Label keeps us is is ∷ ls) st)

abbrev pub called : (Value → Bool) → Module → (number : ℕ) → List Value → Code → List ControlEntry → State → Machine
called may m number vs is ls st = cell_take_call may m (slice_get (functions_of m) number) vs is ls st

abbrev pub entered : Module → Function → List Value → Code → List ControlEntry → State → Machine
entered m f vs is ls st = enter (celled f) (slice_get m.types f.type_number) vs is ls st

-- entries without this many labels
abbrev pub Unwinds : (labels : ℕ) (old new : List ControlEntry) → Type 0
Unwinds labels old new = (top : Option Value) (st : State) → jump labels top old st ≡ arrive top new st

-- entries without the labels of the innermost frame
abbrev pub UnwindsFrame : (old new : List ControlEntry) → Type 0
UnwindsFrame old new = (top : Option Value) (st : State) → back top old st ≡ arrive top new st

-- the count has room for the next instruction
abbrev pub HasCountRoom : Module → Place → Type 0
HasCountRoom m p = p.state.count + next_units m p.code < 2 ^ 128

-- the greatest number of units that a walk can count: each call ends within it
abbrev pub max_count : ℕ
max_count = 2 ^ 128 - 1

-- ---- runs

-- the run is done after this many steps and no fewer
pub record Finishes (m : Module) (from : Machine) (final : State) : Type 0 where
  pub steps : ℕ
  pub done : run m steps from ≡ Done final
  pub least : (n : ℕ) → n < steps → (st : State) → run m n from ≢ Done st

-- the machine reaches this one
pub record Comes (m : Module) (from to : Machine) : Type 0 where
  pub steps : ℕ
  pub there : run m steps from ≡ to

-- The run from here ends within this many units, and loads and stores only reached bytes.
pub record EndsWithin (m : Module) (from : Machine) (most : ℕ) : Type 0 where
  pub steps : ℕ
  pub final : State
  pub done : run m steps from ≡ Done final
  pub within : final.count ≤ most
  pub touches : (n : ℕ) → Touches (AreMarked (marks m)) (run m n from)

-- ---- runs over values

-- the run from this machine over values reaches a place that fits, which is this place over cells
pub record Follows (m : Module) (from : Machine) (here : Place) : Type 0 where
  pub place : Place
  pub comes : Comes m from (running place)
  pub fits : MachineFits (running place)
  pub is : cells_place (marks m) place ≡ here

-- a run over values that begins here ends within this many units
pub record Leads (m : Module) (here : Place) (most : ℕ) : Type 0 where
  pub from : Machine
  pub follows : Follows m from here
  pub ends : EndsWithin m from most

-- each run over values that passes the one place passes the other, if it ends within this many units
abbrev pub Arrives : Module → (most : ℕ) → (here there : Place) → Type 0
Arrives m most here there = (from : Machine) → Follows m from here → EndsWithin m from most → Follows m from there

-- there is room for one more operand and one more frame besides those of the machine
pub record IsWithinRoom (room : Room) (x : Machine) : Type 0 where
  pub few_entries : entries x < room.entries
  pub few_operands : operands x < room.operands
  pub few_locals : locals x + max_locals ≤ room.locals

-- the same, and there is always room for another frame
pub record LeadsWithin (m : Module) (room : Room) (here : Place) (most : ℕ) : Type 0 where
  pub leads : Leads m here most
  pub low : (n : ℕ) → IsWithinRoom room (run m n leads.from)

-- each run over values that passes here is done in this state, as cells
abbrev pub Concludes : Module → Place → (most : ℕ) → State → Type 0
Concludes m here most final =
    (from : Machine) → Follows m from here → EndsWithin m from most → (st : State) × Finishes m from st × (cells_state (marks m) st ≡ final)

-- each run over values that passes here sends something, or contributes to an aggregator
abbrev pub SendsFrom : Module → Place → (most : ℕ) → Type 0
SendsFrom m here most =
    (from : Machine) → Follows m from here → EndsWithin m from most → (n : ℕ) × HasGiven (run m n from)

-- the number of steps that may remain
abbrev pub left_of : ℕ → Place → ℕ
left_of most p = 2 * (most - p.state.count) + length p.entries
