-- The beginning and the end of a call.
use Rattle.std.specs.Prelude.{◌≡◌, ◌+◌, ◌<◌, ◌≤◌, ℕ, List, [], ◌∷◌, length, map, nat_le, replicate, slice_get, Option, Some, None, if◌then◌else◌}
use Rattle.std.specs.Option.{option_and_then}
use Rattle.wasm_ast.specs.declared.types.Value.{Value}
use Rattle.wasm_ast.specs.declared.module.Function.{Function}
use Rattle.wasm_ast.specs.declared.module.Module.{Module}
use Rattle.wasm_ast.specs.declared.module.Data.{Data}
use Rattle.wasm_ast.specs.declared.module.Global.{Global}
use Rattle.wasm_ast.specs.Code.{Code}
use Rattle.wasm_ast.specs.Limits.{max_locals}
use Rattle.verified.specs.Facts.{IsDepthAt, IsHeightAt}
use Rattle.verified.specs.Memory.{memory_bytes, number_of}
use Rattle.verified.specs.Profile.{HasCompute}
use Rattle.verified.specs.declared.call.CallInput.{CallInput}
use Rattle.verified.specs.declared.call.CallOutcome.{CallOutcome}
use Rattle.verified.specs.Host.{Leaves}
use Rattle.semantics.specs.Configuration.{State}
use Rattle.semantics.specs.Machine.{Machine, defined, functions_of, run}
use Rattle.interp.specs.inside.Place.{Place, Room, Standing, at}
use Rattle.interp.specs.Room.{most_entries, most_locals}
use Rattle.semantics.specs.Start.{Begins, Starts, constant_value, initial_globals, initial_memory}
use Rattle.interp.specs.inside.Cells.{cell_of, zero_cells}
use Rattle.interp.specs.inside.Given.{HasGiven}
use Rattle.interp.specs.inside.Fits.{AreFit}
use Rattle.interp.specs.inside.Kept.{count_kept, laid_over, marked_before, masked}
use Rattle.semantics.specs.inside.Touched.{marks}
use Rattle.interp.specs.inside.Walk.{EndsWithin, Finishes, Follows, IsWithinRoom}

-- the module defines the function with this number
abbrev pub IsDefinedAt : Module → ℕ → Type 0
IsDefinedAt m number = (function : Function) × (slice_get (functions_of m) number ≡ Some (defined function))

-- a call of the module begins with the function of this number
pub record BeginsAt (m : Module) (number : ℕ) : Type 0 where
  pub function : Function
  pub globals : List Value
  pub bytes : List ℕ
  pub begins : Begins m function globals bytes
  pub here : begins.number ≡ number

-- a call of the module begins with this function
pub record BeginsWith (m : Module) (function : Function) : Type 0 where
  pub globals : List Value
  pub bytes : List ℕ
  pub begins : Begins m function globals bytes

-- ---- values as cells

-- the cells of the globals' initial values, which fit
pub record AreInitial (globals : List Global) (cells : List Value) : Type 0 where
  pub values : List Value
  pub initial : initial_globals globals ≡ Some values
  pub are : map cell_of values ≡ cells
  pub fit : AreFit values

-- writes segments over the kept bytes, at the number of a cell
abbrev pub cell_laid_at : Option Value → List ℕ → List ℕ → Option (List ℕ)
cell_laid_at None segment bytes = None
cell_laid_at (Some v) segment bytes =
    if nat_le (number_of v + length segment) (length bytes) then Some (laid_over (number_of v) segment bytes) else None

abbrev pub cell_segment_laid : List Value → Data → List ℕ → Option (List ℕ)
cell_segment_laid cells d bytes = cell_laid_at (constant_value cells d.offset) d.bytes bytes

abbrev pub cells_laid_in : List Value → List Data → List ℕ → Option (List ℕ)
cells_laid_in cells [] bytes = Some bytes
cells_laid_in cells (d ∷ ds) bytes = option_and_then (λ laid. cells_laid_in cells ds laid) (cell_segment_laid cells d bytes)

abbrev pub cell_memory_laid : List Value → Module → Option (List ℕ)
cell_memory_laid cells m = cells_laid_in cells m.data (masked (marks m) (replicate (memory_bytes m) 0))

-- the kept bytes of the initial memory
pub record AreInitialBytes (m : Module) (globals : List Value) (kept : List ℕ) : Type 0 where
  pub whole : List ℕ
  pub initial : initial_memory globals m ≡ Some whole
  pub are : masked (marks m) whole ≡ kept

-- the globals as cells and the kept bytes that each call of the module begins with, as many as it has and reaches
pub record IsImage (m : Module) (cells : List Value) (kept : List ℕ) : Type 0 where
  pub globals : AreInitial m.globals cells
  pub bytes : AreInitialBytes m globals.values kept
  pub long : length cells ≡ length m.globals
  pub count : count_kept kept ≡ marked_before (marks m) (memory_bytes m)

-- the module's globals and its memory have initial values
pub record HasInitial (m : Module) : Type 0 where
  pub globals : List Value
  pub bytes : List ℕ
  pub initial_values : initial_globals m.globals ≡ Some globals
  pub initial_bytes : initial_memory globals m ≡ Some bytes

-- the walk stands where a call of the function begins
pub record IsReset (m : Module) (function : Function) (s : Standing) : Type 0 where
  pub entries : s.entries ≡ []
  pub values : s.values ≡ []
  pub locals : s.locals ≡ zero_cells function.locals
  pub image : IsImage m s.globals s.memory

-- a call begins with this code in this state
pub record IsBeginning (m : Module) (code : Code) (input : CallInput) (s : Standing) : Type 0 where
  pub from : Machine
  pub starts : Starts m input from
  pub follows : Follows m from (at s code 0)

-- each call ends within this many units
abbrev pub EndsEachWithin : Module → CallInput → (most : ℕ) → Type 0
EndsEachWithin m input most = (from : Machine) → Starts m input from → EndsWithin m from most

-- the same, and there is always room for another frame
abbrev pub EndsInRoom : Module → CallInput → (most : ℕ) → Room → Type 0
EndsInRoom m input most room =
    (from : Machine) → Starts m input from → EndsWithin m from most × ((n : ℕ) → IsWithinRoom room (run m n from))

-- the initial globals are those of the module, it reaches as many bytes, and there is room for the locals of a
-- function
pub record HasStartRoom (m : Module) (function : Function) (room : Room) : Type 0 where
  pub locals : length function.locals ≤ room.locals
  pub globals : AreInitial m.globals room.globals
  pub bytes : room.bytes ≡ marked_before (marks m) (memory_bytes m)

-- there is room for the most that a call has at a time
pub record HasRoom (m : Module) (room : Room) : Type 0 where
  pub frames : ℕ
  pub told : (compute : HasCompute m) → IsDepthAt m compute.number frames
  pub few_entries : most_entries frames < room.entries
  pub height : ℕ
  pub told_height : (compute : HasCompute m) → IsHeightAt m compute.number height
  pub few_operands : height < room.operands
  pub few_locals : most_locals frames + max_locals ≤ room.locals
  pub globals : AreInitial m.globals room.globals
  pub bytes : room.bytes ≡ marked_before (marks m) (memory_bytes m)

-- the call sends something, or contributes to an aggregator
abbrev pub Sends : Module → CallInput → Type 0
Sends m input = (from : Machine) × Starts m input from × ((n : ℕ) × HasGiven (run m n from))

-- a run ends with this outcome
abbrev pub EndsWith : Module → Machine → CallOutcome → Type 0
EndsWith m from outcome = (final : State) × Finishes m from final × Leaves outcome final.host final.count

-- each run over values that passes here ends so, if it ends within this many units
abbrev pub EndsFrom : Module → Place → (most : ℕ) → CallOutcome → Type 0
EndsFrom m here most outcome = (from : Machine) → Follows m from here → EndsWithin m from most → EndsWith m from outcome
