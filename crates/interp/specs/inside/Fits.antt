-- Values that fit their type: an i32 is below 2 ^ 32, so it equals its cell.
use Rattle.std.specs.Prelude.{◌^◌, ◌<◌, List, [], ◌∷◌}
use Rattle.wasm_ast.specs.declared.types.Value.{Value}
use Rattle.wasm_ast.specs.declared.types.Value.TheVariants.{I32, I64}
use Rattle.semantics.specs.Configuration.{State}
use Rattle.semantics.specs.Machine.{Machine, Running, Done, Trapped, Stuck, ControlEntry, Label, Frame}

abbrev pub IsFit : Value → Type 0
IsFit (I32 n) = n < 2 ^ 32
IsFit (I64 n) = Unit {0}

abbrev pub AreFit : List Value → Type 0
AreFit [] = Unit {0}
AreFit (v ∷ vs) = IsFit v × AreFit vs

abbrev pub StateFits : State → Type 0
StateFits st = AreFit st.locals × AreFit st.globals

abbrev pub EntriesFit : List ControlEntry → Type 0
EntriesFit [] = Unit {0}
EntriesFit (Label keeps vs target after ∷ ls) = AreFit vs × EntriesFit ls
EntriesFit (Frame keeps locals vs after ∷ ls) = AreFit locals × (AreFit vs × EntriesFit ls)

-- all values of a machine that runs fit
abbrev pub MachineFits : Machine → Type 0
MachineFits (Running vs is ls st) = AreFit vs × (EntriesFit ls × StateFits st)
MachineFits (Done st) = Unit {0}
MachineFits (Trapped count) = Unit {0}
MachineFits (Stuck count) = Unit {0}
