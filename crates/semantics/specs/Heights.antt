-- The number of operands, control entries and locals in a configuration.
use Rattle.std.specs.Prelude.{ℕ, ◌+◌, List, [], ◌∷◌, length}
use Rattle.semantics.specs.Machine.{ControlEntry, Label, Frame, Machine, Running, Done, Trapped, Stuck}

-- the operands of the entries round the innermost
abbrev pub beneath : List ControlEntry → ℕ
beneath [] = 0
beneath (Label keeps values target after ∷ ls) = length values + beneath ls
beneath (Frame keeps locals values after ∷ ls) = length values + beneath ls

abbrev pub operands : Machine → ℕ
operands (Running vs is ls st) = length vs + beneath ls
operands (Done st) = 0
operands (Trapped count) = 0
operands (Stuck count) = 0

-- the number of calling functions
abbrev pub callers : List ControlEntry → ℕ
callers [] = 0
callers (Label keeps values target after ∷ ls) = callers ls
callers (Frame keeps locals values after ∷ ls) = 1 + callers ls

abbrev pub frames : Machine → ℕ
frames (Running vs is ls st) = 1 + callers ls
frames (Done st) = 0
frames (Trapped count) = 0
frames (Stuck count) = 0

-- the number of labels, and of frames of calling functions
abbrev pub entries : Machine → ℕ
entries (Running vs is ls st) = length ls
entries (Done st) = 0
entries (Trapped count) = 0
entries (Stuck count) = 0

-- the locals of the calling functions
abbrev pub held : List ControlEntry → ℕ
held [] = 0
held (Label keeps values target after ∷ ls) = held ls
held (Frame keeps locals values after ∷ ls) = length locals + held ls

-- the locals of all frames
abbrev pub locals : Machine → ℕ
locals (Running vs is ls st) = length st.locals + held ls
locals (Done st) = 0
locals (Trapped count) = 0
locals (Stuck count) = 0
