-- The operands of each active function in a call (Core 1.0, 4.2.12): those of its own, without those of the functions
-- that it calls.
use Rattle.std.specs.Prelude.{ℕ, zero, suc, ◌+◌, ◌-◌, ◌≤◌, List, [], ◌∷◌, length, drop}
use Rattle.wasm_ast.specs.declared.module.Module.{Module}
use Rattle.wasm_ast.specs.Code as code
use Rattle.verified.specs.declared.call.CallInput.{CallInput}
use Rattle.verified.specs.Modules.{IsTyped}
use Rattle.verified.specs.Cells.{IsDefined, MayRun, own_height}
use Rattle.verified.specs.Profile.{IsBounded}
use Rattle.semantics.specs.Heights.{frames}
use Rattle.semantics.specs.Machine.{ControlEntry, Label, Frame, Machine, Running, Done, Trapped, Stuck, advance, run}
use Rattle.semantics.specs.Start.{Starts}

-- the number of own operands of each active function, the innermost first, where the innermost has `here` above the
-- entries
abbrev pub own_above : (here : ℕ) → List ControlEntry → List ℕ
own_above here [] = here ∷ []
own_above here (Label keeps values target after ∷ ls) = own_above (here + length values) ls
own_above here (Frame keeps locals values after ∷ ls) = here ∷ own_above (length values) ls

abbrev pub own_operands : Machine → List ℕ
own_operands (Running vs is ls st) = own_above (length vs) ls
own_operands (Done st) = []
own_operands (Trapped count) = []
own_operands (Stuck count) = []

-- the function that the next instruction calls
abbrev pub called : Machine → ℕ
called (Running vs (code.call f is) ls st) = f
called _ = 0

abbrev pub entered : (more f : ℕ) → List ℕ → List ℕ
entered zero f active = active
entered (suc more) f active = f ∷ active

-- the numbers of the active functions after a step, by those before it, the innermost first: one that was entered is
-- active, and those that were left are not
abbrev pub active_after : Module → Machine → List ℕ → List ℕ
active_after m x active =
    drop (frames x - frames (advance m x)) (entered (frames (advance m x) - frames x) (called x) active)

-- the same after this many steps
abbrev pub active_at : Module → ℕ → Machine → List ℕ → List ℕ
active_at m zero x active = active
active_at m (suc n) x active = active_at m n (advance m x) (active_after m x active)

-- each active function is one that a call of `compute` may run, and has at most the operands that `cells` says
abbrev pub AreOwn : Module → (own active : List ℕ) → Type 0
AreOwn m [] [] = Unit {0}
AreOwn m [] (f ∷ fs) = ⊥
AreOwn m (n ∷ ns) [] = ⊥
AreOwn m (n ∷ ns) (f ∷ fs) = IsDefined m f × MayRun m f × (n ≤ own_height m f) × AreOwn m ns fs

-- so it is throughout each call of the module, which begins with `compute`
abbrev pub CallsKeepOwn : Module → Type 0
CallsKeepOwn m =
    IsTyped m → (bounded : IsBounded m) → (input : CallInput) (first : Machine) → Starts m input first
    → (n : ℕ) → AreOwn m (own_operands (run m n first)) (active_at m n first (bounded.compute.number ∷ []))
