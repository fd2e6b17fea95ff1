-- A run counts at least what it has executed, and each counted step brings it nearer to the end.
use Rattle.std.proofs.Common.{◌≡◌, ℕ, zero, suc, ◌+◌, ◌-◌, ◌*◌, ◌<◌, ◌≤◌, List, [], ◌∷◌, length, subst, arith}
use Rattle.wasm_ast.specs.declared.types.Value.{Value}
use Rattle.wasm_ast.specs.declared.body.Instr.TheVariants as instr
use Rattle.wasm_ast.specs.declared.module.Module.{Module}
use Rattle.wasm_ast.specs.Code.{Code}
use Rattle.wasm_ast.specs.Code as code
use Rattle.verified.specs.LeastUnits.{units_least}
use Rattle.semantics.specs.Configuration.{State}
use Rattle.semantics.specs.Machine.{Machine, Running, Done, Trapped, Stuck, ControlEntry, Label, Frame, leave, next_units, advance, run}
use Rattle.interp.specs.inside.Place.{Place, running}
use Rattle.interp.specs.inside.Walk.{left_of}
use Rattle.semantics.proofs.Counts.{Within, within}

-- ---- a run

-- at least this many units were counted
abbrev pub Counted : ℕ → Machine → Type 0
Counted k (Running vs is ls st) = k ≤ st.count
Counted k (Done st) = k ≤ st.count
Counted k (Trapped c) = k ≤ c
Counted k (Stuck c) = k ≤ c

counted_within : (k n : ℕ) (x : Machine) → Within k n x → Counted k x
counted_within k n (Running vs is ls st) w = omega (arith, w.0)
counted_within k n (Done st) w = omega (arith, w)
counted_within k n (Trapped c) w = omega (arith, w)
counted_within k n (Stuck c) w = omega (arith, w)

pub counted_more : (j k : ℕ) (x : Machine) → j ≤ k → Counted k x → Counted j x
counted_more j k (Running vs is ls st) h c = omega (arith, h, c)
counted_more j k (Done st) h c = omega (arith, h, c)
counted_more j k (Trapped c) h g = omega (arith, h, g)
counted_more j k (Stuck c) h g = omega (arith, h, g)

counted_step : (m : Module) (k : ℕ) (x : Machine) → Counted k x → Counted k (advance m x)
counted_step m k (Running vs is ls st) c =
    counted_more k (st.count + next_units m is) (advance m (Running vs is ls st)) (omega (arith, c)) (counted_within (st.count + next_units m is) (suc (length ls)) _ (within m vs is ls st))
counted_step m k (Done st) c = c
counted_step m k (Trapped n) c = c
counted_step m k (Stuck n) c = c

counted_run : (m : Module) (n k : ℕ) (x : Machine) → Counted k x → Counted k (run m n x)
counted_run m zero k x c = c
counted_run m (suc n) k x c = counted_run m n k (advance m x) (counted_step m k x c)

-- after an instruction its units are counted
pub counted_after : (m : Module) (n : ℕ) (vs : List Value) (next : Code) (ls : List ControlEntry) (st : State) → Counted (st.count + next_units m next) (run m (suc n) (Running vs next ls st))
counted_after m n vs next ls st =
    counted_run m n (st.count + next_units m next) (advance m (Running vs next ls st)) (counted_within (st.count + next_units m next) (suc (length ls)) _ (within m vs next ls st))

-- ---- nearer to the end

abbrev Nearer : ℕ → ℕ → Machine → Type 0
Nearer b n (Running vs is ls st) = 2 * (b - st.count) + length ls < n
Nearer b n (Done st) = Unit {0}
Nearer b n (Trapped c) = Unit {0}
Nearer b n (Stuck c) = Unit {0}

nearer_within : (b c u n : ℕ) (x : Machine) → 1 ≤ u → c + u ≤ b → Within (c + u) (suc n) x → Nearer b (2 * (b - c) + n) x
nearer_within b c u n (Running vs is ls st) l h w = omega (arith, w.0, w.1, l, h)
nearer_within b c u n (Done st) l h w = tt
nearer_within b c u n (Trapped k) l h w = tt
nearer_within b c u n (Stuck k) l h w = tt

nearer_leave : (b : ℕ) (vs : List Value) (ls : List ControlEntry) (st : State) → Nearer b (2 * (b - st.count) + length ls) (leave vs ls st)
nearer_leave b vs [] st = tt
nearer_leave b vs (Label keeps us t a ∷ ls) st = omega arith
nearer_leave b vs (Frame keeps xs us a ∷ ls) st = omega arith

nearer_counted : (m : Module) (b : ℕ) (vs : List Value) (next : Code) (ls : List ControlEntry) (st : State) → 1 ≤ next_units m next → st.count + next_units m next ≤ b → Nearer b (2 * (b - st.count) + length ls) (advance m (Running vs next ls st))
nearer_counted m b vs next ls st l h =
    nearer_within b st.count (next_units m next) (length ls) (advance m (Running vs next ls st)) l h (within m vs next ls st)

nearer : (m : Module) (b : ℕ) (vs : List Value) (next : Code) (ls : List ControlEntry) (st : State) → st.count + next_units m next ≤ b → Nearer b (2 * (b - st.count) + length ls) (advance m (Running vs next ls st))
nearer m b vs code.end ls st h = nearer_leave b vs ls st
nearer m b vs (code.plain p is) ls st h = nearer_counted m b vs (code.plain p is) ls st (units_least m (instr.Plain p)) h
nearer m b vs (code.branch c is) ls st h = nearer_counted m b vs (code.branch c is) ls st (units_least m (instr.Branch c)) h
nearer m b vs (code.call f is) ls st h = nearer_counted m b vs (code.call f is) ls st (units_least m (instr.Call f)) h
nearer m b vs (code.call_indirect t is) ls st h = nearer_counted m b vs (code.call_indirect t is) ls st (units_least m (instr.CallIndirect t)) h
nearer m b vs (code.unreachable is) ls st h = nearer_counted m b vs (code.unreachable is) ls st (units_least m instr.Unreachable) h
nearer m b vs (code.block t body is) ls st h = nearer_counted m b vs (code.block t body is) ls st (units_least m (instr.Block t body)) h
nearer m b vs (code.loop t body is) ls st h = nearer_counted m b vs (code.loop t body is) ls st (units_least m (instr.Loop t body)) h
nearer m b vs (code.choice t body other is) ls st h = nearer_counted m b vs (code.choice t body other is) ls st (units_least m (instr.If t body other)) h

pub falls : (m : Module) (b : ℕ) (p q : Place) → advance m (running p) ≡ running q → p.state.count + next_units m p.code ≤ b → left_of b q < left_of b p
falls m b p q e h = subst (λ (x : Machine). Nearer b (left_of b p) x) e (nearer m b p.values p.code p.entries p.state h)
