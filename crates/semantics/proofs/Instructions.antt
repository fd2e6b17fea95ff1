-- A run executes no more instructions than it counts units.
use Rattle.std.proofs.Common.{◌≡◌, ℕ, zero, suc, ◌+◌, ◌≤◌, List, length, sym, ap, ◌∙◌, arith}
use Rattle.wasm_ast.specs.declared.types.Value.{Value}
use Rattle.wasm_ast.specs.declared.body.Instr.TheVariants as instr
use Rattle.wasm_ast.specs.declared.module.Module.{Module}
use Rattle.wasm_ast.specs.Code.{Code}
use Rattle.wasm_ast.specs.Code as code
use Rattle.verified.specs.LeastUnits.{units_least}
use Rattle.verified.specs.declared.call.CallInput.{CallInput}
use Rattle.verified.specs.declared.call.CallOutcome.{CallOutcome}
use Rattle.semantics.specs.Call.{IsOutcome, Outcome}
use Rattle.semantics.specs.Configuration.{State}
use Rattle.semantics.specs.Instructions.{instructions, next_instructions, units}
use Rattle.semantics.specs.Machine.{ControlEntry, Machine, Running, Done, Trapped, Stuck, advance, next_units, run}
use Rattle.semantics.specs.Start.{Starts}
use Rattle.semantics.proofs.Counts.{Within, within}
use Rattle.semantics.proofs.OneEnd.{one_start}
use Rattle.semantics.proofs.RunLaws.{over_at, run-add, stays}

units_within : (k n : ℕ) (x : Machine) → Within k n x → units x ≡ k
units_within k n (Running vs is ls st) w = w.0
units_within k n (Done st) w = w
units_within k n (Trapped c) w = w
units_within k n (Stuck c) w = w

next_least : (m : Module) (vs : List Value) (is : Code) (ls : List ControlEntry) (st : State) → next_instructions (Running vs is ls st) ≤ next_units m is
next_least m vs code.end ls st = omega arith
next_least m vs (code.plain p is) ls st = units_least m (instr.Plain p)
next_least m vs (code.branch b is) ls st = units_least m (instr.Branch b)
next_least m vs (code.call f is) ls st = units_least m (instr.Call f)
next_least m vs (code.call_indirect t is) ls st = units_least m (instr.CallIndirect t)
next_least m vs (code.unreachable is) ls st = units_least m instr.Unreachable
next_least m vs (code.block t body is) ls st = units_least m (instr.Block t body)
next_least m vs (code.loop t body is) ls st = units_least m (instr.Loop t body)
next_least m vs (code.choice t body other is) ls st = units_least m (instr.If t body other)

step_counts : (m : Module) (x : Machine) → units x + next_instructions x ≤ units (advance m x)
step_counts m (Running vs is ls st) =
    let w : units (advance m (Running vs is ls st)) ≡ st.count + next_units m is = units_within (st.count + next_units m is) (suc (length ls)) (advance m (Running vs is ls st)) (within m vs is ls st) in
    let l : next_instructions (Running vs is ls st) ≤ next_units m is = next_least m vs is ls st in
    omega (arith, w, l)
step_counts m (Done st) = omega arith
step_counts m (Trapped c) = omega arith
step_counts m (Stuck c) = omega arith

pub run_counts : (m : Module) (n : ℕ) (x : Machine) → units x + instructions m n x ≤ units (run m n x)
run_counts m zero x = omega arith
run_counts m (suc n) x = let a = step_counts m x in let b = run_counts m n (advance m x) in omega (arith, a, b)

-- a run that ends executes no more instructions than its end counts units
pub all_counted : (m : Module) (x : Machine) (steps : ℕ) (final : State) → run m steps x ≡ Done final → (n : ℕ) → instructions m n x ≤ final.count
all_counted m x steps final done n =
    let late : run m (n + steps) x ≡ Done final = stays m steps (n + steps) x (over_at m steps x (Done final) done tt) (omega arith) ∙ done in
    let end : run m steps (run m n x) ≡ Done final = sym (run-add m n steps x) ∙ late in
    let a = run_counts m n x in
    let b = run_counts m steps (run m n x) in
    let c : units (run m steps (run m n x)) ≡ final.count = ap (λ (y : Machine). units y) end in
    omega (arith, a, b, c)

pub outcome_counts : (m : Module) (input : CallInput) (outcome : CallOutcome) → IsOutcome m input outcome → (first : Machine) → Starts m input first → (n : ℕ) → instructions m n first ≤ outcome.units
outcome_counts m input outcome told first starts n =
    let same : run m told.steps first ≡ run m told.steps told.first = ap (λ (y : Machine). run m told.steps y) (one_start m input first told.first starts told.starts) in
    let all = all_counted m first told.steps told.final (same ∙ told.done) n in
    let counts : outcome.units ≡ told.final.count = ap (λ (o : Outcome). o.units) told.leaves in
    omega (arith, all, counts)
