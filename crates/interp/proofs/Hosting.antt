-- Control instructions leave the host as it is, whatever it is.
use Rattle.std.proofs.Common.{◌≡◌, ℕ, zero, suc, Bool, true, false, List, [], ◌∷◌, length, nat_le, slice_get, Option, Some, None, if◌then◌else◌, refl, sym, ap, ◌∙◌, subst}
use Rattle.wasm_ast.specs.declared.types.ValType.TheVariants as val_type
use Rattle.wasm_ast.specs.declared.types.FuncType.{FuncType}
use Rattle.wasm_ast.specs.declared.types.Value.{Value}
use Rattle.wasm_ast.specs.declared.types.Value.TheVariants.{I32, I64}
use Rattle.wasm_ast.specs.declared.plain.Branch.TheVariants as branch
use Rattle.wasm_ast.specs.declared.module.Function.{Function}
use Rattle.wasm_ast.specs.declared.module.Module.{Module}
use Rattle.wasm_ast.specs.Code.{Code}
use Rattle.wasm_ast.specs.Code as code
use Rattle.verified.specs.Host.{Host}
use Rattle.verified.specs.declared.imports.HostCall.{HostCall}
use Rattle.semantics.specs.Configuration.{State, tick, with_host}
use Rattle.semantics.specs.Machine.{Machine, Running, Done, Trapped, Stuck, ControlEntry, Label, Frame, Callee, host, defined, arrive, back, branch_unless_zero, carry, enter, first, functions_of, jump, label_of, landed, leave, next_units, taking}
use Rattle.interp.specs.declared.walk.Turn.{Turn}
use Rattle.interp.specs.declared.walk.Turn.TheVariants as turn
use Rattle.interp.specs.inside.Cells.{cell_advance, cell_take_call, celled, of_any_width, in_width, seen}
use Rattle.interp.specs.inside.Going.{is_going}
use Rattle.interp.specs.inside.Meaning.{AreImports}
use Rattle.interp.specs.inside.Place.{Standing, at, hosted, running, state_of}
use Rattle.interp.specs.inside.Straight.{is_straight}
use Rattle.interp.specs.inside.Walk.{Turned}
use Rattle.interp.proofs.Functions.{no_host}
use Rattle.interp.proofs.Passing.{no_host_call}

module _ (h : Host) where
  -- a machine with this host
  abbrev pub with_it : Machine → Machine
  with_it (Running vs is ls st) = Running vs is ls (with_host st h)
  with_it (Done st) = Done (with_host st h)
  with_it (Trapped count) = Trapped count
  with_it (Stuck count) = Stuck count

  pub going_with_it : (x : Machine) → is_going (with_it x) ≡ is_going x
  going_with_it (Running vs is ls st) = refl
  going_with_it (Done st) = refl
  going_with_it (Trapped count) = refl
  going_with_it (Stuck count) = refl

  landed_with_it : (o : Option (List Value)) (is : Code) (ls : List ControlEntry) (st : State) → landed o is ls (with_host st h) ≡ with_it (landed o is ls st)
  landed_with_it None is ls st = refl
  landed_with_it (Some vs) is ls st = refl

  arrive_with_it : (top : Option Value) (ls : List ControlEntry) (st : State) → arrive top ls (with_host st h) ≡ with_it (arrive top ls st)
  arrive_with_it top [] st = refl
  arrive_with_it top (Label keeps below target after ∷ ls) st = landed_with_it (carry keeps top below) target ls st
  arrive_with_it top (Frame keeps locals below after ∷ ls) st = landed_with_it (carry keeps top below) after ls (record st { locals = locals })

  jump_with_it : (l : ℕ) (top : Option Value) (ls : List ControlEntry) (st : State) → jump l top ls (with_host st h) ≡ with_it (jump l top ls st)
  jump_with_it zero top ls st = arrive_with_it top ls st
  jump_with_it (suc l) top [] st = refl
  jump_with_it (suc l) top (Label keeps below target after ∷ ls) st = jump_with_it l top ls st
  jump_with_it (suc l) top (Frame keeps locals below after ∷ ls) st = refl

  back_with_it : (top : Option Value) (ls : List ControlEntry) (st : State) → back top ls (with_host st h) ≡ with_it (back top ls st)
  back_with_it top [] st = refl
  back_with_it top (Label keeps below target after ∷ ls) st = back_with_it top ls st
  back_with_it top (Frame keeps locals below after ∷ ls) st = arrive_with_it top (Frame keeps locals below after ∷ ls) st

  leave_with_it : (vs : List Value) (ls : List ControlEntry) (st : State) → leave vs ls (with_host st h) ≡ with_it (leave vs ls st)
  leave_with_it vs [] st = refl
  leave_with_it vs (Label keeps below target after ∷ ls) st = refl
  leave_with_it vs (Frame keeps locals below after ∷ ls) st = refl

  taking_with_it : (vs : List Value) (count : ℕ) (go other : ℕ → List Value → Machine) → ((n : ℕ) (us : List Value) → other n us ≡ with_it (go n us)) → taking vs count other ≡ with_it (taking vs count go)
  taking_with_it [] count go other same = refl
  taking_with_it (I32 n ∷ vs) count go other same = same n vs
  taking_with_it (I64 n ∷ vs) count go other same = refl

  unless_with_it : (n l : ℕ) (vs : List Value) (is : Code) (ls : List ControlEntry) (st : State) → branch_unless_zero n l vs is ls (with_host st h) ≡ with_it (branch_unless_zero n l vs is ls st)
  unless_with_it zero l vs is ls st = refl
  unless_with_it (suc n) l vs is ls st = jump_with_it l (first vs) ls st

  chosen_with_it : (b : Bool) (x y : Machine) (count : ℕ) → y ≡ with_it x → (if b then y else Stuck count) ≡ with_it (if b then x else Stuck count)
  chosen_with_it true x y count e = e
  chosen_with_it false x y count e = refl

  enter_with_it : (f : Function) (o : Option FuncType) (vs : List Value) (is : Code) (ls : List ControlEntry) (st : State) → enter f o vs is ls (with_host st h) ≡ with_it (enter f o vs is ls st)
  enter_with_it f None vs is ls st = refl
  enter_with_it f (Some t) vs is ls st = chosen_with_it (nat_le (length t.parameters) (length vs)) _ _ st.count refl

  module _ (m : Module) (calls : List HostCall) (imports : AreImports calls m) (may : Value → Bool) where
    call_with_it : (f : ℕ) (o : Option Callee) → o ≡ slice_get (functions_of m) f → slice_get calls f ≡ None → (vs : List Value) (is : Code) (ls : List ControlEntry) (st : State) → cell_take_call may m o vs is ls (with_host st h) ≡ with_it (cell_take_call may m o vs is ls st)
    call_with_it f None e none vs is ls st = refl
    call_with_it f (Some (host None)) e none vs is ls st = refl
    call_with_it f (Some (host (Some c))) e none vs is ls st = absurd (no_host m calls imports f c none e)
    call_with_it f (Some (defined g)) e none vs is ls st = enter_with_it (celled g) (slice_get m.types g.type_number) vs is ls st

    -- a step that is not straight
    pub step_with_it : (k : Code) → is_straight calls k ≡ false → (vs : List Value) (ls : List ControlEntry) (st : State) → cell_advance may m (Running vs k ls (with_host st h)) ≡ with_it (cell_advance may m (Running vs k ls st))
    step_with_it code.end e vs ls st = leave_with_it vs ls st
    step_with_it (code.plain p is) e vs ls st = absurd cc
    step_with_it (code.branch (branch.Br l) is) e vs ls st = jump_with_it l (first vs) ls (tick (next_units m (code.branch (branch.Br l) is)) st)
    step_with_it (code.branch (branch.BrIf l) is) e vs ls st = taking_with_it (seen (val_type.I32 ∷ []) vs) _ _ _ (λ n us. unless_with_it n l us is ls (tick (next_units m (code.branch (branch.BrIf l) is)) st))
    step_with_it (code.branch (branch.BrTable labels other) is) e vs ls st = taking_with_it (seen (val_type.I32 ∷ []) vs) _ _ _ (λ n us. jump_with_it (label_of labels n other) (first us) ls (tick (next_units m (code.branch (branch.BrTable labels other) is)) st))
    step_with_it (code.branch branch.Return is) e vs ls st = back_with_it (first vs) ls (tick (next_units m (code.branch branch.Return is)) st)
    step_with_it (code.call f is) e vs ls st = call_with_it f (slice_get (functions_of m) f) refl (no_host_call calls f is e) vs is ls (tick (next_units m (code.call f is)) st)
    step_with_it (code.call_indirect t is) e vs ls st = refl
    step_with_it (code.unreachable is) e vs ls st = refl
    step_with_it (code.block t body is) e vs ls st = refl
    step_with_it (code.loop t body is) e vs ls st = refl
    step_with_it (code.choice t body other is) e vs ls st = taking_with_it (seen (val_type.I32 ∷ []) vs) _ _ _ (λ n us. refl)

  turned_with_it : (t : Turn) (x : Machine) (s : Standing) → Turned t x s → Turned t (with_it x) (hosted s h)
  turned_with_it (turn.Next k count) x s e = ap with_it e
  turned_with_it (turn.Again body count) x s a =
      record { block_type = a.block_type; after = a.after; values = a.values; entries = a.entries; at_loop = ap with_it a.at_loop; inside = a.inside; label = a.label }
  turned_with_it (turn.Finished count) x s e = ap with_it e

  module _ (m : Module) (calls : List HostCall) (imports : AreImports calls m) (s : Standing) (k : Code) (stops : is_straight calls k ≡ false) (count : ℕ) where
    -- where the step of a run goes on, that of a walk does
    pub goes_without : is_going (cell_advance of_any_width m (running (at (hosted s h) k count))) ≡ true → is_going (cell_advance of_any_width m (running (at s k count))) ≡ true
    goes_without g =
        let step = step_with_it m calls imports of_any_width k stops s.values s.entries (state_of s count) in
        sym (ap is_going step ∙ going_with_it (cell_advance of_any_width m (running (at s k count)))) ∙ g

    -- where a walk turned, so does the run
    pub turned_hosted : (t : Turn) (new : Standing) → Turned t (cell_advance in_width m (running (at s k count))) new → Turned t (cell_advance in_width m (running (at (hosted s h) k count))) (hosted new h)
    turned_hosted t new turned =
        let step = step_with_it m calls imports in_width k stops s.values s.entries (state_of s count) in
        subst (λ (x : Machine). Turned t x (hosted new h)) (sym step) (turned_with_it t (cell_advance in_width m (running (at s k count))) new turned)
