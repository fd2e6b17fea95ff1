-- One flat instruction of straight code.
use Rattle.std.proofs.Common.{◌≡◌, ℕ, ◌+◌, ◌≤◌, true, false, List, length, map, slice_get, Option, Some, None, Result, Ok, Err, refl, sym, ap, ◌∙◌, subst}
use Rattle.std.specs.Prelude.{IfNone, IfOk, IfSome, OnErr}
use Rattle.std.specs.Option.{is_some}
use Rattle.wasm_ast.specs.declared.types.Value.{Value}
use Rattle.wasm_ast.specs.declared.types.Value.TheVariants.{I64}
use Rattle.wasm_ast.specs.declared.module.Module.{Module}
use Rattle.wasm_ast.specs.declared.plain.Plain.{Plain}
use Rattle.wasm_ast.specs.declared.plain.Plain.TheVariants as plain
use Rattle.wasm_ast.specs.Code.{Code}
use Rattle.wasm_ast.specs.Code as code
use Rattle.verified.specs.declared.body.FlatInstr.{FlatInstr}
use Rattle.verified.specs.declared.body.FlatInstr.TheVariants as flat
use Rattle.verified.specs.Plains.{plain_of}
use Rattle.verified.specs.View.{then_code, then_plain}
use Rattle.verified.specs.Weights.{plain_units}
use Rattle.verified.specs.Host.{Host}
use Rattle.verified.specs.declared.imports.HostCall.{HostCall}
use Rattle.semantics.specs.Configuration.{tick}
use Rattle.interp.specs.declared.plain.Acted.{Acted}
use Rattle.interp.specs.inside.Cells.{cell_effect, in_width}
use Rattle.interp.specs.inside.Flat.{BesideDid, Fails, FlatDid, PlainDid, Stops, flat_asks}
use Rattle.interp.specs.declared.found.Operator.{Operator}
use Rattle.interp.specs.inside.Found.{Ends, PassesZero, numeric_of}
use Rattle.interp.specs.inside.Going.{has_tops, plain_asks}
use Rattle.interp.specs.inside.Kept.{count_kept}
use Rattle.interp.specs.inside.OperandStack.{operand_stack}
use Rattle.interp.specs.inside.Renewed.{Renewed}
use Rattle.interp.specs.inside.Straight.{GoesBeside, Passes, PopsZero, SendsBeside, Spot, host_asks, is_straight, skips_zero, spot}
use Rattle.interp.proofs.Passing.{effect_past, passes_past, past_zero}

-- a place over the lists of the walk
abbrev pub here_of : (cells : List ℕ) (top : ℕ) → Code → (locals : List ℕ) → Renewed → (bytes : List ℕ) → Host → (count : ℕ) → Spot
here_of cells top k locals globals bytes h count =
    spot (operand_stack cells top) k (map I64 locals) globals.here bytes h count

module _ (m : Module) (most : ℕ) (start : Spot) (top : ℕ) (cells cells' locals locals' : List ℕ) (globals globals' : Renewed) (bytes bytes' : List ℕ) (h h' : Host) (count : ℕ) where
  passes_known : (o : Option Plain) (first : FlatInstr) (rest : Code) (by : Acted) → o ≡ plain_of first → FlatDid m o first by top cells cells' locals locals' globals globals' bytes bytes' h h' → Passes m most start (here_of cells top (then_code first rest) locals globals bytes h count) → Passes m most start (here_of cells' by.top rest locals' globals' bytes' h' (count + by.units))
  passes_known (Some p) first rest by known did on =
      let s = here_of cells top (code.plain p rest) locals globals bytes h count in
      let t = here_of cells' by.top rest locals' globals' bytes' h (count + plain_units p) in
      let there = subst (λ (o : Option Plain). Passes m most start (here_of cells top (then_plain o first rest) locals globals bytes h count)) (sym known) on in
      let step = effect_past m most s t (cell_effect in_width p s.values (tick (plain_units p) s.state)) (count + plain_units p) (λ ls. refl) (did.0.acts h (count + plain_units p)) in
      let one = passes_past m most start s t there step in
      subst (λ (x : Host). Passes m most start (here_of cells' by.top rest locals' globals' bytes' x (count + by.units))) (sym did.1)
      (subst (λ (n : ℕ). Passes m most start (here_of cells' by.top rest locals' globals' bytes' h (count + n))) (sym did.0.units) one)
  passes_known None first rest by known did on =
      let past = did.goes rest most count (map I64 locals) globals.here bytes in
      let one = passes_past m most start (here_of cells top (then_code first rest) locals globals bytes h count) (here_of cells' by.top rest locals globals bytes h' (count + by.units)) on past in
      let a2 = subst (λ (x : List ℕ). Passes m most start (here_of cells' by.top rest x globals bytes h' (count + by.units))) (sym did.same_locals) one in
      let a3 = subst (λ (x : Renewed). Passes m most start (here_of cells' by.top rest locals' x bytes h' (count + by.units))) (sym did.same_globals) a2 in
      subst (λ (x : List ℕ). Passes m most start (here_of cells' by.top rest locals' globals' x h' (count + by.units))) (sym did.same_bytes) a3

  -- past a straight instruction
  pub passes_flat : (first : FlatInstr) (rest whole : Code) (by : Acted) (units : ℕ) → units ≡ by.units → whole ≡ then_code first rest → FlatDid m (plain_of first) first by top cells cells' locals locals' globals globals' bytes bytes' h h' → Passes m most start (here_of cells top whole locals globals bytes h count) → Passes m most start (here_of cells' by.top rest locals' globals' bytes' h' (count + units))
  passes_flat first rest whole by units counted begins did on =
      subst (λ (n : ℕ). Passes m most start (here_of cells' by.top rest locals' globals' bytes' h' (count + n))) (sym counted)
      (passes_known (plain_of first) first rest by refl did (subst (λ (k : Code). Passes m most start (here_of cells top k locals globals bytes h count)) begins on))

  pub flat_keeps : (o : Option Plain) (first : FlatInstr) (by : Acted) → FlatDid m o first by top cells cells' locals locals' globals globals' bytes bytes' h h' → (by.top ≤ length cells') × (globals'.initial ≡ globals.initial) × (count_kept bytes' ≡ count_kept bytes)
  flat_keeps (Some p) first by did = (did.0.within, did.0.kept_globals, did.0.kept_bytes)
  flat_keeps None first by did =
      (did.within, ap (λ (g : Renewed). g.initial) did.same_globals, ap (λ (b : List ℕ). count_kept b) did.same_bytes)

-- ---- an instruction that neither branches nor calls

pub known_did : (m : Module) (first : FlatInstr) (p : Plain) → plain_of first ≡ Some p → (by : Acted) (top : ℕ) (cells cells' locals locals' : List ℕ) (globals globals' : Renewed) (bytes bytes' : List ℕ) (h : Host) → PlainDid p by top cells cells' locals locals' globals globals' bytes bytes' → FlatDid m (plain_of first) first by top cells cells' locals locals' globals globals' bytes bytes' h h
known_did m first p is by top cells cells' locals locals' globals globals' bytes bytes' h did =
    subst (λ (o : Option Plain). FlatDid m o first by top cells cells' locals locals' globals globals' bytes bytes' h h) (sym is) (did, refl)

pub operator_did : (op known : Operator) → op ≡ known → (by : Acted) (top : ℕ) (cells cells' : List ℕ) → ((locals : List ℕ) (globals : Renewed) (bytes : List ℕ) → PlainDid (plain.Numeric (numeric_of known)) by top cells cells' locals locals globals globals bytes bytes) → (locals : List ℕ) (globals : Renewed) (bytes : List ℕ) → PlainDid (plain.Numeric (numeric_of op)) by top cells cells' locals locals globals globals bytes bytes
operator_did op known is by top cells cells' did =
    subst (λ (o : Operator). (locals : List ℕ) (globals : Renewed) (bytes : List ℕ) → PlainDid (plain.Numeric (numeric_of o)) by top cells cells' locals locals globals globals bytes bytes) (sym is) did

pub known_asks : (calls : List HostCall) (first : FlatInstr) (p : Plain) → plain_of first ≡ Some p → (vs locals globals : List Value) (bytes : List ℕ) → flat_asks calls (plain_of first) first vs locals globals bytes ≡ true → plain_asks p vs locals globals bytes ≡ true
known_asks calls first p is vs locals globals bytes asks =
    subst (λ (o : Option Plain). flat_asks calls o first vs locals globals bytes ≡ true) is asks

-- ---- an instruction that only pops a zero

pub zero_beside : (m : Module) (first : FlatInstr) (h : Host) (cells : List ℕ) (top room : ℕ) (o : Option Acted) → skips_zero first ≡ true → IfSome o (λ a. PopsZero (operand_stack cells top) (operand_stack cells a.top) a room) → IfSome o (λ a. GoesBeside m first (operand_stack cells top) h (operand_stack cells a.top) h a.units)
zero_beside m first h cells top room None skips pops = tt
zero_beside m first h cells top room (Some a) skips pops =
    subst (λ (n : ℕ). GoesBeside m first (operand_stack cells top) h (operand_stack cells a.top) h n) (sym pops.units) (past_zero m first h pops.cell (operand_stack cells top) (operand_stack cells a.top) skips pops.popped pops.zero)

pub zero_did : (m : Module) (first : FlatInstr) (o : Option Acted) (top : ℕ) (cells locals : List ℕ) (globals : Renewed) (bytes : List ℕ) (h : Host) → skips_zero first ≡ true → plain_of first ≡ None → IfSome o (λ a. PopsZero (operand_stack cells top) (operand_stack cells a.top) a (length cells)) → IfSome o (λ by. FlatDid m (plain_of first) first by top cells cells locals locals globals globals bytes bytes h h)
zero_did m first None top cells locals globals bytes h skips none pops = tt
zero_did m first (Some by) top cells locals globals bytes h skips none pops =
    let did : BesideDid m first by top cells cells locals locals globals globals bytes bytes h h = record {
      goes = zero_beside m first h cells top (length cells) (Some by) skips pops;
      within = pops.within;
      same_locals = refl;
      same_globals = refl;
      same_bytes = refl;
    } in
    subst (λ (o : Option Plain). FlatDid m o first by top cells cells locals locals globals globals bytes bytes h h) (sym none) did

pub zero_asks : (calls : List HostCall) (first : FlatInstr) → PassesZero first → (vs locals globals : List Value) (bytes : List ℕ) → flat_asks calls (plain_of first) first vs locals globals bytes ≡ true → has_tops 1 vs ≡ true
zero_asks calls first zero vs locals globals bytes asks =
    sym (zero.asks calls vs) ∙ subst (λ (o : Option Plain). flat_asks calls o first vs locals globals bytes ≡ true) zero.none asks

pub ends_stops : (calls : List HostCall) (first : FlatInstr) → Ends first → (cells locals : List ℕ) (globals : Renewed) (bytes : List ℕ) (h : Host) → Stops calls first cells cells locals locals globals globals bytes bytes h h
ends_stops calls first ends cells locals globals bytes h = record {
  stops = ends calls;
  same_cells = refl;
  same_locals = refl;
  same_globals = refl;
  same_bytes = refl;
  same_host = refl;
}

pub zero_stops : (calls : List HostCall) (first : FlatInstr) → Ends first → (o : Option Acted) (cells locals : List ℕ) (globals : Renewed) (bytes : List ℕ) (h : Host) → IfNone o (Stops calls first cells cells locals locals globals globals bytes bytes h h)
zero_stops calls first ends (Some by) cells locals globals bytes h = tt
zero_stops calls first ends None cells locals globals bytes h = ends_stops calls first ends cells locals globals bytes h

-- ---- a call of the host

pub call_asks : (calls : List HostCall) (n : ℕ) (first : FlatInstr) → first ≡ flat.Call n → (vs locals globals : List Value) (bytes : List ℕ) → flat_asks calls (plain_of first) first vs locals globals bytes ≡ true → host_asks (slice_get calls n) vs ≡ true
call_asks calls n first is vs locals globals bytes asks =
    subst (λ (i : FlatInstr). flat_asks calls (plain_of i) i vs locals globals bytes ≡ true) is asks

pub call_stops : {E : Type 0} (calls : List HostCall) (n : ℕ) (first : FlatInstr) → first ≡ flat.Call n → (r : Result (Option Acted) E) (cells cells' locals : List ℕ) (globals : Renewed) (bytes : List ℕ) (h h' : Host) → IfOk r (λ o. IfNone o (slice_get calls n ≡ None)) → IfOk r (λ o. IfNone o (cells' ≡ cells)) → IfOk r (λ o. IfNone o (h' ≡ h)) → IfOk r (λ o. IfNone o (Stops calls first cells cells' locals locals globals globals bytes bytes h h'))
call_stops calls n first is (Err e) cells cells' locals globals bytes h h' other same_cells same_host = tt
call_stops calls n first is (Ok (Some by)) cells cells' locals globals bytes h h' other same_cells same_host = tt
call_stops calls n first is (Ok None) cells cells' locals globals bytes h h' other same_cells same_host = record {
  stops = λ rest. subst (λ (i : FlatInstr). is_straight calls (then_code i rest) ≡ false) (sym is) (ap (λ (o : Option HostCall). is_some o) other);
  same_cells = same_cells;
  same_locals = refl;
  same_globals = refl;
  same_bytes = refl;
  same_host = same_host;
}

pub call_did : {E : Type 0} (m : Module) (n : ℕ) (first : FlatInstr) → first ≡ flat.Call n → (r : Result (Option Acted) E) (top : ℕ) (cells cells' locals : List ℕ) (globals : Renewed) (bytes : List ℕ) (h h' : Host) → IfOk r (λ o. IfSome o (λ by. GoesBeside m (flat.Call n) (operand_stack cells top) h (operand_stack cells' by.top) h' by.units)) → IfOk r (λ o. IfSome o (λ by. by.top ≤ length cells')) → IfOk r (λ o. IfSome o (λ by. FlatDid m (plain_of first) first by top cells cells' locals locals globals globals bytes bytes h h'))
call_did m n first is (Ok None) top cells cells' locals globals bytes h h' goes within = tt
call_did m n first is (Err e) top cells cells' locals globals bytes h h' goes within = tt
call_did m n first is (Ok (Some by)) top cells cells' locals globals bytes h h' goes within =
    let did : BesideDid m (flat.Call n) by top cells cells' locals locals globals globals bytes bytes h h' = record {
      goes = goes;
      within = within;
      same_locals = refl;
      same_globals = refl;
      same_bytes = refl;
    } in
    subst (λ (i : FlatInstr). FlatDid m (plain_of i) i by top cells cells' locals locals globals globals bytes bytes h h') (sym is) did

pub call_fails : {T E : Type 0} (m : Module) (n : ℕ) (first : FlatInstr) → first ≡ flat.Call n → (r : Result T E) (values : List Value) (h : Host) (globals : Renewed) (bytes : List ℕ) → OnErr r (SendsBeside m (flat.Call n) values h) → OnErr r (Fails m first values h globals globals bytes bytes)
call_fails m n first is (Ok x) values h globals bytes sends = tt
call_fails m n first is (Err e) values h globals bytes sends = record {
  sends = subst (λ (i : FlatInstr). SendsBeside m i values h) (sym is) sends;
  same_globals = refl;
  same_bytes = refl;
}
