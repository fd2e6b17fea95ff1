-- Straight code: one instruction more.
use Rattle.std.proofs.Common.{◌≡◌, ◌≢◌, ℕ, suc, ◌+◌, ◌<◌, ◌≤◌, Bool, true, false, List, [], ◌∷◌, length, nat_eq, Option, Some, None, is_some, slice_get, refl, sym, ap, ◌∙◌, subst, arith}
use Rattle.std.proofs.lemmas.Bool.{true≢false}
use Rattle.wasm_ast.specs.declared.types.ValType.TheVariants as val_type
use Rattle.wasm_ast.specs.declared.types.Value.{Value}
use Rattle.wasm_ast.specs.declared.types.Value.TheVariants.{I64}
use Rattle.wasm_ast.specs.declared.module.Module.{Module}
use Rattle.wasm_ast.specs.declared.plain.Branch.TheVariants as branch
use Rattle.wasm_ast.specs.declared.plain.Plain.{Plain}
use Rattle.wasm_ast.specs.Code.{Code}
use Rattle.wasm_ast.specs.Code as code
use Rattle.verified.specs.declared.body.FlatInstr.{FlatInstr}
use Rattle.verified.specs.declared.body.FlatInstr.TheVariants as flat
use Rattle.verified.specs.Plains.{plain_of}
use Rattle.verified.specs.View.{code_of, then_code, then_control, then_plain}
use Rattle.verified.specs.Weights.{call_units, host_units, plain_units}
use Rattle.verified.specs.Host.{Host}
use Rattle.verified.specs.declared.imports.HostCall.{HostCall}
use Rattle.semantics.specs.Configuration.{State, Effect, Gives, tick}
use Rattle.semantics.specs.Heights.{beneath}
use Rattle.semantics.specs.Machine.{Machine, Running, ControlEntry, Label, Callee, host, after_effect, arm, branch_unless_zero, functions_of, has_result, next_units}
use Rattle.interp.specs.inside.Cells.{cell_advance, cell_call, cell_take_call, in_width, narrowed, of_any_width}
use Rattle.interp.specs.inside.Given.{HasGiven, gives}
use Rattle.interp.specs.inside.Going.{is_going}
use Rattle.interp.specs.inside.Meaning.{AreImports}
use Rattle.interp.specs.inside.Acts.{ActsOnHost, state}
use Rattle.interp.specs.inside.Place.{Place, running}
use Rattle.interp.specs.inside.Flat.{flat_asks}
use Rattle.interp.specs.inside.Straight.{GoesBeside, LeadsAmid, Passes, SendsAmid, SendsBeside, Spot, amid, beside_asks, host_asks, is_end, is_straight, skips_zero, spot}
use Rattle.interp.proofs.Asking.{call_asked, plain_asked, taking_asks}
use Rattle.interp.proofs.Following.{cell_goes, cell_room, fewer_here, follows_on, gives_on}
use Rattle.interp.proofs.Functions.{callee_host}
use Rattle.interp.proofs.Sending.{call_gives}
use Rattle.interp.proofs.Weighing.{call_counts}

-- ---- a call of the host

module _ (m : Module) (calls : List HostCall) (imports : AreImports calls m) (f : ℕ) (c : HostCall) (found : Some c ≡ slice_get calls f) where
  -- the machine takes this step
  host_turn : (may : Value → Bool) (vs : List Value) (rest : Code) (ls : List ControlEntry) (st : State) → cell_advance may m (Running vs (code.call f rest) ls st) ≡ after_effect (cell_call may c vs (tick (host_units (Some c)) st)) rest ls (st.count + host_units (Some c))
  host_turn may vs rest ls st =
      let counted : host_units (Some c) ≡ call_units m f = ap host_units found ∙ call_counts m calls imports f in
      let there : slice_get (functions_of m) f ≡ Some (host (Some c)) = callee_host m calls imports f c (sym found) in
      ap (λ (o : Option Callee). cell_take_call may m o vs rest ls (tick (call_units m f) st)) there
      ∙ ap (λ (n : ℕ). after_effect (cell_call may c vs (tick n st)) rest ls (st.count + n)) (sym counted)

-- ---- where straight code stops

control_stops : (calls : List HostCall) (i : FlatInstr) (rest : Code) → ((f : ℕ) → i ≢ flat.Call f) → is_straight calls (then_control i rest) ≡ false
control_stops calls (flat.Br l) rest called = refl
control_stops calls (flat.BrIf l) rest called = refl
control_stops calls (flat.Branch b) rest called = refl
control_stops calls (flat.Call f) rest called = absurd (called f refl)
control_stops calls (flat.CallIndirect t) rest called = refl
control_stops calls flat.Unreachable rest called = refl
control_stops calls (flat.Block t body) rest called = refl
control_stops calls (flat.Loop t body) rest called = refl
control_stops calls (flat.If t body other) rest called = refl
control_stops calls _ rest called = refl

known_or_stops : (calls : List HostCall) (i : FlatInstr) (rest : Code) → ((f : ℕ) → i ≢ flat.Call f) → (o : Option Plain) → is_straight calls (then_plain o i rest) ≡ is_some o
known_or_stops calls i rest called None = control_stops calls i rest called
known_or_stops calls i rest called (Some p) = refl

-- an instruction that is no call is straight if it is plain
pub straight_if_plain : (calls : List HostCall) (i : FlatInstr) (rest : Code) → ((f : ℕ) → i ≢ flat.Call f) → is_straight calls (then_code i rest) ≡ is_some (plain_of i)
straight_if_plain calls i rest called = known_or_stops calls i rest called (plain_of i)

-- no code goes on from here
pub plain_goes : (calls : List HostCall) (i : FlatInstr) (rest : Code) → ((f : ℕ) → i ≢ flat.Call f) → is_some (plain_of i) ≡ true → is_straight calls (then_code i rest) ≡ false → ⊥
plain_goes calls i rest called plain stops = absurd (true≢false (sym plain ∙ sym (straight_if_plain calls i rest called) ∙ stops))

pub no_host_call : (calls : List HostCall) (f : ℕ) (rest : Code) → is_straight calls (code.call f rest) ≡ false → slice_get calls f ≡ None
no_host_call calls f rest stops = none_of (slice_get calls f) stops
  where
    none_of : (o : Option HostCall) → is_some o ≡ false → o ≡ None
    none_of None e = refl
    none_of (Some c) e = absurd cc

-- ---- an instruction that only pops a zero

control_no_end : (i : FlatInstr) (k : Code) → false ≡ is_end (then_control i k)
control_no_end (flat.Br l) k = refl
control_no_end (flat.BrIf l) k = refl
control_no_end (flat.Branch b) k = refl
control_no_end (flat.Call f) k = refl
control_no_end (flat.CallIndirect t) k = refl
control_no_end flat.Unreachable k = refl
control_no_end (flat.Block t body) k = refl
control_no_end (flat.Loop t body) k = refl
control_no_end (flat.If t body other) k = refl
control_no_end _ k = refl

never_end : (i : FlatInstr) (k : Code) (o : Option Plain) → false ≡ is_end (then_plain o i k)
never_end i k None = control_no_end i k
never_end i k (Some p) = refl

pub empty_is_end : (is : List FlatInstr) → nat_eq (length is) 0 ≡ is_end (code_of is)
empty_is_end [] = refl
empty_is_end (i ∷ is) =
    let none : nat_eq (suc (length is)) 0 ≡ false = grind arith in none ∙ never_end i (code_of is) (plain_of i)

pub past_zero : (m : Module) (first : FlatInstr) (h : Host) (cell : ℕ) (old us : List Value) → skips_zero first ≡ true → old ≡ I64 cell ∷ us → narrowed val_type.I32 cell ≡ 0 → GoesBeside m first old h us h 1
past_zero m (flat.BrIf l) h cell old us g f z rest most count locals globals bytes ls from follows ends =
    let st : State = state locals globals bytes h count in
    let whole = code.branch (branch.BrIf l) rest in
    let step : cell_advance in_width m (Running old whole ls st) ≡ Running us rest ls (tick 1 st) =
    ap (λ (vs : List Value). cell_advance in_width m (Running vs whole ls st)) f
    ∙ ap (λ (n : ℕ). branch_unless_zero n l us rest ls (tick 1 st)) z in
    follows_on m from (amid (spot old whole locals globals bytes h count) ls) follows most ends (amid (spot us rest locals globals bytes h (count + 1)) ls) step
past_zero m (flat.If t body code.end) h cell old us g f z rest most count locals globals bytes ls from follows ends =
    let st : State = state locals globals bytes h count in
    let whole = code.choice t body code.end rest in
    let round : List ControlEntry = Label (has_result t) us rest rest ∷ ls in
    let inner : Place = record { values = []; code = code.end; entries = round; state = tick 1 st } in
    let enters : cell_advance in_width m (Running old whole ls st) ≡ Running [] code.end round (tick 1 st) =
    ap (λ (vs : List Value). cell_advance in_width m (Running vs whole ls st)) f
    ∙ ap (λ (n : ℕ). Running [] (arm n body code.end) round (tick 1 st)) z in
    let here = amid (spot old whole locals globals bytes h count) ls in
    follows_on m from inner (follows_on m from here follows most ends inner enters) most ends (amid (spot us rest locals globals bytes h (count + 1)) ls) refl
past_zero m _ h cell old us g f z rest most count locals globals bytes ls from follows ends = absurd cc

-- ---- what instructions require

host_asked : (m : Module) (calls : List HostCall) → AreImports calls m → (f : ℕ) (rest : Code) (o : Option HostCall) → o ≡ slice_get calls f → (vs : List Value) (ls : List ControlEntry) (st : State) → is_going (cell_advance of_any_width m (Running vs (code.call f rest) ls st)) ≡ true → host_asks o vs ≡ true
host_asked m calls imports f rest None found vs ls st g = refl
host_asked m calls imports f rest (Some c) found vs ls st g =
    let turn = host_turn m calls imports f c found of_any_width vs rest ls st in
    call_asked of_any_width c vs rest ls (tick (host_units (Some c)) st) (ap (λ (x : Machine). is_going x) (sym turn) ∙ g)

beside_asked : (m : Module) (calls : List HostCall) → AreImports calls m → (i : FlatInstr) (rest : Code) (vs : List Value) (ls : List ControlEntry) (st : State) → is_going (cell_advance of_any_width m (Running vs (then_code i rest) ls st)) ≡ true → beside_asks calls i vs ≡ true
beside_asked m calls imports (flat.Call f) rest vs ls st g = host_asked m calls imports f rest (slice_get calls f) refl vs ls st g
beside_asked m calls imports (flat.BrIf l) rest vs ls st g = taking_asks vs (st.count + 1) (λ n us. branch_unless_zero n l us rest ls (tick 1 st)) g
beside_asked m calls imports (flat.If t body other) rest vs ls st g = taking_asks vs (st.count + 1) (λ n us. Running [] (arm n body other) (Label (has_result t) us rest rest ∷ ls) (tick 1 st)) g
beside_asked m calls imports _ rest vs ls st g = refl

flat_asked : (m : Module) (calls : List HostCall) → AreImports calls m → (i : FlatInstr) (rest : Code) (o : Option Plain) → o ≡ plain_of i → (vs : List Value) (ls : List ControlEntry) (st : State) → is_going (cell_advance of_any_width m (Running vs (then_code i rest) ls st)) ≡ true → flat_asks calls o i vs st.locals st.globals st.memory ≡ true
flat_asked m calls imports i rest None e vs ls st g = beside_asked m calls imports i rest vs ls st g
flat_asked m calls imports i rest (Some p) e vs ls st g =
    plain_asked of_any_width p vs rest ls (tick (plain_units p) st) (ap (λ (o : Option Plain). is_going (cell_advance of_any_width m (Running vs (then_plain o i rest) ls st))) e ∙ g)

-- ---- runs of them

module _ (m : Module) (most : ℕ) where
  pub leads_on : (free : ℕ) (s t : Spot) → LeadsAmid m s most free → Passes m most s t → LeadsAmid m t most free
  leads_on free s t l on =
      let d = l.leads in
      record { entries = l.entries; leads = record { from = d.from; follows = on l.entries d.from d.follows d.ends; ends = d.ends }; low = l.low }

  pub sends_on : (s t : Spot) → Passes m most s t → SendsAmid m most t → SendsAmid m most s
  sends_on s t on sends = λ ls from follows ends. sends ls from (on ls from follows ends) ends

  pub room_amid : (free : ℕ) (s : Spot) → LeadsAmid m s most free → s.state.count + next_units m s.code ≤ most
  room_amid free s l = let d = l.leads in cell_room m d.from (amid s l.entries) d.follows most d.ends

  goes_amid : (free : ℕ) (s : Spot) (l : LeadsAmid m s most free) → is_going (cell_advance of_any_width m (running (amid s l.entries))) ≡ true
  goes_amid free s l = let d = l.leads in cell_goes m d.from (amid s l.entries) d.follows most d.ends

  pub flat_asked_amid : (calls : List HostCall) → AreImports calls m → (i : FlatInstr) (rest : Code) (free : ℕ) (s : Spot) → s.code ≡ then_code i rest → LeadsAmid m s most free → flat_asks calls (plain_of i) i s.values s.state.locals s.state.globals s.state.memory ≡ true
  flat_asked_amid calls imports i rest free s begins l =
      flat_asked m calls imports i rest (plain_of i) refl s.values l.entries s.state
      (ap (λ (k : Code). is_going (cell_advance of_any_width m (Running s.values k l.entries s.state))) (sym begins) ∙ goes_amid free s l)

  -- one place further
  pub passes_past : (s t u : Spot) → Passes m most s t → Passes m most t u → Passes m most s u
  passes_past s t u on past = λ ls from follows ends. past ls from (on ls from follows ends) ends

  -- a step with this effect further
  pub effect_past : (s t : Spot) (e : Effect) (n : ℕ) → ((ls : List ControlEntry) → cell_advance in_width m (running (amid s ls)) ≡ after_effect e t.code ls n) → e ≡ Gives t.values t.state → Passes m most s t
  effect_past s t e n turns same = λ ls from follows ends. follows_on m from (amid s ls) follows most ends (amid t ls) (turns ls ∙ ap (λ (x : Effect). after_effect x t.code ls n) same)

  -- there is room for one operand more
  pub fewer_amid : (free : ℕ) (s : Spot) → LeadsAmid m s most free → length s.values < free
  fewer_amid free s l =
      let d = l.leads in
      let h = fewer_here m d.from (amid s l.entries) (beneath l.entries + free) d.follows l.low in omega (arith, h)

-- ---- what a call of the host does

module _ (m : Module) (calls : List HostCall) (imports : AreImports calls m) (f : ℕ) (c : HostCall) (found : Some c ≡ slice_get calls f) where
  pub host_goes_beside : (old new : List Value) (h h' : Host) → ActsOnHost (cell_call in_width c) old new h h' → GoesBeside m (flat.Call f) old h new h' (host_units (Some c))
  host_goes_beside old new h h' acts rest most count locals globals bytes =
      let units = host_units (Some c) in
      let st : State = state locals globals bytes h count in
      let s : Spot = spot old (code.call f rest) locals globals bytes h count in
      let t : Spot = spot new rest locals globals bytes h' (count + units) in
      effect_past m most s t (cell_call in_width c old (tick units st)) (count + units) (λ ls. host_turn m calls imports f c found in_width old rest ls st) (acts locals globals bytes (count + units))

  -- it sends something, or contributes to an aggregator
  pub host_sends_beside : (old : List Value) (h : Host) → gives c ≡ true → SendsBeside m (flat.Call f) old h
  host_sends_beside old h given rest most count locals globals bytes ls from follows ends =
      let units = host_units (Some c) in
      let st : State = state locals globals bytes h count in
      let here = amid (spot old (code.call f rest) locals globals bytes h count) ls in
      let turn : (may : Value → Bool) → cell_advance may m (Running old (code.call f rest) ls st) ≡ after_effect (cell_call may c old (tick units st)) rest ls (count + units) = λ may. host_turn m calls imports f c found may old rest ls st in
      let going = ap (λ (x : Machine). is_going x) (sym (turn of_any_width)) ∙ cell_goes m from here follows most ends in
      gives_on m from here follows most ends (subst HasGiven (sym (turn in_width)) (call_gives c old rest ls (tick units st) (count + units) given going))

-- the same in other words
module _ (m : Module) (most : ℕ) (k j : Code) (vs us ls ms : List Value) (v : vs ≡ us) (l : ls ≡ ms) (gs : List Value) (bs : List ℕ) (h h' : Host) (n : ℕ) where
  pub leads_same : (free free' : ℕ) → free ≡ free' → LeadsAmid m (spot us k ms gs bs h n) most free → LeadsAmid m (spot vs k ls gs bs h n) most free'
  leads_same free free' f a =
      let a1 = subst (λ (x : List Value). LeadsAmid m (spot us k x gs bs h n) most free) (sym l) a in
      let a2 = subst (λ (x : List Value). LeadsAmid m (spot x k ls gs bs h n) most free) (sym v) a1 in
      subst (λ (x : ℕ). LeadsAmid m (spot vs k ls gs bs h n) most x) f a2

  pub sends_same : SendsAmid m most (spot vs k ls gs bs h n) → SendsAmid m most (spot us k ms gs bs h n)
  sends_same a =
      subst (λ (x : List Value). SendsAmid m most (spot us k x gs bs h n)) l (subst (λ (x : List Value). SendsAmid m most (spot x k ls gs bs h n)) v a)

  pub passes_same : (vs' us' ls' ms' : List Value) → vs' ≡ us' → ls' ≡ ms' → (gs' : List Value) (bs' : List ℕ) (n' : ℕ) → Passes m most (spot vs k ls gs bs h n) (spot us' j ms' gs' bs' h' n') → Passes m most (spot us k ms gs bs h n) (spot vs' j ls' gs' bs' h' n')
  passes_same vs' us' ls' ms' v' l' gs' bs' n' a =
      let a1 = subst (λ (x : List Value). Passes m most (spot x k ls gs bs h n) (spot us' j ms' gs' bs' h' n')) v a in
      let a2 = subst (λ (x : List Value). Passes m most (spot us k x gs bs h n) (spot us' j ms' gs' bs' h' n')) l a1 in
      let a3 = subst (λ (x : List Value). Passes m most (spot us k ms gs bs h n) (spot x j ms' gs' bs' h' n')) (sym v') a2 in
      subst (λ (x : List Value). Passes m most (spot us k ms gs bs h n) (spot vs' j x gs' bs' h' n')) (sym l') a3
