-- A sequence runs alike whatever entries lie round it, until it is left or fails.
use Rattle.std.proofs.Common.{◌≡◌, ◌≢◌, ℕ, zero, suc, ◌+◌, ◌<◌, ◌≤◌, ◌⊎◌, inl, inr, List, [], ◌∷◌, ◌++◌, Bool, true, false, Option, Some, None, length, nat_le, slice_get, map, reverse, take, drop, if◌then◌else◌, refl, sym, ap, ◌∙◌, subst, arith, length-append}
use Rattle.wasm_ast.specs.declared.types.ValType.TheVariants as val_type
use Rattle.wasm_ast.specs.declared.types.Value.{Value}
use Rattle.wasm_ast.specs.declared.types.FuncType.{FuncType}
use Rattle.wasm_ast.specs.declared.plain.Branch.{Branch}
use Rattle.wasm_ast.specs.declared.plain.Branch.TheVariants as branch
use Rattle.wasm_ast.specs.declared.module.Function.{Function}
use Rattle.wasm_ast.specs.declared.module.Module.{Module}
use Rattle.wasm_ast.specs.Code.{Code}
use Rattle.wasm_ast.specs.Code as code
use Rattle.wasm_ast.specs.Values.{zero_of}
use Rattle.verified.specs.Operands.{number, with_number}
use Rattle.semantics.specs.Configuration.{State, with_locals, tick, Effect, Gives, Traps, Misses}
use Rattle.semantics.specs.Effects.{effect}
use Rattle.semantics.specs.Machine as machine
use Rattle.semantics.specs.Machine.{Machine, Running, Done, Trapped, Stuck, ControlEntry, Label, Frame, Callee, defined, functions_of, landed, arrive, jump, back, leave, label_of, taking, branch_unless_zero, take_branch, has_result, arm, gives_one, after_effect, take_call, next_units, first, carry, advance, run}
use Rattle.interp.specs.Sequences.{IsIn}
use Rattle.semantics.proofs.Reach.{Exit, Falls, Branches, Returns, arrives}

-- ---- one step

-- a configuration in a sequence, without the entries round the sequence; or how the sequence is left, or fails
pub data Inner : Type 0 where
  Within : (values : List Value) (code : Code) (entries : List ControlEntry) (state : State) → Inner
  Leaves : (exit : Exit) (state : State) → Inner
  InTrap : (count : ℕ) → Inner
  InStuck : (count : ℕ) → Inner

-- the same with entries round it
abbrev pub around : Inner → List ControlEntry → Machine
around (Within vs is inner st) ls = Running vs is (inner ++ ls) st
around (Leaves e st) ls = arrives e code.end ls st
around (InTrap count) ls = Trapped count
around (InStuck count) ls = Stuck count

-- it is one, whatever lies round it
abbrev pub Alike : (List ControlEntry → Machine) → Type 0
Alike f = (o : Inner) × ((ls : List ControlEntry) → f ls ≡ around o ls)

alike_landed : (o : Option (List Value)) (is : Code) (inner : List ControlEntry) (st : State) → Alike (λ ls. landed o is (inner ++ ls) st)
alike_landed None is inner st = (InStuck st.count, λ ls. refl)
alike_landed (Some vs) is inner st = (Within vs is inner st, λ ls. refl)

alike_arrive : (top : Option Value) (e : ControlEntry) (inner : List ControlEntry) (st : State) → Alike (λ ls. arrive top (e ∷ (inner ++ ls)) st)
alike_arrive top (Label keeps vs t a) inner st = alike_landed (carry keeps top vs) t inner st
alike_arrive top (Frame keeps xs vs a) inner st = alike_landed (carry keeps top vs) a inner (with_locals st xs)

alike_jump : (l : ℕ) (top : Option Value) (inner : List ControlEntry) (st : State) → Alike (λ ls. jump l top (inner ++ ls) st)
alike_jump l top [] st = (Leaves (Branches l top) st, λ ls. refl)
alike_jump zero top (e ∷ inner) st = alike_arrive top e inner st
alike_jump (suc l) top (Label keeps vs t a ∷ inner) st = alike_jump l top inner st
alike_jump (suc l) top (Frame keeps xs vs a ∷ inner) st = (InStuck st.count, λ ls. refl)

alike_back : (top : Option Value) (inner : List ControlEntry) (st : State) → Alike (λ ls. back top (inner ++ ls) st)
alike_back top [] st = (Leaves (Returns top) st, λ ls. refl)
alike_back top (Label keeps vs t a ∷ inner) st = alike_back top inner st
alike_back top (Frame keeps xs vs a ∷ inner) st = alike_arrive top (Frame keeps xs vs a) inner st

alike_leave : (vs : List Value) (e : ControlEntry) (inner : List ControlEntry) (st : State) → Alike (λ ls. leave vs (e ∷ (inner ++ ls)) st)
alike_leave vs (Label keeps us t a) inner st = (Within (vs ++ us) a inner st, λ ls. refl)
alike_leave vs (Frame keeps xs us a) inner st = (Within (vs ++ us) a inner (with_locals st xs), λ ls. refl)

alike_effect : (e : Effect) (is : Code) (inner : List ControlEntry) (count : ℕ) → Alike (λ ls. after_effect e is (inner ++ ls) count)
alike_effect (Gives vs st) is inner count = (Within vs is inner st, λ ls. refl)
alike_effect Traps is inner count = (InTrap count, λ ls. refl)
alike_effect Misses is inner count = (InStuck count, λ ls. refl)

alike_with : (count : ℕ) (o : Option ℕ) (go : ℕ → List ControlEntry → Machine) → ((n : ℕ) → Alike (go n)) → Alike (λ ls. with_number (Stuck count) o (λ n. go n ls))
alike_with count None go h = (InStuck count, λ ls. refl)
alike_with count (Some n) go h = h n

alike_taking : (vs : List Value) (count : ℕ) (go : ℕ → List Value → List ControlEntry → Machine) → ((n : ℕ) (us : List Value) → Alike (go n us)) → Alike (λ ls. taking vs count (λ n us. go n us ls))
alike_taking [] count go h = (InStuck count, λ ls. refl)
alike_taking (v ∷ vs) count go h = alike_with count (number val_type.I32 v) (λ n. go n vs) (λ n. h n vs)

alike_unless : (n l : ℕ) (vs : List Value) (is : Code) (inner : List ControlEntry) (st : State) → Alike (λ ls. branch_unless_zero n l vs is (inner ++ ls) st)
alike_unless zero l vs is inner st = (Within vs is inner st, λ ls. refl)
alike_unless (suc n) l vs is inner st = alike_jump l (first vs) inner st

alike_branch : (b : Branch) (vs : List Value) (is : Code) (inner : List ControlEntry) (st : State) → Alike (λ ls. take_branch b vs is (inner ++ ls) st)
alike_branch (branch.Br l) vs is inner st = alike_jump l (first vs) inner st
alike_branch (branch.BrIf l) vs is inner st = alike_taking vs st.count (λ n us ls. branch_unless_zero n l us is (inner ++ ls) st) (λ n us. alike_unless n l us is inner st)
alike_branch (branch.BrTable labels other) vs is inner st = alike_taking vs st.count (λ n us ls. jump (label_of labels n other) (first us) (inner ++ ls) st) (λ n us. alike_jump (label_of labels n other) (first us) inner st)
alike_branch branch.Return vs is inner st = alike_back (first vs) inner st

alike_framed : (b : Bool) (is after : Code) (keeps : Bool) (xs us : List Value) (inner : List ControlEntry) (st : State) (count : ℕ) → Alike (λ ls. if b then Running [] is (Frame keeps xs us after ∷ (inner ++ ls)) st else Stuck count)
alike_framed true is after keeps xs us inner st count = (Within [] is (Frame keeps xs us after ∷ inner) st, λ ls. refl)
alike_framed false is after keeps xs us inner st count = (InStuck count, λ ls. refl)

alike_enter : (f : Function) (o : Option FuncType) (vs : List Value) (is : Code) (inner : List ControlEntry) (st : State) → Alike (λ ls. machine.enter f o vs is (inner ++ ls) st)
alike_enter f None vs is inner st = (InStuck st.count, λ ls. refl)
alike_enter f (Some t) vs is inner st =
    alike_framed (nat_le (length t.parameters) (length vs)) f.body is (gives_one t.results) st.locals (drop (length t.parameters) vs) inner (with_locals st (reverse (take (length t.parameters) vs) ++ map zero_of f.locals)) st.count

alike_call : (m : Module) (o : Option Callee) (vs : List Value) (is : Code) (inner : List ControlEntry) (st : State) → Alike (λ ls. take_call m o vs is (inner ++ ls) st)
alike_call m None vs is inner st = (InStuck st.count, λ ls. refl)
alike_call m (Some (machine.host c)) vs is inner st = alike_effect (machine.host_effect c vs st) is inner st.count
alike_call m (Some (defined f)) vs is inner st = alike_enter f (slice_get m.types f.type_number) vs is inner st

alike_arm : (n : ℕ) (body other after : Code) (keeps : Bool) (vs : List Value) (inner : List ControlEntry) (st : State) → Alike (λ ls. Running [] (arm n body other) (Label keeps vs after after ∷ (inner ++ ls)) st)
alike_arm n body other after keeps vs inner st =
    (Within [] (arm n body other) (Label keeps vs after after ∷ inner) st, λ ls. refl)

alike_step : (m : Module) (vs : List Value) (is : Code) (inner : List ControlEntry) (st : State) → (inner ≡ [] → is ≢ code.end) → Alike (λ ls. advance m (Running vs is (inner ++ ls) st))
alike_step m vs code.end [] st h = absurd (h refl refl)
alike_step m vs code.end (e ∷ inner) st h = alike_leave vs e inner st
alike_step m vs (code.plain p is) inner st h =
    let s = tick (next_units m (code.plain p is)) st in alike_effect (effect p vs s) is inner s.count
alike_step m vs (code.branch b is) inner st h = alike_branch b vs is inner (tick (next_units m (code.branch b is)) st)
alike_step m vs (code.call f is) inner st h = alike_call m (slice_get (functions_of m) f) vs is inner (tick (next_units m (code.call f is)) st)
alike_step m vs (code.call_indirect t is) inner st h = (InStuck (st.count + next_units m (code.call_indirect t is)), λ ls. refl)
alike_step m vs (code.unreachable is) inner st h = (InTrap (st.count + next_units m (code.unreachable is)), λ ls. refl)
alike_step m vs (code.block t body is) inner st h = (Within [] body (Label (has_result t) vs is is ∷ inner) (tick (next_units m (code.block t body is)) st), λ ls. refl)
alike_step m vs (code.loop t body is) inner st h = (Within [] body (Label false vs (code.loop t body is) is ∷ inner) (tick (next_units m (code.loop t body is)) st), λ ls. refl)
alike_step m vs (code.choice t body other is) inner st h =
    let s = tick (next_units m (code.choice t body other is)) st in
    alike_taking vs s.count (λ n us ls. Running [] (arm n body other) (Label (has_result t) us is is ∷ (inner ++ ls)) s) (λ n us. alike_arm n body other is (has_result t) us inner s)

-- ---- until it is left

-- the sequence is left, or fails
abbrev pub IsGone : Inner → Type 0
IsGone (Within vs is inner st) = ⊥
IsGone (Leaves e st) = Unit {0}
IsGone (InTrap count) = Unit {0}
IsGone (InStuck count) = Unit {0}

-- so it is after this many steps and no fewer, at most `most`, whatever lies round it
pub record Departs (m : Module) (vs : List Value) (is : Code) (inner : List ControlEntry) (st : State) (most : ℕ) : Type 0 where
  pub steps : ℕ
  pub early : steps ≤ most
  pub way : Inner
  pub gone : IsGone way
  pub there : (ls : List ControlEntry) → run m steps (Running vs is (inner ++ ls) st) ≡ around way ls
  pub inside : (ls : List ControlEntry) (n : ℕ) → n < steps → IsIn ls (run m n (Running vs is (inner ++ ls) st))

ends_here : (is : Code) (inner : List ControlEntry) → ((inner ≡ []) × (is ≡ code.end)) ⊎ (inner ≡ [] → is ≢ code.end)
ends_here is (e ∷ inner) = inr (λ (h : e ∷ inner ≡ []). absurd cc)
ends_here code.end [] = inl (refl, refl)
ends_here (code.plain p is) [] = inr (λ h (g : code.plain p is ≡ code.end). cc)
ends_here (code.branch b is) [] = inr (λ h (g : code.branch b is ≡ code.end). cc)
ends_here (code.call f is) [] = inr (λ h (g : code.call f is ≡ code.end). cc)
ends_here (code.call_indirect t is) [] = inr (λ h (g : code.call_indirect t is ≡ code.end). cc)
ends_here (code.unreachable is) [] = inr (λ h (g : code.unreachable is ≡ code.end). cc)
ends_here (code.block t body is) [] = inr (λ h (g : code.block t body is ≡ code.end). cc)
ends_here (code.loop t body is) [] = inr (λ h (g : code.loop t body is ≡ code.end). cc)
ends_here (code.choice t body other is) [] = inr (λ h (g : code.choice t body other is ≡ code.end). cc)

module _ (m : Module) where
  module _ (vs : List Value) (is : Code) (inner : List ControlEntry) (st : State) (here : inner ≡ [] → is ≢ code.end) where
    abbrev start : List ControlEntry → Machine
    start ls = Running vs is (inner ++ ls) st

    inside_one : (ls : List ControlEntry) (n : ℕ) → n < 1 → IsIn ls (run m n (start ls))
    inside_one ls zero less = (inner, refl, here)
    inside_one ls (suc n) less = absurd (omega (arith, less))

    one_step : (most : ℕ) (o : Inner) → IsGone o → ((ls : List ControlEntry) → advance m (start ls) ≡ around o ls) → Departs m vs is inner st (suc most)
    one_step most o gone next =
        record { steps = 1; early = omega arith; way = o; gone = gone; there = next; inside = inside_one }

    module _ (us : List Value) (js : Code) (outer : List ControlEntry) (t : State) (next : (ls : List ControlEntry) → advance m (start ls) ≡ Running us js (outer ++ ls) t) where
      inside_on : (steps : ℕ) → ((ls : List ControlEntry) (n : ℕ) → n < steps → IsIn ls (run m n (Running us js (outer ++ ls) t))) → (ls : List ControlEntry) (n : ℕ) → n < suc steps → IsIn ls (run m n (start ls))
      inside_on steps h ls zero less = (inner, refl, here)
      inside_on steps h ls (suc n) less =
          subst (λ (x : Machine). IsIn ls (run m n x)) (sym (next ls)) (h ls n (omega (arith, less)))

      and_on : (most : ℕ) → Departs m us js outer t most → Departs m vs is inner st (suc most)
      and_on most d =
          record { steps = suc d.steps; early = omega (arith, d.early); way = d.way; gone = d.gone; there = λ ls. ap (λ (x : Machine). run m d.steps x) (next ls) ∙ d.there ls; inside = inside_on d.steps d.inside }

    -- the rest, after the first step
    by_step : (most : ℕ) (ls : List ControlEntry) → (IsIn ls (run m (suc most) (start ls)) → ⊥) → (o : Inner) → ((ls : List ControlEntry) → advance m (start ls) ≡ around o ls) → ((us : List Value) (js : Code) (outer : List ControlEntry) (t : State) → (IsIn ls (run m most (Running us js (outer ++ ls) t)) → ⊥) → Departs m us js outer t most) → Departs m vs is inner st (suc most)
    by_step most ls out (Within us js outer t) next rest =
        and_on us js outer t next most (rest us js outer t (λ i. out (subst (λ (x : Machine). IsIn ls (run m most x)) (sym (next ls)) i)))
    by_step most ls out (Leaves e t) next rest = one_step most (Leaves e t) tt next
    by_step most ls out (InTrap count) next rest = one_step most (InTrap count) tt next
    by_step most ls out (InStuck count) next rest = one_step most (InStuck count) tt next

  at_end : (vs : List Value) (is : Code) (inner : List ControlEntry) (st : State) (most : ℕ) → inner ≡ [] → is ≡ code.end → Departs m vs is inner st most
  at_end vs is inner st most none ended = record {
    steps = 0;
    early = omega arith;
    way = Leaves (Falls vs) st;
    gone = tt;
    there = λ ls. ap (λ (c : Code). Running vs c (inner ++ ls) st) ended ∙ ap (λ (es : List ControlEntry). Running vs code.end (es ++ ls) st) none;
    inside = λ ls n less. absurd (omega (arith, less));
  }

  departs_by : (most : ℕ) (vs : List Value) (is : Code) (inner : List ControlEntry) (st : State) (ls : List ControlEntry) → (IsIn ls (run m most (Running vs is (inner ++ ls) st)) → ⊥) → ((inner ≡ []) × (is ≡ code.end)) ⊎ (inner ≡ [] → is ≢ code.end) → Departs m vs is inner st most
  departs_by most vs is inner st ls out (inl h) = at_end vs is inner st most h.0 h.1
  departs_by zero vs is inner st ls out (inr h) = absurd (out (inner, refl, h))
  departs_by (suc most) vs is inner st ls out (inr h) =
      let a = alike_step m vs is inner st h in
      by_step vs is inner st h most ls out a.0 a.1 (λ us js outer t gone. departs_by most us js outer t ls gone (ends_here js outer))

  -- where it is not in the sequence after this many steps, it was left or failed by then
  pub departs : (most : ℕ) (vs : List Value) (is : Code) (st : State) (ls : List ControlEntry) → (IsIn ls (run m most (Running vs is ls st)) → ⊥) → Departs m vs is [] st most
  departs most vs is st ls out = departs_by most vs is [] st ls out (ends_here is [])

-- ---- what is out of the sequence

abbrev Shorter : ℕ → Machine → Type 0
Shorter k (Running vs is ls st) = length ls < k
Shorter k (Done st) = Unit {0}
Shorter k (Trapped count) = Unit {0}
Shorter k (Stuck count) = Unit {0}

shorter_out : (ls : List ControlEntry) (x : Machine) → Shorter (length ls) x → IsIn ls x → ⊥
shorter_out ls (Running vs is es st) s i =
    let n = ap (λ (xs : List ControlEntry). length xs) i.1 in
    let a = length-append i.0 ls in
    omega (arith, s, n, a)
shorter_out ls (Done st) s i = i
shorter_out ls (Trapped count) s i = i
shorter_out ls (Stuck count) s i = i

shorter_landed : (k : ℕ) (o : Option (List Value)) (is : Code) (ls : List ControlEntry) (st : State) → length ls < k → Shorter k (landed o is ls st)
shorter_landed k None is ls st h = tt
shorter_landed k (Some vs) is ls st h = h

shorter_arrive : (k : ℕ) (top : Option Value) (ls : List ControlEntry) (st : State) → length ls ≤ k → Shorter k (arrive top ls st)
shorter_arrive k top [] st h = tt
shorter_arrive k top (Label keeps vs t a ∷ ls) st h = shorter_landed k (carry keeps top vs) t ls st (omega (arith, h))
shorter_arrive k top (Frame keeps xs vs a ∷ ls) st h =
    shorter_landed k (carry keeps top vs) a ls (with_locals st xs) (omega (arith, h))

shorter_jump : (k l : ℕ) (top : Option Value) (ls : List ControlEntry) (st : State) → length ls ≤ k → Shorter k (jump l top ls st)
shorter_jump k zero top ls st h = shorter_arrive k top ls st h
shorter_jump k (suc l) top [] st h = tt
shorter_jump k (suc l) top (Label keeps vs t a ∷ ls) st h = shorter_jump k l top ls st (omega (arith, h))
shorter_jump k (suc l) top (Frame keeps xs vs a ∷ ls) st h = tt

shorter_back : (k : ℕ) (top : Option Value) (ls : List ControlEntry) (st : State) → length ls ≤ k → Shorter k (back top ls st)
shorter_back k top [] st h = tt
shorter_back k top (Label keeps vs t a ∷ ls) st h = shorter_back k top ls st (omega (arith, h))
shorter_back k top (Frame keeps xs vs a ∷ ls) st h = shorter_arrive k top (Frame keeps xs vs a ∷ ls) st h

nothing_inner : (inner ls : List ControlEntry) → ls ≡ inner ++ ls → inner ≡ []
nothing_inner [] ls h = refl
nothing_inner (e ∷ inner) ls h =
    let n : length ls ≡ suc (length (inner ++ ls)) = ap (λ (xs : List ControlEntry). length xs) h in
    let a = length-append inner ls in
    absurd (omega (arith, n, a))

-- an exit is out of the sequence
pub exit_out : (e : Exit) (ls : List ControlEntry) (st : State) → IsIn ls (arrives e code.end ls st) → ⊥
exit_out (Falls vs) ls st i = i.2 (nothing_inner i.0 ls i.1) refl
exit_out (Branches l top) ls st i = shorter_out ls (jump l top ls st) (shorter_jump (length ls) l top ls st (omega arith)) i
exit_out (Returns top) ls st i = shorter_out ls (back top ls st) (shorter_back (length ls) top ls st (omega arith)) i
