-- How a sequence is left is seen where entries round it lead to code of their own. So what typing says of some exit
-- of each run holds of the first exit of all runs.
use Rattle.std.proofs.Common.{◌≡◌, ◌≢◌, ℕ, zero, suc, ◌+◌, ◌-◌, ◌*◌, ◌<◌, ◌≤◌, ◌⊎◌, inl, inr, List, [], ◌∷◌, false, Option, Some, None, slice_get, refl, sym, ap, ◌∙◌, subst, arith}
use Rattle.std.proofs.lemmas.Bool.{cases_lt}
use Rattle.wasm_ast.specs.declared.types.ValType.{ValType}
use Rattle.wasm_ast.specs.declared.types.Value.{Value}
use Rattle.wasm_ast.specs.declared.module.Module.{Module}
use Rattle.wasm_ast.specs.Code.{Code}
use Rattle.wasm_ast.specs.Code as code
use Rattle.wasm_ast.specs.Values.{type_of}
use Rattle.verified.specs.Kinds.{Kind}
use Rattle.semantics.specs.Configuration.{State, with_locals}
use Rattle.semantics.specs.Machine.{Machine, Running, Done, Trapped, Stuck, ControlEntry, Label, Frame, landed, jump, back, has_result, carry, advance, run}
use Rattle.interp.specs.Sequences.{CountsWithin, IsIn, IsLeft}
use Rattle.semantics.specs.Typed.{HasKinds, IsTop, Sound, items_left}
use Rattle.semantics.proofs.Plains.{context}
use Rattle.semantics.proofs.Reach.{Exit, Falls, Branches, Returns, Fits, arrives}
use Rattle.semantics.proofs.RunLaws.{run-add, stays}
use Rattle.interp.proofs.Surrounded.{Departs, Inner, IsGone, InStuck, InTrap, Leaves, Within, around, departs, exit_out}
use Rattle.semantics.proofs.Values.{none_some, some_is}

-- ---- entries that show how a sequence is left

abbrev dead : Code
dead = code.unreachable code.end

-- labels that none in scope names
abbrev spare : ℕ → List ControlEntry → List ControlEntry
spare zero ls = ls
spare (suc k) ls = Label false [] dead dead ∷ spare k ls

-- labels of these results, each of which leads to code of its own, and entries round them
abbrev labelled : ℕ → List (Option ValType) → List ControlEntry → List ControlEntry
labelled n [] ls = ls
labelled n (t ∷ ts) ls = Label (has_result t) [] (code.call_indirect n code.end) dead ∷ labelled (suc n) ts ls

-- how a configuration shows that a sequence was left, with which operands and in which state
data Shown : Type 0 where
  Fell : (values : List Value) (state : State) → Shown
  Went : (label : ℕ) (values : List Value) (state : State) → Shown
  Came : (values : List Value) (state : State) → Shown
  Nothing : Shown

abbrev shows : Machine → Shown
shows (Running vs code.end ls st) = Fell vs st
shows (Running vs (code.call_indirect l is) ls st) = Went l vs st
shows (Running vs (code.unreachable (code.unreachable is)) ls st) = Came vs st
shows _ = Nothing

-- it shows nothing, and will show nothing
abbrev Lost : Machine → Type 0
Lost (Running vs (code.unreachable code.end) ls st) = Unit {0}
Lost (Trapped count) = Unit {0}
Lost (Stuck count) = Unit {0}
Lost _ = ⊥

lost_shows : (x : Machine) → Lost x → shows x ≡ Nothing
lost_shows (Running vs (code.unreachable code.end) ls st) h = refl
lost_shows (Trapped count) h = refl
lost_shows (Stuck count) h = refl
lost_shows _ h = absurd h

module _ (m : Module) where
  lost_on : (x : Machine) → Lost x → Lost (advance m x)
  lost_on (Running vs (code.unreachable code.end) ls st) h = tt
  lost_on (Trapped count) h = tt
  lost_on (Stuck count) h = tt
  lost_on _ h = absurd h

  lost_run : (n : ℕ) (x : Machine) → Lost x → Lost (run m n x)
  lost_run zero x h = h
  lost_run (suc n) x h = lost_run n (advance m x) (lost_on x h)

  -- what is shown in the end was shown at once, where the next step loses it
  at_once : (n : ℕ) (x y : Machine) → run m n x ≡ y → Lost (advance m x) → shows y ≢ Nothing → x ≡ y
  at_once zero x y e lost seen = e
  at_once (suc n) x y e lost seen =
      absurd (seen (lost_shows y (subst (λ (z : Machine). Lost z) e (lost_run n (advance m x) lost))))

  -- what is lost at once shows nothing in the end
  never : (n : ℕ) (x y : Machine) → run m n x ≡ y → Lost x → shows y ≢ Nothing → ⊥
  never n x y e lost seen = seen (lost_shows y (subst (λ (z : Machine). Lost z) e (lost_run n x lost)))

-- ---- branches and returns to them

abbrev went : ℕ → Option (List Value) → State → Shown
went l None st = Nothing
went l (Some vs) st = Went l vs st

abbrev came : Option (List Value) → State → Shown
came None st = Nothing
came (Some vs) st = Came vs st

landed_went : (l : ℕ) (o : Option (List Value)) (ls : List ControlEntry) (st : State) → shows (landed o (code.call_indirect l code.end) ls st) ≡ went l o st
landed_went l None ls st = refl
landed_went l (Some vs) ls st = refl

jump_in : (l n : ℕ) (ts : List (Option ValType)) (ls : List ControlEntry) (t : Option ValType) (top : Option Value) (st : State) → slice_get ts l ≡ Some t → shows (jump l top (labelled n ts ls) st) ≡ went (n + l) (carry (has_result t) top []) st
jump_in l n [] ls t top st e = absurd (none_some t e)
jump_in zero n (u ∷ ts) ls t top st e =
    let same : u ≡ t = some_is u t e in
    let number : n ≡ n + 0 = omega arith in
    landed_went n (carry (has_result u) top []) (labelled (suc n) ts ls) st ∙ ap (λ (u : Option ValType). went n (carry (has_result u) top []) st) same ∙ ap (λ (k : ℕ). went k (carry (has_result t) top []) st) number
jump_in (suc l) n (u ∷ ts) ls t top st e =
    let number : suc n + l ≡ n + suc l = omega arith in
    jump_in l (suc n) ts ls t top st e ∙ ap (λ (k : ℕ). went k (carry (has_result t) top []) st) number

module _ (m : Module) where
  landed_lost : (l : ℕ) (o : Option (List Value)) (ls : List ControlEntry) (st : State) → Lost (advance m (landed o (code.call_indirect l code.end) ls st))
  landed_lost l None ls st = tt
  landed_lost l (Some vs) ls st = tt

  jump_lost : (l n : ℕ) (ts : List (Option ValType)) (ls : List ControlEntry) (t : Option ValType) (top : Option Value) (st : State) → slice_get ts l ≡ Some t → Lost (advance m (jump l top (labelled n ts ls) st))
  jump_lost l n [] ls t top st e = absurd (none_some t e)
  jump_lost zero n (u ∷ ts) ls t top st e = landed_lost n (carry (has_result u) top []) (labelled (suc n) ts ls) st
  jump_lost (suc l) n (u ∷ ts) ls t top st e = jump_lost l (suc n) ts ls t top st e

spare_lost : (l k : ℕ) (ls : List ControlEntry) (top : Option Value) (st : State) → l < k → Lost (jump l top (spare k ls) st)
spare_lost l zero ls top st h = absurd (omega (arith, h))
spare_lost zero (suc k) ls top st h = tt
spare_lost (suc l) (suc k) ls top st h = spare_lost l k ls top st (omega (arith, h))

-- a branch to a label out of scope
jump_out : (l n k : ℕ) (ts : List (Option ValType)) (ls : List ControlEntry) (top : Option Value) (st : State) → slice_get ts l ≡ None → l < k → Lost (jump l top (labelled n ts (spare k ls)) st)
jump_out l n k [] ls top st e h = spare_lost l k ls top st h
jump_out zero n k (u ∷ ts) ls top st e h = absurd (none_some u (sym e))
jump_out (suc l) n k (u ∷ ts) ls top st e h = jump_out l (suc n) k ts ls top st e (omega (arith, h))

spare_back : (k : ℕ) (ls : List ControlEntry) (top : Option Value) (st : State) → back top (spare k ls) st ≡ back top ls st
spare_back zero ls top st = refl
spare_back (suc k) ls top st = spare_back k ls top st

labelled_back : (n : ℕ) (ts : List (Option ValType)) (ls : List ControlEntry) (top : Option Value) (st : State) → back top (labelled n ts ls) st ≡ back top ls st
labelled_back n [] ls top st = refl
labelled_back n (t ∷ ts) ls top st = labelled_back (suc n) ts ls top st

-- ---- operands that are carried

abbrev kept : Option ValType → Option Value → List Value
kept None top = []
kept (Some t) None = []
kept (Some t) (Some v) = v ∷ []

carry_kept : (t : Option ValType) (top : Option Value) → IsTop t top → carry (has_result t) top [] ≡ Some (kept t top)
carry_kept None top h = refl
carry_kept (Some t) None h = absurd h
carry_kept (Some t) (Some v) h = refl

-- what carries the same is of the same type
same_top : (t : Option ValType) (top other : Option Value) → carry (has_result t) top [] ≡ Some (kept t other) → IsTop t other → IsTop t top
same_top None top other e h = tt
same_top (Some t) None other e h = absurd (none_some (kept (Some t) other) e)
same_top (Some t) (Some v) None e h = absurd h
same_top (Some t) (Some v) (Some w) e h =
    let same : v ∷ [] ≡ w ∷ [] = some_is (v ∷ []) (w ∷ []) e in
    let first : v ≡ w = cc in
    ap (λ (x : Value). type_of x) first ∙ h

-- ---- what typing says of some exit

pub record Told (m : Module) (locals : List ValType) (outcome : Option ValType) (labels : List (Option ValType)) (to : List Kind) (size : ℕ) (is : Code) (vs : List Value) (st : State) (ls : List ControlEntry) : Type 0 where
  pub exit : Exit
  pub steps : ℕ
  pub final : State
  pub there : run m steps (Running vs is ls st) ≡ arrives exit code.end ls final
  pub fits : Fits (context m locals outcome labels) to exit
  pub sound : Sound m locals final
  pub items : ℕ
  pub taken : items_left st.host ≡ items + items_left final.host
  pub within : final.count ≤ st.count + size * (1 + items)

module _ (m : Module) (locals : List ValType) (outcome : Option ValType) (labels : List (Option ValType)) (to : List Kind) (size : ℕ) (is : Code) (vs : List Value) (st : State) (told : (ls : List ControlEntry) → Told m locals outcome labels to size is vs st ls) where
  -- the frame of the function, from which a return leads to code of its own
  abbrev framed : List ControlEntry
  framed = Frame (has_result outcome) [] [] (code.unreachable dead) ∷ []

  -- entries with this many labels more than are in scope, and one more
  abbrev guards : ℕ → List ControlEntry → List ControlEntry
  guards k ls = labelled 0 labels (spare (suc k) ls)

  gone_at : (ls : List ControlEntry) → IsIn ls (run m (told ls).steps (Running vs is ls st)) → ⊥
  gone_at ls i =
      let t = told ls in
      exit_out t.exit ls t.final (subst (λ (x : Machine). IsIn ls x) t.there i)

  first_exit : Departs m vs is [] st (told []).steps
  first_exit = departs m (told []).steps vs is st [] (gone_at [])

  abbrev d : Departs m vs is [] st (told []).steps
  d = first_exit

  -- the exit that is told is no earlier
  late : (ls : List ControlEntry) → d.steps ≤ (told ls).steps
  late ls = later (cases_lt (told ls).steps d.steps)
    where
      later : ((told ls).steps < d.steps) ⊎ (d.steps ≤ (told ls).steps) → d.steps ≤ (told ls).steps
      later (inl h) = absurd (gone_at ls (d.inside ls (told ls).steps h))
      later (inr h) = h

  from_first : (ls : List ControlEntry) → run m ((told ls).steps - d.steps) (around d.way ls) ≡ arrives (told ls).exit code.end ls (told ls).final
  from_first ls =
      let t = told ls in
      let x = Running vs is ls st in
      let sum : d.steps + (t.steps - d.steps) ≡ t.steps = omega (arith, late ls) in
      ap (run m (t.steps - d.steps)) (sym (d.there ls)) ∙ sym (run-add m d.steps (t.steps - d.steps) x) ∙ ap (λ (n : ℕ). run m n x) sum ∙ t.there

  -- ---- what the exit that is told shows

  shown_branch : (k : ℕ) (ls : List ControlEntry) (l : ℕ) (top : Option Value) (t : Option ValType) (f : State) → slice_get labels l ≡ Some t → IsTop t top → shows (jump l top (guards k ls) f) ≡ Went l (kept t top) f
  shown_branch k ls l top t f scope typed =
      let number : 0 + l ≡ l = omega arith in
      jump_in l 0 labels (spare (suc k) ls) t top f scope ∙ ap (λ (o : Option (List Value)). went (0 + l) o f) (carry_kept t top typed) ∙ ap (λ (n : ℕ). Went n (kept t top) f) number

  back_guards : (k : ℕ) (ls : List ControlEntry) (top : Option Value) (f : State) → back top (guards k ls) f ≡ back top ls f
  back_guards k ls top f = labelled_back 0 labels (spare (suc k) ls) top f ∙ spare_back (suc k) ls top f

  landed_came : (o : Option (List Value)) (f : State) → shows (landed o (code.unreachable dead) [] f) ≡ came o f
  landed_came None f = refl
  landed_came (Some us) f = refl

  back_came : (k : ℕ) (top : Option Value) (f : State) → shows (back top (guards k framed) f) ≡ came (carry (has_result outcome) top []) (with_locals f [])
  back_came k top f =
      ap (λ (x : Machine). shows x) (back_guards k framed top f) ∙ landed_came (carry (has_result outcome) top []) (with_locals f [])

  shown_return : (k : ℕ) (top : Option Value) (f : State) → IsTop outcome top → shows (back top (guards k framed) f) ≡ Came (kept outcome top) (with_locals f [])
  shown_return k top f typed =
      back_came k top f ∙ ap (λ (o : Option (List Value)). came o (with_locals f [])) (carry_kept outcome top typed)

  something : (k : ℕ) (e : Exit) (f : State) → Fits (context m locals outcome labels) to e → shows (arrives e code.end (guards k framed) f) ≢ Nothing
  something k (Falls us) f fits e = let other : Fell us f ≡ Nothing = e in cc
  something k (Branches l top) f fits e =
      let other : Went l (kept fits.0 top) f ≡ Nothing = sym (shown_branch k framed l top fits.0 f fits.1 fits.2) ∙ e in cc
  something k (Returns top) f fits e =
      let other : Came (kept outcome top) (with_locals f []) ≡ Nothing = sym (shown_return k top f fits) ∙ e in cc

  -- ---- what is known of the first exit

  pub record Exits (o : Inner) : Type 0 where
    pub final : State
    pub left : (ls : List ControlEntry) → IsLeft outcome labels to (around o ls) ls final
    pub sound : Sound m locals final
    pub items : ℕ
    pub taken : items_left st.host ≡ items + items_left final.host
    pub within : final.count ≤ st.count + size * (1 + items)

  exits_by : (o : Inner) (f : State) (ls : List ControlEntry) → f ≡ (told ls).final → ((ls : List ControlEntry) → IsLeft outcome labels to (around o ls) ls f) → Exits o
  exits_by o f ls same left =
      let t = told ls in
      record {
        final = f;
        left = left;
        sound = subst (λ (g : State). Sound m locals g) (sym same) t.sound;
        items = t.items;
        taken = subst (λ (g : State). items_left st.host ≡ t.items + items_left g.host) (sym same) t.taken;
        within = subst (λ (g : State). g.count ≤ st.count + size * (1 + t.items)) (sym same) t.within;
      }

  -- the exit that is told comes from this one
  abbrev Comes : Inner → Type 0
  Comes o = (ls : List ControlEntry) → run m ((told ls).steps - d.steps) (around o ls) ≡ arrives (told ls).exit code.end ls (told ls).final

  something_told : (k : ℕ) → shows (arrives (told (guards k framed)).exit code.end (guards k framed) (told (guards k framed)).final) ≢ Nothing
  something_told k =
      something k (told (guards k framed)).exit (told (guards k framed)).final (told (guards k framed)).fits

  lost_never : (k : ℕ) (o : Inner) → Comes o → Lost (around o (guards k framed)) → ⊥
  lost_never k o comes lost =
      never m ((told (guards k framed)).steps - d.steps) (around o (guards k framed)) (arrives (told (guards k framed)).exit code.end (guards k framed) (told (guards k framed)).final) (comes (guards k framed)) lost (something_told k)

  told_here : (k : ℕ) (o : Inner) → Comes o → Lost (advance m (around o (guards k framed))) → around o (guards k framed) ≡ arrives (told (guards k framed)).exit code.end (guards k framed) (told (guards k framed)).final
  told_here k o comes lost =
      at_once m ((told (guards k framed)).steps - d.steps) (around o (guards k framed)) (arrives (told (guards k framed)).exit code.end (guards k framed) (told (guards k framed)).final) (comes (guards k framed)) lost (something_told k)

  -- ---- at its end

  fell_lost : (us : List Value) (n : ℕ) (ts : List (Option ValType)) (k : ℕ) (ls : List ControlEntry) (f : State) → Lost (advance m (Running us code.end (labelled n ts (spare (suc k) ls)) f))
  fell_lost us n [] k ls f = tt
  fell_lost us n (t ∷ ts) k ls f = tt

  fell : (k : ℕ) (us : List Value) (f : State) (e : Exit) (g : State) → Fits (context m locals outcome labels) to e → Running us code.end (guards k framed) f ≡ arrives e code.end (guards k framed) g → HasKinds us to × (f ≡ g)
  fell k us f (Falls ws) g fits e =
      let shown : Fell us f ≡ Fell ws g = ap (λ (x : Machine). shows x) e in
      let values : us ≡ ws = cc in
      let state : f ≡ g = cc in
      (subst (λ (xs : List Value). HasKinds xs to) (sym values) fits, state)
  fell k us f (Branches l top) g fits e =
      let shown : Fell us f ≡ Went l (kept fits.0 top) g = ap (λ (x : Machine). shows x) e ∙ shown_branch k framed l top fits.0 g fits.1 fits.2 in absurd cc
  fell k us f (Returns top) g fits e =
      let shown : Fell us f ≡ Came (kept outcome top) (with_locals g []) = ap (λ (x : Machine). shows x) e ∙ shown_return k top g fits in absurd cc

  falls_exits : (us : List Value) (f : State) → Comes (Leaves (Falls us) f) → Exits (Leaves (Falls us) f)
  falls_exits us f comes =
      let t = told (guards 0 framed) in
      let e = told_here 0 (Leaves (Falls us) f) comes (fell_lost us 0 labels 0 framed f) in
      let known = fell 0 us f t.exit t.final t.fits e in
      exits_by (Leaves (Falls us) f) f (guards 0 framed) known.1 (λ ls. inl (us, known.0, refl))

  -- ---- by a branch

  went_fell : (l : ℕ) (o : Option (List Value)) (f : State) (us : List Value) (g : State) → went l o f ≡ Fell us g → ⊥
  went_fell l None f us g e = cc
  went_fell l (Some vs) f us g e = cc

  went_came : (l : ℕ) (o : Option (List Value)) (f : State) (us : List Value) (g : State) → went l o f ≡ Came us g → ⊥
  went_came l None f us g e = cc
  went_came l (Some vs) f us g e = cc

  went_is : (l : ℕ) (o : Option (List Value)) (f : State) (k : ℕ) (us : List Value) (g : State) → went l o f ≡ Went k us g → (l ≡ k) × (o ≡ Some us) × (f ≡ g)
  went_is l None f k us g e = absurd cc
  went_is l (Some vs) f k us g e =
      let h : Went l vs f ≡ Went k us g = e in
      let number : l ≡ k = cc in
      let values : vs ≡ us = cc in
      let state : f ≡ g = cc in
      (number, ap (λ (xs : List Value). Some xs) values, state)

  gone_to : (k l : ℕ) (top : Option Value) (t : Option ValType) (f : State) → slice_get labels l ≡ Some t → (e : Exit) (g : State) → Fits (context m locals outcome labels) to e → jump l top (guards k framed) f ≡ arrives e code.end (guards k framed) g → IsTop t top × (f ≡ g)
  gone_to k l top t f scope (Falls us) g fits e =
      absurd (went_fell (0 + l) (carry (has_result t) top []) f us g (sym (jump_in l 0 labels (spare (suc k) framed) t top f scope) ∙ ap (λ (x : Machine). shows x) e))
  gone_to k l top t f scope (Branches j other) g fits e =
      let h = went_is (0 + l) (carry (has_result t) top []) f j (kept fits.0 other) g (sym (jump_in l 0 labels (spare (suc k) framed) t top f scope) ∙ ap (λ (x : Machine). shows x) e ∙ shown_branch k framed j other fits.0 g fits.1 fits.2) in
      let number : j ≡ l = omega (arith, h.0) in
      let same : fits.0 ≡ t = some_is fits.0 t (sym fits.1 ∙ ap (λ (n : ℕ). slice_get labels n) number ∙ scope) in
      let carried : carry (has_result t) top [] ≡ Some (kept t other) = h.1 ∙ ap (λ (u : Option ValType). Some (kept u other)) same in
      (same_top t top other carried (subst (λ (u : Option ValType). IsTop u other) same fits.2), h.2)
  gone_to k l top t f scope (Returns other) g fits e =
      absurd (went_came (0 + l) (carry (has_result t) top []) f (kept outcome other) (with_locals g []) (sym (jump_in l 0 labels (spare (suc k) framed) t top f scope) ∙ ap (λ (x : Machine). shows x) e ∙ shown_return k other g fits))

  branch_exits : (l : ℕ) (top : Option Value) (f : State) → Comes (Leaves (Branches l top) f) → (o : Option (Option ValType)) → slice_get labels l ≡ o → Exits (Leaves (Branches l top) f)
  branch_exits l top f comes None scope =
      absurd (lost_never l (Leaves (Branches l top) f) comes (jump_out l 0 (suc l) labels framed top f scope (omega arith)))
  branch_exits l top f comes (Some t) scope =
      let u = told (guards l framed) in
      let e = told_here l (Leaves (Branches l top) f) comes (jump_lost m l 0 labels (spare (suc l) framed) t top f scope) in
      let known = gone_to l l top t f scope u.exit u.final u.fits e in
      exits_by (Leaves (Branches l top) f) f (guards l framed) known.1 (λ ls. inr (inl (l, t, scope, top, known.0, refl)))

  -- ---- by a return

  came_fell : (o : Option (List Value)) (f : State) (us : List Value) (g : State) → came o f ≡ Fell us g → ⊥
  came_fell None f us g e = cc
  came_fell (Some vs) f us g e = cc

  came_went : (o : Option (List Value)) (f : State) (l : ℕ) (us : List Value) (g : State) → came o f ≡ Went l us g → ⊥
  came_went None f l us g e = cc
  came_went (Some vs) f l us g e = cc

  came_is : (o : Option (List Value)) (f : State) (us : List Value) (g : State) → came o f ≡ Came us g → o ≡ Some us
  came_is None f us g e = absurd cc
  came_is (Some vs) f us g e =
      let h : Came vs f ≡ Came us g = e in
      let values : vs ≡ us = cc in
      ap (λ (xs : List Value). Some xs) values

  frame_lost : (o : Option (List Value)) (f : State) → Lost (advance m (landed o (code.unreachable dead) [] f))
  frame_lost None f = tt
  frame_lost (Some us) f = tt

  returned : (k : ℕ) (top : Option Value) (f : State) (e : Exit) (g : State) → Fits (context m locals outcome labels) to e → back top (guards k framed) f ≡ arrives e code.end (guards k framed) g → IsTop outcome top
  returned k top f (Falls us) g fits e =
      absurd (came_fell (carry (has_result outcome) top []) (with_locals f []) us g (sym (back_came k top f) ∙ ap (λ (x : Machine). shows x) e))
  returned k top f (Branches l other) g fits e =
      absurd (came_went (carry (has_result outcome) top []) (with_locals f []) l (kept fits.0 other) g (sym (back_came k top f) ∙ ap (λ (x : Machine). shows x) e ∙ shown_branch k framed l other fits.0 g fits.1 fits.2))
  returned k top f (Returns other) g fits e =
      same_top outcome top other (came_is (carry (has_result outcome) top []) (with_locals f []) (kept outcome other) (with_locals g []) (sym (back_came k top f) ∙ ap (λ (x : Machine). shows x) e ∙ shown_return k other g fits)) fits

  -- with no frame round it the state is that of the end
  done_at : (k : ℕ) (f : State) (e : Exit) (g : State) → Fits (context m locals outcome labels) to e → Done f ≡ arrives e code.end (guards k []) g → f ≡ g
  done_at k f (Falls us) g fits e = let h : Done f ≡ Running us code.end (guards k []) g = e in absurd cc
  done_at k f (Branches l top) g fits e =
      let h : Nothing ≡ Went l (kept fits.0 top) g = ap (λ (x : Machine). shows x) e ∙ shown_branch k [] l top fits.0 g fits.1 fits.2 in absurd cc
  done_at k f (Returns top) g fits e = let h : Done f ≡ Done g = e ∙ back_guards k [] top g in cc

  return_exits : (top : Option Value) (f : State) → Comes (Leaves (Returns top) f) → Exits (Leaves (Returns top) f)
  return_exits top f comes =
      let t = told (guards 0 framed) in
      let lost : Lost (advance m (back top (guards 0 framed) f)) = subst (λ (x : Machine). Lost (advance m x)) (sym (back_guards 0 framed top f)) (frame_lost (carry (has_result outcome) top []) (with_locals f [])) in
      let typed = returned 0 top f t.exit t.final t.fits (told_here 0 (Leaves (Returns top) f) comes lost) in
      let u = told (guards 0 []) in
      let done : run m (u.steps - d.steps) (Done f) ≡ arrives u.exit code.end (guards 0 []) u.final = sym (ap (run m (u.steps - d.steps)) (back_guards 0 [] top f)) ∙ comes (guards 0 []) in
      let same = done_at 0 f u.exit u.final u.fits (sym (stays m 0 (u.steps - d.steps) (Done f) tt (omega arith)) ∙ done) in
      exits_by (Leaves (Returns top) f) f (guards 0 []) same (λ ls. inr (inr (top, typed, refl)))

  -- ---- all of it

  exits : (o : Inner) → IsGone o → Comes o → Exits o
  exits (Within us js inner f) gone comes = absurd gone
  exits (Leaves (Falls us) f) gone comes = falls_exits us f comes
  exits (Leaves (Branches l top) f) gone comes = branch_exits l top f comes (slice_get labels l) refl
  exits (Leaves (Returns top) f) gone comes = return_exits top f comes
  exits (InTrap count) gone comes = absurd (lost_never 0 (InTrap count) comes tt)
  exits (InStuck count) gone comes = absurd (lost_never 0 (InStuck count) comes tt)

  -- it holds of the first exit of each run
  pub counts : (ls : List ControlEntry) → CountsWithin m locals outcome labels to size is vs ls st
  counts ls =
      let x = exits d.way d.gone from_first in
      record {
        steps = d.steps;
        final = x.final;
        items = x.items;
        inside = d.inside ls;
        left = subst (λ (y : Machine). IsLeft outcome labels to y ls x.final) (sym (d.there ls)) (x.left ls);
        sound = x.sound;
        taken = x.taken;
        within = x.within;
      }
