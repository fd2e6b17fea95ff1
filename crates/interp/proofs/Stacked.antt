-- The control entries, as one is popped or pushed.
use Rattle.std.proofs.Common.{◌≡◌, ℕ, suc, Option, ◌+◌, ◌-◌, ◌<◌, ◌≤◌, List, [], ◌∷◌, Bool, true, length, take, drop, refl, sym, ap, ◌∙◌, subst, arith, length-drop}
use Rattle.std.proofs.lemmas.List.{length-reverse, length-take-le}
use Rattle.std.proofs.lemmas.Bool.{false≢true}
use Rattle.std.specs.Borrow.{Bor}
use Rattle.std.specs.Prelude.{reverse}
use Rattle.wasm_ast.specs.declared.types.Value.{Value}
use Rattle.verified.specs.declared.body.FlatInstr.{FlatInstr}
use Rattle.wasm_ast.specs.Code.{Code}
use Rattle.verified.specs.View.{code_of}
use Rattle.semantics.specs.Configuration.{State}
use Rattle.semantics.specs.Heights.{beneath, held}
use Rattle.semantics.specs.Machine as machine
use Rattle.interp.specs.inside.Going.{has_labels}
use Rattle.interp.specs.inside.Meaning.{entries_of, Ordered, keeps_of, target_of}
use Rattle.interp.specs.inside.Place.{HasEntryRoom, Standing}
use Rattle.interp.specs.inside.Split.{HasSpare, Split}
use Rattle.interp.specs.declared.control_entry.ControlEntry.{ControlEntry}
use Rattle.interp.specs.declared.control_entry.ControlEntry.TheVariants as control
use Rattle.interp.specs.declared.control_entry.Form.{Form}

left_of : (f : ℕ) (vs : List Value) → f ≤ length vs → length (drop (length vs - f) vs) ≡ f
left_of f vs h = omega (arith, length-drop (length vs - f) vs)

-- a label is taken off
pub record LabelOff (rs' : List ControlEntry) (vs vs' ls : List Value) (f : ℕ) (w : Form) (a : Bor (List FlatInstr)) (rs : List ControlEntry) : Type 0 where
  pub floor : f ≤ length vs
  pub ordered : Ordered rs' (length vs') (length ls)
  pub entries : entries_of rs vs ls ≡ machine.Label (keeps_of w) (take (length vs - f) vs) (target_of w (code_of a.now)) (code_of a.now) ∷ entries_of rs' vs' ls

pub label_floor : (rs rs' : List ControlEntry) (vs ls : List Value) (f : ℕ) (w : Form) (a : Bor (List FlatInstr)) → rs ≡ control.Label w f a ∷ rs' → Ordered rs (length vs) (length ls) → f ≤ length vs
label_floor rs rs' vs ls f w a e o = (subst (λ (r : List ControlEntry). Ordered r (length vs) (length ls)) e o).0

pub label_off : (rs rs' : List ControlEntry) (vs vs' ls : List Value) (f : ℕ) (w : Form) (a : Bor (List FlatInstr)) → rs ≡ control.Label w f a ∷ rs' → Ordered rs (length vs) (length ls) → vs' ≡ drop (length vs - f) vs → LabelOff rs' vs vs' ls f w a rs
label_off rs rs' vs vs' ls f w a e o d =
    let here : (f ≤ length vs) × Ordered rs' f (length ls) = subst (λ (r : List ControlEntry). Ordered r (length vs) (length ls)) e o in
    let n : f ≡ length vs' = sym (ap (λ (l : List Value). length l) d ∙ left_of f vs here.0) in
    record {
      floor = here.0;
      ordered = subst (λ (k : ℕ). Ordered rs' k (length ls)) n here.1;
      entries = ap (λ (r : List ControlEntry). entries_of r vs ls) e ∙ ap (λ (l : List Value). machine.Label (keeps_of w) (take (length vs - f) vs) (target_of w (code_of a.now)) (code_of a.now) ∷ entries_of rs' l ls) (sym d);
    }

-- a frame is taken off
pub record FrameOff (rs' : List ControlEntry) (vs vs' ls ls' : List Value) (f b : ℕ) (keeps : Bool) (a : Bor (List FlatInstr)) (rs : List ControlEntry) : Type 0 where
  pub floor : f ≤ length vs
  pub base : b ≤ length ls
  pub ordered : Ordered rs' (length vs') (length ls')
  pub entries : entries_of rs vs ls ≡ machine.Frame keeps (drop b ls) (take (length vs - f) vs) (code_of a.now) ∷ entries_of rs' vs' ls'

pub frame_floors : (rs rs' : List ControlEntry) (vs ls : List Value) (f b : ℕ) (keeps : Bool) (a : Bor (List FlatInstr)) → rs ≡ control.Frame keeps f b a ∷ rs' → Ordered rs (length vs) (length ls) → (f ≤ length vs) × (b ≤ length ls) × Ordered rs' f b
frame_floors rs rs' vs ls f b keeps a e o = subst (λ (r : List ControlEntry). Ordered r (length vs) (length ls)) e o

pub frame_off : (rs rs' : List ControlEntry) (vs vs' ls ls' : List Value) (f b : ℕ) (keeps : Bool) (a : Bor (List FlatInstr)) → rs ≡ control.Frame keeps f b a ∷ rs' → Ordered rs (length vs) (length ls) → vs' ≡ drop (length vs - f) vs → ls' ≡ take b ls → FrameOff rs' vs vs' ls ls' f b keeps a rs
frame_off rs rs' vs vs' ls ls' f b keeps a e o d g =
    let here = frame_floors rs rs' vs ls f b keeps a e o in
    let n : f ≡ length vs' = sym (ap (λ (l : List Value). length l) d ∙ left_of f vs here.0) in
    let m : b ≡ length ls' = sym (ap (λ (l : List Value). length l) g ∙ length-take-le b ls here.1) in
    record {
      floor = here.0;
      base = here.1;
      ordered = subst (λ (k : ℕ). Ordered rs' (length vs') k) m (subst (λ (k : ℕ). Ordered rs' k b) n here.2);
      entries = ap (λ (r : List ControlEntry). entries_of r vs ls) e ∙ ap (λ (l : List Value). machine.Frame keeps (drop b ls) (take (length vs - f) vs) (code_of a.now) ∷ entries_of rs' l (take b ls)) (sym d) ∙ ap (λ (l : List Value). machine.Frame keeps (drop b ls) (take (length vs - f) vs) (code_of a.now) ∷ entries_of rs' vs' l) (sym g);
    }

-- a branch goes past a label
pub jump_label : (n k : ℕ) (top : Option Value) (st : State) (ls ms : List machine.ControlEntry) (keeps : Bool) (vs : List Value) (t a : Code) → n ≡ suc k → ls ≡ machine.Label keeps vs t a ∷ ms → machine.jump n top ls st ≡ machine.jump k top ms st
jump_label n k top st ls ms keeps vs t a e g = ap (λ (j : ℕ). machine.jump j top ls st) e ∙ ap (λ (l : List machine.ControlEntry). machine.jump (suc k) top l st) g

-- a branch that goes past a label goes past one fewer beyond it
pub labels_label : (n k : ℕ) (ls ms : List machine.ControlEntry) (keeps : Bool) (vs : List Value) (t a : Code) → n ≡ suc k → ls ≡ machine.Label keeps vs t a ∷ ms → has_labels n ls ≡ true → has_labels k ms ≡ true
labels_label n k ls ms keeps vs t a e g h = sym (ap (λ (j : ℕ). has_labels j ls) e ∙ ap (λ (l : List machine.ControlEntry). has_labels (suc k) l) g) ∙ h

pub no_frame : (n k : ℕ) (ls ms : List machine.ControlEntry) (keeps : Bool) (xs vs : List Value) (a : Code) → n ≡ suc k → ls ≡ machine.Frame keeps xs vs a ∷ ms → has_labels n ls ≡ true → ⊥
no_frame n k ls ms keeps xs vs a e g h = false≢true (sym (ap (λ (j : ℕ). has_labels j ls) e ∙ ap (λ (l : List machine.ControlEntry). has_labels (suc k) l) g) ∙ h)

pub no_end : (n k : ℕ) (rs : List ControlEntry) (vs ls : List Value) → n ≡ suc k → rs ≡ [] → has_labels n (entries_of rs vs ls) ≡ true → ⊥
no_end n k rs vs ls e g h = false≢true (sym (ap (λ (j : ℕ). has_labels j (entries_of rs vs ls)) e ∙ ap (λ (r : List ControlEntry). has_labels (suc k) (entries_of r vs ls)) g) ∙ h)

-- ---- how many there are

pub entries_long : (rs : List ControlEntry) (vs ls : List Value) → length (entries_of rs vs ls) ≡ length rs
entries_long [] vs ls = refl
entries_long (control.Label w f a ∷ rs) vs ls = ap suc (entries_long rs (drop (length vs - f) vs) ls)
entries_long (control.Frame keeps f b a ∷ rs) vs ls = ap suc (entries_long rs (drop (length vs - f) vs) (take b ls))

-- there is room for an entry in a list where there is room for one in the walk
pub room_for_one : (rs : List ControlEntry) (vs ls : List Value) (long capacity : ℕ) (s : Standing) → long ≡ length rs → s.entries ≡ entries_of (reverse rs) vs ls → s.room.entries ≡ capacity → HasEntryRoom s → long < capacity
room_for_one rs vs ls long capacity s l e r h =
    let a = entries_long (reverse rs) vs ls in
    let b = length-reverse rs in
    let d = ap length e in
    omega (arith, l, a, b, d, r, h)

-- the locals of the functions that called are those below
pub held_is : (rs : List ControlEntry) (vs ls : List Value) → Ordered rs (length vs) (length ls) → held (entries_of rs vs ls) ≡ length ls
held_is [] vs ls o = sym o.1
held_is (control.Label w f a ∷ rs) vs ls o =
    held_is rs (drop (length vs - f) vs) ls (subst (λ (k : ℕ). Ordered rs k (length ls)) (sym (left_of f vs o.0)) o.1)
held_is (control.Frame keeps f b a ∷ rs) vs ls o =
    let l = length-take-le b ls o.1 in
    let ordered = subst (λ (k : ℕ). Ordered rs (length (drop (length vs - f) vs)) k) (sym l) (subst (λ (k : ℕ). Ordered rs k b) (sym (left_of f vs o.0)) o.2) in
    let h = held_is rs (drop (length vs - f) vs) (take b ls) ordered in
    let d = length-drop b ls in
    omega (arith, h, l, d, o.1)

-- the operands of the entries are those below
pub beneath_is : (rs : List ControlEntry) (vs ls : List Value) → Ordered rs (length vs) (length ls) → beneath (entries_of rs vs ls) ≡ length vs
beneath_is [] vs ls o = sym o.0
beneath_is (control.Label w f a ∷ rs) vs ls o =
    let under = drop (length vs - f) vs in
    let l = left_of f vs o.0 in
    let h = beneath_is rs under ls (subst (λ (k : ℕ). Ordered rs k (length ls)) (sym l) o.1) in
    let less : length vs - f ≤ length vs = omega arith in
    let above = length-take-le (length vs - f) vs less in
    omega (arith, h, l, above, o.0)
beneath_is (control.Frame keeps f b a ∷ rs) vs ls o =
    let under = drop (length vs - f) vs in
    let l = left_of f vs o.0 in
    let cut = length-take-le b ls o.1 in
    let ordered = subst (λ (k : ℕ). Ordered rs (length under) k) (sym cut) (subst (λ (k : ℕ). Ordered rs k b) (sym l) o.2) in
    let h = beneath_is rs under (take b ls) ordered in
    let less : length vs - f ≤ length vs = omega arith in
    let above = length-take-le (length vs - f) vs less in
    omega (arith, h, l, above, o.0)

-- there is room for an operand in the list where there is room for one in the walk, and the other way round
module _ (rs : List ControlEntry) (ops : Split) (ls : List Value) (ordered : Ordered rs (length ops.below.values) (length ls)) where
  pub spare_in : length ops.here + beneath (entries_of rs ops.below.values ls) < ops.below.room → HasSpare ops
  spare_in h = let d = beneath_is rs ops.below.values ls ordered in omega (arith, h, d)

  pub spare_out : HasSpare ops → length ops.here + beneath (entries_of rs ops.below.values ls) < ops.below.room
  spare_out h = let d = beneath_is rs ops.below.values ls ordered in omega (arith, h, d)
