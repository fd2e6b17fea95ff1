-- Operands of a type, or of a value that is known.
use Rattle.std.proofs.Common.{◌≡◌, ℕ, zero, suc, ◌+◌, ◌<◌, List, [], ◌∷◌, ◌++◌, map, length, slice_get, Option, Some, None, refl, sym, ap, ◌∙◌, subst, arith}
use Rattle.std.specs.Prelude.{slice_set}
use Rattle.wasm_ast.specs.declared.types.ValType.{ValType}
use Rattle.wasm_ast.specs.declared.types.ValType.TheVariants as val_type
use Rattle.wasm_ast.specs.declared.types.Value.{Value}
use Rattle.wasm_ast.specs.declared.types.Value.TheVariants.{I32, I64}
use Rattle.wasm_ast.specs.Values.{type_of, zero_of}
use Rattle.verified.specs.Operands.{number, with_number, pop}
use Rattle.verified.specs.declared.requirements.Requirement.{Requirement}
use Rattle.verified.specs.declared.requirements.Requirement.TheVariants as requirement
use Rattle.verified.specs.Kinds.{Kind, Any, Is, Forgets, AllForget, Met, Meets, AllMeet, requirements, kinds}
use Rattle.verified.specs.Memory.{number_of}
use Rattle.semantics.specs.Effects.{value}
pub use Rattle.semantics.specs.Typed.{HasKind, HasKinds, HasTypes, IsTop}
use Rattle.semantics.specs.Machine.{carry, first, has_result}

pub type-value : (t : ValType) (n : ℕ) → type_of (value t n) ≡ t
type-value val_type.I32 n = refl
type-value val_type.I64 n = refl

-- ---- what is forgotten

forget : (v : Value) (k j : Kind) → Forgets k j → HasKind v k → HasKind v j
forget v (Any s) (Any t) f h = h ∙ f
forget v (Any s) (Is t n) f h = absurd f
forget v (Is s m) (Any t) f h = ap (λ (x : Value). type_of x) h ∙ type-value s m ∙ f
forget v (Is s m) (Is t n) f h = h ∙ ap (λ (x : ValType). value x m) f.0 ∙ ap (λ (x : ℕ). value t x) f.1

pub forget_all : (vs : List Value) (ks js : List Kind) → AllForget ks js → HasKinds vs ks → HasKinds vs js
forget_all vs [] [] a h = h
forget_all vs [] (j ∷ js) a h = absurd a
forget_all vs (k ∷ ks) [] a h = absurd a
forget_all [] (k ∷ ks) (j ∷ js) a h = h
forget_all (v ∷ vs) (k ∷ ks) (j ∷ js) a h = (forget v k j a.0 h.0, forget_all vs ks js a.1 h.1)

-- ---- lists

pub kinds_length : (vs : List Value) (ks : List Kind) → HasKinds vs ks → length vs ≡ length ks
kinds_length [] [] h = refl
kinds_length [] (k ∷ ks) h = absurd h
kinds_length (v ∷ vs) [] h = absurd h
kinds_length (v ∷ vs) (k ∷ ks) h = ap suc (kinds_length vs ks h.1)

pub forget_length : (ks js : List Kind) → AllForget ks js → length ks ≡ length js
forget_length [] [] a = refl
forget_length [] (j ∷ js) a = absurd a
forget_length (k ∷ ks) [] a = absurd a
forget_length (k ∷ ks) (j ∷ js) a = ap suc (forget_length ks js a.1)

pub meet_length : (bytes : ℕ) (ws : List Requirement) (from below : List Kind) → AllMeet bytes ws from below → length from ≡ length ws + length below
meet_length bytes [] from below a = let e = ap (λ (ks : List Kind). length ks) a in omega (arith, e)
meet_length bytes (w ∷ ws) [] below a = absurd a
meet_length bytes (w ∷ ws) (k ∷ ks) below a = let e = meet_length bytes ws ks below a.1 in omega (arith, e)

pub kinds-append : (vs ws : List Value) (ks js : List Kind) → HasKinds vs ks → HasKinds ws js → HasKinds (vs ++ ws) (ks ++ js)
kinds-append [] ws [] js h i = i
kinds-append [] ws (k ∷ ks) js h i = absurd h
kinds-append (v ∷ vs) ws [] js h i = absurd h
kinds-append (v ∷ vs) ws (k ∷ ks) js h i = (h.0, kinds-append vs ws ks js h.1 i)

pub types-append : (vs ws : List Value) (ts us : List ValType) → HasTypes vs ts → HasTypes ws us → HasTypes (vs ++ ws) (ts ++ us)
types-append [] ws [] us h i = i
types-append [] ws (t ∷ ts) us h i = absurd h
types-append (v ∷ vs) ws [] us h i = absurd h
types-append (v ∷ vs) ws (t ∷ ts) us h i = (h.0, types-append vs ws ts us h.1 i)

pub some_is : {A : Type 0} (x y : A) → Some x ≡ Some y → x ≡ y
some_is x y e = cc

pub none_some : {A : Type 0} (x : A) → None ≡ Some x → ⊥
none_some x e = absurd cc

-- the value at a place
pub value_at : (vs : List Value) (ts : List ValType) (x : ℕ) (t : ValType) → HasTypes vs ts → slice_get ts x ≡ Some t → (v : Value) × (slice_get vs x ≡ Some v) × (type_of v ≡ t)
value_at [] [] x t h e = absurd (none_some t e)
value_at [] (u ∷ ts) x t h e = absurd h
value_at (v ∷ vs) [] x t h e = absurd h
value_at (v ∷ vs) (u ∷ ts) zero t h e = (v, refl, h.0 ∙ some_is u t e)
value_at (v ∷ vs) (u ∷ ts) (suc x) t h e = value_at vs ts x t h.1 e

-- another value of the type at a place
pub value_set : (vs : List Value) (ts : List ValType) (x : ℕ) (t : ValType) (v : Value) → HasTypes vs ts → slice_get ts x ≡ Some t → type_of v ≡ t → HasTypes (slice_set vs x v) ts
value_set [] [] x t v h e i = absurd (none_some t e)
value_set [] (u ∷ ts) x t v h e i = absurd h
value_set (w ∷ vs) [] x t v h e i = absurd h
value_set (w ∷ vs) (u ∷ ts) zero t v h e i = (i ∙ sym (some_is u t e), h.1)
value_set (w ∷ vs) (u ∷ ts) (suc x) t v h e i = (h.0, value_set vs ts x t v h.1 e i)

pub place_within : (vs : List Value) (ts : List ValType) (x : ℕ) (t : ValType) → HasTypes vs ts → slice_get ts x ≡ Some t → x < length vs
place_within [] [] x t h e = absurd (none_some t e)
place_within [] (u ∷ ts) x t h e = absurd h
place_within (v ∷ vs) [] x t h e = absurd h
place_within (v ∷ vs) (u ∷ ts) zero t h e = omega arith
place_within (v ∷ vs) (u ∷ ts) (suc x) t h e = let i = place_within vs ts x t h.1 e in omega (arith, i)

zero_typed : (t : ValType) → type_of (zero_of t) ≡ t
zero_typed val_type.I32 = refl
zero_typed val_type.I64 = refl

pub zeros_typed : (ts : List ValType) → HasTypes (map zero_of ts) ts
zeros_typed [] = tt
zeros_typed (t ∷ ts) = (zero_typed t, zeros_typed ts)

-- ---- requirements on operands

abbrev pub IsRequired : ℕ → Requirement → Value → Type 0
IsRequired bytes (requirement.Value t) v = type_of v ≡ t
IsRequired bytes (requirement.Constant t p) v = (n : ℕ) × (v ≡ value t n) × Met bytes t p n

wanted : (bytes : ℕ) (w : Requirement) (k : Kind) (v : Value) → Meets bytes w k → HasKind v k → IsRequired bytes w v
wanted bytes (requirement.Value t) (Any s) v m h = h ∙ m
wanted bytes (requirement.Value t) (Is s n) v m h = absurd m
wanted bytes (requirement.Constant t p) (Any s) v m h = absurd m
wanted bytes (requirement.Constant t p) (Is s n) v m h = (n, h ∙ ap (λ (x : ValType). value x n) m.0, m.1)

-- the topmost operands meet the requirements, and the rest is below
abbrev pub Takes : ℕ → List Requirement → List Value → List Value → Type 0
Takes bytes [] vs below = vs ≡ below
Takes bytes (w ∷ ws) [] below = ⊥
Takes bytes (w ∷ ws) (v ∷ vs) below = IsRequired bytes w v × Takes bytes ws vs below

pub takes : (bytes : ℕ) (ws : List Requirement) (vs : List Value) (from below : List Kind) → AllMeet bytes ws from below → HasKinds vs from → (us : List Value) × Takes bytes ws vs us × HasKinds us below
takes bytes [] vs from below a h = (vs, refl, subst (HasKinds vs) a h)
takes bytes (w ∷ ws) vs [] below a h = absurd a
takes bytes (w ∷ ws) [] (k ∷ ks) below a h = absurd h
takes bytes (w ∷ ws) (v ∷ vs) (k ∷ ks) below a h =
    let r = takes bytes ws vs ks below a.1 h.1 in
    (r.0, (wanted bytes w k v a.0 h.0, r.1), r.2)

-- the operands below stay as they are
pub kept : (vs us : List Value) (below : List Kind) → vs ≡ us → HasKinds us below → HasKinds vs below
kept vs us below e h = subst (λ (ws : List Value). HasKinds ws below) (sym e) h

-- ---- numbers of operands

number_is : (v : Value) (t : ValType) → type_of v ≡ t → number t v ≡ Some (number_of v)
number_is (I32 n) val_type.I32 e = refl
number_is (I32 n) val_type.I64 e = absurd cc
number_is (I64 n) val_type.I32 e = absurd cc
number_is (I64 n) val_type.I64 e = refl

number_known : (t : ValType) (n : ℕ) → number t (value t n) ≡ Some n
number_known val_type.I32 n = refl
number_known val_type.I64 n = refl

pub popped_any : {E : Type 0} (missing : E) (t : ValType) (v : Value) (vs : List Value) (go : ℕ → List Value → E) → type_of v ≡ t → pop missing t (v ∷ vs) go ≡ go (number_of v) vs
popped_any missing t v vs go e = ap (λ o. with_number missing o (λ n. go n vs)) (number_is v t e)

pub popped_known : {E : Type 0} (missing : E) (t : ValType) (v : Value) (n : ℕ) (vs : List Value) (go : ℕ → List Value → E) → v ≡ value t n → pop missing t (v ∷ vs) go ≡ go n vs
popped_known missing t v n vs go e = ap (λ o. with_number missing o (λ n. go n vs)) (ap (λ (x : Value). number t x) e ∙ number_known t n)

-- ---- what a branch carries

pub top_is : (bytes : ℕ) (t : Option ValType) (vs : List Value) (from below : List Kind) → AllMeet bytes (requirements t) from below → HasKinds vs from → IsTop t (first vs)
top_is bytes None vs from below a h = tt
top_is bytes (Some t) vs [] below a h = absurd a
top_is bytes (Some t) [] (k ∷ ks) below a h = absurd h
top_is bytes (Some t) (v ∷ vs) (k ∷ ks) below a h = wanted bytes (requirement.Value t) k v a.0 h.0

pub carried : (t : Option ValType) (top : Option Value) (vs : List Value) (from : List Kind) → IsTop t top → HasKinds vs from → (us : List Value) × (carry (has_result t) top vs ≡ Some us) × HasKinds us (kinds t ++ from)
carried None top vs from i h = (vs, refl, h)
carried (Some t) None vs from i h = absurd i
carried (Some t) (Some v) vs from i h = (v ∷ vs, refl, (i, h))
