-- Steps one after another, as loops take them.
use Rattle.std.proofs.Common.{◌≡◌, ℕ, zero, suc, Bool, true, false, List, Option, Some, None, refl, sym, ap, ◌∙◌, subst}
use Rattle.std.specs.Prelude.{if◌then◌else◌}
use Rattle.wat_syntax.specs.declared.fault.Failure.{Failure}
use Rattle.wat_syntax.specs.inside.Follows.{◌>>=◌, IsMemory}
use Rattle.wat_syntax.specs.inside.Tokens.{Tok}
use Rattle.wat_syntax.specs.inside.Reading.{State, repeated}

pub bind_some : {A B : Type 0} (r : Option A) (f : A → Option B) (y : B) → (r >>= f) ≡ Some y → (x : A) × (r ≡ Some x) × (f x ≡ Some y)
bind_some (Some x) f y e = (x, refl, e)
bind_some None f y e = absurd cc

-- what a function that answers v says of a reader
abbrev pub Said : {Y : Type 0} → Y → Option Y → Type 0
Said v None = Unit {0}
Said v (Some y) = v ≡ y

-- what a function that fails says of a reader
abbrev pub Failed : {Y : Type 0} → Failure → Option Y → Type 0
Failed f None = Unit {0}
Failed f (Some y) = IsMemory f

pub said : {Y : Type 0} (v : Y) (o : Option Y) (z : Y) → Said v o → o ≡ Some z → v ≡ z
said v None z h e = absurd cc
said v (Some y) z h e = let same : y ≡ z = cc in h ∙ same

pub failed : {Y : Type 0} (f : Failure) (o : Option Y) (z : Y) → Failed f o → o ≡ Some z → IsMemory f
failed f None z h e = absurd cc
failed f (Some y) z h e = h

pub says : {Y : Type 0} (v : Y) (o : Option Y) → ((z : Y) → o ≡ Some z → v ≡ z) → Said v o
says v None h = tt
says v (Some y) h = h y refl

pub fails : {Y : Type 0} (f : Failure) (o : Option Y) → ((z : Y) → o ≡ Some z → IsMemory f) → Failed f o
fails f None h = tt
fails f (Some y) h = h y refl

-- one reader after another
pub then_said : {A B : Type 0} (v : A) (o : Option A) (f : A → Option B) (w : B) → Said v o → Said w (f v) → Said w (o >>= f)
then_said v None f w h g = tt
then_said v (Some y) f w h g = subst (λ a. Said w (f a)) h g

pub then_failed : {A B : Type 0} (v : A) (o : Option A) (f : A → Option B) (e : Failure) → Said v o → Failed e (f v) → Failed e (o >>= f)
then_failed v None f e h g = tt
then_failed v (Some y) f e h g = subst (λ a. Failed e (f a)) h g

pub first_failed : {A B : Type 0} (o : Option A) (f : A → Option B) (e : Failure) → Failed e o → Failed e (o >>= f)
first_failed None f e h = tt
first_failed (Some y) f e h = fails e (f y) (λ z g. h)

-- what steps give from the beginning on, they give from here on
abbrev pub Onward : {A : Type 0} → (List Tok → Option Bool) → (A × State → Option (A × State)) → A × State → A × State → Type 0
Onward {A} goes step start x = (n : ℕ) (total : A × State) → repeated goes step n start ≡ Some total → (k : ℕ) × (repeated goes step k x ≡ Some total)

abbrev pub IsAnswer : Option Bool → Bool → Type 0
IsAnswer o b = (a : Bool) → o ≡ Some a → b ≡ a

pub answers : (o : Option Bool) (b : Bool) → o ≡ Some b → IsAnswer o b
answers o b e a f = let same : Some b ≡ Some a = sym e ∙ f in cc

-- a step that is taken
abbrev Stepped : {A : Type 0} → (List Tok → Option Bool) → (A × State → Option (A × State)) → A × State → A × State → Type 0
Stepped {A} goes step x total = (k : ℕ) × (z : A × State) × (step x ≡ Some z) × (repeated goes step k z ≡ Some total)

stepped : {A : Type 0} (goes : List Tok → Option Bool) (step : A × State → Option (A × State)) (k : ℕ) (x total : A × State)
    → IsAnswer (goes x.1.0) true → repeated goes step k x ≡ Some total → Stepped goes step x total
unfolding repeated
stepped goes step zero x total on e = absurd cc
stepped {A} goes step (suc k) x total on e =
    let p = bind_some (goes x.1.0) (λ b. if b then (step x >>= λ y. repeated goes step k y) else Some x) total e in
    let yes : true ≡ p.0 = on p.0 p.1 in
    let f : (step x >>= λ y. repeated goes step k y) ≡ Some total = subst (λ (b : Bool). (if b then (step x >>= λ y. repeated goes step k y) else Some x) ≡ Some total) (sym yes) p.2 in
    let q = bind_some (step x) (λ y. repeated goes step k y) total f in
    (k, q.0, q.1, q.2)

stopped : {A : Type 0} (goes : List Tok → Option Bool) (step : A × State → Option (A × State)) (k : ℕ) (x total : A × State)
    → IsAnswer (goes x.1.0) false → repeated goes step k x ≡ Some total → x ≡ total
unfolding repeated
stopped goes step zero x total off e = absurd cc
stopped {A} goes step (suc k) x total off e =
    let p = bind_some (goes x.1.0) (λ b. if b then (step x >>= λ y. repeated goes step k y) else Some x) total e in
    let no : false ≡ p.0 = off p.0 p.1 in
    let f : Some x ≡ Some total = subst (λ (b : Bool). (if b then (step x >>= λ y. repeated goes step k y) else Some x) ≡ Some total) (sym no) p.2 in
    cc

-- a step was taken
pub loop_steps : {A : Type 0} (goes : List Tok → Option Bool) (step : A × State → Option (A × State)) (start x y : A × State)
    → IsAnswer (goes x.1.0) true → Said y (step x) → Onward goes step start x → Onward goes step start y
loop_steps goes step start x y on read so_far n total e =
    let p = so_far n total e in
    let s = stepped goes step p.0 x total on p.1 in
    (s.0, ap (repeated goes step s.0) (said y (step x) s.1 read s.2) ∙ s.3)

-- a step could not be taken
pub loop_fails : {A : Type 0} (goes : List Tok → Option Bool) (step : A × State → Option (A × State)) (start x : A × State) (f : Failure) (n : ℕ)
    → IsAnswer (goes x.1.0) true → Failed f (step x) → Onward goes step start x → Failed f (repeated goes step n start)
loop_fails goes step start x f n on bad so_far = fails f (repeated goes step n start) (λ total e.
    let p = so_far n total e in
    let s = stepped goes step p.0 x total on p.1 in
    failed f (step x) s.1 bad s.2)

-- no step is left
pub loop_done : {A : Type 0} (goes : List Tok → Option Bool) (step : A × State → Option (A × State)) (start x : A × State) (n : ℕ)
    → IsAnswer (goes x.1.0) false → Onward goes step start x → Said x (repeated goes step n start)
loop_done goes step start x n off so_far = says x (repeated goes step n start) (λ total e.
    let p = so_far n total e in
    stopped goes step p.0 x total off p.1)
