-- What readers and the parts of a spelling keep, whatever they read.
use Rattle.std.proofs.Common.{◌≡◌, ℕ, zero, suc, Bool, true, false, List, [], ◌∷◌, ◌++◌, Option, Some, None, refl, sym, ap, ◌∙◌, append_assoc, arith}
use Rattle.std.proofs.lemmas.Bool.{eqb-true, eqb-false}
use Rattle.std.proofs.lemmas.List.{append-nil}
use Rattle.std.specs.Prelude.{◌==◌, if◌then◌else◌}
use Rattle.std.specs.List.{AllByRecursion}
use Rattle.leb.specs.inside.Bytes.{IsBytes}
use Rattle.wasm_ast.specs.Representable.{IsByte}
use Rattle.wasm_items.specs.Bytes.{Then, Byte}
use Rattle.wasm_items.specs.inside.Reading.{◌>>=◌, Reads, found, guarded, is_empty}

-- which bytes spell which item
abbrev pub Spelling : Type 0 → Type 1
Spelling A = A → List ℕ → Type 0

-- ---- the steps of a reader

-- the value of a step that did not fail
pub bind_some : {A B : Type 0} (r : Option A) (f : A → Option B) (y : B) → (r >>= f) ≡ Some y
    → (x : A) × (r ≡ Some x) × (f x ≡ Some y)
bind_some (Some x) f y e = (x, refl, e)
bind_some None f y e = absurd cc

pub guarded_some : {A : Type 0} (b : Bool) (r : Option A) (y : A) → guarded b r ≡ Some y → (b ≡ true) × (r ≡ Some y)
guarded_some true r y e = (refl, e)
guarded_some false r y e = absurd cc

pub some_is : {A : Type 0} (x y : A) → found x ≡ Some y → x ≡ y
some_is x y e = cc

pub never : {A P : Type 0} (y : A) → None ≡ found y → P
never y e = absurd cc

-- the branch of a test
pub by_test : {A P : Type 0} (t : Bool) (x y z : A) → (if t then x else y) ≡ z → (t ≡ true → x ≡ z → P) → (t ≡ false → y ≡ z → P) → P
by_test true x y z e here elsewhere = here refl e
by_test false x y z e here elsewhere = elsewhere refl e

-- the branch of a test for one byte
pub by_byte : {A P : Type 0} (b c : ℕ) (x y z : A) → (if b == c then x else y) ≡ z → (b ≡ c → x ≡ z → P) → (y ≡ z → P) → P
by_byte b c x y z e here elsewhere = by_test (b == c) x y z e (λ is h. here (eqb-true b c is) h) (λ other h. elsewhere h)

-- the same where the other branch needs that it is another byte
pub by_byte_or : {A P : Type 0} (b c : ℕ) (x y z : A) → (if b == c then x else y) ≡ z → (b ≡ c → x ≡ z → P) → ((b ≡ c → ⊥) → y ≡ z → P) → P
by_byte_or b c x y z e here elsewhere = by_test (b == c) x y z e (λ is h. here (eqb-true b c is) h) (λ other h. elsewhere (eqb-false b c other) h)

-- ---- bytes

pub IsBytes-front : (front rest : List ℕ) → IsBytes (front ++ rest) → IsBytes front
IsBytes-front [] rest fits i = omega arith
IsBytes-front (b ∷ front) rest fits zero = fits zero
IsBytes-front (b ∷ front) rest fits (suc i) = IsBytes-front front rest (λ k. fits (suc k)) i

pub IsBytes-back : (front rest : List ℕ) → IsBytes (front ++ rest) → IsBytes rest
IsBytes-back [] rest fits = fits
IsBytes-back (b ∷ front) rest fits = IsBytes-back front rest (λ i. fits (suc i))

pub all_bytes : (bytes : List ℕ) → IsBytes bytes → AllByRecursion IsByte bytes
all_bytes [] fits = tt
all_bytes (b ∷ bytes) fits = (fits zero, all_bytes bytes (λ i. fits (suc i)))

-- ---- bytes in two parts

-- bytes after two parts are bytes after the second part, after the first
pub Then-append : {P Q : List ℕ → Type 0} (bytes rest : List ℕ) (h : Then P Q bytes) → bytes ++ rest ≡ h.front ++ (h.back ++ rest)
Then-append bytes rest h = ap (λ (f : List ℕ). f ++ rest) h.parts ∙ append_assoc h.front h.back rest

pub Then-joined : {P Q : List ℕ → Type 0} (front back : List ℕ) → P front → Q back → Then P Q (front ++ back)
Then-joined front back first second = record { front = front; back = back; is_first = first; is_second = second; parts = refl }

pub Then-assoc : {P Q R : List ℕ → Type 0} {bytes : List ℕ} → Then (Then P Q) R bytes → Then P (Then Q R) bytes
Then-assoc h = record {
  front = h.is_first.front;
  back = h.is_first.back ++ h.back;
  is_first = h.is_first.is_first;
  is_second = record { front = h.is_first.back; back = h.back; is_first = h.is_first.is_second; is_second = h.is_second; parts = refl };
  parts = h.parts ∙ Then-append h.front h.back h.is_first;
}

Then-second : {P Q R : List ℕ → Type 0} {bytes : List ℕ} → ((b : List ℕ) → Q b → R b) → Then P Q bytes → Then P R bytes
Then-second change h = record { front = h.front; back = h.back; is_first = h.is_first; is_second = change h.back h.is_second; parts = h.parts }

-- two pairs, or three, and what follows them, one after another
pub Then-two : {A B C D R : List ℕ → Type 0} (front back : List ℕ) → Then (Then A B) (Then C D) front → R back
    → Then A (Then B (Then C (Then D R))) (front ++ back)
Then-two front back h rest = Then-assoc (Then-second (λ b. Then-assoc) (Then-assoc (Then-joined front back h rest)))

pub Then-three : {A B C D E F R : List ℕ → Type 0} (front back : List ℕ) → Then (Then A B) (Then (Then C D) (Then E F)) front → R back
    → Then A (Then B (Then C (Then D (Then E (Then F R))))) (front ++ back)
Then-three front back h rest =
    Then-assoc (Then-second (λ b k. Then-assoc (Then-second (λ b. Then-assoc) (Then-assoc k))) (Then-assoc (Then-joined front back h rest)))

-- bytes that begin with a byte
pub Then-Byte : {b : ℕ} {Q : List ℕ → Type 0} {bytes : List ℕ} (h : Then (Byte b) Q bytes) → bytes ≡ b ∷ h.back
Then-Byte h = h.parts ∙ ap (λ (f : List ℕ). f ++ h.back) h.is_first

-- ---- what is read is spelled so

-- a reader took this from the front
pub record Takes (spelled : List ℕ → Type 0) (bytes rest : List ℕ) : Type 0 where
  pub front : List ℕ
  pub is_spelled : spelled front
  pub parts : bytes ≡ front ++ rest

-- spelled so, and within limits
abbrev pub Within : {A : Type 0} → Spelling A → (A → Type 0) → Spelling A
Within spelled limits x bytes = spelled x bytes × limits x

-- what is read is spelled by the bytes that it took
abbrev pub IsSound : {A : Type 0} → Reads A → Spelling A → Type 0
IsSound {A} reader spelled = (bytes : List ℕ) (x : A × List ℕ) → IsBytes bytes → reader bytes ≡ Some x → Takes (spelled x.0) bytes x.1

pub Takes-map : {P Q : List ℕ → Type 0} {bytes rest : List ℕ} → Takes P bytes rest → ((f : List ℕ) → P f → Q f) → Takes Q bytes rest
Takes-map t change = record { front = t.front; is_spelled = change t.front t.is_spelled; parts = t.parts }

pub Takes-back : {P : List ℕ → Type 0} {bytes rest : List ℕ} → Takes P bytes rest → IsBytes bytes → IsBytes rest
Takes-back {P} {bytes} {rest} t fits = IsBytes-back t.front rest (rw t.parts at fits)

pub Takes-cons : {P : List ℕ → Type 0} {bytes rest : List ℕ} (b : ℕ) → Takes (λ f. P (b ∷ f)) bytes rest → Takes P (b ∷ bytes) rest
Takes-cons b t = record { front = b ∷ t.front; is_spelled = t.is_spelled; parts = ap (λ (f : List ℕ). b ∷ f) t.parts }

-- all of the bytes were taken
pub Takes-all : {P : List ℕ → Type 0} (bytes rest : List ℕ) → Takes P bytes rest → is_empty rest ≡ true → P bytes
Takes-all bytes [] t none = rw (t.parts, append-nil t.front) t.is_spelled
Takes-all bytes (b ∷ rest) t none = absurd cc

-- what was taken first, and then more
pub Takes-after : {P R : List ℕ → Type 0} {bytes middle rest : List ℕ} (t : Takes P bytes middle)
    → Takes (λ f. R (t.front ++ f)) middle rest → Takes R bytes rest
Takes-after {P} {R} {bytes} {middle} {rest} t u = record {
  front = t.front ++ u.front;
  is_spelled = u.is_spelled;
  parts = t.parts ∙ ap (λ (f : List ℕ). t.front ++ f) u.parts ∙ sym (append_assoc t.front u.front rest);
}

-- A step takes the first part, and the others take what follows it. Below, `f` is what a step took and `s` says what it
-- spells, `b` is what it left, and `e` is that the other steps read that.
pub Then_takes : {A B : Type 0} {reader : Reads A} (next : A × List ℕ → Option B) {P : Spelling A} {R : List ℕ → Type 0}
    → {bytes rest : List ℕ} {y : B} → IsSound reader P → IsBytes bytes → (reader bytes >>= next) ≡ Some y
    → ((x : A) (front back : List ℕ) → P x front → IsBytes back → next (x, back) ≡ Some y → Takes (λ f. R (front ++ f)) back rest)
    → Takes R bytes rest
Then_takes {reader = reader} next {bytes = bytes} {y = y} sound fits e others =
    let a = bind_some (reader bytes) next y e in
    let t = sound bytes a.0 fits a.1 in
    Takes-after t (others a.0.0 t.front a.0.1 t.is_spelled (Takes-back t fits) a.2)

-- the last step, of which something is made
pub made_takes : {A B : Type 0} {reader : Reads A} {made : A → B} {P : Spelling A} (R : Spelling B) {bytes : List ℕ} {y : B × List ℕ}
    → IsSound reader P → IsBytes bytes → (reader bytes >>= λ x. Some (made x.0, x.1)) ≡ Some y
    → ((x : A) (front : List ℕ) → P x front → R (made x) front) → Takes (R y.0) bytes y.1
made_takes {reader = reader} {made = made} R {bytes} {y} sound fits e spells =
    let a = bind_some (reader bytes) (λ x. Some (made x.0, x.1)) y e in
    let t = sound bytes a.0 fits a.1 in
    rw (← some_is (made a.0.0, a.0.1) y a.2) (record { front = t.front; is_spelled = spells a.0.0 t.front t.is_spelled; parts = t.parts })

-- ---- what is spelled is read

-- where such bytes stand, this is read, whatever follows them
abbrev pub IsRead : {A : Type 0} → Reads A → A → (List ℕ → Type 0) → Type 0
IsRead reader x spelled = (front rest : List ℕ) → spelled front → reader (front ++ rest) ≡ Some (x, rest)

-- all that a relation spells is read
abbrev pub IsComplete : {A : Type 0} → Reads A → Spelling A → Type 0
IsComplete {A} reader spelled = (x : A) → IsRead reader x (spelled x)

-- a step reads the first part, and the others read what follows it
pub Then_again : {A B : Type 0} (reader : Reads A) (next : A × List ℕ → Option B) {P Q : List ℕ → Type 0}
    → {bytes : List ℕ} (rest : List ℕ) (x : A) {y : B} → IsRead reader x P → (h : Then P Q bytes) → next (x, h.back ++ rest) ≡ Some y
    → (reader (bytes ++ rest) >>= next) ≡ Some y
Then_again reader next {P} {Q} {bytes} rest x first h others = rw (Then-append bytes rest h, first h.front (h.back ++ rest) h.is_first) others
