-- What readers keep, whatever they read.
use Rattle.std.proofs.Common.{◌≡◌, ℕ, suc, ◌+◌, ◌-◌, ◌≤◌, ◌<◌, Bool, true, false, ◌&&◌, cond, List, [], ◌∷◌, ◌++◌, Result, Ok, Err, refl, sym, ap, ◌∙◌, append_assoc, arith}
use Rattle.std.proofs.lemmas.List.{append-nil}
use Rattle.checkpoint.specs.declared.fault.CheckpointFault.{CheckpointFault}
use Rattle.checkpoint.specs.declared.fault.CheckpointFault.TheVariants.{OutOfMemory}
use Rattle.checkpoint.specs.Reading.{◌>>=◌, Fails, Reads, items_at}

-- ---- the steps of a reader

-- the value of a step that did not fail
pub bind_ok : {A B : Type 0} (r : Result A CheckpointFault) (f : A → Result B CheckpointFault) (y : B) → (r >>= f) ≡ Ok y
    → (x : A) × (r ≡ Ok x) × (f x ≡ Ok y)
bind_ok (Ok x) f y e = (x, refl, e)
bind_ok (Err d) f y e = absurd cc

-- a test that did not fail
pub guard_ok : {A : Type 0} (b : Bool) (fault : CheckpointFault) (x y : A) → cond b (Err fault) (Ok x) ≡ Ok y → (b ≡ false) × (x ≡ y)
guard_ok true fault x y e = absurd cc
guard_ok false fault x y e = (refl, cc)

-- what goes on where no test holds
pub unless : {A : Type 0} (b : Bool) (fault : CheckpointFault) (r : Result A CheckpointFault) (y : A) → cond b (Err fault) r ≡ Ok y → (b ≡ false) × (r ≡ Ok y)
unless true fault r y e = absurd cc
unless false fault r y e = (refl, e)

abbrev done : {A : Type 0} → A → Result A CheckpointFault
done x = Ok x

pub ok_is : {A : Type 0} (x y : A) → done x ≡ done y → x ≡ y
ok_is x y e = cc

pub both_true : (a b : Bool) → (a && b) ≡ true → (a ≡ true) × (b ≡ true)
both_true true b e = (refl, e)
both_true false b e = absurd cc

-- a step that fails lets all of it fail
pub Fails-then : {A B : Type 0} (fault : CheckpointFault) (step : Result A CheckpointFault) (next : A → Result B CheckpointFault) → Fails fault step → Fails fault (step >>= next)
Fails-then OutOfMemory step next e = tt
Fails-then _ step next e = ap (λ r. r >>= next) e

-- ---- loops: what was read so far, and what is still read, is what reading all gives

-- what is still read, with what was read before put onto it
abbrev pub continued : {Y : Type 0} → (Y → Y) → Result (Y × List ℕ) CheckpointFault → Result (Y × List ℕ) CheckpointFault
continued onto read = read >>= λ y. Ok (onto y.0, y.1)

pub goes_on : {Y : Type 0} (f g h : Y → Y) (read next total : Result (Y × List ℕ) CheckpointFault) → ((y : Y) → h y ≡ f (g y)) → read ≡ continued g next
    → continued f read ≡ total → continued h next ≡ total
goes_on f g h read (Err fault) total same e so_far = sym (ap (continued f) e) ∙ so_far
goes_on {Y} f g h read (Ok x) total same e so_far =
    ap (λ (y : Y). Ok (y, x.1)) (same x.0) ∙ (sym (ap (continued f) e) ∙ so_far)

pub is_done : {Y : Type 0} (f : Y → Y) (read total : Result (Y × List ℕ) CheckpointFault) (y : Y) (rest : List ℕ) → read ≡ Ok (y, rest)
    → continued f read ≡ total → total ≡ Ok (f y, rest)
is_done f read total y rest e so_far = sym so_far ∙ ap (continued f) e

pub Fails-continued : {Y : Type 0} (fault : CheckpointFault) (f : Y → Y) (read total : Result (Y × List ℕ) CheckpointFault) → Fails fault read
    → continued f read ≡ total → Fails fault total
Fails-continued OutOfMemory f read total e so_far = tt
Fails-continued _ f read total e so_far = sym so_far ∙ ap (continued f) e

-- what is still read, behind these items
abbrev pub behind : {A : Type 0} → List A → Result (List A × List ℕ) CheckpointFault → Result (List A × List ℕ) CheckpointFault
behind front read = continued (λ xs. front ++ xs) read

items_more : {A : Type 0} (item : Reads A) (n : ℕ) (bytes : List ℕ) (x : A) (after : List ℕ) → item bytes ≡ Ok (x, after)
    → items_at item (suc n) bytes ≡ continued (λ xs. x ∷ xs) (items_at item n after)
unfolding items_at
items_more item n bytes x after e = rw e refl

pub items_go_on : {A : Type 0} (item : Reads A) (front : List A) (count i : ℕ) (bytes after : List ℕ) (x : A) (total : Result (List A × List ℕ) CheckpointFault)
    → i < count → item bytes ≡ Ok (x, after) → behind front (items_at item (count - i) bytes) ≡ total
    → behind (front ++ x ∷ []) (items_at item (count - (i + 1)) after) ≡ total
items_go_on item front count i bytes after x total lt e so_far =
    let k : count - i ≡ suc (count - (i + 1)) = omega arith in
    goes_on (λ xs. front ++ xs) (λ xs. x ∷ xs) (λ xs. (front ++ x ∷ []) ++ xs) (items_at item (count - i) bytes) (items_at item (count - (i + 1)) after) total
    (λ xs. append_assoc front (x ∷ []) xs) (rw k (items_more item (count - (i + 1)) bytes x after e)) so_far

pub items_fail : {A : Type 0} (fault : CheckpointFault) (item : Reads A) (front : List A) (count i : ℕ) (bytes : List ℕ) (total : Result (List A × List ℕ) CheckpointFault)
    → i < count → Fails fault (item bytes) → behind front (items_at item (count - i) bytes) ≡ total → Fails fault total
unfolding items_at
items_fail {A} fault item front count i bytes total lt e so_far =
    let k : count - i ≡ suc (count - (i + 1)) = omega arith in
    Fails-continued fault (λ (xs : List A). front ++ xs) (items_at item (count - i) bytes) total (rw k (Fails-then fault (item bytes) _ e)) so_far

pub items_done : {A : Type 0} (item : Reads A) (front : List A) (count i : ℕ) (bytes : List ℕ) (total : Result (List A × List ℕ) CheckpointFault)
    → count ≤ i → behind front (items_at item (count - i) bytes) ≡ total → total ≡ Ok (front, bytes)
unfolding items_at
items_done {A} item front count i bytes total le so_far =
    let k : count - i ≡ 0 = omega arith in
    let e : items_at item (count - i) bytes ≡ Ok ([], bytes) = rw k refl in
    is_done (λ (xs : List A). front ++ xs) (items_at item (count - i) bytes) total [] bytes e so_far ∙ ap (λ (xs : List A). Ok (xs, bytes)) (append-nil front)
