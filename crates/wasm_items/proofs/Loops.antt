-- Reading one thing after another, as a loop does: what it read so far, and what it still reads, is what reading all gives.
use Rattle.std.proofs.Common.{◌≡◌, ℕ, suc, ◌-◌, ◌+◌, ◌≤◌, ◌<◌, List, [], ◌∷◌, ◌++◌, Option, Some, None, refl, sym, ap, ◌∙◌, arith, append_assoc}
use Rattle.std.proofs.lemmas.List.{append-nil}
use Rattle.wasm_items.specs.declared.fault.DecodeFault.{DecodeFault}
use Rattle.wasm_items.specs.declared.fault.DecodeFault.TheVariants.{OutOfMemory}
use Rattle.wasm_items.specs.inside.Reading.{◌>>=◌, Fails, Reads, items_at}

-- what is still read, with what was read before put onto it
abbrev pub continued : {Y : Type 0} → (Y → Y) → Option (Y × List ℕ) → Option (Y × List ℕ)
continued onto read = read >>= λ y. Some (onto y.0, y.1)

-- what is still read, behind these items
abbrev pub behind : {A : Type 0} → List A → Option (List A × List ℕ) → Option (List A × List ℕ)
behind front read = continued (λ xs. front ++ xs) read

-- ---- any loop

pub goes_on : {Y : Type 0} (f g h : Y → Y) (read next total : Option (Y × List ℕ)) → ((y : Y) → h y ≡ f (g y)) → read ≡ continued g next
    → continued f read ≡ total → continued h next ≡ total
goes_on f g h read None total same e so_far = sym (ap (continued f) e) ∙ so_far
goes_on {Y} f g h read (Some x) total same e so_far =
    ap (λ (y : Y). Some (y, x.1)) (same x.0) ∙ (sym (ap (continued f) e) ∙ so_far)

pub is_done : {Y : Type 0} (f : Y → Y) (read total : Option (Y × List ℕ)) (y : Y) (rest : List ℕ) → read ≡ Some (y, rest)
    → continued f read ≡ total → total ≡ Some (f y, rest)
is_done f read total y rest e so_far = sym so_far ∙ ap (continued f) e

pub Fails-continued : {Y : Type 0} (fault : DecodeFault) (f : Y → Y) (read total : Option (Y × List ℕ)) → Fails fault read
    → continued f read ≡ total → Fails fault total
Fails-continued OutOfMemory f read total e so_far = tt
Fails-continued _ f read total e so_far = sym so_far ∙ ap (continued f) e

-- a step that fails lets all of it fail
pub Fails-then : {A B : Type 0} (fault : DecodeFault) (step : Option A) (next : A → Option B) → Fails fault step → Fails fault (step >>= next)
Fails-then OutOfMemory step next e = tt
Fails-then _ step next e = ap (λ o. o >>= next) e

-- ---- items

items_more : {A : Type 0} (item : Reads A) (n : ℕ) (bytes : List ℕ) (x : A) (after : List ℕ) → item bytes ≡ Some (x, after)
    → items_at item (suc n) bytes ≡ continued (λ xs. x ∷ xs) (items_at item n after)
unfolding items_at
items_more item n bytes x after e = rw e refl

pub items_go_on : {A : Type 0} (item : Reads A) (front : List A) (count i : ℕ) (bytes after : List ℕ) (x : A) (total : Option (List A × List ℕ))
    → i < count → item bytes ≡ Some (x, after) → behind front (items_at item (count - i) bytes) ≡ total
    → behind (front ++ x ∷ []) (items_at item (count - (i + 1)) after) ≡ total
items_go_on item front count i bytes after x total lt e so_far =
    let k : count - i ≡ suc (count - (i + 1)) = omega arith in
    goes_on (λ xs. front ++ xs) (λ xs. x ∷ xs) (λ xs. (front ++ x ∷ []) ++ xs) (items_at item (count - i) bytes) (items_at item (count - (i + 1)) after) total
    (λ xs. append_assoc front (x ∷ []) xs) (rw k (items_more item (count - (i + 1)) bytes x after e)) so_far

pub items_fail : {A : Type 0} (fault : DecodeFault) (item : Reads A) (front : List A) (count i : ℕ) (bytes : List ℕ) (total : Option (List A × List ℕ))
    → i < count → Fails fault (item bytes) → behind front (items_at item (count - i) bytes) ≡ total → Fails fault total
unfolding items_at
items_fail {A} fault item front count i bytes total lt e so_far =
    let k : count - i ≡ suc (count - (i + 1)) = omega arith in
    Fails-continued fault (λ (xs : List A). front ++ xs) (items_at item (count - i) bytes) total (rw k (Fails-then fault (item bytes) _ e)) so_far

pub items_done : {A : Type 0} (item : Reads A) (front : List A) (count i : ℕ) (bytes : List ℕ) (total : Option (List A × List ℕ))
    → count ≤ i → behind front (items_at item (count - i) bytes) ≡ total → total ≡ Some (front, bytes)
unfolding items_at
items_done {A} item front count i bytes total le so_far =
    let k : count - i ≡ 0 = omega arith in
    let e : items_at item (count - i) bytes ≡ Some ([], bytes) = rw k refl in
    is_done (λ (xs : List A). front ++ xs) (items_at item (count - i) bytes) total [] bytes e so_far ∙ ap (λ (xs : List A). Some (xs, bytes)) (append-nil front)
