-- Reading one group or one body after another, as a loop does.
use Rattle.std.proofs.Common.{◌≡◌, ℕ, suc, ◌-◌, ◌+◌, ◌≤◌, ◌<◌, List, [], ◌∷◌, ◌++◌, drop, replicate, get_or, length, Option, Some, None, refl, sym, ap, ◌∙◌, arith, append_assoc}
use Rattle.std.proofs.lemmas.Bool.{le-leb, lt-leb}
use Rattle.std.proofs.lemmas.List.{append-nil, drop_more, drop_all}
use Rattle.wasm_ast.specs.declared.module.Function.{Function}
use Rattle.wasm_ast.specs.declared.types.FuncType.{FuncType}
use Rattle.wasm_ast.specs.declared.types.ValType.{ValType}
use Rattle.wasm_items.specs.declared.fault.DecodeFault.{DecodeFault}
use Rattle.wasm_items.specs.inside.Reading.{Fails, u32_at, val_type_at}
use Rattle.wasm_decode.specs.inside.ReadingModule.{groups_at, function_at, bodies_at}
use Rattle.wasm_items.proofs.Loops.{continued, behind, goes_on, is_done, Fails-continued, Fails-then}

-- ---- groups of locals

groups_more : (n room len : ℕ) (bytes rest after : List ℕ) (t : ValType) → u32_at bytes ≡ Some (len, rest) → len ≤ room → val_type_at rest ≡ Some (t, after)
    → groups_at (suc n) room bytes ≡ continued (λ ts. replicate len t ++ ts) (groups_at n (room - len) after)
unfolding groups_at
groups_more n room len bytes rest after t e le f = rw (e, le-leb len room le, f) refl

pub groups_go_on : (front : List ValType) (count i room len : ℕ) (bytes rest after : List ℕ) (t : ValType) (total : Option (List ValType × List ℕ))
    → i < count → u32_at bytes ≡ Some (len, rest) → len ≤ room → val_type_at rest ≡ Some (t, after)
    → behind front (groups_at (count - i) room bytes) ≡ total → behind (front ++ replicate len t) (groups_at (count - (i + 1)) (room - len) after) ≡ total
groups_go_on front count i room len bytes rest after t total lt e le f so_far =
    let k : count - i ≡ suc (count - (i + 1)) = omega arith in
    goes_on (λ ts. front ++ ts) (λ ts. replicate len t ++ ts) (λ ts. (front ++ replicate len t) ++ ts) (groups_at (count - i) room bytes)
    (groups_at (count - (i + 1)) (room - len) after) total (λ ts. append_assoc front (replicate len t) ts)
    (rw k (groups_more (count - (i + 1)) room len bytes rest after t e le f)) so_far

-- a group that is not read
groups_fail : (fault : DecodeFault) (front : List ValType) (count i room : ℕ) (bytes : List ℕ) (total : Option (List ValType × List ℕ))
    → i < count → Fails fault (groups_at (suc (count - (i + 1))) room bytes) → behind front (groups_at (count - i) room bytes) ≡ total → Fails fault total
groups_fail fault front count i room bytes total lt e so_far =
    let k : count - i ≡ suc (count - (i + 1)) = omega arith in
    Fails-continued fault (λ (ts : List ValType). front ++ ts) (groups_at (count - i) room bytes) total (rw k e) so_far

pub groups_fail_at_len : (fault : DecodeFault) (front : List ValType) (count i room : ℕ) (bytes : List ℕ) (total : Option (List ValType × List ℕ))
    → i < count → Fails fault (u32_at bytes) → behind front (groups_at (count - i) room bytes) ≡ total → Fails fault total
unfolding groups_at
groups_fail_at_len fault front count i room bytes total lt e so_far =
    groups_fail fault front count i room bytes total lt (Fails-then fault (u32_at bytes) _ e) so_far

pub groups_too_many : (front : List ValType) (count i room len : ℕ) (bytes rest : List ℕ) (total : Option (List ValType × List ℕ))
    → i < count → u32_at bytes ≡ Some (len, rest) → room < len → behind front (groups_at (count - i) room bytes) ≡ total → total ≡ None
unfolding groups_at
groups_too_many front count i room len bytes rest total lt e over so_far =
    let k : count - i ≡ suc (count - (i + 1)) = omega arith in
    let none : groups_at (count - i) room bytes ≡ None = rw (k, e, lt-leb len room over) refl in
    sym so_far ∙ ap (behind front) none

pub groups_fail_at_type : (fault : DecodeFault) (front : List ValType) (count i room len : ℕ) (bytes rest : List ℕ) (total : Option (List ValType × List ℕ))
    → i < count → u32_at bytes ≡ Some (len, rest) → len ≤ room → Fails fault (val_type_at rest) → behind front (groups_at (count - i) room bytes) ≡ total
    → Fails fault total
unfolding groups_at
groups_fail_at_type fault front count i room len bytes rest total lt e le f so_far =
    groups_fail fault front count i room bytes total lt (rw (e, le-leb len room le) (Fails-then fault (val_type_at rest) _ f)) so_far

pub groups_done : (front : List ValType) (count i room : ℕ) (bytes : List ℕ) (total : Option (List ValType × List ℕ))
    → count ≤ i → behind front (groups_at (count - i) room bytes) ≡ total → total ≡ Some (front, bytes)
unfolding groups_at
groups_done front count i room bytes total le so_far =
    let k : count - i ≡ 0 = omega arith in
    let e : groups_at (count - i) room bytes ≡ Some ([], bytes) = rw k refl in
    is_done (λ (ts : List ValType). front ++ ts) (groups_at (count - i) room bytes) total [] bytes e so_far ∙ ap (λ (ts : List ValType). Some (ts, bytes)) (append-nil front)

-- ---- bodies

bodies_more : (types : List FuncType) (t : ℕ) (ts bytes after : List ℕ) (f : Function) → function_at types t bytes ≡ Some (f, after)
    → bodies_at types (t ∷ ts) bytes ≡ continued (λ fs. f ∷ fs) (bodies_at types ts after)
unfolding bodies_at
bodies_more types t ts bytes after f e = rw e refl

pub bodies_go_on : (types : List FuncType) (front : List Function) (numbers : List ℕ) (i : ℕ) (bytes after : List ℕ) (f : Function) (total : Option (List Function × List ℕ))
    → i < length numbers → function_at types (get_or numbers i 0) bytes ≡ Some (f, after) → behind front (bodies_at types (drop i numbers) bytes) ≡ total
    → behind (front ++ f ∷ []) (bodies_at types (drop (i + 1) numbers) after) ≡ total
bodies_go_on types front numbers i bytes after f total lt e so_far =
    goes_on (λ fs. front ++ fs) (λ fs. f ∷ fs) (λ fs. (front ++ f ∷ []) ++ fs) (bodies_at types (drop i numbers) bytes) (bodies_at types (drop (i + 1) numbers) after) total
    (λ fs. append_assoc front (f ∷ []) fs)
    (ap (λ ns. bodies_at types ns bytes) (drop_more numbers i 0 lt) ∙ bodies_more types (get_or numbers i 0) (drop (i + 1) numbers) bytes after f e) so_far

pub bodies_fail : (fault : DecodeFault) (types : List FuncType) (front : List Function) (numbers : List ℕ) (i : ℕ) (bytes : List ℕ) (total : Option (List Function × List ℕ))
    → i < length numbers → Fails fault (function_at types (get_or numbers i 0) bytes) → behind front (bodies_at types (drop i numbers) bytes) ≡ total → Fails fault total
unfolding bodies_at
bodies_fail fault types front numbers i bytes total lt e so_far =
    Fails-continued fault (λ (fs : List Function). front ++ fs) (bodies_at types (drop i numbers) bytes) total
    (rw (drop_more numbers i 0 lt) (Fails-then fault (function_at types (get_or numbers i 0) bytes) _ e)) so_far

pub bodies_done : (types : List FuncType) (front : List Function) (numbers : List ℕ) (i : ℕ) (bytes : List ℕ) (total : Option (List Function × List ℕ))
    → length numbers ≤ i → behind front (bodies_at types (drop i numbers) bytes) ≡ total → total ≡ Some (front, bytes)
unfolding bodies_at
bodies_done types front numbers i bytes total le so_far =
    let e : bodies_at types (drop i numbers) bytes ≡ Some ([], bytes) = rw (drop_all i numbers le) refl in
    is_done (λ (fs : List Function). front ++ fs) (bodies_at types (drop i numbers) bytes) total [] bytes e so_far ∙ ap (λ (fs : List Function). Some (fs, bytes)) (append-nil front)
