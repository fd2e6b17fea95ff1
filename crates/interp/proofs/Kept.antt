-- The kept bytes of a memory, compared with the whole memory and with the adjacent bytes.
use Rattle.std.proofs.Common.{◌≡◌, ℕ, zero, suc, ◌+◌, ◌*◌, ◌<◌, ◌≤◌, Bool, true, false, List, [], ◌∷◌, ◌++◌, length, map, take, drop, replicate, get_or, nat_le, Some, None, option_map, cond, if◌then◌else◌, refl, sym, ap, ◌∙◌, subst, arith}
use Rattle.std.proofs.lemmas.Bool.{and_from, and_parts, le-leb, leb-true}
use Rattle.std.proofs.lemmas.List.{get_or-drop, length-drop, length-replicate, take-append-drop}
use Rattle.wasm_ast.specs.declared.module.Module.{Module}
use Rattle.verified.specs.Memory.{max_minimum, memory_bytes, page}
use Rattle.verified.specs.Profile.{IsBounded}
use Rattle.verified.specs.Reached.{is_reached, reached_below, reached_bytes}
use Rattle.semantics.specs.Memory.{bytes_of_number, number_of_bytes, read, write}
use Rattle.interp.specs.inside.Kept.{are_kept, byte_of, count_kept, is_kept, kept_read, kept_write, laid_over, marked_before, masked, over, spread}
use Rattle.semantics.specs.inside.Touched.{AreMarked, marks, marks_from}
use Rattle.verified.proofs.MemorySize.{memory_small}
use Rattle.semantics.proofs.Plains.{bytes_length}

drop_none : {A : Type 0} (n : ℕ) → drop {A = A} n [] ≡ []
drop_none zero = refl
drop_none (suc n) = refl

pub joined : {A : Type 0} (xs front back : List A) (k : ℕ) → front ≡ take k xs → back ≡ drop k xs → front ++ back ≡ xs
joined {A} xs front back k e f =
    ap (λ (l : List A). l ++ back) e ∙ ap (λ (l : List A). take k xs ++ l) f ∙ take-append-drop k xs

-- ---- a whole memory

pub length-masked : (ms : List Bool) (bs : List ℕ) → length (masked ms bs) ≡ length bs
length-masked ms [] = refl
length-masked [] (b ∷ bs) = ap suc (length-masked [] bs)
length-masked (true ∷ ms) (b ∷ bs) = ap suc (length-masked ms bs)
length-masked (false ∷ ms) (b ∷ bs) = ap suc (length-masked ms bs)

drop-masked : (place : ℕ) (ms : List Bool) (bs : List ℕ) → drop place (masked ms bs) ≡ masked (drop place ms) (drop place bs)
drop-masked zero ms bs = refl
drop-masked (suc place) ms [] = refl
drop-masked (suc place) [] (b ∷ bs) = drop-masked place [] bs ∙ ap (λ (l : List Bool). masked l (drop place bs)) (drop_none place)
drop-masked (suc place) (true ∷ ms) (b ∷ bs) = drop-masked place ms bs
drop-masked (suc place) (false ∷ ms) (b ∷ bs) = drop-masked place ms bs

-- bytes that are marked are kept, and are what they are
marked_kept : (width : ℕ) (ms : List Bool) (bs : List ℕ) → ((k : ℕ) → k < width → get_or ms k false ≡ true) → width ≤ length bs → (are_kept (take width (masked ms bs)) ≡ true) × (map byte_of (take width (masked ms bs)) ≡ take width bs)
marked_kept zero ms bs f h = (refl, refl)
marked_kept (suc width) ms [] f h = absurd (omega arith)
marked_kept (suc width) [] (b ∷ bs) f h = let e : false ≡ true = f 0 (omega arith) in absurd cc
marked_kept (suc width) (false ∷ ms) (b ∷ bs) f h = let e : false ≡ true = f 0 (omega arith) in absurd cc
marked_kept (suc width) (true ∷ ms) (b ∷ bs) f h =
    let k = marked_kept width ms bs (λ k less. f (suc k) (omega (arith, less))) (omega (arith, h)) in
    (k.0, ap (λ (l : List ℕ). b ∷ l) k.1)

module _ (ms : List Bool) (place width : ℕ) (bs : List ℕ) (marked : AreMarked ms place width) (there : place + width ≤ length bs) where
  kept_there : (are_kept (take width (drop place (masked ms bs))) ≡ true) × (map byte_of (take width (drop place (masked ms bs))) ≡ take width (drop place bs))
  kept_there =
      let n = length-drop place bs in
      let k = marked_kept width (drop place ms) (drop place bs) (λ k less. get_or-drop place ms k false ∙ marked k less) (omega (arith, n, there)) in
      let e = drop-masked place ms bs in
      subst (λ (l : List ℕ). (are_kept (take width l) ≡ true) × (map byte_of (take width l) ≡ take width (drop place bs))) (sym e) k

  pub marked_is_kept : is_kept place width (masked ms bs) ≡ true
  marked_is_kept =
      let n = length-masked ms bs in
      and_from (nat_le (place + width) (length (masked ms bs))) (are_kept (take width (drop place (masked ms bs)))) (le-leb (place + width) (length (masked ms bs)) (omega (arith, n, there))) kept_there.0

  pub read_masked : kept_read place width (masked ms bs) ≡ read place width bs
  read_masked =
      ap (λ (b : Bool). if b then Some (number_of_bytes (map byte_of (take width (drop place (masked ms bs))))) else None) marked_is_kept
      ∙ ap (λ (l : List ℕ). Some (number_of_bytes l)) kept_there.1
      ∙ sym (ap (λ (b : Bool). if b then Some (number_of_bytes (take width (drop place bs))) else None) (le-leb (place + width) (length bs) there))

-- others over a whole memory
over_masked : (others bs : List ℕ) (ms : List Bool) → length others ≤ length bs → over others (masked ms bs) ≡ masked ms (others ++ drop (length others) bs)
over_masked [] bs ms h = refl
over_masked (o ∷ os) [] ms h = absurd (omega arith)
over_masked (o ∷ os) (b ∷ bs) [] h = ap (λ (l : List ℕ). 0 ∷ l) (over_masked os bs [] (omega (arith, h)))
over_masked (o ∷ os) (b ∷ bs) (true ∷ ms) h = ap (λ (l : List ℕ). suc o ∷ l) (over_masked os bs ms (omega (arith, h)))
over_masked (o ∷ os) (b ∷ bs) (false ∷ ms) h = ap (λ (l : List ℕ). 0 ∷ l) (over_masked os bs ms (omega (arith, h)))

abbrev spliced : ℕ → List ℕ → List ℕ → List ℕ
spliced place others bs = take place bs ++ others ++ drop (place + length others) bs

spliced_on : (place b : ℕ) (others bs : List ℕ) → spliced (suc place) others (b ∷ bs) ≡ b ∷ spliced place others bs
spliced_on place b others bs =
    let e : suc place + length others ≡ suc (place + length others) = omega arith in ap (λ (n : ℕ). b ∷ (take place bs ++ others ++ drop n (b ∷ bs))) e

pub laid_masked : (place : ℕ) (others bs : List ℕ) (ms : List Bool) → place + length others ≤ length bs → laid_over place others (masked ms bs) ≡ masked ms (spliced place others bs)
laid_masked zero others bs ms h =
    let e : length others ≡ 0 + length others = omega arith in over_masked others bs ms (omega (arith, h)) ∙ ap (λ (n : ℕ). masked ms (others ++ drop n bs)) e
laid_masked (suc place) others [] ms h = absurd (omega arith)
laid_masked (suc place) others (b ∷ bs) [] h =
    ap (λ (l : List ℕ). 0 ∷ l) (laid_masked place others bs [] (omega (arith, h))) ∙ ap (masked []) (sym (spliced_on place b others bs))
laid_masked (suc place) others (b ∷ bs) (true ∷ ms) h =
    ap (λ (l : List ℕ). suc b ∷ l) (laid_masked place others bs ms (omega (arith, h))) ∙ ap (masked (true ∷ ms)) (sym (spliced_on place b others bs))
laid_masked (suc place) others (b ∷ bs) (false ∷ ms) h =
    ap (λ (l : List ℕ). 0 ∷ l) (laid_masked place others bs ms (omega (arith, h))) ∙ ap (masked (false ∷ ms)) (sym (spliced_on place b others bs))

pub write_masked : (ms : List Bool) (place width n : ℕ) (bs : List ℕ) → AreMarked ms place width → place + width ≤ length bs → kept_write place width n (masked ms bs) ≡ option_map (masked ms) (write place width n bs)
write_masked ms place width n bs marked there =
    let l : length (bytes_of_number width n) ≡ width = bytes_length 0 width n in
    let within : place + length (bytes_of_number width n) ≤ length bs = omega (arith, l, there) in
    ap (λ (b : Bool). if b then Some (laid_over place (bytes_of_number width n) (masked ms bs)) else None) (marked_is_kept ms place (length (bytes_of_number width n)) bs (subst (AreMarked ms place) (sym l) marked) within)
    ∙ ap (λ (x : List ℕ). Some x) (laid_masked place (bytes_of_number width n) bs ms within)
    ∙ sym (ap (λ (b : Bool). option_map (masked ms) (if b then Some (spliced place (bytes_of_number width n) bs) else None)) (le-leb (place + length (bytes_of_number width n)) (length bs) within))

-- ---- others over a memory that is kept

pub length-over : (others bs : List ℕ) → length (over others bs) ≡ length bs
length-over [] bs = refl
length-over (o ∷ os) [] = refl
length-over (o ∷ os) (zero ∷ bs) = ap suc (length-over os bs)
length-over (o ∷ os) (suc b ∷ bs) = ap suc (length-over os bs)

pub length-laid_over : (place : ℕ) (others bs : List ℕ) → length (laid_over place others bs) ≡ length bs
length-laid_over zero others bs = length-over others bs
length-laid_over (suc place) others [] = refl
length-laid_over (suc place) others (b ∷ bs) = ap suc (length-laid_over place others bs)

over_both : (xs ys bs : List ℕ) → laid_over (length xs) ys (over xs bs) ≡ over (xs ++ ys) bs
over_both [] ys bs = refl
over_both (x ∷ xs) ys [] = refl
over_both (x ∷ xs) ys (zero ∷ bs) = ap (λ (l : List ℕ). 0 ∷ l) (over_both xs ys bs)
over_both (x ∷ xs) ys (suc b ∷ bs) = ap (λ (l : List ℕ). suc x ∷ l) (over_both xs ys bs)

-- some others, and then those behind them
pub laid_both : (place : ℕ) (xs ys bs : List ℕ) → laid_over (place + length xs) ys (laid_over place xs bs) ≡ laid_over place (xs ++ ys) bs
laid_both zero xs ys bs =
    let e : 0 + length xs ≡ length xs = omega arith in ap (λ (n : ℕ). laid_over n ys (over xs bs)) e ∙ over_both xs ys bs
laid_both (suc place) xs ys [] =
    let e : suc place + length xs ≡ suc (place + length xs) = omega arith in ap (λ (n : ℕ). laid_over n ys []) e
laid_both (suc place) xs ys (b ∷ bs) =
    let e : suc place + length xs ≡ suc (place + length xs) = omega arith in
    ap (λ (n : ℕ). laid_over n ys (b ∷ laid_over place xs bs)) e ∙ ap (λ (l : List ℕ). b ∷ l) (laid_both place xs ys bs)

-- ---- bytes that lie together

pub length-spread : (ms : List Bool) (bs : List ℕ) → length (spread ms bs) ≡ length ms
length-spread [] bs = refl
length-spread (false ∷ ms) bs = ap suc (length-spread ms bs)
length-spread (true ∷ ms) [] = ap suc (length-spread ms [])
length-spread (true ∷ ms) (b ∷ bs) = ap suc (length-spread ms bs)

-- this many kept bytes all exist
kept_bytes : (width : ℕ) (ms : List Bool) (bs : List ℕ) → are_kept (take width (spread ms bs)) ≡ true → width ≤ length ms → (width ≤ length bs) × (map byte_of (take width (spread ms bs)) ≡ take width bs)
kept_bytes zero ms bs e h = (omega arith, refl)
kept_bytes (suc width) [] bs e h = absurd (omega arith)
kept_bytes (suc width) (false ∷ ms) bs e h = absurd cc
kept_bytes (suc width) (true ∷ ms) [] e h = absurd cc
kept_bytes (suc width) (true ∷ ms) (b ∷ bs) e h =
    let k = kept_bytes width ms bs e (omega (arith, h)) in (omega (arith, k.0), ap (λ (l : List ℕ). b ∷ l) k.1)

drop-spread : (place : ℕ) (ms : List Bool) (bs : List ℕ) → drop place (spread ms bs) ≡ spread (drop place ms) (drop (marked_before ms place) bs)
drop-spread zero ms bs = refl
drop-spread (suc place) [] bs = refl
drop-spread (suc place) (false ∷ ms) bs = drop-spread place ms bs
drop-spread (suc place) (true ∷ ms) [] = drop-spread place ms [] ∙ ap (spread (drop place ms)) (drop_none (marked_before ms place))
drop-spread (suc place) (true ∷ ms) (b ∷ bs) = drop-spread place ms bs

module _ (ms : List Bool) (bs : List ℕ) (place width : ℕ) (e : is_kept place width (spread ms bs) ≡ true) where
  within : place + width ≤ length ms
  within =
      let n = length-spread ms bs in
      let h = leb-true (place + width) (length (spread ms bs)) (and_parts (nat_le (place + width) (length (spread ms bs))) (are_kept (take width (drop place (spread ms bs)))) e).0 in
      omega (arith, n, h)

  kept_here : are_kept (take width (drop place (spread ms bs))) ≡ true
  kept_here = (and_parts (nat_le (place + width) (length (spread ms bs))) (are_kept (take width (drop place (spread ms bs)))) e).1

  kept_at : (width ≤ length (drop (marked_before ms place) bs)) × (map byte_of (take width (drop place (spread ms bs))) ≡ take width (drop (marked_before ms place) bs))
  kept_at =
      let d = drop-spread place ms bs in
      let n = length-drop place ms in
      let w = within in
      let k = kept_bytes width (drop place ms) (drop (marked_before ms place) bs) (subst (λ (l : List ℕ). are_kept (take width l) ≡ true) d kept_here) (omega (arith, n, w)) in
      (k.0, ap (λ (l : List ℕ). map byte_of (take width l)) d ∙ k.1)

  -- where the bytes lie
  pub spread_there : 0 < width → marked_before ms place + width ≤ length bs
  spread_there some = let n = length-drop (marked_before ms place) bs in let k = kept_at.0 in omega (arith, n, k, some)

  pub read_spread : kept_read place width (spread ms bs) ≡ Some (number_of_bytes (take width (drop (marked_before ms place) bs)))
  read_spread =
      ap (λ (b : Bool). if b then Some (number_of_bytes (map byte_of (take width (drop place (spread ms bs))))) else None) e ∙ ap (λ (l : List ℕ). Some (number_of_bytes l)) kept_at.1

over_spread : (others : List ℕ) (ms : List Bool) (bs : List ℕ) → are_kept (take (length others) (spread ms bs)) ≡ true → length others ≤ length ms → over others (spread ms bs) ≡ spread ms (others ++ drop (length others) bs)
over_spread [] ms bs e h = refl
over_spread (o ∷ os) [] bs e h = absurd (omega arith)
over_spread (o ∷ os) (false ∷ ms) bs e h = absurd cc
over_spread (o ∷ os) (true ∷ ms) [] e h = absurd cc
over_spread (o ∷ os) (true ∷ ms) (b ∷ bs) e h = ap (λ (l : List ℕ). suc o ∷ l) (over_spread os ms bs e (omega (arith, h)))

-- others at a place where all are kept
laid_kept : (place : ℕ) (others : List ℕ) (ms : List Bool) (bs : List ℕ) → are_kept (take (length others) (drop place (spread ms bs))) ≡ true → place + length others ≤ length ms → 0 < length others → laid_over place others (spread ms bs) ≡ spread ms (spliced (marked_before ms place) others bs)
laid_kept zero others ms bs e h some =
    let n : length others ≡ 0 + length others = omega arith in over_spread others ms bs e (omega (arith, h)) ∙ ap (λ (k : ℕ). spread ms (others ++ drop k bs)) n
laid_kept (suc place) others [] bs e h some = absurd (omega arith)
laid_kept (suc place) others (false ∷ ms) bs e h some = ap (λ (l : List ℕ). 0 ∷ l) (laid_kept place others ms bs e (omega (arith, h)) some)
laid_kept (suc place) others (true ∷ ms) [] e h some =
    let n = length-drop place ms in
    let k = kept_bytes (length others) (drop place ms) (drop (marked_before ms place) []) (subst (λ (l : List ℕ). are_kept (take (length others) l) ≡ true) (drop-spread place ms []) e) (omega (arith, n, h)) in
    let none = ap (λ (l : List ℕ). length l) (drop_none (marked_before ms place)) in
    absurd (omega (arith, k.0, none, some))
laid_kept (suc place) others (true ∷ ms) (b ∷ bs) e h some =
    ap (λ (l : List ℕ). suc b ∷ l) (laid_kept place others ms bs e (omega (arith, h)) some) ∙ ap (spread (true ∷ ms)) (sym (spliced_on (marked_before ms place) b others bs))

pub laid_spread : (ms : List Bool) (bs : List ℕ) (place : ℕ) (others : List ℕ) → is_kept place (length others) (spread ms bs) ≡ true → 0 < length others → laid_over place others (spread ms bs) ≡ spread ms (take (marked_before ms place) bs ++ others ++ drop (marked_before ms place + length others) bs)
laid_spread ms bs place others e some = laid_kept place others ms bs (kept_here ms bs place (length others) e) (within ms bs place (length others) e) some

-- ---- others where some are kept

few_before : (ms : List Bool) (n : ℕ) → marked_before ms n ≤ n
few_before ms zero = omega arith
few_before [] (suc n) = omega arith
few_before (true ∷ ms) (suc n) = let h = few_before ms n in omega (arith, h)
few_before (false ∷ ms) (suc n) = let h = few_before ms n in omega (arith, h)

before-drop : (ms : List Bool) (place n : ℕ) → marked_before ms (place + n) ≡ marked_before ms place + marked_before (drop place ms) n
before-drop ms zero n = let e : 0 + n ≡ n = omega arith in ap (marked_before ms) e ∙ omega arith
before-drop [] (suc place) n = let e : suc place + n ≡ suc (place + n) = omega arith in ap (marked_before []) e ∙ sym (none n)
  where
    none : (n : ℕ) → 0 + marked_before [] n ≡ 0
    none zero = refl
    none (suc n) = refl
before-drop (true ∷ ms) (suc place) n =
    let e : suc place + n ≡ suc (place + n) = omega arith in let h = before-drop ms place n in ap (marked_before (true ∷ ms)) e ∙ omega (arith, h)
before-drop (false ∷ ms) (suc place) n =
    let e : suc place + n ≡ suc (place + n) = omega arith in let h = before-drop ms place n in ap (marked_before (false ∷ ms)) e ∙ h

all_kept : (width : ℕ) (ms : List Bool) (bs : List ℕ) → marked_before ms width ≡ width → width ≤ length bs → are_kept (take width (spread ms bs)) ≡ true
all_kept zero ms bs e h = refl
all_kept (suc width) [] bs e h = absurd (omega (arith, e))
all_kept (suc width) (true ∷ ms) [] e h = absurd (omega arith)
all_kept (suc width) (true ∷ ms) (b ∷ bs) e h = all_kept width ms bs (omega (arith, e)) (omega (arith, h))
all_kept (suc width) (false ∷ ms) bs e h = let f = few_before ms width in absurd (omega (arith, f, e))

pub before_grows : (ms : List Bool) (place n : ℕ) → (marked_before ms place ≤ marked_before ms (place + n)) × (marked_before ms (place + n) ≤ marked_before ms place + n)
before_grows ms place n =
    let e = before-drop ms place n in
    let f = few_before (drop place ms) n in
    (omega (arith, e), omega (arith, e, f))

-- where as many are marked as there are places, all are kept
pub all_marked : (ms : List Bool) (bs : List ℕ) (place width : ℕ) → place + width ≤ length ms → marked_before ms (place + width) ≡ marked_before ms place + width → marked_before ms place + width ≤ length bs → is_kept place width (spread ms bs) ≡ true
all_marked ms bs place width h e there =
    let l = length-spread ms bs in
    let n = length-drop (marked_before ms place) bs in
    let b = before-drop ms place width in
    let k = all_kept width (drop place ms) (drop (marked_before ms place) bs) (omega (arith, b, e)) (omega (arith, n, there)) in
    and_from (nat_le (place + width) (length (spread ms bs))) (are_kept (take width (drop place (spread ms bs)))) (le-leb (place + width) (length (spread ms bs)) (omega (arith, l, h))) (subst (λ (l : List ℕ). are_kept (take width l) ≡ true) (sym (drop-spread place ms bs)) k)

none_kept : (others : List ℕ) (ms : List Bool) (bs : List ℕ) → marked_before ms (length others) ≡ 0 → over others (spread ms bs) ≡ spread ms bs
none_kept [] ms bs e = refl
none_kept (o ∷ os) [] bs e = refl
none_kept (o ∷ os) (true ∷ ms) bs e = absurd (omega (arith, e))
none_kept (o ∷ os) (false ∷ ms) bs e = ap (λ (l : List ℕ). 0 ∷ l) (none_kept os ms bs e)

-- where none is marked, nothing is laid
pub none_marked : (ms : List Bool) (bs : List ℕ) (place : ℕ) (others : List ℕ) → marked_before ms (place + length others) ≡ marked_before ms place → laid_over place others (spread ms bs) ≡ spread ms bs
none_marked ms bs zero others e =
    let n : 0 + length others ≡ length others = omega arith in none_kept others ms bs (ap (marked_before ms) (sym n) ∙ e)
none_marked [] bs (suc place) others e = refl
none_marked (false ∷ ms) bs (suc place) others e =
    let n : suc place + length others ≡ suc (place + length others) = omega arith in
    ap (λ (l : List ℕ). 0 ∷ l) (none_marked ms bs place others (ap (marked_before (false ∷ ms)) (sym n) ∙ e))
none_marked (true ∷ ms) [] (suc place) others e =
    let n : suc place + length others ≡ suc (place + length others) = omega arith in
    let f = ap (marked_before (true ∷ ms)) (sym n) ∙ e in
    ap (λ (l : List ℕ). 0 ∷ l) (none_marked ms [] place others (omega (arith, f)))
none_marked (true ∷ ms) (b ∷ bs) (suc place) others e =
    let n : suc place + length others ≡ suc (place + length others) = omega arith in
    let f = ap (marked_before (true ∷ ms)) (sym n) ∙ e in
    ap (λ (l : List ℕ). suc b ∷ l) (none_marked ms bs place others (omega (arith, f)))

no_bytes : (others : List ℕ) (ms : List Bool) → over others (spread ms []) ≡ spread ms []
no_bytes [] ms = refl
no_bytes (o ∷ os) [] = refl
no_bytes (o ∷ os) (true ∷ ms) = ap (λ (l : List ℕ). 0 ∷ l) (no_bytes os ms)
no_bytes (o ∷ os) (false ∷ ms) = ap (λ (l : List ℕ). 0 ∷ l) (no_bytes os ms)

-- past the bytes that there are, nothing is laid
pub past_bytes : (ms : List Bool) (bs : List ℕ) (place : ℕ) (others : List ℕ) → length bs ≤ marked_before ms place → laid_over place others (spread ms bs) ≡ spread ms bs
past_bytes ms [] zero others h = no_bytes others ms
past_bytes ms (b ∷ bs) zero others h = absurd (omega arith)
past_bytes [] bs (suc place) others h = refl
past_bytes (false ∷ ms) bs (suc place) others h = ap (λ (l : List ℕ). 0 ∷ l) (past_bytes ms bs place others h)
past_bytes (true ∷ ms) [] (suc place) others h = ap (λ (l : List ℕ). 0 ∷ l) (past_bytes ms [] place others (omega arith))
past_bytes (true ∷ ms) (b ∷ bs) (suc place) others h = ap (λ (l : List ℕ). suc b ∷ l) (past_bytes ms bs place others (omega (arith, h)))

-- ---- the marks of a module

pub spread_zeros : (ms : List Bool) (n : ℕ) → marked_before ms (length ms) ≤ n → spread ms (replicate n 0) ≡ masked ms (replicate (length ms) 0)
spread_zeros [] n h = refl
spread_zeros (true ∷ ms) zero h = absurd (omega (arith, h))
spread_zeros (true ∷ ms) (suc n) h = ap (λ (l : List ℕ). 1 ∷ l) (spread_zeros ms n (omega (arith, h)))
spread_zeros (false ∷ ms) n h = ap (λ (l : List ℕ). 0 ∷ l) (spread_zeros ms n h)

-- ---- how many are kept

kept-over : (others bs : List ℕ) → count_kept (over others bs) ≡ count_kept bs
kept-over [] bs = refl
kept-over (o ∷ os) [] = refl
kept-over (o ∷ os) (zero ∷ bs) = kept-over os bs
kept-over (o ∷ os) (suc b ∷ bs) = ap suc (kept-over os bs)

pub kept-laid_over : (place : ℕ) (others bs : List ℕ) → count_kept (laid_over place others bs) ≡ count_kept bs
kept-laid_over zero others bs = kept-over others bs
kept-laid_over (suc place) others [] = refl
kept-laid_over (suc place) others (zero ∷ bs) = kept-laid_over place others bs
kept-laid_over (suc place) others (suc b ∷ bs) = ap suc (kept-laid_over place others bs)

none_before : (byte : ℕ) → marked_before [] byte ≡ 0
none_before zero = refl
none_before (suc byte) = refl

pub kept-masked : (ms : List Bool) (bs : List ℕ) → count_kept (masked ms bs) ≡ marked_before ms (length bs)
kept-masked ms [] = refl
kept-masked [] (b ∷ bs) = kept-masked [] bs ∙ none_before (length bs)
kept-masked (true ∷ ms) (b ∷ bs) = ap suc (kept-masked ms bs)
kept-masked (false ∷ ms) (b ∷ bs) = kept-masked ms bs

module _ (m : Module) where
  length-marks_from : (byte count : ℕ) → length (marks_from m byte count) ≡ count
  length-marks_from byte zero = refl
  length-marks_from byte (suc count) = ap suc (length-marks_from (suc byte) count)

  pub length-marks : length (marks m) ≡ memory_bytes m
  length-marks = length-marks_from 0 (memory_bytes m)

  before_from : (count byte k : ℕ) → k ≤ count → reached_below m byte + marked_before (marks_from m byte count) k ≡ reached_below m (byte + k)
  before_from count byte zero h = let e : byte ≡ byte + 0 = omega arith in let z : reached_below m byte + 0 ≡ reached_below m byte = omega arith in z ∙ ap (reached_below m) e
  before_from zero byte (suc k) h = absurd (omega arith)
  before_from (suc count) byte (suc k) h =
      let e : suc byte + k ≡ byte + suc k = omega arith in
      by_mark (is_reached m byte) refl (before_from count (suc byte) k (omega (arith, h)) ∙ ap (reached_below m) e)
    where
      by_mark : (b : Bool) → is_reached m byte ≡ b → reached_below m (suc byte) + marked_before (marks_from m (suc byte) count) k ≡ reached_below m (byte + suc k) → reached_below m byte + marked_before (is_reached m byte ∷ marks_from m (suc byte) count) (suc k) ≡ reached_below m (byte + suc k)
      by_mark true e rest =
          let here = ap (λ (b : Bool). marked_before (b ∷ marks_from m (suc byte) count) (suc k)) e in
          let next = ap (λ (b : Bool). reached_below m byte + cond b 1 0) e in
          omega (arith, here, next, rest)
      by_mark false e rest =
          let here = ap (λ (b : Bool). marked_before (b ∷ marks_from m (suc byte) count) (suc k)) e in
          let next = ap (λ (b : Bool). reached_below m byte + cond b 1 0) e in
          omega (arith, here, next, rest)

  pub place_told : (byte : ℕ) → byte ≤ memory_bytes m → reached_below m byte ≡ marked_before (marks m) byte
  place_told byte h =
      let a = before_from (memory_bytes m) 0 byte h in
      let e : byte ≡ 0 + byte = omega arith in
      ap (reached_below m) e ∙ sym a ∙ omega arith

  pub small : IsBounded m → memory_bytes m ≤ page * max_minimum
  small b = let h = memory_small m b.addresses.minimums in omega (arith, h)

  pub fresh_bytes : spread (marks m) (replicate (reached_bytes m) 0) ≡ masked (marks m) (replicate (memory_bytes m) 0)
  fresh_bytes =
      ap (λ (n : ℕ). spread (marks m) (replicate n 0)) (place_told (memory_bytes m) (omega arith) ∙ ap (marked_before (marks m)) (sym length-marks))
      ∙ spread_zeros (marks m) _ (omega arith)
      ∙ ap (λ (n : ℕ). masked (marks m) (replicate n 0)) length-marks

  -- as many as are reached
  pub all_reached : reached_bytes m ≡ marked_before (marks m) (memory_bytes m)
  all_reached = place_told (memory_bytes m) (omega arith)

  pub kept_fresh : count_kept (masked (marks m) (replicate (memory_bytes m) 0)) ≡ marked_before (marks m) (memory_bytes m)
  kept_fresh = kept-masked (marks m) (replicate (memory_bytes m) 0) ∙ ap (marked_before (marks m)) (length-replicate {A = ℕ} (memory_bytes m) 0)

  -- what is kept lies in the memory
  pub place_within : (bs : List ℕ) (place width : ℕ) → is_kept place width (spread (marks m) bs) ≡ true → place + width ≤ memory_bytes m
  place_within bs place width e = let h = within (marks m) bs place width e in let n = length-marks in omega (arith, h, n)

  pub length-kept : (bs : List ℕ) → length (spread (marks m) bs) ≡ memory_bytes m
  length-kept bs = length-spread (marks m) bs ∙ length-marks
