-- The heights of functions, by rank.
use Rattle.std.proofs.Common.{◌≡◌, ◌≢◌, ◌⊎◌, inl, inr, ℕ, zero, suc, ◌+◌, ◌-◌, ◌<◌, ◌≤◌, ◌==◌, max, List, [], ◌∷◌, ◌++◌, length, get_or, set, replicate, take, map, slice_get, Bool, true, false, cond, nat_lt, leb, if◌then◌else◌, Option, Some, None, refl, sym, ap, ◌∙◌, subst, arith, get_or-set_same, get_or-set_other, lt-ltb, le-ltb}
use Rattle.std.specs.Option.{option_map}
use Rattle.std.proofs.lemmas.List.{get_or-replicate, get_or_past, length-append, length-map, length-replicate}
use Rattle.std.proofs.lemmas.List.Recursion.{is_count_by}
use Rattle.std.proofs.lemmas.Bool.Decides.{eqb_tells, leb_tells}
use Rattle.std.proofs.lemmas.Option.{slice_get_past, slice_get_read}
use Rattle.std.specs.List.{AllByRecursion, cons_option}
use Rattle.wasm_ast.specs.declared.module.ImportDescription.{ImportDescription}
use Rattle.wasm_ast.specs.declared.module.ImportDescription.TheVariants as import
use Rattle.wasm_ast.specs.declared.module.Import.{Import}
use Rattle.wasm_ast.specs.declared.module.Function.{Function}
use Rattle.wasm_ast.specs.declared.module.Module.{Module}
use Rattle.wasm_ast.specs.Limits.{is_function, is_function_description, imported_functions}
use Rattle.wasm_ast.specs.Code.{Code}
use Rattle.wasm_ast.specs.Code as code
use Rattle.verified.specs.Spaces.{imported, function_import, spaces_of}
use Rattle.verified.specs.Modules.{TypeHolds}
use Rattle.verified.specs.Calls.{Calls, callees, body_of, calls_in, calls_of}
use Rattle.cost.specs.declared.table.Mark.{Mark}
use Rattle.verified.specs.CallHeights.{height}
use Rattle.cost.specs.Marks.{rank_at}
use Rattle.cost.specs.Ranks.{IsRanking}
use Rattle.verified.specs.Sizes.{code_size, size_in, AreSizes, HasOneSizing, max_size}
use Rattle.verified.specs.declared.arity.Arity.{Arity}
use Rattle.verified.specs.Arities.{type_arity, arity_table, call_arity, plain_arity, branch_arity, block_arity, test_arity}
use Rattle.verified.specs.Facts.{IsHeightAt}
use Rattle.verified.specs.Profile.{SizeWithin}
use Rattle.verified.specs.Heights.{after, peak, peak_in, AreHeights}
use Rattle.bounded_profile.specs.inside.Levels.{AreTold, AreToldBelow}
use Rattle.profile_rules.specs.inside.StackHeights.{ground_level, height_at, with_code}
use Rattle.profile_rules.proofs.StackHeights.{IsKnown, exact_height}
use Rattle.verified.proofs.StackHeights.{parts, weaker, bounded}
use Rattle.verified.proofs.Calling.{calls_small, narrow_calls}

-- ---- lists of functions

all_at : (P : ℕ → Type 0) (xs : List ℕ) → ((k : ℕ) → k < length xs → P (get_or xs k 0)) → AllByRecursion P xs
all_at P [] h = tt
all_at P (x ∷ xs) h = (h 0 (omega arith), all_at P xs (λ k g. h (suc k) (omega arith)))

both : (P Q : ℕ → Type 0) (xs : List ℕ) → AllByRecursion P xs → AllByRecursion Q xs → AllByRecursion (λ f. P f × Q f) xs
both P Q [] h g = tt
both P Q (x ∷ xs) h g = ((h.0, g.0), both P Q xs h.1 g.1)

-- ---- code has one height where its calls do

agree : (m : Module) (s t : ℕ → ℕ) (c : Code) (here : ℕ) → AllByRecursion (λ f. s f ≡ t f) (calls_of c) → peak m s c here ≡ peak m t c here
agree m s t code.end here h = refl
agree m s t (code.plain p rest) here h =
    let e = agree m s t rest (after (plain_arity p) here) h in
    ap (λ n. max here n) e
agree m s t (code.branch b rest) here h =
    let e = agree m s t rest (after (branch_arity b) here) h in
    ap (λ n. max here n) e
agree m s t (code.call f rest) here h =
    let d = h.0 in
    let e = agree m s t rest (after (call_arity m f) here) h.1 in
    cc
agree m s t (code.call_indirect x rest) here h = ap (λ n. max here n) (agree m s t rest here h)
agree m s t (code.unreachable rest) here h = ap (λ n. max here n) (agree m s t rest here h)
agree m s t (code.block x body rest) here h =
    let p = parts (λ f. s f ≡ t f) (calls_of body) (calls_of rest) h in
    let d = agree m s t body 0 p.0 in
    let e = agree m s t rest (after (block_arity x) here) p.1 in
    cc
agree m s t (code.loop x body rest) here h =
    let p = parts (λ f. s f ≡ t f) (calls_of body) (calls_of rest) h in
    let d = agree m s t body 0 p.0 in
    let e = agree m s t rest (after (block_arity x) here) p.1 in
    cc
agree m s t (code.choice x body other rest) here h =
    let p = parts (λ f. s f ≡ t f) (calls_of body) (calls_of other ++ calls_of rest) h in
    let q = parts (λ f. s f ≡ t f) (calls_of other) (calls_of rest) p.1 in
    let d = agree m s t body 0 p.0 in
    let o = agree m s t other 0 q.0 in
    let e = agree m s t rest (after (block_arity x) (after test_arity here)) q.1 in
    cc

agree_in : (m : Module) (s t : ℕ → ℕ) (b : Option Code) → AllByRecursion (λ f. s f ≡ t f) (calls_in b) → peak_in m s b ≡ peak_in m t b
agree_in m s t None h = refl
agree_in m s t (Some c) h = agree m s t c 0 h

-- calls unfolded n deep
abbrev unfolded : Module → ℕ → ℕ → ℕ
unfolded m zero f = 0
unfolded m (suc n) f = peak_in m (unfolded m n) (body_of m f)

module _ (m : Module) (rank : ℕ → ℕ) (falls : (f g : ℕ) → Calls (callees m) f g → rank g < rank f) where
  below : (f : ℕ) → AllByRecursion (λ g. rank g < rank f) (callees m f)
  below f = all_at (λ g. rank g < rank f) (callees m f) (λ k h. falls f (get_or (callees m f) k 0) (k, h, refl))

  -- deeper than the rank, the depth does not matter
  deep : (n d f : ℕ) → rank f < n → rank f < d → unfolded m n f ≡ unfolded m d f
  deep zero d f h i = absurd (omega arith)
  deep (suc n) zero f h i = absurd (omega arith)
  deep (suc n) (suc d) f h i =
      agree_in m (unfolded m n) (unfolded m d) (body_of m f) (weaker (λ g. rank g < rank f) (λ g. unfolded m n g ≡ unfolded m d g) (λ g b. deep n d g (omega (arith, b, h)) (omega (arith, b, i))) (callees m f) (below f))

  -- there are heights
  pub are_heights : AreHeights m (λ f. unfolded m (suc (rank f)) f)
  are_heights f =
      agree_in m (unfolded m (rank f)) (λ g. unfolded m (suc (rank g)) g) (body_of m f) (weaker (λ g. rank g < rank f) (λ g. unfolded m (rank f) g ≡ unfolded m (suc (rank g)) g) (λ g b. deep (rank f) (suc (rank g)) g b (omega arith)) (callees m f) (below f))

  module _ (heights sizes : ℕ → ℕ) (high : AreHeights m heights) (sized : AreSizes m sizes) (narrow : (f : ℕ) → (call_arity m f).gives ≤ 1) where
    bounded_in : (b : Option Code) → AllByRecursion (λ g. heights g ≤ sizes g) (calls_in b) → peak_in m heights b ≤ size_in m sizes b
    bounded_in None h = omega arith
    bounded_in (Some c) h = let b = bounded m heights sizes narrow c 0 h in omega (arith, b)

    small_below : (n f : ℕ) → rank f < n → heights f ≤ sizes f
    small_below zero f h = absurd (omega arith)
    small_below (suc n) f h =
        let d = high f in
        let e = sized f in
        let i = bounded_in (body_of m f) (weaker (λ g. rank g < rank f) (λ g. heights g ≤ sizes g) (λ g b. small_below n g (omega (arith, b, h))) (callees m f) (below f)) in
        omega (arith, d, e, i)

    -- the stack of a function is no higher than its size
    pub small : (f : ℕ) → heights f ≤ sizes f
    small f = small_below (suc (rank f)) f (omega arith)

    -- the height along the body of a function, where those of lower ranks are in the table
    pub told_at : (told : List ℕ) (f : ℕ) (c : Code) → body_of m f ≡ Some c → sizes f ≤ max_size → ((g : ℕ) → rank g < rank f → sizes g ≤ max_size → height_at told g ≡ heights g) → (with_code (arity_table m) told ground_level c).most ≡ heights f
    told_at told f c is h t =
        let d : heights f ≡ peak m heights c 0 = high f ∙ ap (peak_in m heights) is in
        let e : sizes f ≡ code_size m sizes c = sized f ∙ ap (size_in m sizes) is in
        let lower = subst (λ b. AllByRecursion (λ g. rank g < rank f) (calls_in b)) is (below f) in
        let less = calls_small m sizes max_size c (omega (arith, e, h)) in
        let known = weaker (λ g. (rank g < rank f) × (sizes g ≤ max_size)) (IsKnown m heights sizes narrow told) (λ g b. (t g b.0 b.1, small g)) (calls_of c) (both (λ g. rank g < rank f) (λ g. sizes g ≤ max_size) (calls_of c) lower less) in
        let i = exact_height m heights sizes narrow told c known (omega (arith, e, h)) in
        omega (arith, d, i)

-- ---- functions by number

-- an imported function has no body
pub imported_none : (m : Module) (f : ℕ) → f < imported_functions m.imports → body_of m f ≡ None
imported_none m f h = ap (λ b. if b then None else option_map (λ (g : Function). g.body) (slice_get m.functions (f - imported_functions m.imports))) (lt-ltb f (imported_functions m.imports) h)

-- nor has a number past all functions
pub past_none : (m : Module) (f : ℕ) → imported_functions m.imports + length m.functions ≤ f → body_of m f ≡ None
past_none m f h =
    either (nat_lt f (imported_functions m.imports)) (option_map (λ (g : Function). g.body) (slice_get m.functions (f - imported_functions m.imports))) (ap (option_map (λ (g : Function). g.body)) (slice_get_past m.functions (f - imported_functions m.imports) (omega arith)))
  where
    either : (b : Bool) (o : Option Code) → o ≡ None → (if b then None else o) ≡ None
    either true o e = refl
    either false o e = e

-- the module's functions come after the imports
pub defined_some : (m : Module) (k : ℕ) (g : Function) → k < length m.functions → g ≡ get_or m.functions k g → body_of m (imported_functions m.imports + k) ≡ Some g.body
defined_some m k g h e =
    let n : imported_functions m.imports + k - imported_functions m.imports ≡ k = omega arith in
    ap (λ b. if b then None else option_map (λ (g : Function). g.body) (slice_get m.functions (imported_functions m.imports + k - imported_functions m.imports))) (le-ltb (imported_functions m.imports + k) (imported_functions m.imports) (omega arith))
    ∙ ap (λ n. option_map (λ (g : Function). g.body) (slice_get m.functions n)) n
    ∙ ap (option_map (λ (g : Function). g.body)) (slice_get_read m.functions (length m.functions) k g refl h e)

pub least_or_past : (a b : ℕ) → (a < b) ⊎ (b ≤ a)
least_or_past a b = by_test (leb_tells (suc a) b)
  where
    by_test : ((leb (suc a) b ≡ true) × (suc a ≤ b)) ⊎ ((leb (suc a) b ≡ false) × (b < suc a)) → (a < b) ⊎ (b ≤ a)
    by_test (inl h) = let l = h.1 in inl (omega arith)
    by_test (inr h) = let l = h.1 in inr (omega arith)

zeros : (n f : ℕ) → ◌≡◌ {A = ℕ} (get_or (replicate n 0) f 0) 0
zeros n f = by_place (least_or_past f n)
  where
    by_place : (f < n) ⊎ (n ≤ f) → ◌≡◌ {A = ℕ} (get_or (replicate n 0) f 0) 0
    by_place (inl h) = get_or-replicate n f 0 0 h
    by_place (inr h) = get_or_past (replicate n 0) f 0 (let l = length-replicate {A = ℕ} n 0 in omega (arith, l, h))

module _ (m : Module) (ranks : List Mark) (ranked : IsRanking m ranks) where
  rank_none : (f : ℕ) → body_of m f ≡ None → rank_at ranks f ≡ 0
  rank_none f e = ranked.least f ∙ ap (height (rank_at ranks)) e

  no_rank : (f : ℕ) → rank_at ranks f ≤ 0 → body_of m f ≡ None
  no_rank f h = by_body (body_of m f) (ranked.least f)
    where
      by_body : (b : Option Code) → rank_at ranks f ≡ height (rank_at ranks) b → b ≡ None
      by_body None e = refl
      by_body (Some c) e = absurd (omega (arith, e, h))

  pub told_none : (n : ℕ) → AreTold m ranks (replicate n 0) 0
  told_none n heights sizes high sized f h small =
      zeros n f ∙ sym (high f ∙ ap (peak_in m heights) (no_rank f h))

  pub told_first : (told : List ℕ) (rank : ℕ) → 1 ≤ rank → AreTold m ranks told (rank - 1) → AreToldBelow m ranks told rank (imported_functions m.imports)
  told_first told rank p t heights sizes high sized f h first small = t heights sizes high sized f (lower (eqb_tells (rank_at ranks f) rank)) small
    where
      lower : ((rank_at ranks f == rank ≡ true) × (rank_at ranks f ≡ rank)) ⊎ ((rank_at ranks f == rank ≡ false) × (rank_at ranks f ≢ rank)) → rank_at ranks f ≤ rank - 1
      lower (inl e) = let z = rank_none f (imported_none m f (first e.1)) in absurd (omega (arith, e.1, z, p))
      lower (inr e) = let n = e.1 in omega (arith, n, h, p)

  pub told_skip : (told : List ℕ) (rank f : ℕ) → (rank_at ranks f ≡ rank → ⊥) → AreToldBelow m ranks told rank f → AreToldBelow m ranks told rank (f + 1)
  told_skip told rank f other t heights sizes high sized g h first small =
      t heights sizes high sized g h (λ e. not_here e (eqb_tells g f)) small
    where
      not_here : rank_at ranks g ≡ rank → ((g == f ≡ true) × (g ≡ f)) ⊎ ((g == f ≡ false) × (g ≢ f)) → g < f
      not_here e (inl s) = absurd (other (ap (rank_at ranks) (sym s.1) ∙ e))
      not_here e (inr s) = let l = first e in let n = s.1 in omega (arith, l, n)

  pub told_done : (told : List ℕ) (rank next : ℕ) → 1 ≤ rank → imported_functions m.imports + length m.functions ≤ next → AreToldBelow m ranks told rank next → AreTold m ranks told rank
  told_done told rank next p all t heights sizes high sized f h small = t heights sizes high sized f h (λ e. within e (least_or_past f next)) small
    where
      within : rank_at ranks f ≡ rank → (f < next) ⊎ (next ≤ f) → f < next
      within e (inl l) = l
      within e (inr g) = let z = rank_none f (past_none m f (omega (arith, g, all))) in absurd (omega (arith, e, z, p))

  module _ (narrow : (f : ℕ) → (call_arity m f).gives ≤ 1) where
    pub told_set : (told : List ℕ) (rank f v : ℕ) (c : Code) → f < length told → rank_at ranks f ≡ rank → body_of m f ≡ Some c → v ≡ (with_code (arity_table m) told ground_level c).most → AreToldBelow m ranks told rank f → AreToldBelow m ranks (set told f v) rank (f + 1)
    told_set told rank f v c within here is e t heights sizes high sized g h first small =
        at (eqb_tells g f)
      where
        at : ((g == f ≡ true) × (g ≡ f)) ⊎ ((g == f ≡ false) × (g ≢ f)) → get_or (set told f v) g 0 ≡ heights g
        at (inl s) =
            ap (λ k. get_or (set told f v) k 0) s.1
            ∙ get_or-set_same told f v 0 within
            ∙ e
            ∙ told_at m (rank_at ranks) ranked.falls heights sizes high sized narrow told f c is (subst (λ k. sizes k ≤ max_size) s.1 small) (λ k l n. t heights sizes high sized k (omega (arith, l, here)) (λ q. absurd (omega (arith, l, q, here))) n)
            ∙ ap heights (sym s.1)
        at (inr s) =
            let n = s.1 in
            get_or-set_other told f g v 0 n
            ∙ t heights sizes high sized g h (λ q. let l = first q in omega (arith, l, n)) small

-- ---- the answer

pub height_told : (m : Module) (ranks : List Mark) → IsRanking m ranks → AllByRecursion TypeHolds m.types → (told : List ℕ) (f : ℕ) → AreTold m ranks told (rank_at ranks f) → HasOneSizing m → SizeWithin m f → IsHeightAt m f (height_at told f) × (height_at told f ≤ max_size)
height_told m ranks ranked types told f t s w =
    let heights : ℕ → ℕ = λ g. unfolded m (suc (rank_at ranks g)) g in
    let high : AreHeights m heights = are_heights m (rank_at ranks) ranked.falls in
    let within = w s.0 s.1 in
    let e = t heights s.0 high s.1 f (omega arith) within in
    let l = small m (rank_at ranks) ranked.falls heights s.0 high s.1 (narrow_calls m types) f in
    ((heights, high, sym e), omega (arith, e, l, within))

-- ---- the table of what calls take and give

counted : (is : List Import) → length (imported function_import is) ≡ imported_functions is
counted is = is_count_by (λ js. length (imported function_import js)) is_function refl (λ x xs. by_kind x.description (imported function_import xs)) is
  where
    by_kind : (d : ImportDescription) (ns : List ℕ) → length (cons_option (function_import d) ns) ≡ cond (is_function_description d) (1 + length ns) (length ns)
    by_kind (import.Function n) ns = omega arith
    by_kind (import.Table t) ns = refl
    by_kind (import.Memory t) ns = refl
    by_kind (import.Global t) ns = refl

-- how long it is
pub length_of_table : (m : Module) → length (arity_table m) ≡ imported_functions m.imports + length m.functions
length_of_table m =
    let a = length-map (spaces_of m).functions (λ n. type_arity (slice_get m.types n)) in
    let b = length-append (imported function_import m.imports) (map (λ (f : Function). f.type_number) m.functions) in
    let d = length-map m.functions (λ (f : Function). f.type_number) in
    let e = counted m.imports in
    omega (arith, a, b, d, e)

-- ---- the steps of the loops

module _ (m : Module) (ranks : List Mark) (ranked : IsRanking m ranks) where
  pub begins : (told : List ℕ) (rank imported_count : ℕ) → 1 ≤ rank → imported_count ≡ imported_functions m.imports → AreTold m ranks told (rank - 1) → AreToldBelow m ranks told rank (imported_count + 0)
  begins told rank n p e t =
      let same : imported_functions m.imports ≡ n + 0 = omega (arith, e) in
      subst (AreToldBelow m ranks told rank) same (told_first m ranks ranked told rank p t)

  pub skips : (told : List ℕ) (rank n i : ℕ) → (rank_at ranks (n + i) ≡ rank → ⊥) → AreToldBelow m ranks told rank (n + i) → AreToldBelow m ranks told rank (n + (i + 1))
  skips told rank n i other t =
      let same : n + i + 1 ≡ n + (i + 1) = omega arith in
      subst (AreToldBelow m ranks told rank) same (told_skip m ranks ranked told rank (n + i) other t)

  pub sets : AllByRecursion TypeHolds m.types → (told : List ℕ) (rank n i v : ℕ) (g : Function) → n ≡ imported_functions m.imports → i < length m.functions → g ≡ get_or m.functions i g → n + i < length told → rank_at ranks (n + i) ≡ rank → v ≡ (with_code (arity_table m) told ground_level g.body).most → AreToldBelow m ranks told rank (n + i) → AreToldBelow m ranks (set told (n + i) v) rank (n + (i + 1))
  sets types told rank n i v g e h is within here value t =
      let same : n + i + 1 ≡ n + (i + 1) = omega arith in
      let number : imported_functions m.imports + i ≡ n + i = omega (arith, e) in
      let body : body_of m (n + i) ≡ Some g.body = ap (body_of m) (sym number) ∙ defined_some m i g h is in
      subst (AreToldBelow m ranks (set told (n + i) v) rank) same (told_set m ranks ranked (narrow_calls m types) told rank (n + i) v g.body within here body value t)

  pub ends : (told : List ℕ) (rank n i : ℕ) → 1 ≤ rank → n ≡ imported_functions m.imports → length m.functions ≤ i → AreToldBelow m ranks told rank (n + i) → AreTold m ranks told rank
  ends told rank n i p e h t = told_done m ranks ranked told rank (n + i) p (omega (arith, e, h)) t
