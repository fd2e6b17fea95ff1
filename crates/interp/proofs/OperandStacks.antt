-- Operand stacks in a list of cells with free cells above.
use Rattle.std.proofs.Common.{◌≡◌, ℕ, ◌+◌, ◌-◌, ◌<◌, ◌≤◌, List, [], ◌∷◌, ◌++◌, map, length, take, drop, reverse, get_or, refl, sym, ap, ◌∙◌, subst, arith, add-one}
use Rattle.std.specs.Prelude.{slice_set}
use Rattle.std.specs.List.{drop-map, take-map}
use Rattle.std.proofs.lemmas.List.{length-map, length-reverse, length-take-le, map-append, reverse-append}
use Rattle.std.proofs.Math.Seq.{take-suc, take-suc-set}
use Rattle.wasm_ast.specs.declared.types.Value.{Value}
use Rattle.wasm_ast.specs.declared.types.Value.TheVariants.{I64}
use Rattle.interp.specs.inside.OperandStack.{operand_stack}
use Rattle.interp.specs.inside.Split.{HasSpare, Split, all_of, free_of}
use Rattle.interp.proofs.Lists.{drop-take, take-take}
use Rattle.interp.proofs.Parts.{all_is, below_of, parts, popped_is}

abbrev shown : List ℕ → List Value
shown cells = reverse (map I64 cells)

shown_on : (cells : List ℕ) (cell : ℕ) → shown (cells ++ cell ∷ []) ≡ I64 cell ∷ shown cells
shown_on cells cell = ap (λ (l : List Value). reverse l) (map-append I64 cells (cell ∷ [])) ∙ reverse-append (map I64 cells) (I64 cell ∷ [])

pub operand_stack_long : (cells : List ℕ) (n : ℕ) → n ≤ length cells → length (operand_stack cells n) ≡ n
unfolding operand_stack
operand_stack_long cells n h = length-reverse (map I64 (take n cells)) ∙ length-map (take n cells) I64 ∙ length-take-le n cells h

pub operand_stack_top : (cells : List ℕ) (n : ℕ) → n < length cells → operand_stack cells (n + 1) ≡ I64 (get_or cells n 0) ∷ operand_stack cells n
unfolding operand_stack
operand_stack_top cells n h =
    ap (λ (k : ℕ). shown (take k cells)) (add-one n) ∙ ap (λ (l : List ℕ). shown l) (take-suc cells n 0 h) ∙ shown_on (take n cells) (get_or cells n 0)

pub operand_stack_on : (cells : List ℕ) (n cell : ℕ) → n < length cells → operand_stack (slice_set cells n cell) (n + 1) ≡ I64 cell ∷ operand_stack cells n
unfolding operand_stack
operand_stack_on cells n cell h =
    ap (λ (k : ℕ). shown (take k (slice_set cells n cell))) (add-one n) ∙ ap (λ (l : List ℕ). shown l) (take-suc-set cells n cell h) ∙ shown_on (take n cells) cell

-- the operands of the innermost entry
pub operand_stack_here : (floor top : ℕ) (cells : List ℕ) → floor ≤ top → operand_stack (drop floor cells) (top - floor) ≡ reverse (drop floor (map I64 (take top cells)))
unfolding operand_stack
operand_stack_here floor top cells h =
    let e : floor + (top - floor) ≡ top = omega arith in
    ap (λ (l : List ℕ). shown l) (sym (drop-take floor (top - floor) cells) ∙ ap (λ (k : ℕ). drop floor (take k cells)) e)
    ∙ ap (λ (l : List Value). reverse l) (sym (drop-map I64 floor (take top cells)))

-- ---- the operands of all entries

abbrev pub held : ℕ → List ℕ → List Value
held top cells = map I64 (take top cells)

pub held_long : (top : ℕ) (cells : List ℕ) → top ≤ length cells → length (held top cells) ≡ top
held_long top cells h = length-map (take top cells) I64 ∙ length-take-le top cells h

pub floor_held : (floor top : ℕ) (cells : List ℕ) → floor ≤ top → top ≤ length cells → floor ≤ length (held top cells)
floor_held floor top cells g h = omega (arith, held_long top cells h, g)

pub held_cut : (n top : ℕ) (cells : List ℕ) → n ≤ top → held n cells ≡ take n (held top cells)
held_cut n top cells h = ap (λ (l : List ℕ). map I64 l) (sym (take-take n top cells h)) ∙ sym (take-map I64 n (take top cells))

pub held_top : (n : ℕ) (cells : List ℕ) (cell : ℕ) → n < length cells → cell ≡ get_or cells n cell → held (n + 1) cells ≡ held n cells ++ I64 cell ∷ []
held_top n cells cell h e =
    ap (λ (k : ℕ). held k cells) (add-one n) ∙ ap (λ (l : List ℕ). map I64 l) (take-suc cells n cell h)
    ∙ map-append I64 (take n cells) (get_or cells n cell ∷ []) ∙ ap (λ (x : ℕ). held n cells ++ I64 x ∷ []) (sym e)

held_on : (n cell : ℕ) (old new : List ℕ) → take n new ≡ take n old → n < length new → held (n + 1) (slice_set new n cell) ≡ held n old ++ I64 cell ∷ []
held_on n cell old new e h =
    ap (λ (k : ℕ). held k (slice_set new n cell)) (add-one n) ∙ ap (λ (l : List ℕ). map I64 l) (take-suc-set new n cell h ∙ ap (λ (l : List ℕ). l ++ cell ∷ []) e) ∙ map-append I64 (take n old) (cell ∷ [])

pub held_topmost : (k top : ℕ) (cells : List ℕ) → k ≤ top → top ≤ length cells → map I64 (take (top - (top - k)) (drop (top - k) cells)) ≡ drop (length (held top cells) - k) (held top cells)
held_topmost k top cells h g =
    let n : ℕ = top - k in
    let a : top - (top - k) ≡ k = omega arith in
    let b : (top - k) + k ≡ top = omega arith in
    ap (λ (j : ℕ). map I64 (take j (drop n cells))) a
    ∙ ap (λ (l : List ℕ). map I64 l) (sym (drop-take n k cells) ∙ ap (λ (j : ℕ). drop n (take j cells)) b)
    ∙ sym (drop-map I64 n (take top cells))
    ∙ ap (λ (j : ℕ). drop (j - k) (held top cells)) (sym (held_long top cells g))

module _ (room floor top : ℕ) (s : Split) (old : List ℕ) (view : parts room floor (held top old) ≡ s) (f : floor ≤ top) (h : top < length old) where
  -- a cell is pushed
  pub pushed_here : (cell : ℕ) → reverse (drop floor (held (top + 1) (slice_set old top cell))) ≡ I64 cell ∷ s.here
  pushed_here cell =
      ap (λ (t : Split). t.here) (popped_is room floor (held (top + 1) (slice_set old top cell)) (held top old) (I64 cell) (parts room floor (held (top + 1) (slice_set old top cell))) refl (floor_held floor top old f (omega (arith, h))) (held_on top cell old old refl h))
      ∙ ap (λ (t : Split). I64 cell ∷ t.here) view

  pub pushed_below : (cell : ℕ) → below_of room floor (held (top + 1) (slice_set old top cell)) ≡ s.below
  pushed_below cell =
      ap (λ (t : Split). t.below) (popped_is room floor (held (top + 1) (slice_set old top cell)) (held top old) (I64 cell) (parts room floor (held (top + 1) (slice_set old top cell))) refl (floor_held floor top old f (omega (arith, h))) (held_on top cell old old refl h))
      ∙ ap (λ (t : Split). t.below) view

-- the number of operands
pub all_held : (room floor top : ℕ) (cells : List ℕ) → floor ≤ top → top ≤ length cells → all_of (parts room floor (held top cells)) ≡ top
all_held room floor top cells f h =
    all_is room floor (held top cells) (floor_held floor top cells f h) ∙ held_long top cells h

-- the most operands that the innermost entry may have
pub free_is : (room floor top : ℕ) (cells : List ℕ) → floor ≤ top → top ≤ length cells → free_of (parts room floor (held top cells)) ≡ room - floor
free_is room floor top cells f h =
    ap (λ (n : ℕ). room - n) (length-reverse (take floor (held top cells)) ∙ length-take-le floor (held top cells) (floor_held floor top cells f h))

pub spare_of : (room floor top : ℕ) (cells : List ℕ) (s : Split) → parts room floor (held top cells) ≡ s → floor ≤ top → top ≤ length cells → HasSpare s → top < room
spare_of room floor top cells s view f h spare =
    let a = all_held room floor top cells f h in
    let g : HasSpare (parts room floor (held top cells)) = subst HasSpare (sym view) spare in
    omega (arith, a, g)

pub has_spare : (room floor top : ℕ) (cells : List ℕ) → floor ≤ top → top ≤ length cells → top < room → HasSpare (parts room floor (held top cells))
has_spare room floor top cells f h g = let a = all_held room floor top cells f h in omega (arith, a, g)
