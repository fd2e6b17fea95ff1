-- What a list of cells is after its part from a place on was lent, and written.
use Rattle.std.proofs.Common.{◌≡◌, ℕ, ◌+◌, ◌-◌, ◌≤◌, List, [], ◌++◌, map, length, take, drop, reverse, sym, ap, ◌∙◌, arith, length-append, length-drop}
use Rattle.std.specs.List.{drop-map, take-map}
use Rattle.std.proofs.lemmas.List.{append-nil, drop_all, length-take-le}
use Rattle.std.proofs.Math.Seq.{take-length}
use borrow.Rule.Slice.PartMut.{post_of}
use Rattle.wasm_ast.specs.declared.types.Value.{Value}
use Rattle.wasm_ast.specs.declared.types.Value.TheVariants.{I64}
use Rattle.interp.specs.inside.OperandStack.{operand_stack}
use Rattle.interp.specs.inside.Split.{Below}
use Rattle.interp.proofs.Lists.{drop-length_is, take-length_is}
use Rattle.interp.proofs.Parts.{below_of}
use Rattle.interp.proofs.OperandStacks.{held, held_cut, operand_stack_here}

-- the part from `from` on of these cells, of which there are `long`, was lent as a slice of `whole`, and came back as `part`
pub record IsLent (from long : ℕ) (whole part cells : List ℕ) : Type 0 where
  pub same : whole ≡ cells
  pub all : length whole ≡ long
  pub within : from ≤ length whole
  pub kept : length part ≡ length (take (length whole - from) (drop from whole))

abbrev pub lent : (from : ℕ) (whole : List ℕ) → List ℕ
lent from whole = take (length whole - from) (drop from whole)

abbrev pub written : (from : ℕ) (whole part : List ℕ) → List ℕ
written from whole part = take from whole ++ (part ++ post_of from (length whole - from) whole)

abbrev pub given_back : (from long : ℕ) (whole part cells : List ℕ) → List ℕ
given_back from long whole part cells = take long (written from whole part ++ drop (length (written from whole part)) cells)

rest_is : (from : ℕ) (whole : List ℕ) → lent from whole ≡ drop from whole
rest_is from whole = ap (λ (n : ℕ). take n (drop from whole)) (sym (length-drop from whole)) ∙ take-length (drop from whole)

-- ---- as it is lent

module _ (from : ℕ) (whole cells : List ℕ) (same : whole ≡ cells) where
  pub lent_here : (top : ℕ) → from ≤ top → operand_stack (lent from whole) (top - from) ≡ reverse (drop from (held top cells))
  lent_here top h =
      ap (λ (l : List ℕ). operand_stack l (top - from)) (rest_is from whole ∙ ap (λ (l : List ℕ). drop from l) same) ∙ operand_stack_here from top cells h

  pub lent_long : length (lent from whole) ≡ length cells - from
  lent_long =
      ap (λ (l : List ℕ). length l) (rest_is from whole) ∙ length-drop from whole ∙ ap (λ (l : List ℕ). length l - from) same

  pub lent_cells : map I64 (lent from whole) ≡ drop from (map I64 cells)
  lent_cells = ap (λ (l : List ℕ). map I64 l) (rest_is from whole ∙ ap (λ (l : List ℕ). drop from l) same) ∙ sym (drop-map I64 from cells)

-- ---- as it comes back

module _ (from long : ℕ) (whole part cells : List ℕ) (h : IsLent from long whole part cells) where
  pub part_long : length part ≡ length whole - from
  part_long = omega (arith, h.kept, length-take-le (length whole - from) (drop from whole) (omega (arith, length-drop from whole)), length-drop from whole)

  none_left : post_of from (length whole - from) whole ≡ []
  none_left = drop_all (length whole - from) (drop from whole) (omega (arith, length-drop from whole))

  written_is : written from whole part ≡ take from whole ++ part
  written_is =
      ap (λ (l : List ℕ). take from whole ++ (part ++ l)) none_left ∙ ap (λ (l : List ℕ). take from whole ++ l) (append-nil part)

  written_long : length (take from whole ++ part) ≡ long
  written_long = omega (arith, length-append (take from whole) part, length-take-le from whole h.within, part_long, h.all, h.within)

  cut : (l : List ℕ) → length l ≡ long → take long (l ++ drop (length l) cells) ≡ l
  cut l e =
      let n : drop (length l) cells ≡ [] = drop_all (length l) cells (omega (arith, ap (λ (k : List ℕ). length k) h.same, h.all, e)) in
      ap (λ (k : List ℕ). take long (l ++ k)) n ∙ ap (λ (k : List ℕ). take long k) (append-nil l) ∙ ap (λ (n : ℕ). take n l) (sym e) ∙ take-length l

  pub back_is : given_back from long whole part cells ≡ take from cells ++ part
  back_is =
      ap (λ (l : List ℕ). take long (l ++ drop (length l) cells)) written_is ∙ cut (take from whole ++ part) written_long ∙ ap (λ (l : List ℕ). take from l ++ part) h.same

  front_long : from ≡ length (take from cells)
  front_long = sym (length-take-le from cells (omega (arith, ap (λ (k : List ℕ). length k) h.same, h.within)))

  back_part : drop from (given_back from long whole part cells) ≡ part
  back_part = ap (λ (l : List ℕ). drop from l) back_is ∙ drop-length_is from (take from cells) part front_long

  back_front : take from (given_back from long whole part cells) ≡ take from cells
  back_front = ap (λ (l : List ℕ). take from l) back_is ∙ take-length_is from (take from cells) part front_long

  pub back_here : (top : ℕ) → reverse (drop from (held (from + top) (given_back from long whole part cells))) ≡ operand_stack part top
  back_here top =
      let e : from + top - from ≡ top = omega arith in
      sym (operand_stack_here from (from + top) (given_back from long whole part cells) (omega arith))
      ∙ ap (λ (l : List ℕ). operand_stack l (from + top - from)) back_part ∙ ap (λ (n : ℕ). operand_stack part n) e

  back_below : (now top : ℕ) → from ≤ now → from ≤ top → reverse (take from (held now (given_back from long whole part cells))) ≡ reverse (take from (held top cells))
  back_below now top g k =
      ap (λ (l : List Value). reverse l) (sym (held_cut from now (given_back from long whole part cells) g))
      ∙ ap (λ (l : List ℕ). reverse (map I64 l)) back_front
      ∙ ap (λ (l : List Value). reverse l) (held_cut from top cells k)

  pub back_cells : drop from (map I64 (given_back from long whole part cells)) ≡ map I64 part
  back_cells = drop-map I64 from (given_back from long whole part cells) ∙ ap (λ (l : List ℕ). map I64 l) back_part

  pub back_under : take from (map I64 (given_back from long whole part cells)) ≡ take from (map I64 cells)
  back_under = take-map I64 from (given_back from long whole part cells) ∙ ap (λ (l : List ℕ). map I64 l) back_front ∙ sym (take-map I64 from cells)

  pub back_long : length (given_back from long whole part cells) ≡ length cells
  back_long =
      ap (λ (l : List ℕ). length l) back_is ∙ ap (λ (l : List ℕ). length (take from l ++ part)) (sym h.same)
      ∙ written_long ∙ sym h.all ∙ ap (λ (l : List ℕ). length l) h.same

  pub back_lower : (now top : ℕ) → from ≤ now → from ≤ top → below_of (length (given_back from long whole part cells)) from (held now (given_back from long whole part cells)) ≡ below_of (length cells) from (held top cells)
  back_lower now top g k =
      let with_values : List Value → Below = λ (l : List Value). record { values = l; room = length cells } in
      ap (λ (r : ℕ). below_of r from (held now (given_back from long whole part cells))) back_long ∙ ap with_values (back_below now top g k)
