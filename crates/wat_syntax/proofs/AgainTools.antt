-- What is printed one after another is read one after another.
use Rattle.std.proofs.Common.{◌≡◌, ℕ, zero, suc, pos, negsuc, ◌+◌, ◌-◌, ◌<◌, ◌≤◌, Bool, true, false, List, [], ◌∷◌, ◌++◌, length, Option, Some, None, refl, ap, ◌∙◌, append_assoc, append-nil, arith}
use Rattle.std.specs.List.{AllByRecursion}
use Rattle.wasm_ast.specs.declared.types.FuncType.{FuncType}
use Rattle.wat_syntax.specs.declared.keyword.Keyword.{Keyword}
use Rattle.wat_syntax.specs.inside.Follows.{◌>>=◌}
use Rattle.wat_syntax.specs.Pieces.{Piece, each}
use Rattle.wat_syntax.specs.Pieces as piece
use Rattle.wat_syntax.specs.inside.Tokens.{Tok, sorted}
use Rattle.wat_syntax.specs.inside.Tokens as tok
use Rattle.wat_syntax.specs.inside.Reading.{State, repeated, unnamed_at, number_first, block_type_at, maximum_at, local_first, signature_first}
use Rattle.wat_syntax.specs.inside.ReadingCode.{stops, exponent, alignment_at}
use Rattle.wat_syntax.specs.inside.ReadingCode.{offset_at as memory_offset_at}

-- no token of a printed text is a name
pub unnamed_again : (ps : List Piece) (types : List FuncType) → unnamed_at (sorted ps, types) ≡ Some (sorted ps, types)
unfolding unnamed_at
unnamed_again [] types = refl
unnamed_again (piece.signs (pos n) ∷ ps) types = refl
unnamed_again (piece.signs (negsuc n) ∷ ps) types = refl
unnamed_again (_ ∷ ps) types = refl

-- ---- where what stands before has ended

-- no number, no group of types and no part of a memory argument stands here
pub record Ends (ts : List Tok) : Type 0 where
  pub no_number : number_first ts ≡ Some false
  pub no_maximum : (types : List FuncType) → maximum_at (ts, types) ≡ Some (None, (ts, types))
  pub no_locals : local_first ts ≡ Some false
  pub no_signature : signature_first ts ≡ false
  pub no_block_type : (types : List FuncType) → block_type_at (ts, types) ≡ Some (None, (ts, types))
  pub no_offset : (types : List FuncType) → memory_offset_at (ts, types) ≡ (0, (ts, types))
  pub no_alignment : (width : ℕ) (types : List FuncType) → alignment_at width (ts, types) ≡ (exponent width >>= λ e. Some (e, (ts, types)))

pub nothing_ends : Ends []
unfolding number_first maximum_at block_type_at memory_offset_at alignment_at
nothing_ends = record {
  no_number = refl;
  no_maximum = λ types. refl;
  no_locals = refl;
  no_signature = refl;
  no_block_type = λ types. refl;
  no_offset = λ types. refl;
  no_alignment = λ width types. refl;
}

pub closes_ends : (ts : List Tok) → Ends (tok.closes ∷ ts)
unfolding number_first maximum_at block_type_at memory_offset_at alignment_at
closes_ends ts = record {
  no_number = refl;
  no_maximum = λ types. refl;
  no_locals = refl;
  no_signature = refl;
  no_block_type = λ types. refl;
  no_offset = λ types. refl;
  no_alignment = λ width types. refl;
}

pub key_ends : (k : Keyword) (ts : List Tok) → Ends (tok.key k ∷ ts)
unfolding number_first maximum_at block_type_at memory_offset_at alignment_at
key_ends k ts = record {
  no_number = refl;
  no_maximum = λ types. refl;
  no_locals = refl;
  no_signature = refl;
  no_block_type = λ types. refl;
  no_offset = λ types. refl;
  no_alignment = λ width types. refl;
}

pub stops_ends : (ts : List Tok) → stops ts ≡ true → Ends ts
stops_ends [] e = nothing_ends
stops_ends (tok.closes ∷ ts) e = closes_ends ts
stops_ends (tok.key k ∷ ts) e = key_ends k ts
stops_ends _ e = absurd cc

-- ---- steps

module _ {S : Type 0} (goes : List Tok → Option Bool) (step : S × State → Option (S × State)) where
  pub step_again : (n : ℕ) (x y : S × State) → 1 ≤ n → goes x.1.0 ≡ Some true → step x ≡ Some y → repeated goes step n x ≡ repeated goes step (n - 1) y
  unfolding repeated
  step_again zero x y some on e = absurd (omega arith)
  step_again (suc n) x y some on e =
      let one : suc n - 1 ≡ n = omega arith in
      rw (on, e, one) refl

  pub stop_again : (n : ℕ) (x : S × State) → 1 ≤ n → goes x.1.0 ≡ Some false → repeated goes step n x ≡ Some x
  unfolding repeated
  stop_again zero x some off = absurd (omega arith)
  stop_again (suc n) x some off = rw off refl

  -- items that `one` prints, each read by a step, where `place` says what is read so far and what is left
  module _ {A : Type 0} (one : A → List Piece → List Piece) (fine : A → Type 0) (place : List A → List Piece → S × State)
      (begins : (front : List A) (x : A) (more : List Piece) → goes (place front (one x more)).1.0 ≡ Some true)
      (reads : (front : List A) (x : A) (more : List Piece) → fine x → step (place front (one x more)) ≡ Some (place (front ++ x ∷ []) more)) where
    pub items_again : (xs front : List A) (n : ℕ) (more : List Piece) → AllByRecursion fine xs → length xs ≤ n
        → repeated goes step n (place front (each one xs more)) ≡ repeated goes step (n - length xs) (place (front ++ xs) more)
    items_again [] front n more all le =
        let same : n - 0 ≡ n = omega arith in
        rw (same, append-nil front) refl
    items_again (x ∷ xs) front n more all le =
        let fuel : n - 1 - length xs ≡ n - suc (length xs) = omega arith in
        step_again n (place front (one x (each one xs more))) (place (front ++ x ∷ []) (each one xs more)) (omega arith) (begins front x (each one xs more)) (reads front x (each one xs more) all.0)
        ∙ items_again xs (front ++ x ∷ []) (n - 1) more all.1 (omega arith)
        ∙ ap (λ ys. repeated goes step (n - 1 - length xs) (place ys more)) (append_assoc front (x ∷ []) xs)
        ∙ ap (λ k. repeated goes step k (place (front ++ x ∷ xs) more)) fuel

    -- all of them
    pub each_again : (xs front : List A) (n : ℕ) (more : List Piece) → AllByRecursion fine xs → length xs < n → goes (place (front ++ xs) more).1.0 ≡ Some false
        → repeated goes step n (place front (each one xs more)) ≡ Some (place (front ++ xs) more)
    each_again xs front n more all lt off =
        items_again xs front n more all (omega arith) ∙ stop_again (n - length xs) (place (front ++ xs) more) (omega arith) off

-- where no items stand, what follows them shows
pub each_first : {A : Type 0} {B : Type 0} (test : List Tok → B) (answer : B) (one : A → List Piece → List Piece) → ((x : A) (more : List Piece) → test (sorted (one x more)) ≡ answer)
    → (xs : List A) (more : List Piece) → test (sorted more) ≡ answer → test (sorted (each one xs more)) ≡ answer
each_first test answer one first [] more e = e
each_first test answer one first (x ∷ xs) more e = first x (each one xs more)

-- ---- of all items

pub all_both : {A : Type 0} (P Q : A → Type 0) (xs : List A) → AllByRecursion P xs → AllByRecursion Q xs → AllByRecursion (λ x. P x × Q x) xs
all_both P Q [] p q = tt
all_both P Q (x ∷ xs) p q = ((p.0, q.0), all_both P Q xs p.1 q.1)

pub all_map : {A : Type 0} (P Q : A → Type 0) → ((x : A) → P x → Q x) → (xs : List A) → AllByRecursion P xs → AllByRecursion Q xs
all_map P Q f [] p = tt
all_map P Q f (x ∷ xs) p = (f x p.0, all_map P Q f xs p.1)

pub all_of : {A : Type 0} (Q : A → Type 0) → ((x : A) → Q x) → (xs : List A) → AllByRecursion Q xs
all_of Q f [] = tt
all_of Q f (x ∷ xs) = (f x, all_of Q f xs)

-- the sizes of all items together
abbrev pub total : {A : Type 0} → (A → ℕ) → List A → ℕ
total size [] = 0
total size (x ∷ xs) = size x + total size xs

pub all_within : {A : Type 0} (size : A → ℕ) (xs : List A) (n : ℕ) → total size xs ≤ n → AllByRecursion (λ x. size x ≤ n) xs
all_within size [] n le = tt
all_within size (x ∷ xs) n le = (omega arith, all_within size xs n (omega arith))
