-- Lines of bytes that come in pieces, of which only so much is kept.
use Rattle.std.proofs.Common.{inl, inr, ◌≡◌, ℕ, zero, suc, ◌<◌, cond, ltb, List, [], ◌∷◌, ◌++◌, length, map, take, refl, ap, sym, ◌∙◌, arith}
use Rattle.std.proofs.lemmas.Bool.{cases_Bool, cases_lt, lt-ltb}
use Rattle.std.proofs.lemmas.List.{length-take, take_all}
use Rattle.session.specs.Lines.{is_feed, lines_from, rest_from}
use Rattle.session.specs.Commands.{Asked, asked_by_text, asked_of, unknown}
use Rattle.session.specs.inside.Underway.{asked_from}

-- ---- pieces

pub lines_from-append : (xs ys begun : List ℕ) → lines_from begun (xs ++ ys) ≡ lines_from begun xs ++ lines_from (rest_from begun xs) ys
lines_from-append [] ys begun = refl
lines_from-append (byte ∷ xs) ys begun = elim (cases_Bool (is_feed byte)) [
  | inl feed ↦
      ap (λ b. cond b (begun ∷ lines_from [] (xs ++ ys)) (lines_from (begun ++ byte ∷ []) (xs ++ ys))) feed
      ∙ ap (λ lines. begun ∷ lines) (lines_from-append xs ys [])
      ∙ sym (ap (λ b. cond b (begun ∷ lines_from [] xs) (lines_from (begun ++ byte ∷ []) xs)
      ++ lines_from (cond b (rest_from [] xs) (rest_from (begun ++ byte ∷ []) xs)) ys) feed)
  | inr other ↦
      ap (λ b. cond b (begun ∷ lines_from [] (xs ++ ys)) (lines_from (begun ++ byte ∷ []) (xs ++ ys))) other
      ∙ lines_from-append xs ys (begun ++ byte ∷ [])
      ∙ sym (ap (λ b. cond b (begun ∷ lines_from [] xs) (lines_from (begun ++ byte ∷ []) xs)
      ++ lines_from (cond b (rest_from [] xs) (rest_from (begun ++ byte ∷ []) xs)) ys) other)
]

pub rest_from-append : (xs ys begun : List ℕ) → rest_from begun (xs ++ ys) ≡ rest_from (rest_from begun xs) ys
rest_from-append [] ys begun = refl
rest_from-append (byte ∷ xs) ys begun = elim (cases_Bool (is_feed byte)) [
  | inl feed ↦
      ap (λ b. cond b (rest_from [] (xs ++ ys)) (rest_from (begun ++ byte ∷ []) (xs ++ ys))) feed
      ∙ rest_from-append xs ys []
      ∙ sym (ap (λ b. rest_from (cond b (rest_from [] xs) (rest_from (begun ++ byte ∷ []) xs)) ys) feed)
  | inr other ↦
      ap (λ b. cond b (rest_from [] (xs ++ ys)) (rest_from (begun ++ byte ∷ []) (xs ++ ys))) other
      ∙ rest_from-append xs ys (begun ++ byte ∷ [])
      ∙ sym (ap (λ b. rest_from (cond b (rest_from [] xs) (rest_from (begun ++ byte ∷ []) xs)) ys) other)
]

-- ---- what is kept

pub take_again : (k : ℕ) (xs ys : List ℕ) → take k (take k xs ++ ys) ≡ take k (xs ++ ys)
take_again zero xs ys = refl
take_again (suc k) [] ys = refl
take_again (suc k) (x ∷ xs) ys = ap (λ zs. x ∷ zs) (take_again k xs ys)

take_twice : (k : ℕ) (xs : List ℕ) → take k (take k xs) ≡ take k xs
take_twice zero xs = refl
take_twice (suc k) [] = refl
take_twice (suc k) (x ∷ xs) = ap (λ zs. x ∷ zs) (take_twice k xs)

-- what a line of at most so many bytes asks for
abbrev asked_within : ℕ → List ℕ → Asked
asked_within most line = cond (ltb most (length line)) unknown (asked_by_text line)

asked_long : (most : ℕ) (line : List ℕ) → most < length line → asked_within most line ≡ unknown
asked_long most line long = ap (λ b. cond b unknown (asked_by_text line)) (lt-ltb _ _ long)

kept_asks_so : (most : ℕ) (line : List ℕ) → asked_within most (take (suc most) line) ≡ asked_within most line
kept_asks_so most line = elim (cases_lt most (length line)) [
  | inl long ↦ asked_long most (take (suc most) line) (omega (arith, length-take (suc most) line)) ∙ sym (asked_long most line long)
  | inr short ↦ ap (asked_within most) (take_all (suc most) line (omega arith))
]

-- a line that is too long is seen to be by what is kept of it
pub asked_of-kept : (line : List ℕ) → asked_of (take 4097 line) ≡ asked_of line
asked_of-kept line = kept_asks_so 4096 line

module _ (most : ℕ) (same : (line : List ℕ) → asked_of (take most line) ≡ asked_of line) where
  asked_from-some : (bytes begun : List ℕ) → asked_from (take most begun) bytes ≡ asked_from begun bytes
  asked_from-some [] begun = refl
  asked_from-some (byte ∷ bytes) begun = elim (cases_Bool (is_feed byte)) [
    | inl feed ↦
        ap (λ b. map asked_of (cond b (take most begun ∷ lines_from [] bytes) (lines_from (take most begun ++ byte ∷ []) bytes))) feed
        ∙ ap (λ asked. asked ∷ asked_from [] bytes) (same begun)
        ∙ sym (ap (λ b. map asked_of (cond b (begun ∷ lines_from [] bytes) (lines_from (begun ++ byte ∷ []) bytes))) feed)
    | inr other ↦
        ap (λ b. map asked_of (cond b (take most begun ∷ lines_from [] bytes) (lines_from (take most begun ++ byte ∷ []) bytes))) other
        ∙ sym (asked_from-some bytes (take most begun ++ byte ∷ []))
        ∙ ap (λ line. asked_from line bytes) (take_again most begun (byte ∷ []))
        ∙ asked_from-some bytes (begun ++ byte ∷ [])
        ∙ sym (ap (λ b. map asked_of (cond b (begun ∷ lines_from [] bytes) (lines_from (begun ++ byte ∷ []) bytes))) other)
  ]

  rest_from-some : (bytes begun : List ℕ) → take most (rest_from (take most begun) bytes) ≡ take most (rest_from begun bytes)
  rest_from-some [] begun = take_twice most begun
  rest_from-some (byte ∷ bytes) begun = elim (cases_Bool (is_feed byte)) [
    | inl feed ↦
        ap (λ b. take most (cond b (rest_from [] bytes) (rest_from (take most begun ++ byte ∷ []) bytes))) feed
        ∙ sym (ap (λ b. take most (cond b (rest_from [] bytes) (rest_from (begun ++ byte ∷ []) bytes))) feed)
    | inr other ↦
        ap (λ b. take most (cond b (rest_from [] bytes) (rest_from (take most begun ++ byte ∷ []) bytes))) other
        ∙ sym (rest_from-some bytes (take most begun ++ byte ∷ []))
        ∙ ap (λ line. take most (rest_from line bytes)) (take_again most begun (byte ∷ []))
        ∙ rest_from-some bytes (begun ++ byte ∷ [])
        ∙ sym (ap (λ b. take most (cond b (rest_from [] bytes) (rest_from (begun ++ byte ∷ []) bytes))) other)
  ]

-- what is kept of a line asks for the same, however it goes on
pub asked_from-kept : (bytes begun : List ℕ) → asked_from (take 4097 begun) bytes ≡ asked_from begun bytes
asked_from-kept bytes begun = asked_from-some 4097 asked_of-kept bytes begun

pub rest_from-kept : (bytes begun : List ℕ) → take 4097 (rest_from (take 4097 begun) bytes) ≡ take 4097 (rest_from begun bytes)
rest_from-kept bytes begun = rest_from-some 4097 asked_of-kept bytes begun
