-- Where the first line of some bytes ends.
use Rattle.std.proofs.Common.{inl, inr, ◌≡◌, ℕ, zero, suc, ◌+◌, ◌-◌, ◌<◌, ◌≤◌, min, true, false, not, cond, List, [], ◌∷◌, ◌++◌, length, take, drop, drop-cons, get_or, refl, ap, sym, ◌∙◌, add-one, arith, append_assoc, length-append, length-drop, Result, Ok, Err}
use Rattle.std.specs.Prelude.{OnOk, is_ok}
use Rattle.std.specs.List.{position_or_len}
use Rattle.std.proofs.lemmas.Bool.{cases_Bool, cases_lt}
use Rattle.std.proofs.lemmas.List.{append-nil, take_all}
use Rattle.std.proofs.Math.Seq.{take-append-add}
use Rattle.session.specs.Lines.{is_feed, lines_from, rest_from}
use Rattle.session.specs.inside.Cutting.{BeginsWithLine, HasNoLine}

place-feed : (byte : ℕ) (bytes : List ℕ) → is_feed byte ≡ true → position_or_len is_feed (byte ∷ bytes) ≡ 0
place-feed byte bytes feed = ap (λ b. cond (not b) (1 + position_or_len is_feed bytes) 0) feed

place-other : (byte : ℕ) (bytes : List ℕ) → is_feed byte ≡ false → position_or_len is_feed (byte ∷ bytes) ≡ suc (position_or_len is_feed bytes)
place-other byte bytes other = ap (λ b. cond (not b) (1 + position_or_len is_feed bytes) 0) other ∙ omega arith

place-le : (bytes : List ℕ) → position_or_len is_feed bytes ≤ length bytes
place-le [] = omega arith
place-le (byte ∷ bytes) = elim (cases_Bool (is_feed byte)) [
  | inl feed ↦ rw (place-feed byte bytes feed) (omega arith)
  | inr other ↦ let below = place-le bytes in rw (place-other byte bytes other) (omega arith)
]

-- ---- the search for it, where it stands at none of the places before this one

pub found_later : (bytes : List ℕ) (place d : ℕ) → place < length bytes → is_feed (get_or bytes place d) ≡ false
    → position_or_len is_feed bytes ≡ place + position_or_len is_feed (drop place bytes)
    → position_or_len is_feed bytes ≡ place + 1 + position_or_len is_feed (drop (place + 1) bytes)
found_later bytes place d within other so_far =
    let later : position_or_len is_feed (drop place bytes) ≡ suc (position_or_len is_feed (drop (suc place) bytes)) =
    ap (position_or_len is_feed) (drop-cons bytes place d within) ∙ place-other (get_or bytes place d) (drop (suc place) bytes) other in
    let step : position_or_len is_feed bytes ≡ place + 1 + position_or_len is_feed (drop (suc place) bytes) = omega (arith, later, so_far) in
    step ∙ ap (λ n. place + 1 + position_or_len is_feed (drop n bytes)) (sym (add-one place))

pub found_nowhere : (bytes : List ℕ) (place : ℕ) → length bytes ≤ place
    → position_or_len is_feed bytes ≡ place + position_or_len is_feed (drop place bytes) → length bytes ≡ position_or_len is_feed bytes
found_nowhere bytes place past so_far = omega (arith, so_far, place-le bytes)

-- ---- bytes without a line feed

none_from : (bytes begun : List ℕ) → position_or_len is_feed bytes ≡ length bytes → lines_from begun bytes ≡ []
none_from [] begun all = refl
none_from (byte ∷ bytes) begun all = elim (cases_Bool (is_feed byte)) [
  | inl feed ↦ let at : position_or_len is_feed (byte ∷ bytes) ≡ 0 = place-feed byte bytes feed in absurd (omega arith)
  | inr other ↦
      let at : position_or_len is_feed (byte ∷ bytes) ≡ suc (position_or_len is_feed bytes) = place-other byte bytes other in
      let later : position_or_len is_feed bytes ≡ length bytes = omega arith in
      ap (λ b. cond b (begun ∷ lines_from [] bytes) (lines_from (begun ++ byte ∷ []) bytes)) other ∙ none_from bytes (begun ++ byte ∷ []) later
]

rest_all : (bytes begun : List ℕ) → position_or_len is_feed bytes ≡ length bytes → rest_from begun bytes ≡ begun ++ bytes
rest_all [] begun all = sym (append-nil begun)
rest_all (byte ∷ bytes) begun all = elim (cases_Bool (is_feed byte)) [
  | inl feed ↦ let at : position_or_len is_feed (byte ∷ bytes) ≡ 0 = place-feed byte bytes feed in absurd (omega arith)
  | inr other ↦
      let at : position_or_len is_feed (byte ∷ bytes) ≡ suc (position_or_len is_feed bytes) = place-other byte bytes other in
      let later : position_or_len is_feed bytes ≡ length bytes = omega arith in
      ap (λ b. cond b (rest_from [] bytes) (rest_from (begun ++ byte ∷ []) bytes)) other
      ∙ rest_all bytes (begun ++ byte ∷ []) later ∙ append_assoc begun (byte ∷ []) bytes
]

pub no_line : (bytes : List ℕ) → position_or_len is_feed bytes ≡ length bytes → HasNoLine bytes
no_line bytes all = record { none = λ begun. none_from bytes begun all; rest = λ begun. rest_all bytes begun all }

-- ---- bytes with one

first_from : (bytes begun : List ℕ) → position_or_len is_feed bytes < length bytes
    → lines_from begun bytes ≡ (begun ++ take (position_or_len is_feed bytes) bytes) ∷ lines_from [] (drop (suc (position_or_len is_feed bytes)) bytes)
first_from [] begun within = absurd (omega arith)
first_from (byte ∷ bytes) begun within = elim (cases_Bool (is_feed byte)) [
  | inl feed ↦
      rw (place-feed byte bytes feed)
      (ap (λ b. cond b (begun ∷ lines_from [] bytes) (lines_from (begun ++ byte ∷ []) bytes)) feed
      ∙ ap (λ line. line ∷ lines_from [] bytes) (sym (append-nil begun)))
  | inr other ↦
      let at : position_or_len is_feed (byte ∷ bytes) ≡ suc (position_or_len is_feed bytes) = place-other byte bytes other in
      let later : position_or_len is_feed bytes < length bytes = omega arith in
      rw at
      (ap (λ b. cond b (begun ∷ lines_from [] bytes) (lines_from (begun ++ byte ∷ []) bytes)) other
      ∙ first_from bytes (begun ++ byte ∷ []) later
      ∙ ap (λ line. line ∷ lines_from [] (drop (suc (position_or_len is_feed bytes)) bytes)) (append_assoc begun (byte ∷ []) (take (position_or_len is_feed bytes) bytes)))
]

rest_behind : (bytes begun : List ℕ) → position_or_len is_feed bytes < length bytes
    → rest_from begun bytes ≡ rest_from [] (drop (suc (position_or_len is_feed bytes)) bytes)
rest_behind [] begun within = absurd (omega arith)
rest_behind (byte ∷ bytes) begun within = elim (cases_Bool (is_feed byte)) [
  | inl feed ↦
      rw (place-feed byte bytes feed) (ap (λ b. cond b (rest_from [] bytes) (rest_from (begun ++ byte ∷ []) bytes)) feed)
  | inr other ↦
      let at : position_or_len is_feed (byte ∷ bytes) ≡ suc (position_or_len is_feed bytes) = place-other byte bytes other in
      let later : position_or_len is_feed bytes < length bytes = omega arith in
      rw at
      (ap (λ b. cond b (rest_from [] bytes) (rest_from (begun ++ byte ∷ []) bytes)) other
      ∙ rest_behind bytes (begun ++ byte ∷ []) later)
]

-- what is cut at that place, and the byte there left out
pub begins : (bytes line rest : List ℕ) (place : ℕ) → place ≡ position_or_len is_feed bytes → place < length bytes
    → line ≡ take place bytes → rest ≡ drop (suc place) bytes → BeginsWithLine bytes line rest
begins bytes line rest place at within is_line is_rest = record {
  first = λ begun. rw (is_line, is_rest, at) (first_from bytes begun (rw at at within));
  rest = λ begun. rw (is_rest, at) (rest_behind bytes begun (rw at at within));
}

drop_one : (place : ℕ) (bytes : List ℕ) → drop 1 (drop place bytes) ≡ drop (suc place) bytes
drop_one zero [] = refl
drop_one zero (byte ∷ bytes) = refl
drop_one (suc place) [] = refl
drop_one (suc place) (byte ∷ bytes) = drop_one place bytes

-- what stands behind the byte at that place
pub behind : (bytes rest : List ℕ) (place : ℕ) → rest ≡ drop place bytes → take (length rest - 1) (drop 1 rest) ≡ drop (suc place) bytes
behind bytes rest place is_rest =
    take_all (length rest - 1) (drop 1 rest) (omega (arith, length-drop 1 rest))
    ∙ ap (λ xs. drop 1 xs) is_rest ∙ drop_one place bytes

-- ---- what is kept of a line

kept_more : (begun piece : List ℕ) (most room : ℕ) → length begun ≤ most → room ≡ min (length piece) (most - length begun)
    → begun ++ take room piece ≡ take most (begun ++ piece)
kept_more begun piece most room small is_room = elim (cases_lt (most - length begun) (length piece)) [
  | inl more ↦
      let at : most ≡ length begun + room = omega arith in
      sym (ap (λ n. take n (begun ++ piece)) at ∙ take-append-add begun piece room)
  | inr fits ↦
      ap (λ part. begun ++ part) (take_all room piece (omega arith))
      ∙ sym (take_all most (begun ++ piece) (omega (arith, length-append begun piece)))
]

pub kept_on_ok : {T E : Type 0} (r : Result T E) (new begun piece : List ℕ) (most room : ℕ) → length begun ≤ most
    → room ≡ min (length piece) (most - length begun) → new ≡ cond (is_ok r) (begun ++ take room piece) begun
    → OnOk r (new ≡ take most (begun ++ piece))
kept_on_ok (Ok x) new begun piece most room small is_room is_new = is_new ∙ kept_more begun piece most room small is_room
kept_on_ok (Err e) new begun piece most room small is_room is_new = tt
