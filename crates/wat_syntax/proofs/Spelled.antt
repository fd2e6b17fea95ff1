-- What is printed is cut into the tokens that it means.
use Rattle.std.proofs.Common.{◌≡◌, ◌<◌, ◌≤◌, ◌^◌, ◌*◌, ℕ, ℤ, pos, negsuc, zero, suc, Bool, true, false, List, [], ◌∷◌, ◌++◌, length, take, drop, Option, Some, None, refl, sym, ap, subst, ◌∙◌, append_assoc, replicate, arith}
use Rattle.std.specs.Prelude.{not, nat_lt, codes}
use Rattle.std.specs.List.{prefix_len, AllByRecursion}
use Rattle.std.specs.Char.{is_ascii_digit}
use Rattle.std.specs.Fmt.{decimal, signed_decimal}
use Rattle.std.specs.Str.{all_ascii_digits}
use Rattle.std.proofs.lemmas.Bool.{ne_eqb}
use Rattle.std.proofs.lemmas.Bool.Decides.{nat_tests}
use Rattle.std.proofs.lemmas.Fmt.{digits_decimal, decimal_nonempty}
use Rattle.wat_syntax.specs.declared.pieces.Gap.{Gap}
use Rattle.wat_syntax.specs.declared.pieces.Gap.TheVariants as gap
use Rattle.wat_syntax.specs.Keywords.{keyword_text}
use Rattle.wat_syntax.specs.inside.Lexing.{begins_with_digit, numeral_of, plain_of, word_of, word_at, one_at, listed, tokens_at}
use Rattle.wat_syntax.specs.Words.{is_word}
use Rattle.wat_syntax.specs.Pieces.{Piece, indent, gap_text, piece_text}
use Rattle.wat_syntax.specs.Pieces as piece
use Rattle.wat_syntax.specs.Quoted.{quoted}
use Rattle.wat_syntax.specs.inside.Tokens.{Tok, opens, closes, key, number, signed, offset_is, align_is, text, number_of, onto_sorted, sorted, IsSignedHeld, IsPieceHeld, ArePiecesHeld}
use Rattle.wat_syntax.proofs.Scanner.{IsOther, one_at-other}
use Rattle.wat_syntax.proofs.Escapes.{quoted_again}
use Rattle.wat_syntax.proofs.KeywordWords.{keyword_word, keyword_reads}
use Rattle.wat_syntax.proofs.Numerals.{own, and_parts, numeral_again, decimal_begins}
use Rattle.wat_syntax.proofs.WordText.{all_word, IsWordText}

abbrev pub Lexes : List ℕ → List Tok → Type 0
Lexes bytes ts = (n : ℕ) × (tokens_at n bytes ≡ Some ts)

then_one : (b : ℕ) (bs after : List ℕ) (t : Option Tok) (ts : List Tok) → one_at (b ∷ bs) ≡ Some (t, after) → Lexes after ts → Lexes (b ∷ bs) (listed t ts)
unfolding tokens_at
then_one b bs after t ts e (n, h) = (suc n, rw (e, h) refl)

pub lexes_end : Lexes [] []
unfolding tokens_at
lexes_end = (zero, refl)

-- ---- blanks and parentheses

lexes_space : (bs : List ℕ) (ts : List Tok) → Lexes bs ts → Lexes (32 ∷ bs) ts
unfolding one_at
lexes_space bs ts h = then_one 32 bs bs None ts refl h

pub lexes_feed : (bs : List ℕ) (ts : List Tok) → Lexes bs ts → Lexes (10 ∷ bs) ts
unfolding one_at
lexes_feed bs ts h = then_one 10 bs bs None ts refl h

lexes_spaces : (n : ℕ) (bs : List ℕ) (ts : List Tok) → Lexes bs ts → Lexes (replicate n 32 ++ bs) ts
lexes_spaces zero bs ts h = h
lexes_spaces (suc n) bs ts h = lexes_space (replicate n 32 ++ bs) ts (lexes_spaces n bs ts h)

lexes_gap : (g : Gap) (bs : List ℕ) (ts : List Tok) → Lexes bs ts → Lexes (gap_text g ++ bs) ts
lexes_gap gap.Nothing bs ts h = h
lexes_gap gap.Space bs ts h = lexes_space bs ts h
lexes_gap (gap.Line level) bs ts h = lexes_feed (indent level ++ bs) ts (lexes_spaces (2 * level) bs ts h)

lexes_close : (bs : List ℕ) (ts : List Tok) → Lexes bs ts → Lexes (41 ∷ bs) (closes ∷ ts)
unfolding one_at
lexes_close bs ts h = then_one 41 bs bs (Some closes) ts refl h

-- ---- words

-- no word goes on into this
abbrev pub delimited : List ℕ → Bool
delimited [] = true
delimited (b ∷ bs) = not (is_word b)

word_stops : (rest : List ℕ) → delimited rest ≡ true → prefix_len is_word rest ≡ 0
word_stops [] d = refl
word_stops (b ∷ bs) d = let off : is_word b ≡ false = off_of (is_word b) d in rw off refl
  where
    off_of : (x : Bool) → not x ≡ true → x ≡ false
    off_of true e = cc
    off_of false e = refl

word_len : (w rest : List ℕ) → all_word w ≡ true → delimited rest ≡ true → prefix_len is_word (w ++ rest) ≡ length w
word_len [] rest a d = word_stops rest d
word_len (b ∷ w) rest a d =
    let p = and_parts (is_word b) (all_word w) a in
    rw (p.0, word_len w rest p.1 d) (omega arith)

take_front : (w rest : List ℕ) → take (length w) (w ++ rest) ≡ w
take_front [] rest = refl
take_front (b ∷ w) rest = ap (λ (r : List ℕ). b ∷ r) (take_front w rest)

drop_front : (w rest : List ℕ) → drop (length w) (w ++ rest) ≡ rest
drop_front [] rest = refl
drop_front (b ∷ w) rest = drop_front w rest

is_other : (b : ℕ) → is_word b ≡ true → IsOther b
unfolding is_word
is_other b h = record {
  blank = grind (arith, nat_tests);
  closing = λ e. let z : is_word 41 ≡ true = subst (λ x. is_word x ≡ true) e h in cc;
  opening = λ e. let z : is_word 40 ≡ true = subst (λ x. is_word x ≡ true) e h in cc;
  semicolon = λ e. let z : is_word 59 ≡ true = subst (λ x. is_word x ≡ true) e h in cc;
  quote = λ e. let z : is_word 34 ≡ true = subst (λ x. is_word x ≡ true) e h in cc;
}

word_is : (w rest : List ℕ) (t : Tok) → all_word w ≡ true → word_of w ≡ Some t → delimited rest ≡ true → word_at (w ++ rest) ≡ Some (Some t, rest)
unfolding word_at
word_is w rest t a e d = rw (word_len w rest a d, take_front w rest, drop_front w rest, e) refl

lexes_word : (w rest : List ℕ) (t : Tok) (ts : List Tok) → IsWordText w → word_of w ≡ Some t → delimited rest ≡ true → Lexes rest ts → Lexes (w ++ rest) (t ∷ ts)
lexes_word [] rest t ts h e d l = absurd (omega (arith, h.some))
lexes_word (b ∷ w) rest t ts h e d l =
    let p = and_parts (is_word b) (all_word w) h.each in
    then_one b (w ++ rest) rest (Some t) ts (one_at-other b (w ++ rest) (is_other b p.0) ∙ word_is (b ∷ w) rest t h.each e d) l

lexes_open : (w rest : List ℕ) (t : Tok) (ts : List Tok) → IsWordText w → word_of w ≡ Some t → delimited rest ≡ true → Lexes rest ts → Lexes (40 ∷ (w ++ rest)) (opens ∷ t ∷ ts)
unfolding one_at
lexes_open [] rest t ts h e d l = absurd (omega (arith, h.some))
lexes_open (b ∷ w) rest t ts h e d l =
    let p = and_parts (is_word b) (all_word w) h.each in
    let f = is_other b p.0 in
    let one : one_at (40 ∷ (b ∷ (w ++ rest))) ≡ Some (Some opens, b ∷ (w ++ rest)) = rw (ne_eqb b 59 f.semicolon) refl in
    then_one 40 (b ∷ (w ++ rest)) (b ∷ (w ++ rest)) (Some opens) (t ∷ ts) one (lexes_word (b ∷ w) rest t ts h e d l)

-- ---- numbers

digit_is_word : (c : ℕ) → 48 ≤ c → c ≤ 57 → is_word c ≡ true
unfolding is_word
digit_is_word c lo hi = grind (arith, nat_tests)

digits_are_words : (w : List ℕ) → all_ascii_digits w ≡ true → all_word w ≡ true
digits_are_words [] e = refl
digits_are_words (c ∷ cs) e =
    let p = and_parts (is_ascii_digit c) (all_ascii_digits cs) e in
    let lo : 48 ≤ c = grind (arith, nat_tests) in
    let hi : c ≤ 57 = grind (arith, nat_tests) in
    rw (digit_is_word c lo hi, digits_are_words cs p.1) refl

decimal_is_word : (n : ℕ) → n < 2 ^ 64 → all_word (decimal n) ≡ true
decimal_is_word n small = digits_are_words (decimal n) (digits_decimal own n small)

behind_word : (front : List ℕ) (n : ℕ) → all_word front ≡ true → n < 2 ^ 64 → all_word (front ++ decimal n) ≡ true
behind_word [] n a small = decimal_is_word n small
behind_word (b ∷ bs) n a small =
    let p = and_parts (is_word b) (all_word bs) a in rw (p.0, behind_word bs n p.1 small) refl

lt_test : (a b : ℕ) → a < b → nat_lt a b ≡ true
lt_test a b h = grind arith

digits_read : (w : List ℕ) (n : ℕ) → begins_with_digit w ≡ true → numeral_of w ≡ Some n → word_of w ≡ Some (number n)
unfolding word_of
digits_read [] n d e = absurd cc
digits_read (b ∷ bs) n d e = rw (d, e) refl

number_reads : (n : ℕ) → n < 2 ^ 64 → word_of (decimal n) ≡ Some (number n)
number_reads n small = digits_read (decimal n) n (decimal_begins n small) (numeral_again n small)

negative_reads : (n : ℕ) → n < 2 ^ 63 → word_of (45 ∷ decimal (suc n)) ≡ Some (signed (negsuc n))
unfolding word_of
negative_reads n small =
    let fits : suc n < 2 ^ 64 = omega arith in
    rw (numeral_again (suc n) fits, lt_test n (2 ^ 63) small) refl

offset_reads : (n : ℕ) → n < 2 ^ 32 → word_of (codes "offset=" ++ decimal n) ≡ Some (offset_is n)
unfolding word_of plain_of
offset_reads n small =
    let fits : n < 2 ^ 64 = omega arith in
    rw (numeral_again n fits, lt_test n (2 ^ 32) small) refl

align_reads : (n : ℕ) → n < 2 ^ 32 → word_of (codes "align=" ++ decimal n) ≡ Some (align_is n)
unfolding word_of plain_of
align_reads n small =
    let fits : n < 2 ^ 64 = omega arith in
    rw (numeral_again n fits, lt_test n (2 ^ 32) small) refl

-- ---- pieces

lexes_number : (n : ℕ) (rest : List ℕ) (ts : List Tok) → n < 2 ^ 64 → delimited rest ≡ true → Lexes rest ts → Lexes (32 ∷ (decimal n ++ rest)) (number n ∷ ts)
lexes_number n rest ts small d l =
    lexes_space (decimal n ++ rest) (number n ∷ ts)
    (lexes_word (decimal n) rest (number n) ts (record { some = decimal_nonempty n small; each = decimal_is_word n small }) (number_reads n small) d l)

lexes_signed : (z : ℤ) (rest : List ℕ) (ts : List Tok) → IsSignedHeld z → delimited rest ≡ true → Lexes rest ts → Lexes (32 ∷ (signed_decimal z ++ rest)) (number_of z ∷ ts)
unfolding is_word
lexes_signed (pos n) rest ts small d l = lexes_number n rest ts (omega arith) d l
lexes_signed (negsuc n) rest ts small d l =
    let fits : suc n < 2 ^ 64 = omega arith in
    lexes_space (45 ∷ (decimal (suc n) ++ rest)) (signed (negsuc n) ∷ ts)
    (lexes_word (45 ∷ decimal (suc n)) rest (signed (negsuc n)) ts (record { some = omega arith; each = decimal_is_word (suc n) fits }) (negative_reads n small) d l)

lexes_offset : (n : ℕ) (rest : List ℕ) (ts : List Tok) → n < 2 ^ 32 → delimited rest ≡ true → Lexes rest ts → Lexes ((codes " offset=" ++ decimal n) ++ rest) (offset_is n ∷ ts)
unfolding is_word
lexes_offset n rest ts small d l =
    lexes_space ((codes "offset=" ++ decimal n) ++ rest) (offset_is n ∷ ts)
    (lexes_word (codes "offset=" ++ decimal n) rest (offset_is n) ts (record { some = omega arith; each = behind_word (codes "offset=") n refl (omega arith) }) (offset_reads n small) d l)

lexes_align : (n : ℕ) (rest : List ℕ) (ts : List Tok) → n < 2 ^ 32 → delimited rest ≡ true → Lexes rest ts → Lexes ((codes " align=" ++ decimal n) ++ rest) (align_is n ∷ ts)
unfolding is_word
lexes_align n rest ts small d l =
    lexes_space ((codes "align=" ++ decimal n) ++ rest) (align_is n ∷ ts)
    (lexes_word (codes "align=" ++ decimal n) rest (align_is n) ts (record { some = omega arith; each = behind_word (codes "align=") n refl (omega arith) }) (align_reads n small) d l)

lexes_quoted : (bytes rest : List ℕ) (ts : List Tok) → AllByRecursion (λ b. b < 256) bytes → Lexes rest ts → Lexes (34 ∷ (quoted bytes ++ 34 ∷ rest)) (text bytes ∷ ts)
unfolding one_at
lexes_quoted bytes rest ts h l =
    then_one 34 (quoted bytes ++ 34 ∷ rest) rest (Some (text bytes)) ts (rw (quoted_again bytes rest h) refl) l

text_delimited : (ps : List Piece) (rest : List ℕ) → ArePiecesHeld ps → delimited rest ≡ true → delimited (piece.text ps ++ rest) ≡ true
unfolding piece.text is_word
text_delimited [] rest h d = d
text_delimited (piece.opens gap.Nothing k ∷ ps) rest h d = refl
text_delimited (piece.opens gap.Space k ∷ ps) rest h d = refl
text_delimited (piece.opens (gap.Line level) k ∷ ps) rest h d = refl
text_delimited (piece.says gap.Nothing k ∷ ps) rest h d = absurd h.0
text_delimited (piece.says gap.Space k ∷ ps) rest h d = refl
text_delimited (piece.says (gap.Line level) k ∷ ps) rest h d = refl
text_delimited (piece.counts n ∷ ps) rest h d = refl
text_delimited (piece.signs z ∷ ps) rest h d = refl
text_delimited (piece.offset_is n ∷ ps) rest h d = refl
text_delimited (piece.align_is n ∷ ps) rest h d = refl
text_delimited (piece.quotes bytes ∷ ps) rest h d = refl
text_delimited (piece.closes ∷ ps) rest h d = refl
text_delimited (piece.closes_line level ∷ ps) rest h d = refl

-- one piece before what is left
one_piece : (p : Piece) (rest : List ℕ) (ts : List Tok) → IsPieceHeld p → delimited rest ≡ true → Lexes rest ts → Lexes (piece_text p ++ rest) (onto_sorted p ts)
one_piece (piece.opens g k) rest ts h d l =
    subst (λ (t : List ℕ). Lexes t (opens ∷ key k ∷ ts)) (sym (append_assoc (gap_text g) (40 ∷ keyword_text k) rest))
    (lexes_gap g (40 ∷ (keyword_text k ++ rest)) (opens ∷ key k ∷ ts) (lexes_open (keyword_text k) rest (key k) ts (keyword_word k) (keyword_reads k) d l))
one_piece (piece.says g k) rest ts h d l =
    subst (λ (t : List ℕ). Lexes t (key k ∷ ts)) (sym (append_assoc (gap_text g) (keyword_text k) rest))
    (lexes_gap g (keyword_text k ++ rest) (key k ∷ ts) (lexes_word (keyword_text k) rest (key k) ts (keyword_word k) (keyword_reads k) d l))
one_piece (piece.counts n) rest ts h d l = lexes_number n rest ts (omega arith) d l
one_piece (piece.signs z) rest ts h d l = lexes_signed z rest ts h d l
one_piece (piece.offset_is n) rest ts h d l = lexes_offset n rest ts h d l
one_piece (piece.align_is n) rest ts h d l = lexes_align n rest ts h d l
one_piece (piece.quotes bytes) rest ts h d l =
    lexes_space (34 ∷ ((quoted bytes ++ 34 ∷ []) ++ rest)) (text bytes ∷ ts)
    (subst (λ (t : List ℕ). Lexes (34 ∷ t) (text bytes ∷ ts)) (sym (append_assoc (quoted bytes) (34 ∷ []) rest)) (lexes_quoted bytes rest ts h l))
one_piece piece.closes rest ts h d l = lexes_close rest ts l
one_piece (piece.closes_line level) rest ts h d l =
    subst (λ (t : List ℕ). Lexes (10 ∷ t) (closes ∷ ts)) (sym (append_assoc (indent level) (41 ∷ []) rest))
    (lexes_feed (indent level ++ 41 ∷ rest) (closes ∷ ts) (lexes_spaces (2 * level) (41 ∷ rest) (closes ∷ ts) (lexes_close rest ts l)))

lexes_pieces : (ps : List Piece) (rest : List ℕ) → ArePiecesHeld ps → delimited rest ≡ true → Lexes rest [] → Lexes (piece.text ps ++ rest) (sorted ps)
unfolding piece.text
lexes_pieces [] rest h d l = l
lexes_pieces (p ∷ ps) rest h d l =
    subst (λ (t : List ℕ). Lexes t (onto_sorted p (sorted ps))) (sym (append_assoc (piece_text p) (piece.text ps) rest))
    (one_piece p (piece.text ps ++ rest) (sorted ps) h.0 (text_delimited ps rest h.1 d) (lexes_pieces ps rest h.1 d l))

-- these pieces, and the last line's end
pub lexes_printed : (ps : List Piece) → ArePiecesHeld ps → Lexes (piece.text ps ++ 10 ∷ []) (sorted ps)
unfolding is_word
lexes_printed ps h = lexes_pieces ps (10 ∷ []) h refl (lexes_feed [] [] lexes_end)
