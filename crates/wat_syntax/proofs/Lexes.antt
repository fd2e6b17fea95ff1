-- Tokens in a loop.
use Rattle.std.proofs.Common.{◌≡◌, ℕ, zero, suc, ◌+◌, Bool, true, false, cond, List, [], ◌∷◌, ◌++◌, length, take, drop, Option, Some, None, Ok, Err, Bor, refl, sym, ap, subst, ◌∙◌, append_assoc, arith}
use Rattle.std.specs.Prelude.{option_map, ⊤, nat_eq, ◌*◌}
use Rattle.std.specs.List.{prefix_len}
use Rattle.std.proofs.lemmas.List.{append-nil, take-append-drop}
use Rattle.wat_syntax.specs.declared.fault.Failure.{Failure}
use Rattle.wat_syntax.specs.declared.lexer.token.Token.{Token}
use Rattle.wat_syntax.specs.inside.Follows.{◌>>=◌, Follows, IsMemory}
use Rattle.wat_syntax.specs.inside.Lexing.{EndsWith, begins_comment, is_blank, one_at, opening_at, quoted_at, read_of, word_at, word_of, listed, tokens_at}
use Rattle.wat_syntax.specs.Words.{is_word}
use Rattle.wat_syntax.specs.Pieces.{Piece}
use Rattle.wat_syntax.specs.Quoted.{needs_no_escape}
use Rattle.wat_syntax.specs.inside.Strings.{Within, plain, escape, digit, hex_digit, onto, quote_at}
use Rattle.wat_syntax.specs.inside.Tokens.{Tok, opens, closes, text, tok_of, toks_of, sorted, ArePiecesHeld, IsPrinted}
use Rattle.wat_syntax.proofs.Spelled.{lexes_printed}

-- ---- what is left is the end of what was there

abbrev Ends : {A : Type 0} → List ℕ → Option (A × List ℕ) → Type 0
Ends bs None = ⊤
Ends bs (Some x) = EndsWith bs x.1

ends_if : {A : Type 0} (bs : List ℕ) (c : Bool) (x y : Option (A × List ℕ)) → Ends bs x → Ends bs y → Ends bs (cond c x y)
ends_if bs true x y h k = h
ends_if bs false x y h k = k

ends_bind : {A B : Type 0} (bs : List ℕ) (o : Option B) (f : B → Option (A × List ℕ)) → ((b : B) → Ends bs (f b)) → Ends bs (o >>= f)
ends_bind bs None f h = tt
ends_bind bs (Some b) f h = h b

ends_onto : (bs : List ℕ) (b : ℕ) (o : Option (List ℕ × List ℕ)) → Ends bs o → Ends bs (onto b o)
ends_onto bs b None h = tt
ends_onto bs b (Some x) h = h

ends_more : {A : Type 0} (b : ℕ) (bs : List ℕ) (o : Option (A × List ℕ)) → Ends bs o → Ends (b ∷ bs) o
ends_more b bs None h = tt
ends_more b bs (Some x) (front, e) = (b ∷ front, ap (λ (s : List ℕ). b ∷ s) e)

tail_ends : (b : ℕ) (bs : List ℕ) → EndsWith (b ∷ bs) bs
tail_ends b bs = (b ∷ [], refl)

quote_ends : (w : Within) (bs : List ℕ) → Ends bs (quote_at w bs)
unfolding quote_at
quote_ends w [] = tt
quote_ends plain (b ∷ bs) =
    ends_if (b ∷ bs) (nat_eq b 34) (Some ([], bs)) _ (tail_ends b bs)
    (ends_if (b ∷ bs) (nat_eq b 92) (quote_at escape bs) _ (ends_more b bs (quote_at escape bs) (quote_ends escape bs))
    (ends_if (b ∷ bs) (needs_no_escape b) (onto b (quote_at plain bs)) None (ends_more b bs (onto b (quote_at plain bs)) (ends_onto bs b (quote_at plain bs) (quote_ends plain bs))) tt))
quote_ends escape (b ∷ bs) = ends_bind (b ∷ bs) (hex_digit b) (λ high. quote_at (digit high) bs) (λ high. ends_more b bs (quote_at (digit high) bs) (quote_ends (digit high) bs))
quote_ends (digit high) (b ∷ bs) =
    ends_bind (b ∷ bs) (hex_digit b) (λ low. onto (high * 16 + low) (quote_at plain bs))
    (λ low. ends_more b bs (onto (high * 16 + low) (quote_at plain bs)) (ends_onto bs (high * 16 + low) (quote_at plain bs) (quote_ends plain bs)))

quoted_ends : (bs : List ℕ) → Ends bs (quoted_at bs)
quoted_ends bs = by_read (quote_at plain bs) (quote_ends plain bs)
  where
    by_read : (o : Option (List ℕ × List ℕ)) → Ends bs o → Ends bs (o >>= λ x. Some (Some (text x.0), x.1))
    by_read None h = tt
    by_read (Some x) h = h

word_ends : (bs : List ℕ) → Ends bs (word_at bs)
unfolding word_at
word_ends bs =
    ends_bind bs (word_of (take (prefix_len is_word bs) bs)) (λ t. Some (Some t, drop (prefix_len is_word bs) bs))
    (λ t. (take (prefix_len is_word bs) bs, sym (take-append-drop (prefix_len is_word bs) bs)))

one_ends : (bs : List ℕ) → Ends bs (one_at bs)
unfolding one_at
one_ends [] = tt
one_ends (b ∷ bs) =
    ends_if (b ∷ bs) (is_blank b) (Some (None, bs)) _ (tail_ends b bs)
    (ends_if (b ∷ bs) (nat_eq b 41) (Some (Some closes, bs)) _ (tail_ends b bs)
    (ends_if (b ∷ bs) (nat_eq b 40) (opening_at bs) _ (ends_if (b ∷ bs) (begins_comment bs) None (Some (Some opens, bs)) tt (tail_ends b bs))
    (ends_if (b ∷ bs) (nat_eq b 59) None _ tt
    (ends_if (b ∷ bs) (nat_eq b 34) (quoted_at bs) (word_at (b ∷ bs)) (ends_more b bs (quoted_at bs) (quoted_ends bs)) (word_ends (b ∷ bs))))))

-- ---- one token after the other

bind_some : {A B : Type 0} (r : Option A) (f : A → Option B) (y : B) → (r >>= f) ≡ Some y → (x : A) × (r ≡ Some x) × (f x ≡ Some y)
bind_some (Some x) f y e = (x, refl, e)
bind_some None f y e = absurd cc

-- what was read before, and what is read in the rest
abbrev pub Continues : List ℕ → List Tok → List ℕ → List Tok → Type 0
Continues source front rest total = (n : ℕ) × (more : List Tok) × (tokens_at n rest ≡ Some more) × (total ≡ front ++ more) × EndsWith source rest

-- where tokens are read at all, one is
first_read : (n b : ℕ) (bs : List ℕ) (more : List Tok) → tokens_at n (b ∷ bs) ≡ Some more
    → (x : Option Tok × List ℕ) × (m : ℕ) × (others : List Tok) × (one_at (b ∷ bs) ≡ Some x) × (tokens_at m x.1 ≡ Some others) × (more ≡ listed x.0 others)
unfolding tokens_at
first_read zero b bs more e = absurd cc
first_read (suc n) b bs more e =
    let p = bind_some (one_at (b ∷ bs)) (λ one. tokens_at n one.1 >>= λ others. Some (listed one.0 others)) more e in
    let q = bind_some (tokens_at n p.0.1) (λ others. Some (listed p.0.0 others)) more p.2 in
    let same : listed p.0.0 q.0 ≡ more = cc (q.2) in
    (p.0, n, q.0, p.1, q.1, sym same)

listed-append : (front : List Tok) (t : Option Tok) (others : List Tok) → front ++ listed t others ≡ (front ++ listed t []) ++ others
listed-append front None others = ap (λ (f : List Tok). f ++ others) (sym (append-nil front))
listed-append front (Some t) others = sym (append_assoc front (t ∷ []) others)

ends_trans : (source rest after : List ℕ) → EndsWith source rest → EndsWith rest after → EndsWith source after
ends_trans source rest after (f, e) (g, k) = (f ++ g, e ∙ ap (λ (r : List ℕ). f ++ r) k ∙ sym (append_assoc f g after))

abbrev Told : Option Tok × List ℕ → Option (Option Tok × List ℕ) → Type 0
Told x None = ⊤
Told x (Some y) = x ≡ y

told : (o : Option (Option Tok × List ℕ)) (x y : Option Tok × List ℕ) → o ≡ Some y → Told x o → x ≡ y
told None x y e h = absurd cc
told (Some z) x y e h = let same : z ≡ y = cc in h ∙ same

ended : (bs : List ℕ) (o : Option (Option Tok × List ℕ)) (y : Option Tok × List ℕ) → o ≡ Some y → Ends bs o → EndsWith bs y.1
ended bs None y e h = absurd cc
ended bs (Some z) y e h = let same : z ≡ y = cc in subst (λ (x : Option Tok × List ℕ). EndsWith bs x.1) same h

as_told : (source : List ℕ) (t : Option Token) (after : Bor (List ℕ)) (o : Option (Option Tok × List ℕ)) → Follows (read_of source) (Ok (t, after)) o → Told (option_map (tok_of source) t, after.now) o
as_told source t after None h = tt
as_told source t after (Some y) h = h

pub goes_on : (source rest : List ℕ) (front : List Tok) (t : Option Token) (after : Bor (List ℕ)) (total : List Tok) → (length rest ≡ 0 → ⊥)
    → Follows (read_of source) (Ok (t, after)) (one_at rest) → Continues source front rest total
    → Continues source (front ++ listed (option_map (tok_of source) t) []) after.now total
goes_on source [] front t after total some h c = absurd (some refl)
goes_on source (b ∷ bs) front t after total some h (n, more, e, same, ends) =
    let p = first_read n b bs more e in
    let x : Option Tok × List ℕ = (option_map (tok_of source) t, after.now) in
    let is : x ≡ p.0 = told (one_at (b ∷ bs)) x p.0 p.3 (as_told source t after (one_at (b ∷ bs)) h) in
    let here : after.now ≡ p.0.1 = ap (λ (y : Option Tok × List ℕ). y.1) is in
    let token : option_map (tok_of source) t ≡ p.0.0 = ap (λ (y : Option Tok × List ℕ). y.0) is in (
      p.1,
      p.2,
      ap (tokens_at p.1) here ∙ p.4,
      same ∙ ap (λ (m : List Tok). front ++ m) p.5 ∙ ap (λ (o : Option Tok). front ++ listed o p.2) (sym token)
          ∙ listed-append front (option_map (tok_of source) t) p.2,
      subst (λ (r : List ℕ). EndsWith source r) (sym here) (ends_trans source (b ∷ bs) p.0.1 ends (ended (b ∷ bs) (one_at (b ∷ bs)) p.0 p.3 (one_ends (b ∷ bs)))),
    )

as_memory : (source : List ℕ) (d : Failure) (o : Option (Option Tok × List ℕ)) (y : Option Tok × List ℕ) → o ≡ Some y → Follows (read_of source) (Err d) o → IsMemory d
as_memory source d None y e h = absurd cc
as_memory source d (Some z) y e h = h

pub fails : (source rest : List ℕ) (front : List Tok) (d : Failure) (total : List Tok) → (length rest ≡ 0 → ⊥)
    → Follows (read_of source) (Err d) (one_at rest) → Continues source front rest total → IsMemory d
fails source [] front d total some h c = absurd (some refl)
fails source (b ∷ bs) front d total some h (n, more, e, same, ends) =
    let p = first_read n b bs more e in as_memory source d (one_at (b ∷ bs)) p.0 p.3 h

nothing_read : (n : ℕ) (more : List Tok) → tokens_at n [] ≡ Some more → [] ≡ more
unfolding tokens_at
nothing_read zero more e = cc
nothing_read (suc n) more e = cc

pub is_done : (source rest : List ℕ) (front total : List Tok) → length rest ≡ 0 → Continues source front rest total → front ≡ total
is_done source [] front total none (n, more, e, same, ends) =
    sym (same ∙ ap (λ (x : List Tok). front ++ x) (sym (nothing_read n more e)) ∙ append-nil front)
is_done source (b ∷ bs) front total none c = absurd (omega arith)

pub starts : (source : List ℕ) (front : List Tok) (ps : List Piece) → front ≡ [] → ArePiecesHeld ps → IsPrinted source ps → Continues source front source (sorted ps)
starts source front ps none held printed =
    let l = lexes_printed ps held in
    (l.0, sorted ps, ap (tokens_at l.0) printed ∙ l.1, ap (λ (f : List Tok). f ++ sorted ps) (sym none), ([], refl))

pub pushed : (source : List ℕ) (ts : List Token) (t : Token) → toks_of source (ts ++ t ∷ []) ≡ toks_of source ts ++ listed (option_map (tok_of source) (Some t)) []
pushed source [] t = refl
pushed source (x ∷ xs) t = ap (λ (r : List Tok). tok_of source x ∷ r) (pushed source xs t)
