-- Strings, one step after the other.
use Rattle.std.proofs.Common.{◌≡◌, ℕ, ◌+◌, ◌*◌, Bool, true, false, cond, List, [], ◌∷◌, ◌++◌, Option, Some, None, refl, sym, ap, subst, ◌∙◌, append_assoc, Bor}
use Rattle.std.specs.Prelude.{nat_eq}
use Rattle.std.proofs.lemmas.List.{append-nil}
use Rattle.wat_syntax.specs.declared.lexer.strings.Part.{Part}
use Rattle.wat_syntax.specs.declared.lexer.strings.Part.TheVariants as part
use Rattle.wat_syntax.specs.inside.Follows.{◌>>=◌, FollowsSome}
use Rattle.wat_syntax.specs.Quoted.{needs_no_escape}
use Rattle.wat_syntax.specs.inside.Strings.{hex_digit, plain, escape, digit, onto, quote_at, string_of, escape_at, step_at}

some_same : {A : Type 0} (x y : A) → ◌≡◌ {A = Option A} (Some x) (Some y) → x ≡ y
some_same x y e = cc

-- what a step is, where bytes and a rest are read
abbrev pub Steps : Option (Part × List ℕ) → List ℕ → List ℕ → Type 0
Steps None bytes rest = ⊥
Steps (Some (part.End, after)) bytes rest = (bytes ≡ []) × (after ≡ rest)
Steps (Some (part.Byte b, after)) bytes rest = (more : List ℕ) × (quote_at plain after ≡ Some (more, rest)) × (bytes ≡ b ∷ more)
Steps (Some (part.Character c, after)) bytes rest = ⊥

onto_parts : (b : ℕ) (read : Option (List ℕ × List ℕ)) (bytes rest : List ℕ) → onto b read ≡ Some (bytes, rest)
    → (more : List ℕ) × (read ≡ Some (more, rest)) × (bytes ≡ b ∷ more)
onto_parts b None bytes rest e = absurd cc
onto_parts b (Some x) bytes rest e =
    let same : ◌≡◌ {A = List ℕ × List ℕ} (b ∷ x.0, x.1) (bytes, rest) = some_same (b ∷ x.0, x.1) (bytes, rest) e in
    (x.0, ap (λ (r : List ℕ). Some (x.0, r)) (ap (λ (y : List ℕ × List ℕ). y.1) same), sym (ap (λ (y : List ℕ × List ℕ). y.0) same))

two_digits : (o p : Option ℕ) (after bytes rest : List ℕ)
    → (o >>= λ high. p >>= λ low. onto (high * 16 + low) (quote_at plain after)) ≡ Some (bytes, rest)
    → Steps (o >>= λ high. p >>= λ low. Some (part.Byte (high * 16 + low), after)) bytes rest
two_digits None p after bytes rest e = absurd cc
two_digits (Some high) None after bytes rest e = absurd cc
two_digits (Some high) (Some low) after bytes rest e = onto_parts (high * 16 + low) (quote_at plain after) bytes rest e

one_digit : (o : Option ℕ) (x : List ℕ × List ℕ) → (o >>= λ high. quote_at (digit high) []) ≡ Some x → ⊥
unfolding quote_at
one_digit None x e = absurd cc
one_digit (Some high) x e = absurd cc

escape_steps : (bs bytes rest : List ℕ) → quote_at escape bs ≡ Some (bytes, rest) → Steps (escape_at bs) bytes rest
unfolding quote_at
escape_steps [] bytes rest e = absurd cc
escape_steps (h ∷ []) bytes rest e = absurd (one_digit (hex_digit h) (bytes, rest) e)
escape_steps (h ∷ l ∷ after) bytes rest e = two_digits (hex_digit h) (hex_digit l) after bytes rest e

by_tests : (ends escapes itself : Bool) (b : ℕ) (bs bytes rest : List ℕ)
    → cond ends (Some ([], bs)) (cond escapes (quote_at escape bs) (cond itself (onto b (quote_at plain bs)) None)) ≡ Some (bytes, rest)
    → Steps (cond ends (Some (part.End, bs)) (cond escapes (escape_at bs) (cond itself (Some (part.Byte b, bs)) None))) bytes rest
by_tests true escapes itself b bs bytes rest e =
    let same : ◌≡◌ {A = List ℕ × List ℕ} ([], bs) (bytes, rest) = some_same ([], bs) (bytes, rest) e in
    (sym (ap (λ (y : List ℕ × List ℕ). y.0) same), ap (λ (y : List ℕ × List ℕ). y.1) same)
by_tests false true itself b bs bytes rest e = escape_steps bs bytes rest e
by_tests false false true b bs bytes rest e = onto_parts b (quote_at plain bs) bytes rest e
by_tests false false false b bs bytes rest e = absurd cc

pub steps : (bs bytes rest : List ℕ) → quote_at plain bs ≡ Some (bytes, rest) → Steps (step_at bs) bytes rest
unfolding quote_at
steps [] bytes rest e = absurd cc
steps (b ∷ bs) bytes rest e = by_tests (nat_eq b 34) (nat_eq b 92) (needs_no_escape b) b bs bytes rest e

-- the same of what the function returns
abbrev pub Stepped : Option (Part × Bor (List ℕ)) → List ℕ → List ℕ → Type 0
Stepped None bytes rest = ⊥
Stepped (Some x) bytes rest = Steps (Some (x.0, x.1.now)) bytes rest

follows_steps : (r : Option (Part × Bor (List ℕ))) (o : Option (Part × List ℕ)) (bytes rest : List ℕ) → FollowsSome (λ x. (x.0, x.1.now)) r o → Steps o bytes rest → Stepped r bytes rest
follows_steps r None bytes rest f s = absurd s
follows_steps None (Some y) bytes rest f s = absurd f
follows_steps (Some x) (Some y) bytes rest f s = subst (λ (z : Part × List ℕ). Steps (Some z) bytes rest) (sym f) s

pub stepped : (text : List ℕ) (r : Option (Part × Bor (List ℕ))) (bytes rest : List ℕ) → FollowsSome (λ x. (x.0, x.1.now)) r (step_at text) → quote_at plain text ≡ Some (bytes, rest) → Stepped r bytes rest
stepped text r bytes rest f e = follows_steps r (step_at text) bytes rest f (steps text bytes rest e)

-- ---- bytes alone

pub string_parts : (text bytes : List ℕ) → string_of text ≡ Some bytes → (rest : List ℕ) × (quote_at plain text ≡ Some (bytes, rest))
string_parts text bytes e = parts (quote_at plain text) refl e
  where
    parts : (read : Option (List ℕ × List ℕ)) → quote_at plain text ≡ read → (read >>= λ x. Some x.0) ≡ Some bytes → (rest : List ℕ) × (quote_at plain text ≡ Some (bytes, rest))
    parts None f e = absurd cc
    parts (Some x) f e = (x.1, f ∙ ap (λ (b : List ℕ). Some (b, x.1)) (some_same x.0 bytes e))

pub string_is : (text bytes rest : List ℕ) → quote_at plain text ≡ Some (bytes, rest) → string_of text ≡ Some bytes
string_is text bytes rest e = ap (λ (read : Option (List ℕ × List ℕ)). read >>= λ x. Some x.0) e

pub string_steps : (text : List ℕ) (r : Option (Part × Bor (List ℕ))) (bytes : List ℕ) → FollowsSome (λ x. (x.0, x.1.now)) r (step_at text) → string_of text ≡ Some bytes
    → (rest : List ℕ) × Stepped r bytes rest
string_steps text r bytes f e = let p = string_parts text bytes e in (p.0, stepped text r bytes p.0 f p.1)

-- ---- the loop that keeps the bytes

abbrev pub Continues : List ℕ → List ℕ → List ℕ → Type 0
Continues front rest total = (more : List ℕ) × (string_of rest ≡ Some more) × (total ≡ front ++ more)

pub goes_on : (front text : List ℕ) (r : Option (Part × Bor (List ℕ))) (b : ℕ) (after : Bor (List ℕ)) (total : List ℕ) → r ≡ Some (part.Byte b, after)
    → FollowsSome (λ x. (x.0, x.1.now)) r (step_at text) → Continues front text total → Continues (front ++ b ∷ []) after.now total
goes_on front text r b after total is f (more, e, same) =
    let s = string_steps text (Some (part.Byte b, after)) more (subst (λ (x : Option (Part × Bor (List ℕ))). FollowsSome (λ y. (y.0, y.1.now)) x (step_at text)) is f) e in
    (s.1.0, string_is after.now s.1.0 s.0 s.1.1, same ∙ ap (λ (m : List ℕ). front ++ m) s.1.2 ∙ sym (append_assoc front (b ∷ []) s.1.0))

pub ends : (front text : List ℕ) (r : Option (Part × Bor (List ℕ))) (after : Bor (List ℕ)) (total : List ℕ) → r ≡ Some (part.End, after)
    → FollowsSome (λ x. (x.0, x.1.now)) r (step_at text) → Continues front text total → front ≡ total
ends front text r after total is f (more, e, same) =
    let s = string_steps text (Some (part.End, after)) more (subst (λ (x : Option (Part × Bor (List ℕ))). FollowsSome (λ y. (y.0, y.1.now)) x (step_at text)) is f) e in
    sym (same ∙ ap (λ (m : List ℕ). front ++ m) s.1.0 ∙ append-nil front)

pub no_character : (front text : List ℕ) (r : Option (Part × Bor (List ℕ))) (c : ℕ) (after : Bor (List ℕ)) (total : List ℕ) → r ≡ Some (part.Character c, after)
    → FollowsSome (λ x. (x.0, x.1.now)) r (step_at text) → Continues front text total → ⊥
no_character front text r c after total is f (more, e, same) =
    let s = string_steps text (Some (part.Character c, after)) more (subst (λ (x : Option (Part × Bor (List ℕ))). FollowsSome (λ y. (y.0, y.1.now)) x (step_at text)) is f) e in s.1

pub not_ended : (front text : List ℕ) (r : Option (Part × Bor (List ℕ))) (total : List ℕ) → r ≡ None
    → FollowsSome (λ x. (x.0, x.1.now)) r (step_at text) → Continues front text total → ⊥
not_ended front text r total is f (more, e, same) =
    let s = string_steps text None more (subst (λ (x : Option (Part × Bor (List ℕ))). FollowsSome (λ y. (y.0, y.1.now)) x (step_at text)) is f) e in s.1

pub nothing_there : (bytes : List ℕ) → string_of [] ≡ Some bytes → ⊥
unfolding quote_at
nothing_there bytes e = cc

-- ---- the loop that looks for the end

pub goes_behind : (text : List ℕ) (r : Option (Part × Bor (List ℕ))) (bytes rest : List ℕ) (b : ℕ) (after : Bor (List ℕ)) → r ≡ Some (part.Byte b, after)
    → FollowsSome (λ x. (x.0, x.1.now)) r (step_at text) → quote_at plain text ≡ Some (bytes, rest) → (more : List ℕ) × (quote_at plain after.now ≡ Some (more, rest))
goes_behind text r bytes rest b after is f e =
    let s = stepped text (Some (part.Byte b, after)) bytes rest (subst (λ (x : Option (Part × Bor (List ℕ))). FollowsSome (λ y. (y.0, y.1.now)) x (step_at text)) is f) e in
    (s.0, s.1)

pub no_character_behind : (text : List ℕ) (r : Option (Part × Bor (List ℕ))) (bytes rest : List ℕ) (c : ℕ) (after : Bor (List ℕ)) → r ≡ Some (part.Character c, after)
    → FollowsSome (λ x. (x.0, x.1.now)) r (step_at text) → quote_at plain text ≡ Some (bytes, rest) → ⊥
no_character_behind text r bytes rest c after is f e =
    stepped text (Some (part.Character c, after)) bytes rest (subst (λ (x : Option (Part × Bor (List ℕ))). FollowsSome (λ y. (y.0, y.1.now)) x (step_at text)) is f) e

pub ends_at : (text : List ℕ) (r : Option (Part × Bor (List ℕ))) (bytes rest : List ℕ) (after : Bor (List ℕ)) → r ≡ Some (part.End, after)
    → FollowsSome (λ x. (x.0, x.1.now)) r (step_at text) → quote_at plain text ≡ Some (bytes, rest) → after.now ≡ rest
ends_at text r bytes rest after is f e =
    let s = stepped text (Some (part.End, after)) bytes rest (subst (λ (x : Option (Part × Bor (List ℕ))). FollowsSome (λ y. (y.0, y.1.now)) x (step_at text)) is f) e in
    s.1

pub none_behind : (text : List ℕ) (r : Option (Part × Bor (List ℕ))) (bytes rest : List ℕ) → r ≡ None
    → FollowsSome (λ x. (x.0, x.1.now)) r (step_at text) → quote_at plain text ≡ Some (bytes, rest) → ⊥
none_behind text r bytes rest is f e =
    stepped text None bytes rest (subst (λ (x : Option (Part × Bor (List ℕ))). FollowsSome (λ y. (y.0, y.1.now)) x (step_at text)) is f) e
