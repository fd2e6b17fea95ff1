-- Names that were seen, and names that are distinct.
use Rattle.std.proofs.Common.{◌≡◌, ◌≢◌, ℕ, suc, ◌+◌, ◌<◌, List, [], ◌∷◌, ◌++◌, length, Bool, true, false, cond, ◌||◌, map, take, drop, get_or, refl, sym, ap, ◌∙◌, bytes_eq}
use Rattle.std.specs.List.{AllByRecursion, list_any}
use Rattle.std.specs.Borrow.{Bor}
use Rattle.std.specs.BTreeSet.{BTreeSet, contains_by}
use Rattle.std.specs.Cmp.Lexicographic.{slice_cmp}
use Rattle.std.specs.Ordering.{nat_cmp, is_eq}
use Rattle.std.proofs.Math.Seq.{drop-cons}
use Rattle.std.proofs.lemmas.List.{take_more, map-append, take-append-drop}
use Rattle.std.proofs.lemmas.Map.Text.{is_eq-slice_cmp}
use Rattle.std.proofs.lemmas.Slice.Eq.{bytes_eq-Decides}
use Rattle.wasm_ast.specs.declared.module.Export.{Export}
use Rattle.verified.specs.Modules.{name_of_export, AreDistinct}

-- whether the name is one of them
abbrev pub is_among : List (List ℕ) → List ℕ → Bool
is_among names name = list_any (λ n. bytes_eq n name) names

equal : (xs ys : List ℕ) → bytes_eq xs ys ≡ true → xs ≡ ys
equal xs ys = (bytes_eq-Decides xs ys).0

same : (xs : List ℕ) → bytes_eq xs xs ≡ true
same xs = (bytes_eq-Decides xs xs).1 refl

neither : (a b : Bool) → a || b ≡ false → (a ≡ false) × (b ≡ false)
neither true b e = absurd cc
neither false b e = (refl, e)

or_cond : (a b c : Bool) → a || cond b true c ≡ cond b true (a || c)
or_cond true true c = refl
or_cond true false c = refl
or_cond false b c = refl

pub is_among-push : (names : List (List ℕ)) (new name : List ℕ) → is_among (names ++ new ∷ []) name ≡ cond (bytes_eq new name) true (is_among names name)
is_among-push [] new name = last (bytes_eq new name)
  where
    last : (b : Bool) → b || false ≡ cond b true false
    last true = refl
    last false = refl
is_among-push (n ∷ names) new name =
    ap (λ b. bytes_eq n name || b) (is_among-push names new name) ∙ or_cond (bytes_eq n name) (bytes_eq new name) (is_among names name)

others_differ : (names : List (List ℕ)) (x new : List ℕ) → AllByRecursion (λ y. y ≢ x) names → new ≢ x → AllByRecursion (λ y. y ≢ x) (names ++ new ∷ [])
others_differ [] x new a d = (d, tt)
others_differ (n ∷ names) x new a d = (a.0, others_differ names x new a.1 d)

pub AreDistinct-push : (names : List (List ℕ)) (new : List ℕ) → AreDistinct names → is_among names new ≡ false → AreDistinct (names ++ new ∷ [])
AreDistinct-push [] new d e = (tt, tt)
AreDistinct-push (x ∷ names) new d e =
    let n = neither (bytes_eq x new) (is_among names new) e in
    let differs : new ≢ x = λ (p : new ≡ x). let q : bytes_eq x new ≡ true = ap (bytes_eq x) p ∙ same x in absurd (cc (n.0, q)) in
    (others_differ names x new d.0 differs, AreDistinct-push names new d.1 n.1)

differs_from : (names rest : List (List ℕ)) (x new : List ℕ) → AllByRecursion (λ y. y ≢ x) (names ++ new ∷ rest) → new ≢ x
differs_from [] rest x new a = a.0
differs_from (n ∷ names) rest x new a = differs_from names rest x new a.1

either : (a b : Bool) → a || b ≡ true → a ≡ false → b ≡ true
either true b e f = absurd cc
either false b e f = e

pub twice : (names rest : List (List ℕ)) (new : List ℕ) → is_among names new ≡ true → AreDistinct (names ++ new ∷ rest) → ⊥
twice [] rest new e d = absurd cc
twice (x ∷ names) rest new e d = by_head (λ f. twice names rest new f d.1) (bytes_eq x new) refl
  where
    by_head : (is_among names new ≡ true → ⊥) → (b : Bool) → bytes_eq x new ≡ b → ⊥
    by_head later true p = differs_from names rest x new d.0 (sym (equal x new p))
    by_head later false p = later (either (bytes_eq x new) (is_among names new) e p)

-- the names of exports, one more at a time
pub names_more : (es : List Export) (i : ℕ) (e : Export) → i < length es → e ≡ get_or es i e → map name_of_export (take (i + 1) es) ≡ map name_of_export (take i es) ++ e.name ∷ []
names_more es i e h r =
    ap (map name_of_export) (take_more es i e h ∙ ap (λ x. take i es ++ x ∷ []) (sym r)) ∙ map-append name_of_export (take i es) (e ∷ [])

pub names_split : (es : List Export) (i : ℕ) (e : Export) → i < length es → e ≡ get_or es i e → map name_of_export es ≡ map name_of_export (take i es) ++ e.name ∷ map name_of_export (drop (suc i) es)
names_split es i e h r =
    let whole : take i es ++ (e ∷ drop (suc i) es) ≡ es =
    ap (λ x. take i es ++ x ∷ drop (suc i) es) r ∙ ap (λ rest. take i es ++ rest) (sym (drop-cons es i e h)) ∙ take-append-drop i es in
    ap (map name_of_export) (sym whole) ∙ map-append name_of_export (take i es) (e ∷ drop (suc i) es)

-- ---- the set of those that were seen

abbrev pub has_name : BTreeSet (Bor (List ℕ)) → List ℕ → Bool
has_name seen name = contains_by (λ k. slice_cmp nat_cmp name k.now) seen

pub seen_push : (old new : BTreeSet (Bor (List ℕ))) (names : List (List ℕ)) (added : List ℕ) → ((name : List ℕ) → has_name old name ≡ is_among names name) → ((q : Bor (List ℕ)) → has_name new q.now ≡ cond (is_eq (slice_cmp nat_cmp added q.now)) true (has_name old q.now)) → (name : List ℕ) → has_name new name ≡ is_among (names ++ added ∷ []) name
seen_push old new names added before update name =
    update (record { ref_ptr = (0, 0); now = name })
    ∙ ap (λ b. cond b true (has_name old name)) (is_eq-slice_cmp added name)
    ∙ ap (λ b. cond (bytes_eq added name) true b) (before name)
    ∙ sym (is_among-push names added name)
