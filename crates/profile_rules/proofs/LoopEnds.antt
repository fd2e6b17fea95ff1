-- How loops begin and end.
use Rattle.std.proofs.Common.{◌≡◌, ◌↔◌, ℕ, suc, ◌-◌, ◌<◌, ◌≤◌, List, [], ◌∷◌, ◌++◌, length, get_or, take, drop, arith, Option, refl, sym, ap, ◌∙◌, subst}
use Rattle.std.proofs.lemmas.List.{drop_all, take-append-drop, length-append}
use Rattle.std.proofs.Math.Seq.{drop-cons}
use Rattle.wasm_ast.specs.declared.types.ValType.TheVariants.{I32}
use Rattle.wasm_ast.specs.declared.numeric.Numeric.TheVariants as numeric
use Rattle.wasm_ast.specs.declared.plain.Plain.TheVariants as plain
use Rattle.wasm_ast.specs.declared.plain.Branch.TheVariants as branch
use Rattle.wasm_ast.specs.declared.body.Instr.{Instr}
use Rattle.wasm_ast.specs.declared.body.Instr.TheVariants as instr
use Rattle.wasm_ast.specs.Code.{Code}
use Rattle.wasm_ast.specs.Code as code
use Rattle.wasm_ast.specs.View.{code_of, then_code}
use Rattle.verified.specs.declared.imports.HostCall.{HostCall}
use Rattle.verified.specs.Shapes.{followed, NamesNot, OpensWithItem, ClosesWithItem}
use Rattle.profile_rules.specs.inside.Closing.{GoesBackWithItem}

-- ---- no loop opens with fewer than three instructions

one_short : (a : Instr) (f l : ℕ) (rest : Code) → then_code a code.end ≡ code.call f (code.plain (plain.Numeric (numeric.Eqz I32)) (code.branch (branch.BrIf l) rest)) → ⊥
one_short (instr.Plain p) f l rest e = absurd cc
one_short (instr.Branch b) f l rest e = absurd cc
one_short (instr.Call g) f l rest e = absurd cc
one_short (instr.CallIndirect t) f l rest e = absurd cc
one_short instr.Unreachable f l rest e = absurd cc
one_short (instr.Block t body) f l rest e = absurd cc
one_short (instr.Loop t body) f l rest e = absurd cc
one_short (instr.If t body other) f l rest e = absurd cc

no_branch : (b : Instr) (l : ℕ) (rest : Code) → then_code b code.end ≡ code.plain (plain.Numeric (numeric.Eqz I32)) (code.branch (branch.BrIf l) rest) → ⊥
no_branch (instr.Plain p) l rest e = absurd cc
no_branch (instr.Branch b) l rest e = absurd cc
no_branch (instr.Call g) l rest e = absurd cc
no_branch (instr.CallIndirect t) l rest e = absurd cc
no_branch instr.Unreachable l rest e = absurd cc
no_branch (instr.Block t body) l rest e = absurd cc
no_branch (instr.Loop t body) l rest e = absurd cc
no_branch (instr.If t body other) l rest e = absurd cc

two_short : (a b : Instr) (f l : ℕ) (rest : Code) → then_code a (then_code b code.end) ≡ code.call f (code.plain (plain.Numeric (numeric.Eqz I32)) (code.branch (branch.BrIf l) rest)) → ⊥
two_short (instr.Plain p) b f l rest e = absurd cc
two_short (instr.Branch x) b f l rest e = absurd cc
two_short (instr.Call g) b f l rest e = no_branch b l rest cc
two_short (instr.CallIndirect t) b f l rest e = absurd cc
two_short instr.Unreachable b f l rest e = absurd cc
two_short (instr.Block t body) b f l rest e = absurd cc
two_short (instr.Loop t body) b f l rest e = absurd cc
two_short (instr.If t body other) b f l rest e = absurd cc

pub too_short : (calls : ℕ → Option HostCall) (is : List Instr) → length is < 3 → OpensWithItem calls (code_of is) → ⊥
too_short calls [] h o = let f = o.opens in absurd cc
too_short calls (a ∷ []) h o = one_short a o.function o.label o.rest o.opens
too_short calls (a ∷ b ∷ []) h o = two_short a b o.function o.label o.rest o.opens
too_short calls (a ∷ b ∷ d ∷ is) h o = absurd (omega arith)

-- ---- the last two instructions

-- the instructions of a sequence
abbrev list_of : Code → List Instr
list_of code.end = []
list_of (code.plain p rest) = instr.Plain p ∷ list_of rest
list_of (code.branch b rest) = instr.Branch b ∷ list_of rest
list_of (code.call f rest) = instr.Call f ∷ list_of rest
list_of (code.call_indirect t rest) = instr.CallIndirect t ∷ list_of rest
list_of (code.unreachable rest) = instr.Unreachable ∷ list_of rest
list_of (code.block t body rest) = instr.Block t body ∷ list_of rest
list_of (code.loop t body rest) = instr.Loop t body ∷ list_of rest
list_of (code.choice t body other rest) = instr.If t body other ∷ list_of rest

then_followed : (i : Instr) (rest next : Code) → then_code i (followed rest next) ≡ followed (then_code i rest) next
then_followed (instr.Plain p) rest next = refl
then_followed (instr.Branch b) rest next = refl
then_followed (instr.Call f) rest next = refl
then_followed (instr.CallIndirect t) rest next = refl
then_followed instr.Unreachable rest next = refl
then_followed (instr.Block t body) rest next = refl
then_followed (instr.Loop t body) rest next = refl
then_followed (instr.If t body other) rest next = refl

then_list : (i : Instr) (rest : Code) → list_of (then_code i rest) ≡ i ∷ list_of rest
then_list (instr.Plain p) rest = refl
then_list (instr.Branch b) rest = refl
then_list (instr.Call f) rest = refl
then_list (instr.CallIndirect t) rest = refl
then_list instr.Unreachable rest = refl
then_list (instr.Block t body) rest = refl
then_list (instr.Loop t body) rest = refl
then_list (instr.If t body other) rest = refl

list_back : (is : List Instr) → list_of (code_of is) ≡ is
list_back [] = refl
list_back (i ∷ is) = then_list i (code_of is) ∙ ap (λ (xs : List Instr). i ∷ xs) (list_back is)

code_back : (c : Code) → code_of (list_of c) ≡ c
code_back code.end = refl
code_back (code.plain p rest) = ap (code.plain p) (code_back rest)
code_back (code.branch b rest) = ap (code.branch b) (code_back rest)
code_back (code.call f rest) = ap (code.call f) (code_back rest)
code_back (code.call_indirect t rest) = ap (code.call_indirect t) (code_back rest)
code_back (code.unreachable rest) = ap code.unreachable (code_back rest)
code_back (code.block t body rest) = ap (code.block t body) (code_back rest)
code_back (code.loop t body rest) = ap (code.loop t body) (code_back rest)
code_back (code.choice t body other rest) = ap (code.choice t body other) (code_back rest)

followed_code : (is next : List Instr) → code_of (is ++ next) ≡ followed (code_of is) (code_of next)
followed_code [] next = refl
followed_code (i ∷ is) next = ap (then_code i) (followed_code is next) ∙ then_followed i (code_of is) (code_of next)

-- the last two, and those before them, are the same however they are matched
same_two : (xs ys : List Instr) (a b c d : Instr) → xs ++ a ∷ b ∷ [] ≡ ys ++ c ∷ d ∷ [] → (xs ≡ ys) × (a ≡ c) × (b ≡ d)
same_two [] [] a b c d e = (refl, cc, cc)
same_two [] (y ∷ []) a b c d e = absurd cc
same_two [] (y ∷ z ∷ ys) a b c d e = let h : [] ≡ ys ++ c ∷ d ∷ [] = cc in absurd (none_left ys h)
  where
    none_left : (ys : List Instr) → [] ≡ ys ++ c ∷ d ∷ [] → ⊥
    none_left [] h = cc
    none_left (y ∷ ys) h = cc
same_two (x ∷ []) [] a b c d e = absurd cc
same_two (x ∷ z ∷ xs) [] a b c d e = let h : xs ++ a ∷ b ∷ [] ≡ [] = cc in absurd (none_left xs h)
  where
    none_left : (xs : List Instr) → xs ++ a ∷ b ∷ [] ≡ [] → ⊥
    none_left [] h = cc
    none_left (x ∷ xs) h = cc
same_two (x ∷ xs) (y ∷ ys) a b c d e =
    let rest : xs ++ a ∷ b ∷ [] ≡ ys ++ c ∷ d ∷ [] = cc in
    let s = same_two xs ys a b c d rest in
    let front = s.0 in
    (cc, s.1, s.2)

-- those before the last two, and the last two
last_two : (is : List Instr) (a b : Instr) → 2 ≤ length is → a ≡ get_or is (length is - 2) a → b ≡ get_or is (length is - 1) b → is ≡ take (length is - 2) is ++ a ∷ b ∷ []
last_two is a b h e f =
    let k = length is - 2 in
    let g : b ≡ get_or is (suc k) b = subst (λ n. b ≡ get_or is n b) (let n : length is - 1 ≡ suc k = omega arith in n) f in
    let one = drop-cons is k a (omega arith) in
    let two = drop-cons is (suc k) b (omega arith) in
    let none = drop_all (suc (suc k)) is (omega arith) in
    let both : drop k is ≡ a ∷ b ∷ [] = cc in
    sym (take-append-drop k is) ∙ ap (λ (xs : List Instr). take k is ++ xs) both

-- the instructions of a loop that closes with an item
listing : (calls : ℕ → Option HostCall) (is : List Instr) (o : ClosesWithItem calls (code_of is)) → is ≡ list_of o.front ++ instr.Call o.function ∷ instr.Branch (branch.BrIf 0) ∷ []
listing calls is o =
    let pair : List Instr = instr.Call o.function ∷ instr.Branch (branch.BrIf 0) ∷ [] in
    let whole : code_of is ≡ code_of (list_of o.front ++ pair) = o.closes ∙ ap (λ c. followed c (code_of pair)) (sym (code_back o.front)) ∙ sym (followed_code (list_of o.front) pair) in
    sym (list_back is) ∙ ap list_of whole ∙ list_back (list_of o.front ++ pair)

pub closing : (calls : ℕ → Option HostCall) (is : List Instr) (a b : Instr) → 2 ≤ length is → a ≡ get_or is (length is - 2) a → b ≡ get_or is (length is - 1) b
    → ClosesWithItem calls (code_of is) ↔ (GoesBackWithItem calls a b × NamesNot 0 (code_of (take (length is - 2) is)))
closing calls is a b h e f =
    let front = take (length is - 2) is in
    let parts = last_two is a b h e f in (
      λ o.
          let s = same_two front (list_of o.front) a b (instr.Call o.function) (instr.Branch (branch.BrIf 0)) (sym parts ∙ listing calls is o) in
          (record { function = o.function; is_call = s.1; takes = o.takes; is_back = s.2 }, subst (NamesNot 0) (sym (ap code_of s.0 ∙ code_back o.front)) o.alone),
      λ o.
          record {
            front = code_of front;
            function = o.0.function;
            closes = ap code_of parts ∙ followed_code front (a ∷ b ∷ []) ∙ ap (λ (c : List Instr). followed (code_of front) (code_of c)) (let s : a ∷ b ∷ [] ≡ instr.Call o.0.function ∷ instr.Branch (branch.BrIf 0) ∷ [] = cc (o.0.is_call, o.0.is_back) in s);
            takes = o.0.takes;
            alone = o.1;
          },
    )

-- no loop closes with fewer than two instructions
pub too_few : (calls : ℕ → Option HostCall) (is : List Instr) → length is < 2 → ClosesWithItem calls (code_of is) → ⊥
too_few calls is h o =
    let pair : List Instr = instr.Call o.function ∷ instr.Branch (branch.BrIf 0) ∷ [] in
    let listed = listing calls is o in
    omega (arith, ap length listed, length-append (list_of o.front) pair)
