-- What is known after a front of code is exactly what the rules can give after it.
use Rattle.std.proofs.Common.{◌≡◌, ℕ, Bool, true, false, cond, List, [], ◌∷◌, ◌++◌, refl, sym, ap, subst, ◌<◌, ◌≤◌, ◌^◌, reverse, length, arith, inl, inr}
use Rattle.std.specs.Prelude.{◌↔◌, ◌&&◌, Option, Some, None, slice_get, nat_lt}
use Rattle.std.proofs.lemmas.Bool.{leb-true}
use Rattle.std.proofs.lemmas.Bool.Decides.{leb_tells, nat_tests}
use Rattle.wasm_ast.specs.declared.types.ValType.{ValType}
use Rattle.wasm_ast.specs.declared.types.ValType.TheVariants.{I32, I64}
use Rattle.wasm_ast.specs.declared.types.FuncType.{FuncType}
use Rattle.wasm_ast.specs.declared.types.Mutability.{Mutability}
use Rattle.wasm_ast.specs.declared.types.Mutability.TheVariants as mutability
use Rattle.wasm_ast.specs.declared.plain.Variable.{Variable}
use Rattle.wasm_ast.specs.declared.plain.Variable.TheVariants as variable
use Rattle.wasm_ast.specs.declared.plain.Memory.{Memory}
use Rattle.wasm_ast.specs.declared.plain.Memory.TheVariants as memory
use Rattle.wasm_ast.specs.declared.plain.Plain.{Plain}
use Rattle.wasm_ast.specs.declared.plain.Plain.TheVariants as plain
use Rattle.wasm_ast.specs.declared.plain.Branch.{Branch}
use Rattle.wasm_ast.specs.declared.plain.Branch.TheVariants as branch
use Rattle.wasm_ast.specs.Code.{Code}
use Rattle.wasm_ast.specs.Code as code
use Rattle.wasm_ast.specs.NumericTypes.{numeric_takes, numeric_gives}
use Rattle.wasm_ast.specs.Values.{type_of}
use Rattle.validate.specs.declared.operands.OperandType.{OperandType}
use Rattle.validate.specs.declared.operands.OperandType.TheVariants.{Known, Unknown}
use Rattle.verified.specs.Spaces.{function_type, first_type}
use Rattle.wasm_ast.specs.Widths.{load_type, load_width, store_type, store_width}
use Rattle.verified.specs.Instructions.{Context, with_label, operands_of, Changes, Leaves, LabelsTake, VariableTyped, MemoryTyped, PlainTyped, BranchTyped, CallTyped, CallIndirectTyped, Typed}
use Rattle.validate.specs.inside.Stack.{Stack, bottom, any_below, on, same_type, agrees, Fits, MayFit, and_then, take_one, take_all, give_all, change, leave, take_any, join, push_if}
use Rattle.validate.specs.inside.Steps.{at_some, only_if, is_variable, variable_step, has_table, is_aligned, memory_step, select_step, plain_step, takes_same, all_take, branch_step, call_step, call_indirect_step, is_some_empty, closes, run}

-- every stack describes some operands

some_kind : (k : OperandType) → (t : ValType) × (agrees k t ≡ true)
some_kind Unknown = (I32, refl)
some_kind (Known I32) = (I32, refl)
some_kind (Known I64) = (I64, refl)

some_operands : (s : Stack) → (ts : List ValType) × Fits s ts
some_operands bottom = ([], tt)
some_operands any_below = ([], tt)
some_operands (on k rest) =
    let t = some_kind k in let r = some_operands rest in (t.0 ∷ r.0, (t.1, r.1))

same_is : (s t : ValType) → same_type s t ≡ true → s ≡ t
same_is I32 I32 e = refl
same_is I32 I64 e = absurd cc
same_is I64 I32 e = absurd cc
same_is I64 I64 e = refl

same_refl : (t : ValType) → same_type t t ≡ true
same_refl I32 = refl
same_refl I64 = refl

-- to take

cond_to : (b : Bool) (rest : Stack) (ts : List ValType) → MayFit (cond b (Some rest) None) ts → (b ≡ true) × Fits rest ts
cond_to true rest ts h = (refl, h)
cond_to false rest ts h = absurd h

cond_from : (b : Bool) (rest : Stack) (ts : List ValType) → b ≡ true → Fits rest ts → MayFit (cond b (Some rest) None) ts
cond_from true rest ts e h = h
cond_from false rest ts e h = absurd cc

take_one_to : (t : ValType) (s : Stack) (ts : List ValType) → MayFit (take_one t s) ts → Fits s (t ∷ ts)
take_one_to t bottom ts h = h
take_one_to t any_below ts h = h
take_one_to t (on k rest) ts h = cond_to (agrees k t) rest ts h

take_one_from : (t : ValType) (s : Stack) (ts : List ValType) → Fits s (t ∷ ts) → MayFit (take_one t s) ts
take_one_from t bottom ts h = h
take_one_from t any_below ts h = h
take_one_from t (on k rest) ts h = cond_from (agrees k t) rest ts h.0 h.1

-- a step and then another

-- if g leads from what follows a to out, and_then does
and_then_to : (o : Option Stack) (f : Stack → Option Stack) (out : List ValType) → MayFit (and_then o f) out → (s : Stack) × (o ≡ Some s) × MayFit (f s) out
and_then_to None f out h = absurd h
and_then_to (Some s) f out h = (s, refl, h)

and_then_from : (o : Option Stack) (f : Stack → Option Stack) (mid out : List ValType) → MayFit o mid → ((s : Stack) → Fits s mid → MayFit (f s) out) → MayFit (and_then o f) out
and_then_from None f mid out h g = absurd h
and_then_from (Some s) f mid out h g = g s h

and_then_back : (o : Option Stack) (f : Stack → Option Stack) (mid out : List ValType) → ((s : Stack) → MayFit (f s) out → Fits s mid) → MayFit (and_then o f) out → MayFit o mid
and_then_back None f mid out g h = h
and_then_back (Some s) f mid out g h = g s h

take_all_to : (taken : List ValType) (s : Stack) (ts : List ValType) → MayFit (take_all taken s) ts → Fits s (taken ++ ts)
take_all_to [] s ts h = h
take_all_to (t ∷ taken) s ts h =
    take_one_to t s (taken ++ ts) (and_then_back (take_one t s) (take_all taken) (taken ++ ts) ts (λ r. take_all_to taken r ts) h)

take_all_from : (taken : List ValType) (s : Stack) (ts : List ValType) → Fits s (taken ++ ts) → MayFit (take_all taken s) ts
take_all_from [] s ts h = h
take_all_from (t ∷ taken) s ts h =
    and_then_from (take_one t s) (take_all taken) (taken ++ ts) ts (take_one_from t s (taken ++ ts) h) (λ r. take_all_from taken r ts)

-- to give

give_to : (given : List ValType) (s : Stack) (out : List ValType) → Fits (give_all given s) out → (below : List ValType) × (out ≡ given ++ below) × Fits s below
give_to [] s out h = (out, refl, h)
give_to (t ∷ given) s [] h = absurd h
give_to (t ∷ given) s (u ∷ out) h =
    let r = give_to given s out h.1 in
    let e : t ≡ u = same_is t u h.0 in
    let f : u ∷ out ≡ t ∷ (given ++ r.0) = cc in
    (r.0, f, r.2)

give_from : (given : List ValType) (s : Stack) (below : List ValType) → Fits s below → Fits (give_all given s) (given ++ below)
give_from [] s below h = h
give_from (t ∷ given) s below h = (same_refl t, give_from given s below h)

-- what f finds after s is what r can give from the operands of s
pub record Describes (f : Stack → Option Stack) (r : List ValType → List ValType → Type 0) : Type 0 where
  pub to : (s : Stack) (out : List ValType) → MayFit (f s) out → (from : List ValType) × Fits s from × r from out
  pub back : (s : Stack) (out from : List ValType) → Fits s from → r from out → MayFit (f s) out

change_exact : (taken given : List ValType) → Describes (change taken given) (Changes taken given)
change_exact taken given = record {
  to = λ s out h.
      let a = and_then_to (take_all taken s) (λ r. Some (give_all given r)) out h in
      let b = give_to given a.0 out a.2 in
      (taken ++ b.0, take_all_to taken s b.0 (subst (λ o. MayFit o b.0) (sym a.1) b.2), (b.0, refl, b.1));
  back = λ s out from h c.
      and_then_from (take_all taken s) (λ r. Some (give_all given r)) c.0 out (take_all_from taken s c.0 (subst (Fits s) c.1 h)) (λ r f. subst (Fits (give_all given r)) (sym c.2) (give_from given r c.0 f));
}

leave_exact : (taken : List ValType) → Describes (leave taken) (λ from out. Leaves taken from)
leave_exact taken = record {
  to = λ s out h.
      let a = and_then_to (take_all taken s) (λ r. Some any_below) out h in
      let b = some_operands a.0 in
      (taken ++ b.0, take_all_to taken s b.0 (subst (λ o. MayFit o b.0) (sym a.1) b.1), (b.0, refl));
  back = λ s out from h c.
      and_then_from (take_all taken s) (λ r. Some any_below) c.0 out (take_all_from taken s c.0 (subst (Fits s) c.1 h)) (λ r f. tt);
}

-- one step and then another
seq_exact : (f g : Stack → Option Stack) (r q : List ValType → List ValType → Type 0) → Describes f r → Describes g q → Describes (λ s. and_then (f s) g) (λ from out. (mid : List ValType) × r from mid × q mid out)
seq_exact f g r q df dg = record {
  to = λ s out h.
      let a = and_then_to (f s) g out h in
      let b = dg.to a.0 out a.2 in
      let c = df.to s b.0 (subst (λ o. MayFit o b.0) (sym a.1) b.1) in
      (c.0, c.1, (b.0, c.2, b.2));
  back = λ s out from h x. and_then_from (f s) g x.0 out (df.back s x.0 from h x.1) (λ m y. dg.back m out x.0 y x.2);
}

-- where there is an a
at_exact : {A : Type 0} (o : Option A) (f : A → Stack → Option Stack) (r : A → List ValType → List ValType → Type 0) → ((a : A) → Describes (f a) (r a)) → Describes (λ s. at_some o (λ a. f a s)) (λ from out. (a : A) × (o ≡ Some a) × r a from out)
at_exact {A = A} None f r d = record {
  to = λ s out h. absurd h;
  back = λ s out from h x. absurd (none_some x.0 x.1);
}
  where
    none_some : (a : A) → None ≡ Some a → ⊥
    none_some a e = cc
at_exact {A = A} (Some a) f r d = record {
  to = λ s out h. let x = (d a).to s out h in (x.0, x.1, (a, refl, x.2));
  back = λ s out from h x. (d a).back s out from h (subst (λ b. r b from out) (sym (same_some a x.0 x.1)) x.2);
}
  where
    same_some : (a b : A) → Some a ≡ Some b → a ≡ b
    same_some a b e = cc

-- where a test says yes
if_exact : (b : Bool) (P : Type 0) (f : Stack → Option Stack) (r : List ValType → List ValType → Type 0) → (b ≡ true → P) → (P → b ≡ true) → Describes f r → Describes (λ s. only_if b (f s)) (λ from out. (yes : P) × r from out)
if_exact true P f r p q d = record {
  to = λ s out h. let x = d.to s out h in (x.0, x.1, (p refl, x.2));
  back = λ s out from h x. d.back s out from h x.1;
}
if_exact false P f r p q d = record {
  to = λ s out h. absurd h;
  back = λ s out from h x. absurd (no (q x.0));
}
  where
    no : false ≡ true → ⊥
    no e = cc

test_exact : (b : Bool) (f : Stack → Option Stack) (r : List ValType → List ValType → Type 0) → Describes f r → Describes (λ s. only_if b (f s)) (λ from out. (yes : b ≡ true) × r from out)
test_exact b f r d = if_exact b (b ≡ true) f r (λ e. e) (λ e. e) d

-- the alignment of an access

aligned_to : (a width : ℕ) → is_aligned a width ≡ true → 2 ^ a ≤ width
aligned_to a width e = leb-true (2 ^ a) width e

aligned_from : (a width : ℕ) → 2 ^ a ≤ width → is_aligned a width ≡ true
aligned_from a width h =
    elim (leb_tells (2 ^ a) width) [ inl y ↦ y.0 | inr n ↦ absurd (omega (arith, n.1)) ]

aligned_exact : (a width : ℕ) (f : Stack → Option Stack) (r : List ValType → List ValType → Type 0) → Describes f r → Describes (λ s. only_if (is_aligned a width) (f s)) (λ from out. (yes : 2 ^ a ≤ width) × r from out)
aligned_exact a width f r d =
    if_exact (is_aligned a width) (2 ^ a ≤ width) f r (aligned_to a width) (aligned_from a width) d

-- that there is one at all
some_to : (n : ℕ) → nat_lt 0 n ≡ true → 0 < n
some_to n e = grind (arith, nat_tests)

some_from : (n : ℕ) → 0 < n → nat_lt 0 n ≡ true
some_from n h = grind (arith, nat_tests)

some_exact : (n : ℕ) (f : Stack → Option Stack) (r : List ValType → List ValType → Type 0) → Describes f r → Describes (λ s. only_if (nat_lt 0 n) (f s)) (λ from out. (yes : 0 < n) × r from out)
some_exact n f r d = if_exact (nat_lt 0 n) (0 < n) f r (some_to n) (some_from n) d

-- select

join_to : (j k : OperandType) (o : Stack) (out : List ValType) → MayFit (push_if (join j k) o) out → (t : ValType) × (below : List ValType) × (out ≡ t ∷ below) × (agrees j t ≡ true) × (agrees k t ≡ true) × Fits o below
join_to Unknown k o [] h = absurd h
join_to Unknown k o (t ∷ ts) h = (t, ts, refl, refl, h.0, h.1)
join_to (Known s) Unknown o [] h = absurd h
join_to (Known s) Unknown o (t ∷ ts) h = (t, ts, refl, h.0, refl, h.1)
join_to (Known I32) (Known I32) o [] h = absurd h
join_to (Known I32) (Known I32) o (t ∷ ts) h = (t, ts, refl, h.0, h.0, h.1)
join_to (Known I32) (Known I64) o out h = absurd h
join_to (Known I64) (Known I32) o out h = absurd h
join_to (Known I64) (Known I64) o [] h = absurd h
join_to (Known I64) (Known I64) o (t ∷ ts) h = (t, ts, refl, h.0, h.0, h.1)

join_from : (j k : OperandType) (o : Stack) (t : ValType) (below : List ValType) → agrees j t ≡ true → agrees k t ≡ true → Fits o below → MayFit (push_if (join j k) o) (t ∷ below)
join_from Unknown k o t below a b h = (b, h)
join_from (Known s) Unknown o t below a b h = (a, h)
join_from (Known I32) (Known I32) o t below a b h = (a, h)
join_from (Known I32) (Known I64) o t below a b h = let e = same_is I32 t a in let f = same_is I64 t b in absurd cc
join_from (Known I64) (Known I32) o t below a b h = let e = same_is I64 t a in let f = same_is I32 t b in absurd cc
join_from (Known I64) (Known I64) o t below a b h = (a, h)

abbrev take_two : Stack → Option Stack
take_two r = take_any r (λ j q. take_any q (λ k o. push_if (join j k) o))

two_to : (r : Stack) (out : List ValType) → MayFit (take_two r) out → (t : ValType) × (below : List ValType) × (out ≡ t ∷ below) × Fits r (t ∷ t ∷ below)
two_to bottom out h = absurd h
two_to any_below out h = let x = join_to Unknown Unknown any_below out h in (x.0, x.1, x.2, tt)
two_to (on j bottom) out h = absurd h
two_to (on j any_below) out h = let x = join_to j Unknown any_below out h in (x.0, x.1, x.2, (x.3, tt))
two_to (on j (on k o)) out h = let x = join_to j k o out h in (x.0, x.1, x.2, (x.3, (x.4, x.5)))

two_from : (r : Stack) (t : ValType) (below : List ValType) → Fits r (t ∷ t ∷ below) → MayFit (take_two r) (t ∷ below)
two_from bottom t below h = h
two_from any_below t below h = (refl, tt)
two_from (on j bottom) t below h = h.1
two_from (on j any_below) t below h = join_from j Unknown any_below t below h.0 refl tt
two_from (on j (on k o)) t below h = join_from j k o t below h.0 h.1.0 h.1.1

select_exact : Describes select_step (λ from out. (t : ValType) × Changes (I32 ∷ t ∷ t ∷ []) (t ∷ []) from out)
select_exact = record {
  to = λ s out h.
      let a = and_then_to (take_one I32 s) take_two out h in
      let x = two_to a.0 out a.2 in
      (I32 ∷ x.0 ∷ x.0 ∷ x.1, take_one_to I32 s (x.0 ∷ x.0 ∷ x.1) (subst (λ o. MayFit o (x.0 ∷ x.0 ∷ x.1)) (sym a.1) x.3), (x.0, (x.1, refl, x.2)));
  back = λ s out from h x.
      let b = x.1 in
      subst (MayFit (select_step s)) (sym b.2) (and_then_from (take_one I32 s) take_two (x.0 ∷ x.0 ∷ b.0) (x.0 ∷ b.0) (take_one_from I32 s (x.0 ∷ x.0 ∷ b.0) (subst (Fits s) b.1 h)) (λ r y. two_from r x.0 b.0 y));
}

-- drop

drop_to : (s : Stack) (out : List ValType) → MayFit (take_any s (λ k r. Some r)) out → (t : ValType) × Fits s (t ∷ out)
drop_to bottom out h = absurd h
drop_to any_below out h = (I32, tt)
drop_to (on k rest) out h = let t = some_kind k in (t.0, (t.1, h))

drop_from : (s : Stack) (t : ValType) (out : List ValType) → Fits s (t ∷ out) → MayFit (take_any s (λ k r. Some r)) out
drop_from bottom t out h = h
drop_from any_below t out h = tt
drop_from (on k rest) t out h = h.1

drop_exact : Describes (λ s. take_any s (λ k r. Some r)) (λ from out. (t : ValType) × Changes (t ∷ []) [] from out)
drop_exact = record {
  to = λ s out h. let x = drop_to s out h in (x.0 ∷ out, x.1, (x.0, (out, refl, refl)));
  back = λ s out from h x.
      let b = x.1 in
      subst (MayFit (take_any s (λ k r. Some r))) (sym b.2) (drop_from s x.0 b.0 (subst (Fits s) b.1 h));
}

-- the labels of a table

takes_to : (t : Option ValType) (o : Option (Option ValType)) → takes_same t o ≡ true → o ≡ Some t
takes_to t None e = absurd cc
takes_to None (Some None) e = refl
takes_to None (Some (Some u)) e = absurd cc
takes_to (Some t) (Some None) e = absurd cc
takes_to (Some t) (Some (Some u)) e = let f = same_is t u e in cc

takes_from : (t : Option ValType) (o : Option (Option ValType)) → o ≡ Some t → takes_same t o ≡ true
takes_from t o e = subst (λ x. takes_same t x ≡ true) (sym e) (same t)
  where
    same : (t : Option ValType) → takes_same t (Some t) ≡ true
    same None = refl
    same (Some t) = same_refl t

both_to : (a b : Bool) → a && b ≡ true → (a ≡ true) × (b ≡ true)
both_to true b e = (refl, e)
both_to false b e = absurd cc

both_from : (a b : Bool) → a ≡ true → b ≡ true → a && b ≡ true
both_from true b e f = f
both_from false b e f = absurd cc

all_to : (c : Context) (t : Option ValType) (ls : List ℕ) → all_take c.labels t ls ≡ true → LabelsTake c t ls
all_to c t [] e = tt
all_to c t (l ∷ ls) e =
    let b = both_to (takes_same t (slice_get c.labels l)) (all_take c.labels t ls) e in
    (takes_to t (slice_get c.labels l) b.0, all_to c t ls b.1)

all_from : (c : Context) (t : Option ValType) (ls : List ℕ) → LabelsTake c t ls → all_take c.labels t ls ≡ true
all_from c t [] h = refl
all_from c t (l ∷ ls) h =
    both_from (takes_same t (slice_get c.labels l)) (all_take c.labels t ls) (takes_from t (slice_get c.labels l) h.0) (all_from c t ls h.1)

-- each instruction

variable_to : (m : Mutability) → is_variable m ≡ true → m ≡ mutability.Variable
variable_to mutability.Constant e = absurd cc
variable_to mutability.Variable e = refl

variable_from : (m : Mutability) → m ≡ mutability.Variable → is_variable m ≡ true
variable_from m e = ap is_variable e

variable_exact : (c : Context) (op : Variable) → Describes (variable_step c op) (VariableTyped c op)
variable_exact c (variable.LocalGet x) = at_exact (slice_get c.locals x) (λ t. change [] (t ∷ [])) (λ t. Changes [] (t ∷ [])) (λ t. change_exact [] (t ∷ []))
variable_exact c (variable.LocalSet x) = at_exact (slice_get c.locals x) (λ t. change (t ∷ []) []) (λ t. Changes (t ∷ []) []) (λ t. change_exact (t ∷ []) [])
variable_exact c (variable.LocalTee x) = at_exact (slice_get c.locals x) (λ t. change (t ∷ []) (t ∷ [])) (λ t. Changes (t ∷ []) (t ∷ [])) (λ t. change_exact (t ∷ []) (t ∷ []))
variable_exact c (variable.GlobalGet x) = at_exact (slice_get c.spaces.globals x) (λ g. change [] (g.value ∷ [])) (λ g. Changes [] (g.value ∷ [])) (λ g. change_exact [] (g.value ∷ []))
variable_exact c (variable.GlobalSet x) =
    at_exact (slice_get c.spaces.globals x) (λ g s. only_if (is_variable g.mutability) (change (g.value ∷ []) [] s)) (λ g from to. (yes : g.mutability ≡ mutability.Variable) × Changes (g.value ∷ []) [] from to) (λ g. if_exact (is_variable g.mutability) (g.mutability ≡ mutability.Variable) (change (g.value ∷ []) []) (Changes (g.value ∷ []) []) (variable_to g.mutability) (variable_from g.mutability) (change_exact (g.value ∷ []) []))

memory_exact : (c : Context) (op : Memory) → Describes (memory_step c op) (MemoryTyped c op)
memory_exact c (memory.Load op a) =
    some_exact (length c.spaces.memories) (λ s. only_if (is_aligned a.align (load_width op)) (change (I32 ∷ []) (load_type op ∷ []) s)) (λ from to. (2 ^ a.align ≤ load_width op) × Changes (I32 ∷ []) (load_type op ∷ []) from to) (aligned_exact a.align (load_width op) (change (I32 ∷ []) (load_type op ∷ [])) (Changes (I32 ∷ []) (load_type op ∷ [])) (change_exact (I32 ∷ []) (load_type op ∷ [])))
memory_exact c (memory.Store op a) =
    some_exact (length c.spaces.memories) (λ s. only_if (is_aligned a.align (store_width op)) (change (store_type op ∷ I32 ∷ []) [] s)) (λ from to. (2 ^ a.align ≤ store_width op) × Changes (store_type op ∷ I32 ∷ []) [] from to) (aligned_exact a.align (store_width op) (change (store_type op ∷ I32 ∷ []) []) (Changes (store_type op ∷ I32 ∷ []) []) (change_exact (store_type op ∷ I32 ∷ []) []))
memory_exact c memory.Size =
    some_exact (length c.spaces.memories) (change [] (I32 ∷ [])) (Changes [] (I32 ∷ [])) (change_exact [] (I32 ∷ []))
memory_exact c memory.Grow =
    some_exact (length c.spaces.memories) (change (I32 ∷ []) (I32 ∷ [])) (Changes (I32 ∷ []) (I32 ∷ [])) (change_exact (I32 ∷ []) (I32 ∷ []))

plain_exact : (c : Context) (p : Plain) → Describes (plain_step c p) (PlainTyped c p)
plain_exact c plain.Nop = change_exact [] []
plain_exact c plain.Drop = drop_exact
plain_exact c plain.Select = select_exact
plain_exact c (plain.Const v) = change_exact [] (type_of v ∷ [])
plain_exact c (plain.Numeric op) = change_exact (numeric_takes op) (numeric_gives op ∷ [])
plain_exact c (plain.Variable op) = variable_exact c op
plain_exact c (plain.Memory op) = memory_exact c op

branch_exact : (c : Context) (b : Branch) → Describes (branch_step c b) (BranchTyped c b)
branch_exact c (branch.Br l) =
    at_exact (slice_get c.labels l) (λ t. leave (operands_of t)) (λ t from out. Leaves (operands_of t) from) (λ t. leave_exact (operands_of t))
branch_exact c (branch.BrIf l) =
    at_exact (slice_get c.labels l) (λ t. change (I32 ∷ operands_of t) (operands_of t)) (λ t. Changes (I32 ∷ operands_of t) (operands_of t)) (λ t. change_exact (I32 ∷ operands_of t) (operands_of t))
branch_exact c (branch.BrTable ls l) =
    at_exact (slice_get c.labels l) (λ t s. only_if (all_take c.labels t ls) (leave (I32 ∷ operands_of t) s)) (λ t from out. (yes : LabelsTake c t ls) × Leaves (I32 ∷ operands_of t) from) (λ t. if_exact (all_take c.labels t ls) (LabelsTake c t ls) (leave (I32 ∷ operands_of t)) (λ from out. Leaves (I32 ∷ operands_of t) from) (all_to c t ls) (all_from c t ls) (leave_exact (I32 ∷ operands_of t)))
branch_exact c branch.Return = leave_exact (operands_of c.outcome)

call_exact : (c : Context) (f : ℕ) → Describes (call_step c f) (CallTyped c f)
call_exact c f =
    at_exact (function_type c.spaces f) (λ (t : FuncType). change (reverse t.parameters) (operands_of (first_type t.results))) (λ (t : FuncType). Changes (reverse t.parameters) (operands_of (first_type t.results))) (λ (t : FuncType). change_exact (reverse t.parameters) (operands_of (first_type t.results)))

call_indirect_exact : (c : Context) (n : ℕ) → Describes (call_indirect_step c n) (CallIndirectTyped c n)
call_indirect_exact c n =
    at_exact (slice_get c.spaces.types n) (λ (t : FuncType) s. only_if (has_table c.spaces) (change (I32 ∷ reverse t.parameters) (operands_of (first_type t.results)) s)) (λ (t : FuncType) from to. (0 < length c.spaces.tables) × Changes (I32 ∷ reverse t.parameters) (operands_of (first_type t.results)) from to) (λ (t : FuncType). some_exact (length c.spaces.tables) (change (I32 ∷ reverse t.parameters) (operands_of (first_type t.results))) (Changes (I32 ∷ reverse t.parameters) (operands_of (first_type t.results))) (change_exact (I32 ∷ reverse t.parameters) (operands_of (first_type t.results))))

-- the end of a block

empty_to : (o : Option Stack) → is_some_empty o ≡ true → MayFit o []
empty_to None e = absurd cc
empty_to (Some bottom) e = tt
empty_to (Some any_below) e = tt
empty_to (Some (on k rest)) e = absurd cc

empty_from : (o : Option Stack) → MayFit o [] → is_some_empty o ≡ true
empty_from None h = absurd h
empty_from (Some bottom) h = refl
empty_from (Some any_below) h = refl
empty_from (Some (on k rest)) h = absurd h

closes_to : (o : Option Stack) (t : Option ValType) → closes o t ≡ true → MayFit o (operands_of t)
closes_to o None e = and_then_back o (take_all []) [] [] (λ s. take_all_to [] s []) (empty_to (and_then o (take_all [])) e)
closes_to o (Some t) e = and_then_back o (take_all (t ∷ [])) (t ∷ []) [] (λ s. take_all_to (t ∷ []) s []) (empty_to (and_then o (take_all (t ∷ []))) e)

closes_from : (o : Option Stack) (t : Option ValType) → MayFit o (operands_of t) → closes o t ≡ true
closes_from o None h = empty_from (and_then o (take_all [])) (and_then_from o (take_all []) [] [] h (λ s. take_all_from [] s []))
closes_from o (Some t) h = empty_from (and_then o (take_all (t ∷ []))) (and_then_from o (take_all (t ∷ [])) (t ∷ []) [] h (λ s. take_all_from (t ∷ []) s []))

bottom_fits : (from : List ValType) → Fits bottom from → from ≡ []
bottom_fits [] h = refl
bottom_fits (t ∷ ts) h = absurd h

-- a body that starts with no operands
inside_to : (body : Code) (c : Context) (t : Option ValType) → Describes (run body c) (Typed body c) → closes (run body c bottom) t ≡ true → Typed body c [] (operands_of t)
inside_to body c t d e =
    let x = d.to bottom (operands_of t) (closes_to (run body c bottom) t e) in
    subst (λ from. Typed body c from (operands_of t)) (bottom_fits x.0 x.1) x.2

inside_from : (body : Code) (c : Context) (t : Option ValType) → Describes (run body c) (Typed body c) → Typed body c [] (operands_of t) → closes (run body c bottom) t ≡ true
inside_from body c t d h = closes_from (run body c bottom) t (d.back bottom (operands_of t) [] tt h)

-- code, and what comes after it
block_exact : (body rest : Code) (inner c : Context) (t : Option ValType) → Describes (run body inner) (Typed body inner) → Describes (run rest c) (Typed rest c) → Describes (λ s. only_if (closes (run body inner bottom) t) (run rest c (give_all (operands_of t) s))) (λ from to. (mid : List ValType) × Typed body inner [] (operands_of t) × Changes [] (operands_of t) from mid × Typed rest c mid to)
block_exact body rest inner c t db dr =
    let d = if_exact (closes (run body inner bottom) t) (Typed body inner [] (operands_of t)) (λ s. and_then (change [] (operands_of t) s) (run rest c)) (λ from to. (mid : List ValType) × Changes [] (operands_of t) from mid × Typed rest c mid to) (inside_to body inner t db) (inside_from body inner t db) (seq_exact (change [] (operands_of t)) (run rest c) (Changes [] (operands_of t)) (Typed rest c) (change_exact [] (operands_of t)) dr) in
    record {
      to = λ s out h. let x = d.to s out h in let y = x.2 in (x.0, x.1, (y.1.0, y.0, y.1.1, y.1.2));
      back = λ s out from h x. d.back s out from h (x.1, (x.0, x.2, x.3));
    }

choice_exact : (body other rest : Code) (inner c : Context) (t : Option ValType) → Describes (run body inner) (Typed body inner) → Describes (run other inner) (Typed other inner) → Describes (run rest c) (Typed rest c) → Describes (λ s. only_if (closes (run body inner bottom) t) (only_if (closes (run other inner bottom) t) (and_then (change (I32 ∷ []) (operands_of t) s) (run rest c)))) (λ from to. (mid : List ValType) × Typed body inner [] (operands_of t) × Typed other inner [] (operands_of t) × Changes (I32 ∷ []) (operands_of t) from mid × Typed rest c mid to)
choice_exact body other rest inner c t db do_ dr =
    let last = seq_exact (change (I32 ∷ []) (operands_of t)) (run rest c) (Changes (I32 ∷ []) (operands_of t)) (Typed rest c) (change_exact (I32 ∷ []) (operands_of t)) dr in
    let second = if_exact (closes (run other inner bottom) t) (Typed other inner [] (operands_of t)) (λ s. and_then (change (I32 ∷ []) (operands_of t) s) (run rest c)) (λ from to. (mid : List ValType) × Changes (I32 ∷ []) (operands_of t) from mid × Typed rest c mid to) (inside_to other inner t do_) (inside_from other inner t do_) last in
    let d = if_exact (closes (run body inner bottom) t) (Typed body inner [] (operands_of t)) (λ s. only_if (closes (run other inner bottom) t) (and_then (change (I32 ∷ []) (operands_of t) s) (run rest c))) (λ from to. (yes : Typed other inner [] (operands_of t)) × ((mid : List ValType) × Changes (I32 ∷ []) (operands_of t) from mid × Typed rest c mid to)) (inside_to body inner t db) (inside_from body inner t db) second in
    record {
      to = λ s out h. let x = d.to s out h in let y = x.2 in let z = y.1.1 in (x.0, x.1, (z.0, y.0, y.1.0, z.1, z.2));
      back = λ s out from h x. d.back s out from h (x.1, (x.2, (x.0, x.3, x.4)));
    }

-- the condition may be taken first
abbrev choice_first : (a b : Bool) (t : Option ValType) (g : Stack → Option Stack) → Stack → Option Stack
choice_first a b t g s = and_then (take_one I32 s) (λ r. only_if a (only_if b (g (give_all (operands_of t) r))))

abbrev choice_last : (a b : Bool) (t : Option ValType) (g : Stack → Option Stack) → Stack → Option Stack
choice_last a b t g s = only_if a (only_if b (and_then (change (I32 ∷ []) (operands_of t) s) g))

choice_same : (a b : Bool) (t : Option ValType) (g : Stack → Option Stack) (s : Stack) → choice_last a b t g s ≡ choice_first a b t g s
choice_same a b t g s = by_condition a b (take_one I32 s)
  where
    by_condition : (a b : Bool) (o : Option Stack) → only_if a (only_if b (and_then (and_then (and_then o (take_all [])) (λ r. Some (give_all (operands_of t) r))) g)) ≡ and_then o (λ r. only_if a (only_if b (g (give_all (operands_of t) r))))
    by_condition true true None = refl
    by_condition true true (Some r) = refl
    by_condition true false None = refl
    by_condition true false (Some r) = refl
    by_condition false b None = refl
    by_condition false b (Some r) = refl

same_exact : (f g : Stack → Option Stack) (r : List ValType → List ValType → Type 0) → ((s : Stack) → f s ≡ g s) → Describes f r → Describes g r
same_exact f g r same d = record {
  to = λ s out h. d.to s out (subst (λ o. MayFit o out) (sym (same s)) h);
  back = λ s out from h x. subst (λ o. MayFit o out) (same s) (d.back s out from h x);
}

-- what comes after is not reached
dead_exact : (rest : Code) (c : Context) → Describes (run rest c) (Typed rest c) → Describes (λ s. run rest c any_below) (λ from to. (mid : List ValType) × Leaves [] from × Typed rest c mid to)
dead_exact rest c d = seq_exact (leave []) (run rest c) (λ from out. Leaves [] from) (Typed rest c) (leave_exact []) d

run_exact : (is : Code) (c : Context) → Describes (run is c) (Typed is c)
run_exact code.end c = record {
  to = λ s out h. (out, h, refl);
  back = λ s out from h e. subst (Fits s) e h;
}
run_exact (code.plain p rest) c =
    seq_exact (plain_step c p) (run rest c) (PlainTyped c p) (Typed rest c) (plain_exact c p) (run_exact rest c)
run_exact (code.branch b rest) c =
    seq_exact (branch_step c b) (run rest c) (BranchTyped c b) (Typed rest c) (branch_exact c b) (run_exact rest c)
run_exact (code.call f rest) c =
    seq_exact (call_step c f) (run rest c) (CallTyped c f) (Typed rest c) (call_exact c f) (run_exact rest c)
run_exact (code.call_indirect n rest) c =
    seq_exact (call_indirect_step c n) (run rest c) (CallIndirectTyped c n) (Typed rest c) (call_indirect_exact c n) (run_exact rest c)
run_exact (code.unreachable rest) c = dead_exact rest c (run_exact rest c)
run_exact (code.block t body rest) c = block_exact body rest (with_label t c) c t (run_exact body (with_label t c)) (run_exact rest c)
run_exact (code.loop t body rest) c =
    block_exact body rest (with_label None c) c t (run_exact body (with_label None c)) (run_exact rest c)
run_exact (code.choice t body other rest) c =
    let inner = with_label t c in
    let a = closes (run body inner bottom) t in
    let b = closes (run other inner bottom) t in
    same_exact (choice_last a b t (run rest c)) (run (code.choice t body other rest) c) (Typed (code.choice t body other rest) c) (choice_same a b t (run rest c)) (choice_exact body other rest inner c t (run_exact body inner) (run_exact other inner) (run_exact rest c))

pub closes_exact : (body : Code) (c : Context) (t : Option ValType) → (closes (run body c bottom) t ≡ true) ↔ Typed body c [] (operands_of t)
closes_exact body c t = (inside_to body c t (run_exact body c), inside_from body c t (run_exact body c))
