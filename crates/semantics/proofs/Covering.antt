-- Code loads and stores only reached bytes: what is known of the operands along it gives the addresses.
use Rattle.std.proofs.Common.{◌≡◌, ℕ, zero, suc, ◌+◌, ◌<◌, ◌≤◌, Bool, true, false, ◌&&◌, List, [], ◌∷◌, ◌++◌, length, drop, map, replicate, get_or, slice_get, ltb, Option, Some, None, refl, sym, ap, ◌∙◌, subst, arith, lt-ltb}
use Rattle.std.specs.Prelude.{reverse, ◌||◌}
use Rattle.std.specs.List.{AllByRecursion}
use Rattle.std.proofs.lemmas.Bool.{le-leb}
use Rattle.std.proofs.lemmas.List.{length-append, length-map, length-reverse}
use Rattle.wasm_ast.specs.declared.types.ValType.{ValType}
use Rattle.wasm_ast.specs.declared.types.ValType.TheVariants as val_type
use Rattle.wasm_ast.specs.declared.types.Value.{Value}
use Rattle.wasm_ast.specs.declared.types.Value.TheVariants.{I32, I64}
use Rattle.wasm_ast.specs.declared.plain.Memory.{Memory}
use Rattle.wasm_ast.specs.declared.plain.Memory.TheVariants as memory
use Rattle.wasm_ast.specs.declared.plain.Variable.TheVariants as variable
use Rattle.wasm_ast.specs.declared.plain.Plain.{Plain}
use Rattle.wasm_ast.specs.declared.plain.Plain.TheVariants as plain
use Rattle.wasm_ast.specs.declared.plain.Branch.TheVariants as branch
use Rattle.wasm_ast.specs.declared.module.Function.{Function}
use Rattle.wasm_ast.specs.declared.module.Module.{Module}
use Rattle.wasm_ast.specs.Code.{Code}
use Rattle.wasm_ast.specs.Code as code
use Rattle.wasm_ast.specs.NumericTypes.{numeric_gives}
use Rattle.wasm_ast.specs.Widths.{load_type, load_width, store_type, store_width}
use Rattle.verified.specs.declared.imports.HostCall.{HostCall}
use Rattle.verified.specs.Spaces.{first_type}
use Rattle.verified.specs.Modules.{TypeHolds}
use Rattle.verified.specs.declared.arity.Arity.{Arity}
use Rattle.verified.specs.declared.operand.Operand.{Operand}
use Rattle.verified.specs.declared.operand.Operand.TheVariants.{Unknown, Known as KnownOperand}
use Rattle.verified.specs.declared.requirements.Premise.TheVariants as premise
use Rattle.verified.specs.declared.requirements.Requirement.{Requirement}
use Rattle.verified.specs.declared.requirements.Requirement.TheVariants as requirement
use Rattle.verified.specs.Arities.{arity_table, arity_at, block_arity, plain_arity, result_count, test_arity}
use Rattle.verified.specs.Hosts.{host_call_at}
use Rattle.verified.specs.Kinds.{Kind, Any, Is, Forgets, AllForget, Meets, AllMeet, kinds, requirements}
use Rattle.verified.specs.Known.{Context, Changes, Known, PlainKnown, call_requirements, constant_kind, known, numeric_requirements, parameter_requirements, takes_slot, with_label}
use Rattle.verified.specs.Memory.{memory_bytes, number_of}
use Rattle.verified.specs.Reached.{Access, access_at, accesses, accesses_along, accesses_in, covers, is_covered, is_reached, known_after, known_behind, plain_accesses}
use Rattle.semantics.specs.Configuration.{State}
use Rattle.semantics.specs.Effects.{value}
use Rattle.semantics.specs.Machine.{ControlEntry, Machine, Running, Done, Trapped, Stuck}
use Rattle.semantics.specs.inside.Touched.{AreMarked, MemoryTouches, PlainTouches, Touches, marks, marks_from}
use Rattle.semantics.proofs.Lengths.{call_counts, call_results, numeric_length}
use Rattle.semantics.proofs.Plains.{context}
use Rattle.semantics.proofs.Values.{HasKind, HasKinds, none_some, some_is}

-- ---- what is said of code

-- the rule holds of what the instruction loads and stores from operands of these kinds
abbrev pub TouchesFrom : (ℕ → ℕ → Type 0) → Plain → List Kind → Type 0
TouchesFrom R p from = (vs : List Value) → HasKinds vs from → PlainTouches R p vs

-- and of all instructions of the code, as far as they may run
abbrev pub Covered : (R : ℕ → ℕ → Type 0) (is : Code) (c : Context) (from to : List Kind) → Known is c from to → Type 0
Covered R code.end c from to i = Unit {0}
Covered R (code.plain p rest) c from to i = TouchesFrom R p from × Covered R rest c i.0 to i.2
Covered R (code.branch (branch.Br l) rest) c from to i = Unit {0}
Covered R (code.branch (branch.BrIf l) rest) c from to i = Covered R rest c i.0 to i.2
Covered R (code.branch (branch.BrTable ls l) rest) c from to i = Unit {0}
Covered R (code.branch branch.Return rest) c from to i = Unit {0}
Covered R (code.call f rest) c from to i = Covered R rest c i.0 to i.2
Covered R (code.call_indirect t rest) c from to i = Unit {0}
Covered R (code.unreachable rest) c from to i = Unit {0}
Covered R (code.block t body rest) c from to i = Covered R body (with_label t c) [] (kinds t) i.1 × Covered R rest c i.0 to i.3
Covered R (code.loop t body rest) c from to i =
    Covered R body (with_label None c) [] (kinds t) i.1 × Covered R rest c i.0 to i.3
Covered R (code.choice t body other rest) c from to i =
    Covered R body (with_label t c) [] (kinds t) i.1 × Covered R other (with_label t c) [] (kinds t) i.2 × Covered R rest c i.0 to i.4

-- ---- operands that are known

-- what a kind tells of an operand is known
abbrev Tells : Kind → Operand → Type 0
Tells (Any t) o = Unit {0}
Tells (Is t n) o = o ≡ KnownOperand n

abbrev pub Agree : List Kind → List Operand → Type 0
Agree [] [] = Unit {0}
Agree [] (o ∷ os) = ⊥
Agree (k ∷ ks) [] = ⊥
Agree (k ∷ ks) (o ∷ os) = Tells k o × Agree ks os

forgets_one : (k j : Kind) (o : Operand) → Forgets k j → Tells k o → Tells j o
forgets_one (Any s) (Any t) o f a = tt
forgets_one (Any s) (Is t n) o f a = absurd f
forgets_one (Is s n) (Any t) o f a = tt
forgets_one (Is s n) (Is t k) o f a = a ∙ ap (λ (x : ℕ). KnownOperand x) f.1

forgets_all : (ks js : List Kind) (os : List Operand) → AllForget ks js → Agree ks os → Agree js os
forgets_all [] [] os f a = a
forgets_all [] (j ∷ js) os f a = absurd f
forgets_all (k ∷ ks) [] os f a = absurd f
forgets_all (k ∷ ks) (j ∷ js) [] f a = absurd a
forgets_all (k ∷ ks) (j ∷ js) (o ∷ os) f a = (forgets_one k j o f.0 a.0, forgets_all ks js os f.1 a.1)

-- those below what is taken
below : (bytes : ℕ) (ws : List Requirement) (from under : List Kind) (os : List Operand) → AllMeet bytes ws from under → Agree from os → Agree under (drop (length ws) os)
below bytes [] from under os w a = subst (λ (ks : List Kind). Agree ks os) w a
below bytes (w ∷ ws) [] under os h a = absurd h
below bytes (w ∷ ws) (k ∷ ks) under [] h a = absurd a
below bytes (w ∷ ws) (k ∷ ks) under (o ∷ os) h a = below bytes ws ks under os h.1 a.1

-- of what is given nothing is known
given_kinds : (t : Option ValType) (under : List Kind) (os : List Operand) → Agree under os → Agree (kinds t ++ under) (replicate (result_count t) Unknown ++ os)
given_kinds None under os a = a
given_kinds (Some t) under os a = (tt, a)

module _ (m : Module) (lo : List ValType) (o : Option ValType) (labels : List (Option ValType)) where
  abbrev Here : Context
  Here = context m lo o labels

  -- an instruction that gives one operand or none
  changed : (t : Option ValType) (ws : List Requirement) (from to : List Kind) (os : List Operand) → Changes Here ws (kinds t) from to → Agree from os → Agree to (replicate (result_count t) Unknown ++ drop (length ws) os)
  changed t ws from to os c a =
      subst (λ (ks : List Kind). Agree ks (replicate (result_count t) Unknown ++ drop (length ws) os)) (sym c.2) (given_kinds t c.0 (drop (length ws) os) (below (memory_bytes m) ws from c.0 os c.1 a))

  changed_at : (t : Option ValType) (ws : List Requirement) (a : Arity) (from to : List Kind) (os : List Operand) → length ws ≡ a.takes → result_count t ≡ a.gives → Changes Here ws (kinds t) from to → Agree from os → Agree to (known_after a os)
  changed_at t ws a from to os takes gives c g =
      subst (λ (n : ℕ). Agree to (replicate a.gives Unknown ++ drop n os)) takes (subst (λ (n : ℕ). Agree to (replicate n Unknown ++ drop (length ws) os)) gives (changed t ws from to os c g))

  constant_known : (v : Value) (from to : List Kind) (os : List Operand) → Changes Here [] (constant_kind v ∷ []) from to → Agree from os → Agree to (KnownOperand (number_of v) ∷ os)
  constant_known (I32 n) from to os c a =
      subst (λ (ks : List Kind). Agree ks (KnownOperand n ∷ os)) (sym c.2) (refl, below (memory_bytes m) [] from c.0 os c.1 a)
  constant_known (I64 n) from to os c a =
      subst (λ (ks : List Kind). Agree ks (KnownOperand n ∷ os)) (sym c.2) (refl, below (memory_bytes m) [] from c.0 os c.1 a)

  plain_known : (p : Plain) (from to : List Kind) (os : List Operand) → PlainKnown Here p from to → Agree from os → Agree to (known_behind p os)
  plain_known plain.Nop from to os t a = changed None [] from to os t a
  plain_known plain.Drop from to os t a = changed None (requirement.Value t.0 ∷ []) from to os t.1 a
  plain_known plain.Select from to os t a = changed (Some t.0) (requirement.Value val_type.I32 ∷ requirement.Value t.0 ∷ requirement.Value t.0 ∷ []) from to os t.1 a
  plain_known (plain.Const v) from to os t a = constant_known v from to os t a
  plain_known (plain.Numeric op) from to os t a = changed_at (Some (numeric_gives op)) (numeric_requirements Here op) (plain_arity (plain.Numeric op)) from to os (numeric_length m lo o labels op) refl t a
  plain_known (plain.Variable (variable.LocalGet x)) from to os t a = changed (Some t.0) [] from to os t.2 a
  plain_known (plain.Variable (variable.LocalSet x)) from to os t a = changed None (requirement.Value t.0 ∷ []) from to os t.2 a
  plain_known (plain.Variable (variable.LocalTee x)) from to os t a = changed (Some t.0) (requirement.Value t.0 ∷ []) from to os t.2 a
  plain_known (plain.Variable (variable.GlobalGet x)) from to os t a = changed (Some t.0.value) [] from to os t.2 a
  plain_known (plain.Variable (variable.GlobalSet x)) from to os t a = changed None (requirement.Value t.0.value ∷ []) from to os t.2.1 a
  plain_known (plain.Memory (memory.Load op b)) from to os t a = changed (Some (load_type op)) (requirement.Constant val_type.I32 (premise.Reaches b.offset (load_width op)) ∷ []) from to os t.1.1 a
  plain_known (plain.Memory (memory.Store op b)) from to os t a = changed None (requirement.Value (store_type op) ∷ requirement.Constant val_type.I32 (premise.Reaches b.offset (store_width op)) ∷ []) from to os t.1.1 a
  plain_known (plain.Memory memory.Size) from to os t a = changed (Some val_type.I32) [] from to os t.1 a
  plain_known (plain.Memory memory.Grow) from to os t a = changed (Some val_type.I32) (requirement.Value val_type.I32 ∷ []) from to os t.1 a

  -- a branch that is not taken leaves what it would keep
  test_known : (t : Option ValType) (from to : List Kind) (os : List Operand) → Changes Here (requirement.Value val_type.I32 ∷ requirements t) (kinds t) from to → Agree from os → Agree to (drop 1 os)
  test_known t [] to os c a = absurd c.1
  test_known t (k ∷ from) to [] c a = absurd a
  test_known None (k ∷ from) to (x ∷ os) c a = subst (λ (ks : List Kind). Agree ks os) (c.1.1 ∙ sym c.2) a.1
  test_known (Some t) (k ∷ []) to (x ∷ os) c a = absurd c.1.1
  test_known (Some t) (k ∷ j ∷ from) to (x ∷ []) c a = absurd a.1
  test_known (Some t) (k ∷ j ∷ from) to (x ∷ y ∷ os) c a = subst (λ (ks : List Kind). Agree ks (y ∷ os)) (sym c.2) (tt, subst (λ (ks : List Kind). Agree ks os) c.1.1.1 a.1.1)

  call_takes : (hc : Option HostCall) (ps : List ValType) → length (call_requirements Here hc ps) ≡ length ps
  call_takes hc ps = by_slot (takes_slot hc) ps
    where
      by_slot : (b : Bool) (ps : List ValType) → length (parameter_requirements Here b ps) ≡ length ps
      by_slot false ps = length-map (reverse ps) requirement.Value ∙ length-reverse ps
      by_slot true [] = refl
      by_slot true (slot ∷ others) =
          let a = length-append (map requirement.Value (reverse others)) (known Here slot premise.IsSlot ∷ []) in
          let b = length-map (reverse others) requirement.Value in
          let c = length-reverse others in
          omega (arith, a, b, c)

-- ---- what is loaded and stored

-- the rule holds of an access that lies in the memory
abbrev pub IsMet : Module → (ℕ → ℕ → Type 0) → Access → Type 0
IsMet m R a = a.from + a.width ≤ memory_bytes m → R a.from a.width

module _ (m : Module) (R : ℕ → ℕ → Type 0) where
  abbrev AreMet : List Access → Type 0
  AreMet accessed = AllByRecursion (IsMet m R) accessed

  halves : (xs ys : List Access) → AreMet (xs ++ ys) → AreMet xs × AreMet ys
  halves [] ys a = (tt, a)
  halves (x ∷ xs) ys a = let p = halves xs ys a.1 in ((a.0, p.0), p.1)

  -- an access at an address that is known
  at_known : (n offset width : ℕ) (o : Operand) → o ≡ KnownOperand n → n + offset + width ≤ memory_bytes m → AreMet (access_at o offset width) → R (n + offset) width
  at_known n offset width o e within met =
      let a : AreMet (record { from = n + offset; width = width } ∷ []) = subst (λ (o : Operand). AreMet (access_at o offset width)) e met in a.0 within

  address_is : (v : Value) (t : ValType) (n : ℕ) → v ≡ value t n → number_of v ≡ n
  address_is v val_type.I32 n e = ap number_of e
  address_is v val_type.I64 n e = ap number_of e

  -- an operand that has to be an address
  at_operand : (k : Kind) (o : Operand) (v : Value) (offset width : ℕ) → Meets (memory_bytes m) (requirement.Constant val_type.I32 (premise.Reaches offset width)) k → Tells k o → HasKind v k → AreMet (access_at o offset width) → R (number_of v + offset) width
  at_operand (Any t) o v offset width w a h met = absurd w
  at_operand (Is t n) o v offset width w a h met = subst (λ (k : ℕ). R (k + offset) width) (sym (address_is v t n h)) (at_known n offset width o a w.1 met)

  module _ (lo : List ValType) (o : Option ValType) (labels : List (Option ValType)) where
    touches : (p : Plain) (from to : List Kind) (os : List Operand) → PlainKnown (context m lo o labels) p from to → Agree from os → AreMet (plain_accesses p os) → TouchesFrom R p from
    touches plain.Nop from to os t a met vs h = tt
    touches plain.Drop from to os t a met vs h = tt
    touches plain.Select from to os t a met vs h = tt
    touches (plain.Const v) from to os t a met vs h = tt
    touches (plain.Numeric op) from to os t a met vs h = tt
    touches (plain.Variable op) from to os t a met vs h = tt
    touches (plain.Memory (memory.Load op b)) from to os t a met [] h = tt
    touches (plain.Memory (memory.Load op b)) [] to os t a met (v ∷ vs) h = absurd h
    touches (plain.Memory (memory.Load op b)) (k ∷ from) to [] t a met (v ∷ vs) h = absurd a
    touches (plain.Memory (memory.Load op b)) (k ∷ from) to (x ∷ os) t a met (v ∷ vs) h = at_operand k x v b.offset (load_width op) t.1.1.1.0 a.0 h.0 met
    touches (plain.Memory (memory.Store op b)) from to os t a met [] h = tt
    touches (plain.Memory (memory.Store op b)) from to os t a met (v ∷ []) h = tt
    touches (plain.Memory (memory.Store op b)) [] to os t a met (n ∷ v ∷ vs) h = absurd h
    touches (plain.Memory (memory.Store op b)) (j ∷ []) to os t a met (n ∷ v ∷ vs) h = absurd h.1
    touches (plain.Memory (memory.Store op b)) (j ∷ k ∷ from) to [] t a met (n ∷ v ∷ vs) h = absurd a
    touches (plain.Memory (memory.Store op b)) (j ∷ k ∷ from) to (y ∷ []) t a met (n ∷ v ∷ vs) h = absurd a.1
    touches (plain.Memory (memory.Store op b)) (j ∷ k ∷ from) to (y ∷ x ∷ os) t a met (n ∷ v ∷ vs) h = at_operand k x v b.offset (store_width op) t.1.1.1.1.0 a.1.0 h.1.0 met
    touches (plain.Memory memory.Size) from to os t a met vs h = tt
    touches (plain.Memory memory.Grow) from to os t a met vs h = tt

  module _ (types : AllByRecursion TypeHolds m.types) (lo : List ValType) (o : Option ValType) where
    -- what the code comes to after an instruction is covered where what stands before is
    pub covered : (is : Code) (labels : List (Option ValType)) (from to : List Kind) (os : List Operand) (i : Known is (context m lo o labels) from to) → Agree from os → AreMet (accesses_along (arity_table m) is os) → Covered R is (context m lo o labels) from to i
    covered code.end labels from to os i a met = tt
    covered (code.plain p rest) labels from to os i a met =
        let after = accesses_along (arity_table m) rest (known_behind p os) in (
          touches lo o labels p from i.1.0 os i.1.1 a (halves (plain_accesses p os) after met).0,
          covered rest labels i.0 to (known_behind p os) i.2 (forgets_all i.1.0 i.0 (known_behind p os) i.1.2 (plain_known m lo o labels p from i.1.0 os i.1.1 a)) (halves (plain_accesses p os) after met).1,
        )
    covered (code.branch (branch.Br l) rest) labels from to os i a met = tt
    covered (code.branch (branch.BrIf l) rest) labels from to os i a met =
        covered rest labels i.0 to (drop 1 os) i.2 (forgets_all i.1.0 i.0 (drop 1 os) i.1.2 (test_known m lo o labels i.1.1.0 from i.1.0 os i.1.1.2 a)) met
    covered (code.branch (branch.BrTable ls l) rest) labels from to os i a met = tt
    covered (code.branch branch.Return rest) labels from to os i a met = tt
    covered (code.call f rest) labels from to os i a met =
        let t = i.1.1.0 in
        let after = known_after (arity_at (arity_table m) f) os in
        covered rest labels i.0 to after i.2 (forgets_all i.1.0 i.0 after i.1.2 (changed_at m lo o labels (first_type t.results) (call_requirements (context m lo o labels) (host_call_at m f) t.parameters) (arity_at (arity_table m) f) from i.1.0 os (call_takes m lo o labels (host_call_at m f) t.parameters ∙ sym (call_counts m f t i.1.1.1 types)) (sym (call_results m f t i.1.1.1 types)) i.1.1.2 a)) met
    covered (code.call_indirect t rest) labels from to os i a met = tt
    covered (code.unreachable rest) labels from to os i a met = tt
    covered (code.block t body rest) labels from to os i a met =
        let first = accesses_along (arity_table m) body [] in
        let after = known_after (block_arity t) os in (
          covered body (t ∷ labels) [] (kinds t) [] i.1 tt (halves first (accesses_along (arity_table m) rest after) met).0,
          covered rest labels i.0 to after i.3 (forgets_all i.2.0 i.0 after i.2.2 (changed m lo o labels t [] from i.2.0 os i.2.1 a)) (halves first (accesses_along (arity_table m) rest after) met).1,
        )
    covered (code.loop t body rest) labels from to os i a met =
        let first = accesses_along (arity_table m) body [] in
        let after = known_after (block_arity t) os in (
          covered body (None ∷ labels) [] (kinds t) [] i.1 tt (halves first (accesses_along (arity_table m) rest after) met).0,
          covered rest labels i.0 to after i.3 (forgets_all i.2.0 i.0 after i.2.2 (changed m lo o labels t [] from i.2.0 os i.2.1 a)) (halves first (accesses_along (arity_table m) rest after) met).1,
        )
    covered (code.choice t body other rest) labels from to os i a met =
        let first = accesses_along (arity_table m) body [] in
        let second = accesses_along (arity_table m) other [] in
        let after = known_after (block_arity t) (known_after test_arity os) in
        let last = accesses_along (arity_table m) rest after in
        let others = (halves first (second ++ last) met).1 in (
          covered body (t ∷ labels) [] (kinds t) [] i.1 tt (halves first (second ++ last) met).0,
          covered other (t ∷ labels) [] (kinds t) [] i.2 tt (halves second last others).0,
          covered rest labels i.0 to after i.4 (forgets_all i.3.0 i.0 after i.3.2 (changed m lo o labels t (requirement.Value val_type.I32 ∷ []) from i.3.0 os i.3.1 a)) (halves second last others).1,
        )

  -- the accesses of a function are among the module's
  functions_met : (fs : List Function) (k : ℕ) (f : Function) → slice_get fs k ≡ Some f → AreMet (accesses_in (arity_table m) fs) → AreMet (accesses_along (arity_table m) f.body [])
  functions_met [] k f e met = absurd (none_some f e)
  functions_met (g ∷ fs) zero f e met =
      subst (λ (h : Function). AreMet (accesses_along (arity_table m) h.body [])) (some_is g f e) (halves (accesses_along (arity_table m) g.body []) (accesses_in (arity_table m) fs) met).0
  functions_met (g ∷ fs) (suc k) f e met =
      functions_met fs k f e (halves (accesses_along (arity_table m) g.body []) (accesses_in (arity_table m) fs) met).1

  pub function_met : (k : ℕ) (f : Function) → slice_get m.functions k ≡ Some f → AreMet (accesses m) → AreMet (accesses_along (arity_table m) f.body [])
  function_met k f e met = functions_met m.functions k f e met

-- ---- what is reached

or_left : (a b : Bool) → a ≡ true → a || b ≡ true
or_left true b e = refl
or_left false b e = absurd cc

or_right : (a b : Bool) → b ≡ true → a || b ≡ true
or_right true b e = refl
or_right false b e = e

module _ (m : Module) where
  -- marks, byte by byte
  mark_from : (byte count k : ℕ) → k < count → get_or (marks_from m byte count) k false ≡ is_reached m (byte + k)
  mark_from byte zero k h = absurd (omega arith)
  mark_from byte (suc count) zero h = let e : byte ≡ byte + 0 = omega arith in ap (is_reached m) e
  mark_from byte (suc count) (suc k) h =
      let e : suc byte + k ≡ byte + suc k = omega arith in mark_from (suc byte) count k (omega (arith, h)) ∙ ap (is_reached m) e

  marked : (byte : ℕ) → byte < memory_bytes m → is_covered byte (accesses m) ≡ true → get_or (marks m) byte false ≡ true
  marked byte h e =
      let z : byte ≡ 0 + byte = omega arith in
      mark_from 0 (memory_bytes m) byte h ∙ ap (is_reached m) (sym z) ∙ ap (λ (b : Bool). b && is_covered byte (accesses m)) (lt-ltb byte (memory_bytes m) h) ∙ e

  covers_own : (a : Access) (k : ℕ) → k < a.width → covers (a.from + k) a ≡ true
  covers_own a k h =
      ap (λ (b : Bool). b && ltb (a.from + k) (a.from + a.width)) (le-leb a.from (a.from + k) (omega arith)) ∙ lt-ltb (a.from + k) (a.from + a.width) (omega (arith, h))

  marked_among : (xs : List Access) → ((byte : ℕ) → is_covered byte xs ≡ true → is_covered byte (accesses m) ≡ true) → AllByRecursion (IsMet m (AreMarked (marks m))) xs
  marked_among [] f = tt
  marked_among (x ∷ xs) f = (
    λ within k h. marked (x.from + k) (omega (arith, within, h)) (f (x.from + k) (or_left (covers (x.from + k) x) (is_covered (x.from + k) xs) (covers_own x k h))),
    marked_among xs (λ byte e. f byte (or_right (covers byte x) (is_covered byte xs) e)),
  )

  -- the module's accesses are marked
  pub all_marked : AllByRecursion (IsMet m (AreMarked (marks m))) (accesses m)
  all_marked = marked_among (accesses m) (λ byte e. e)

-- ---- no rule

abbrev pub Anywhere : ℕ → ℕ → Type 0
Anywhere place width = Unit {0}

pub anywhere_met : (m : Module) (xs : List Access) → AllByRecursion (IsMet m Anywhere) xs
anywhere_met m [] = tt
anywhere_met m (x ∷ xs) = (λ within. tt, anywhere_met m xs)

anywhere_memory : (op : Memory) (vs : List Value) → MemoryTouches Anywhere op vs
anywhere_memory (memory.Load op a) [] = tt
anywhere_memory (memory.Load op a) (v ∷ vs) = tt
anywhere_memory (memory.Store op a) [] = tt
anywhere_memory (memory.Store op a) (n ∷ []) = tt
anywhere_memory (memory.Store op a) (n ∷ v ∷ vs) = tt
anywhere_memory memory.Size vs = tt
anywhere_memory memory.Grow vs = tt

anywhere_code : (vs : List Value) (is : Code) (ls : List ControlEntry) (st : State) → Touches Anywhere (Running vs is ls st)
anywhere_code vs (code.plain (plain.Memory op) is) ls st = anywhere_memory op vs
anywhere_code vs (code.plain plain.Nop is) ls st = tt
anywhere_code vs (code.plain plain.Drop is) ls st = tt
anywhere_code vs (code.plain plain.Select is) ls st = tt
anywhere_code vs (code.plain (plain.Const v) is) ls st = tt
anywhere_code vs (code.plain (plain.Numeric op) is) ls st = tt
anywhere_code vs (code.plain (plain.Variable op) is) ls st = tt
anywhere_code vs code.end ls st = tt
anywhere_code vs (code.branch b is) ls st = tt
anywhere_code vs (code.call f is) ls st = tt
anywhere_code vs (code.call_indirect t is) ls st = tt
anywhere_code vs (code.unreachable is) ls st = tt
anywhere_code vs (code.block t body is) ls st = tt
anywhere_code vs (code.loop t body is) ls st = tt
anywhere_code vs (code.choice t body other is) ls st = tt

pub anywhere : (x : Machine) → Touches Anywhere x
anywhere (Running vs is ls st) = anywhere_code vs is ls st
anywhere (Done st) = tt
anywhere (Trapped count) = tt
anywhere (Stuck count) = tt

-- what kinds tell of operands
abbrev pub operand_of : Kind → Operand
operand_of (Any t) = Unknown
operand_of (Is t n) = KnownOperand n

pub own_known : (ks : List Kind) → Agree ks (map operand_of ks)
own_known [] = tt
own_known (Any t ∷ ks) = (tt, own_known ks)
own_known (Is t n ∷ ks) = (refl, own_known ks)
