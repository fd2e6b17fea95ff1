-- The first configuration of a call of a bounded module.
use Rattle.std.proofs.Common.{◌≡◌, ◌≢◌, ℕ, zero, suc, ◌<◌, Bool, true, false, cond, List, [], ◌∷◌, ◌++◌, length, map, replicate, get_or, slice_get, Option, Some, None, refl, sym, ap, ◌∙◌, subst, arith}
use Rattle.std.specs.Prelude.{find, codes}
use Rattle.std.specs.Option.{option_and_then}
use Rattle.std.specs.List.{AllByRecursion}
use Rattle.std.proofs.lemmas.Bool.{false_from_ne_true}
use Rattle.std.proofs.lemmas.List.{length-replicate}
use Rattle.std.proofs.lemmas.Slice.Eq.{bytes_eq-Decides}
use Rattle.wasm_ast.specs.declared.types.ValType.{ValType}
use Rattle.wasm_ast.specs.declared.types.ValType.TheVariants as val_type
use Rattle.wasm_ast.specs.declared.types.GlobalType.{GlobalType}
use Rattle.wasm_ast.specs.declared.types.Limits.{Limits}
use Rattle.wasm_ast.specs.declared.types.Value.{Value}
use Rattle.wasm_ast.specs.declared.types.Value.TheVariants.{I32, I64}
use Rattle.wasm_ast.specs.declared.plain.Variable.TheVariants as variable
use Rattle.wasm_ast.specs.declared.plain.Plain.{Plain}
use Rattle.wasm_ast.specs.declared.plain.Plain.TheVariants as plain
use Rattle.wasm_ast.specs.declared.module.Import.{Import}
use Rattle.wasm_ast.specs.declared.module.ImportDescription.{ImportDescription}
use Rattle.wasm_ast.specs.declared.module.Export.{Export}
use Rattle.wasm_ast.specs.declared.module.Function.{Function}
use Rattle.wasm_ast.specs.declared.module.Global.{Global}
use Rattle.wasm_ast.specs.declared.module.Data.{Data}
use Rattle.wasm_ast.specs.declared.module.Module.{Module}
use Rattle.wasm_ast.specs.Code.{Code}
use Rattle.wasm_ast.specs.Values.{type_of}
use Rattle.verified.specs.Spaces.{Spaces, outer_spaces_of, spaces_of, imported}
use Rattle.verified.specs.Spaces as spaces
use Rattle.verified.specs.Constants.{PlainConstant}
use Rattle.verified.specs.Modules.{IsTyped, GlobalTyped, DataTyped, AreDistinct, name_of_export}
use Rattle.verified.specs.Hosts.{IsHostImport}
use Rattle.verified.specs.Memory.{number_of, memory_bytes, bytes_of, DataWithin, initial_number, plain_number, plain_offset, offset_number}
use Rattle.verified.specs.Compute.{has_its_name, exported_function, exported_compute}
use Rattle.verified.specs.Profile.{IsBounded, HasCompute, compute_export, plain_type}
use Rattle.semantics.specs.Machine.{defined}
use Rattle.semantics.specs.Start.{Begins, constant_value, constant_plain, initial_globals, before, laid_at, laid_in}
use Rattle.semantics.proofs.Values.{HasTypes, some_is, none_some}
use Rattle.semantics.proofs.Sound.{global_types}
use Rattle.semantics.proofs.Plains.{laid_there}
use Rattle.semantics.proofs.Callees.{IsDefinedFunction}

-- ---- what is exported as `compute`

other_name : (es : List Export) (x : Export) (n : List ℕ) (k : ℕ) → k < length es → get_or es k x ≡ x → AllByRecursion (λ y. y ≢ n) (map name_of_export es) → x.name ≢ n
other_name [] x n k h e a = absurd (omega arith)
other_name (y ∷ es) x n zero h e a = subst (λ (z : Export). z.name ≢ n) e a.0
other_name (y ∷ es) x n (suc k) h e a = other_name es x n k (omega (arith, h)) e a.1

is_named : (e : Export) → has_its_name e ≡ true → e.name ≡ codes "compute"
is_named e h = (bytes_eq-Decides e.name (codes "compute")).0 h

found : (es : List Export) (x : Export) → has_its_name x ≡ true → AreDistinct (map name_of_export es) → (k : ℕ) → k < length es → get_or es k x ≡ x → find has_its_name es ≡ Some x
found [] x c d k h e = absurd (omega arith)
found (y ∷ es) x c d zero h e =
    let t : has_its_name y ≡ true = ap (λ (z : Export). has_its_name z) e ∙ c in
    ap (λ (b : Bool). cond b (Some y) (find has_its_name es)) t ∙ ap (λ (z : Export). Some z) e
found (y ∷ es) x c d (suc k) h e =
    let differs : x.name ≢ y.name = other_name es x y.name k (omega (arith, h)) e d.0 in
    let t : has_its_name y ≡ false = false_from_ne_true (has_its_name y) (λ g. differs (is_named x c ∙ sym (is_named y g))) in
    ap (λ (b : Bool). cond b (Some y) (find has_its_name es)) t ∙ found es x c d.1 k (omega (arith, h)) e

-- ---- what globals begin with

-- the values are those that the initialisers give
abbrev Initial : List Global → List Value → Type 0
Initial [] [] = Unit {0}
Initial [] (v ∷ vs) = ⊥
Initial (g ∷ gs) [] = ⊥
Initial (g ∷ gs) (v ∷ vs) = (initial_number g.initial ≡ Some (number_of v)) × (type_of v ≡ g.global_type.value) × Initial gs vs

abbrev types_of : List Global → List ValType
types_of gs = map (λ (g : GlobalType). g.value) (map (λ (g : Global). g.global_type) gs)

initial_types : (gs : List Global) (vs : List Value) → Initial gs vs → HasTypes vs (types_of gs)
initial_types [] [] h = tt
initial_types [] (v ∷ vs) h = absurd h
initial_types (g ∷ gs) [] h = absurd h
initial_types (g ∷ gs) (v ∷ vs) h = (h.1, initial_types gs vs h.2)

-- what a global begins with
initial_at : (gs : List Global) (vs : List Value) (x n : ℕ) (t : ValType) → Initial gs vs → option_and_then (λ (g : Global). initial_number g.initial) (slice_get gs x) ≡ Some n → slice_get (types_of gs) x ≡ Some t → (v : Value) × (slice_get vs x ≡ Some v) × (number_of v ≡ n) × (type_of v ≡ t)
initial_at [] vs x n t h e g = absurd (none_some n e)
initial_at (a ∷ gs) [] x n t h e g = absurd h
initial_at (a ∷ gs) (v ∷ vs) zero n t h e g = (v, refl, some_is (number_of v) n (sym h.0 ∙ e), h.1 ∙ some_is a.global_type.value t g)
initial_at (a ∷ gs) (v ∷ vs) (suc x) n t h e g = initial_at gs vs x n t h.2 e g

i32_is : (v : Value) → type_of v ≡ val_type.I32 → v ≡ I32 (number_of v)
i32_is (I32 n) e = refl
i32_is (I64 n) e = absurd cc

module _ (m : Module) where
  no_globals : (is : List Import) → AllByRecursion (IsHostImport m) is → imported spaces.global_import is ≡ []
  no_globals [] h = refl
  no_globals (i ∷ is) h =
      ap (λ (d : ImportDescription). imported spaces.global_import (record i { description = d } ∷ is)) h.0.describes ∙ no_globals is h.1

  -- a constant where there are no globals
  constant : (s : Spaces) → s.globals ≡ [] → (p : Plain) (t : ValType) → PlainConstant s p t → (v : Value) × (constant_plain [] p ≡ Some v) × (plain_number p ≡ Some (number_of v)) × (type_of v ≡ t)
  constant s e (plain.Const v) t h = (v, refl, refl, h)
  constant s e (plain.Variable (variable.GlobalGet x)) t h =
      let gone : slice_get s.globals x ≡ None = ap (λ (gs : List GlobalType). slice_get gs x) e in
      absurd (none_some h.0 (sym gone ∙ h.1))
  constant s e _ t h = absurd h

  globals_begin : (s : Spaces) → s.globals ≡ [] → (gs : List Global) → AllByRecursion (GlobalTyped s) gs → (vs : List Value) × (initial_globals gs ≡ Some vs) × Initial gs vs
  globals_begin s e [] h = ([], refl, tt)
  globals_begin s e (g ∷ gs) h =
      let c = constant s e h.0.0 g.global_type.value h.0.2 in
      let r = globals_begin s e gs h.1 in (
        c.0 ∷ r.0,
        ap (λ (o : Option Value). before o (initial_globals gs)) (ap (λ (b : Code). constant_value [] b) h.0.1 ∙ c.1) ∙ ap (λ (o : Option (List Value)). before (Some c.0) o) r.1,
        (ap (λ (b : Code). initial_number b) h.0.1 ∙ c.2, c.3, r.2),
      )

  -- ---- the memory

  zeroed : (ms : List Limits) → length {A = ℕ} (replicate (bytes_of ms) 0) ≡ bytes_of ms
  zeroed ms = length-replicate {A = ℕ} (bytes_of ms) 0

  module _ (globals : List Value) (initial : Initial m.globals globals) (only : imported spaces.global_import m.imports ≡ []) where
    types_are : global_types m ≡ types_of m.globals
    types_are = ap (λ (gs : List GlobalType). map (λ (g : GlobalType). g.value) (gs ++ map (λ (g : Global). g.global_type) m.globals)) only

    type_at : (x : ℕ) (g : GlobalType) → slice_get (spaces_of m).globals x ≡ Some g → slice_get (types_of m.globals) x ≡ Some g.value
    type_at x g e =
        let there : slice_get (map (λ (g : Global). g.global_type) m.globals) x ≡ Some g = sym (ap (λ (gs : List GlobalType). slice_get (gs ++ map (λ (g : Global). g.global_type) m.globals) x) only) ∙ e in
        mapped (map (λ (g : Global). g.global_type) m.globals) x g there
      where
        mapped : (gs : List GlobalType) (k : ℕ) (g : GlobalType) → slice_get gs k ≡ Some g → slice_get (map (λ (h : GlobalType). h.value) gs) k ≡ Some g.value
        mapped [] k g e = absurd (none_some g e)
        mapped (h ∷ gs) zero g e = ap (λ (y : GlobalType). Some y.value) (some_is h g e)
        mapped (h ∷ gs) (suc k) g e = mapped gs k g e

    -- the value of an offset
    offset_at : (p : Plain) (n : ℕ) → PlainConstant (spaces_of m) p val_type.I32 → plain_offset m p ≡ Some n → constant_plain globals p ≡ Some (I32 n)
    offset_at (plain.Const v) n h e = ap (λ (x : Value). Some x) (i32_is v h ∙ ap (λ (k : ℕ). I32 k) (some_is (number_of v) n e))
    offset_at (plain.Variable (variable.GlobalGet x)) n h e =
        let t : slice_get (types_of m.globals) x ≡ Some val_type.I32 = type_at x h.0 h.1 ∙ ap (λ (u : ValType). Some u) h.2.1 in
        let v = initial_at m.globals globals x n val_type.I32 initial e t in
        v.1 ∙ ap (λ (y : Value). Some y) (i32_is v.0 v.3 ∙ ap (λ (k : ℕ). I32 k) v.2)
    offset_at _ n h e = absurd h

    segments_laid : (ds : List Data) → AllByRecursion (DataTyped (spaces_of m)) ds → AllByRecursion (DataWithin m) ds → (bytes : List ℕ) → length bytes ≡ memory_bytes m → (after : List ℕ) × (laid_in globals ds bytes ≡ Some after) × (length after ≡ memory_bytes m)
    segments_laid [] t w bytes e = (bytes, refl, e)
    segments_laid (d ∷ ds) t w bytes e =
        let n = w.0.0 in
        let p = t.0.offset.0 in
        let number : plain_offset m p ≡ Some n = sym (ap (λ (b : Code). offset_number m b) t.0.offset.1) ∙ w.0.1 in
        let value : constant_value globals d.offset ≡ Some (I32 n) = ap (λ (b : Code). constant_value globals b) t.0.offset.1 ∙ offset_at p n t.0.offset.2 number in
        let here = laid_there n d.bytes bytes (omega (arith, w.0.2, e)) in
        let rest = segments_laid ds t.1 w.1 here.0 (here.2 ∙ e) in (
          rest.0,
          ap (λ (o : Option Value). option_and_then (λ laid. laid_in globals ds laid) (laid_at o d.bytes bytes)) value
              ∙ ap (λ (o : Option (List ℕ)). option_and_then (λ laid. laid_in globals ds laid) o) here.1
              ∙ rest.1,
          rest.2,
        )

-- the module begins with globals of their types and a memory that is as long as it is
pub record Begun (m : Module) (function : Function) : Type 0 where
  pub globals : List Value
  pub bytes : List ℕ
  pub begins : Begins m function globals bytes
  pub typed : HasTypes globals (global_types m)
  pub long : length bytes ≡ memory_bytes m

-- `compute` is exported first under its name
pub exported_number : (m : Module) → IsTyped m → (c : HasCompute m) → exported_compute m.exports ≡ Some c.number
exported_number m typed c =
    ap (λ (o : Option Export). option_and_then (λ (e : Export). exported_function e.description) o) (found m.exports (compute_export c.number) refl typed.names c.exported.0 c.exported.1 c.exported.2)

pub begun : (m : Module) → IsTyped m → (b : IsBounded m) → IsDefinedFunction m b.compute.number plain_type → Begun m b.compute.function
begun m typed b g =
    let c = b.compute in
    let only = no_globals m m.imports b.imports in
    let gs = globals_begin m (outer_spaces_of m) only m.globals typed.globals in
    let after = segments_laid m gs.0 gs.2 only m.«data» typed.segments b.addresses.segments (replicate (memory_bytes m) 0) (zeroed m m.memories) in
    let same : g.function ≡ c.function = some_is g.function c.function (sym g.in_module ∙ c.defined) in
    let begins : Begins m c.function gs.0 after.0 = record {
      imports = b.imports;
      no_start = b.start;
      no_elements = b.elements;
      number = c.number;
      exported = exported_number m typed c;
      is_defined = g.called ∙ ap (λ (h : Function). Some (defined h)) same;
      func_type = c.typed;
      initial_values = gs.1;
      initial_bytes = after.1;
    } in
    record {
      globals = gs.0;
      bytes = after.0;
      begins = begins;
      typed = subst (HasTypes gs.0) (sym (types_are m gs.0 gs.2 only)) (initial_types m.globals gs.0 gs.2);
      long = after.2;
    }
