-- What a call begins with, as cells.
use Rattle.std.proofs.Common.{◌≡◌, ◌+◌, ◌^◌, ◌<◌, ℕ, zero, suc, List, [], ◌∷◌, ◌++◌, Bool, true, false, Option, Some, None, IsSome, option_map, length, map, take, drop, nat_le, replicate, slice_get, if◌then◌else◌, refl, sym, ap, ◌∙◌, subst, arith}
use Rattle.std.proofs.lemmas.Bool.{leb-true, ltb-true}
use Rattle.std.proofs.lemmas.List.{map-append}
use Rattle.std.proofs.lemmas.Option.{slice_get-map}
use Rattle.std.specs.Option.{option_and_then}
use Rattle.std.specs.Prelude.{slice_set}
use Rattle.wasm_ast.specs.declared.types.Value.{Value}
use Rattle.wasm_ast.specs.declared.types.Value.TheVariants.{I32, I64}
use Rattle.wasm_ast.specs.declared.plain.Plain.{Plain}
use Rattle.wasm_ast.specs.declared.plain.Plain.TheVariants as plain
use Rattle.wasm_ast.specs.declared.plain.Variable.TheVariants as variable
use Rattle.wasm_ast.specs.declared.module.Data.{Data}
use Rattle.wasm_ast.specs.declared.module.Function.{Function}
use Rattle.wasm_ast.specs.declared.module.Global.{Global}
use Rattle.wasm_ast.specs.declared.module.Module.{Module}
use Rattle.wasm_ast.specs.Code.{Code}
use Rattle.wasm_ast.specs.Code as code
use Rattle.wasm_ast.specs.Values.{zero_of}
use Rattle.verified.specs.declared.call.CallInput.{CallInput}
use Rattle.verified.specs.Host.{Host, host_of}
use Rattle.verified.specs.Memory.{memory_bytes}
use Rattle.semantics.specs.Machine.{ControlEntry}
use Rattle.semantics.specs.Memory.{laid}
use Rattle.semantics.specs.Start.{Starts, before, constant_plain, constant_value, initial_globals, initial_memory, laid_at, laid_in, segment_laid, start_state}
use Rattle.interp.specs.inside.Begun.{AreInitial, AreInitialBytes, BeginsWith, HasInitial, IsBeginning, IsReset, cell_laid_at, cell_memory_laid, cell_segment_laid, cells_laid_in}
use Rattle.interp.specs.inside.Cells.{cell_of, cells_place, in_width, zero_cells}
use Rattle.interp.specs.inside.Fits.{AreFit, IsFit}
use Rattle.interp.specs.inside.Kept.{laid_over, masked}
use Rattle.semantics.specs.inside.Touched.{marks}
use Rattle.interp.specs.inside.Place.{Place, Standing, at, hosted, running}
use Rattle.interp.proofs.Beginnings.{after, after_one}
use Rattle.interp.proofs.Cells.{zeros_follow}
use Rattle.interp.proofs.Ending.{comes_here}
use Rattle.interp.proofs.Fits.{fit-append, zeros_fit}
use Rattle.interp.proofs.Kept.{laid_masked, length-masked}
use Rattle.semantics.proofs.Values.{some_is}

-- ---- globals

pub fits_in : (v : Value) → in_width v ≡ true → IsFit v
fits_in (I32 n) e = ltb-true n (2 ^ 32) e
fits_in (I64 n) e = tt

-- the cells of the initial values so far, with the remaining ones
pub record SoFar (all left : List Global) (cells : List Value) : Type 0 where
  pub values : List Value
  pub initial : initial_globals all ≡ after values (initial_globals left)
  pub are : map cell_of values ≡ cells
  pub fit : AreFit values

pub one_more : (all left rest : List Global) (g : Global) (cells : List Value) (v : Value) (cell : ℕ) → left ≡ g ∷ rest → Some v ≡ constant_value [] g.initial → I64 cell ≡ cell_of v → in_width v ≡ true → SoFar all left cells → SoFar all rest (cells ++ I64 cell ∷ [])
one_more all left rest g cells v cell e is same fits s = record {
  values = s.values ++ v ∷ [];
  initial = s.initial ∙ ap (λ (gs : List Global). after s.values (initial_globals gs)) e ∙ ap (λ (o : Option Value). after s.values (before o (initial_globals rest))) (sym is) ∙ after_one s.values v (initial_globals rest);
  are = map-append cell_of s.values (v ∷ []) ∙ ap (λ (l : List Value). l ++ cell_of v ∷ []) s.are ∙ ap (λ (c : Value). cells ++ c ∷ []) (sym same);
  fit = fit-append s.values (v ∷ []) s.fit (fits_in v fits, tt);
}

-- the next one is set
pub take-set_next : (n : ℕ) (vs : List Value) (v : Value) → n < length vs → take (suc n) (slice_set vs n v) ≡ take n vs ++ v ∷ []
take-set_next n [] v h = absurd (omega (arith, h))
take-set_next zero (w ∷ vs) v h = refl
take-set_next (suc n) (w ∷ vs) v h = ap (λ (l : List Value). w ∷ l) (take-set_next n vs v (omega (arith, h)))

-- ---- the memory

constant_both : (P : Option Value → Option Value → Type 0) (gs hs : List Value) → ((p : Plain) → P (constant_plain gs p) (constant_plain hs p)) → P None None → (body : Code) → P (constant_value gs body) (constant_value hs body)
constant_both P gs hs f n (code.plain p code.end) = f p
constant_both P gs hs f n (code.plain p (code.plain q is)) = n
constant_both P gs hs f n (code.plain p (code.branch b is)) = n
constant_both P gs hs f n (code.plain p (code.call g is)) = n
constant_both P gs hs f n (code.plain p (code.call_indirect t is)) = n
constant_both P gs hs f n (code.plain p (code.unreachable is)) = n
constant_both P gs hs f n (code.plain p (code.block t inner is)) = n
constant_both P gs hs f n (code.plain p (code.loop t inner is)) = n
constant_both P gs hs f n (code.plain p (code.choice t inner other is)) = n
constant_both P gs hs f n code.end = n
constant_both P gs hs f n (code.branch b is) = n
constant_both P gs hs f n (code.call g is) = n
constant_both P gs hs f n (code.call_indirect t is) = n
constant_both P gs hs f n (code.unreachable is) = n
constant_both P gs hs f n (code.block t inner is) = n
constant_both P gs hs f n (code.loop t inner is) = n
constant_both P gs hs f n (code.choice t inner other is) = n

-- where a segment is at a value, its kept bytes are at the cell
abbrev Lies : Option Value → Option Value → Type 0
Lies o u =
    (ms : List Bool) (segment bytes r : List ℕ) → laid_at o segment bytes ≡ Some r → cell_laid_at u segment (masked ms bytes) ≡ Some (masked ms r)

lies_at : (n : ℕ) (ms : List Bool) (segment bytes r : List ℕ) → laid n segment bytes ≡ Some r → cell_laid_at (Some (I64 n)) segment (masked ms bytes) ≡ Some (masked ms r)
lies_at n ms segment bytes r e = by_place (nat_le (n + length segment) (length bytes)) refl
  where
    by_place : (b : Bool) → nat_le (n + length segment) (length bytes) ≡ b → cell_laid_at (Some (I64 n)) segment (masked ms bytes) ≡ Some (masked ms r)
    by_place true h =
        let there : Some (take n bytes ++ segment ++ drop (n + length segment) bytes) ≡ Some r = sym (ap (λ (b : Bool). if b then Some (take n bytes ++ segment ++ drop (n + length segment) bytes) else None) h) ∙ e in
        ap (λ (k : ℕ). if nat_le (n + length segment) k then Some (laid_over n segment (masked ms bytes)) else None) (length-masked ms bytes)
        ∙ ap (λ (b : Bool). if b then Some (laid_over n segment (masked ms bytes)) else None) h
        ∙ ap (λ (l : List ℕ). Some l) (laid_masked n segment bytes ms (leb-true (n + length segment) (length bytes) h))
        ∙ ap (λ (l : List ℕ). Some (masked ms l)) (some_is (take n bytes ++ segment ++ drop (n + length segment) bytes) r there)
    by_place false h =
        let none : None ≡ Some r = sym (ap (λ (b : Bool). if b then Some (take n bytes ++ segment ++ drop (n + length segment) bytes) else None) h) ∙ e in absurd cc

no_place : Lies None None
no_place ms segment bytes r e = absurd cc

got : (o : Option Value) → Lies o (option_map cell_of o)
got None ms segment bytes r e = absurd cc
got (Some (I32 n)) ms segment bytes r e = lies_at n ms segment bytes r e
got (Some (I64 n)) ms segment bytes r e = absurd cc

at_variable : (gs : List Value) (x : ℕ) → Lies (slice_get gs x) (slice_get (map cell_of gs) x)
at_variable gs x = subst (λ (o : Option Value). Lies (slice_get gs x) o) (sym (slice_get-map cell_of gs x)) (got (slice_get gs x))

at_plain : (gs : List Value) (p : Plain) → Lies (constant_plain gs p) (constant_plain (map cell_of gs) p)
at_plain gs (plain.Const (I32 n)) ms segment bytes r e = lies_at n ms segment bytes r e
at_plain gs (plain.Const (I64 n)) ms segment bytes r e = absurd cc
at_plain gs (plain.Variable (variable.GlobalGet x)) ms segment bytes r e = at_variable gs x ms segment bytes r e
at_plain gs (plain.Variable (variable.LocalGet x)) ms segment bytes r e = absurd cc
at_plain gs (plain.Variable (variable.LocalSet x)) ms segment bytes r e = absurd cc
at_plain gs (plain.Variable (variable.LocalTee x)) ms segment bytes r e = absurd cc
at_plain gs (plain.Variable (variable.GlobalSet x)) ms segment bytes r e = absurd cc
at_plain gs plain.Nop ms segment bytes r e = absurd cc
at_plain gs plain.Drop ms segment bytes r e = absurd cc
at_plain gs plain.Select ms segment bytes r e = absurd cc
at_plain gs (plain.Numeric op) ms segment bytes r e = absurd cc
at_plain gs (plain.Memory op) ms segment bytes r e = absurd cc

module _ (ms : List Bool) (gs : List Value) where
  segment_lies : (d : Data) (bytes r : List ℕ) → segment_laid gs d bytes ≡ Some r → cell_segment_laid (map cell_of gs) d (masked ms bytes) ≡ Some (masked ms r)
  segment_lies d bytes r e = constant_both Lies gs (map cell_of gs) (at_plain gs) no_place d.offset ms d.bytes bytes r e

  others_lie : (d : Data) (ds : List Data) (bytes r : List ℕ) (o : Option (List ℕ)) → ((b : List ℕ) → laid_in gs ds b ≡ Some r → cells_laid_in (map cell_of gs) ds (masked ms b) ≡ Some (masked ms r)) → segment_laid gs d bytes ≡ o → option_and_then (λ laid. laid_in gs ds laid) o ≡ Some r → cells_laid_in (map cell_of gs) (d ∷ ds) (masked ms bytes) ≡ Some (masked ms r)
  others_lie d ds bytes r None others s e = absurd cc
  others_lie d ds bytes r (Some b) others s e =
      ap (λ (o : Option (List ℕ)). option_and_then (λ laid. cells_laid_in (map cell_of gs) ds laid) o) (segment_lies d bytes b s) ∙ others b e

  segments_lie : (ds : List Data) (bytes r : List ℕ) → laid_in gs ds bytes ≡ Some r → cells_laid_in (map cell_of gs) ds (masked ms bytes) ≡ Some (masked ms r)
  segments_lie [] bytes r e = ap (λ (o : Option (List ℕ)). option_map (masked ms) o) e
  segments_lie (d ∷ ds) bytes r e = others_lie d ds bytes r (segment_laid gs d bytes) (λ b. segments_lie ds b r) refl e

module _ (m : Module) (has : HasInitial m) (cells : List Value) (a : AreInitial m.globals cells) where
  same_values : a.values ≡ has.globals
  same_values = some_is a.values has.globals (sym a.initial ∙ has.initial_values)

  memory_lies : cell_memory_laid cells m ≡ Some (masked (marks m) has.bytes)
  memory_lies =
      ap (λ (l : List Value). cell_memory_laid l m) (sym a.are) ∙ ap (λ (vs : List Value). cell_memory_laid (map cell_of vs) m) same_values
      ∙ segments_lie (marks m) has.globals m.data (replicate (memory_bytes m) 0) has.bytes has.initial_bytes

  pub memory_there : IsSome (cell_memory_laid cells m)
  memory_there = subst (λ (o : Option (List ℕ)). IsSome o) (sym memory_lies) refl

  pub memory_is : (bytes : List ℕ) → cell_memory_laid cells m ≡ Some bytes → AreInitialBytes m a.values bytes
  memory_is bytes e = record {
    whole = has.bytes;
    initial = ap (λ (vs : List Value). initial_memory vs m) same_values ∙ has.initial_bytes;
    are = some_is (masked (marks m) has.bytes) bytes (sym memory_lies ∙ e);
  }

-- ---- the first configuration

abbrev place_with : Code → (values : List Value) (entries : List ControlEntry) (locals globals : List Value) (bytes : List ℕ) (host : Host) → Place
place_with k vs ls locals globals bytes host =
    record { values = vs; code = k; entries = ls; state = record { locals = locals; globals = globals; memory = bytes; host = host; count = 0 } }

module _ (m : Module) (f : Function) (input : CallInput) (begins : BeginsWith m f) where
  abbrev first_place : (globals : List Value) (bytes : List ℕ) → Place
  first_place globals bytes = record { values = []; code = f.body; entries = []; state = start_state f globals bytes input }

  starts : (globals : List Value) (bytes : List ℕ) → initial_globals m.globals ≡ Some globals → initial_memory globals m ≡ Some bytes → Starts m input (running (first_place globals bytes))
  starts globals bytes g b =
      let h = begins.begins in
      record {
        function = f;
        globals = globals;
        bytes = bytes;
        begins = record { imports = h.imports; no_start = h.no_start; no_elements = h.no_elements; number = h.number; exported = h.exported; is_defined = h.is_defined; func_type = h.func_type; initial_values = g; initial_bytes = b };
        is = refl;
      }

  pub begins_as_cells : (s : Standing) (a : AreInitial m.globals s.globals) → AreInitialBytes m a.values s.memory → s.values ≡ [] → s.entries ≡ [] → s.locals ≡ zero_cells f.locals → s.host ≡ host_of input → IsBeginning m f.body input s
  begins_as_cells s a bytes no_values no_entries locals host =
      let first = first_place a.values bytes.whole in
      let is : cells_place (marks m) first ≡ at s f.body 0 =
      ap (λ (l : List ℕ). place_with f.body [] [] (map cell_of (map zero_of f.locals)) (map cell_of a.values) l (host_of input)) bytes.are
      ∙ ap (λ (l : List Value). place_with f.body [] [] l (map cell_of a.values) s.memory (host_of input)) (sym (zeros_follow f.locals) ∙ sym locals)
      ∙ ap (λ (l : List Value). place_with f.body [] [] s.locals l s.memory (host_of input)) a.are
      ∙ ap (λ (h : Host). place_with f.body [] [] s.locals s.globals s.memory h) (sym host)
      ∙ ap (λ (l : List Value). place_with f.body l [] s.locals s.globals s.memory s.host) (sym no_values)
      ∙ ap (λ (l : List ControlEntry). place_with f.body s.values l s.locals s.globals s.memory s.host) (sym no_entries) in
      record {
        from = running first;
        starts = starts a.values bytes.whole a.initial bytes.initial;
        follows = record { place = first; comes = comes_here m (running first); fits = (tt, (tt, (zeros_fit f.locals, a.fit))); is = is };
      }

  -- a walk that was reset, with the host of the call
  pub begins_reset : (s : Standing) (h : Host) → IsReset m f s → h ≡ host_of input → IsBeginning m f.body input (hosted s h)
  begins_reset s h r host = begins_as_cells (hosted s h) r.image.globals r.image.bytes r.values r.entries r.locals host
