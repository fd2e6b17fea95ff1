-- What a call does: of the host, and of a function that the module defines.
use Rattle.std.proofs.Common.{◌≡◌, ℕ, ◌+◌, ◌-◌, ◌≤◌, ◌<◌, ◌⊎◌, inl, inr, Bool, List, [], ◌∷◌, ◌++◌, length, map, take, drop, Option, Some, None, if◌then◌else◌, refl, sym, ap, ◌∙◌, subst, arith}
use Rattle.std.specs.Prelude.{reverse}
use Rattle.std.proofs.lemmas.Bool.{le-leb}
use Rattle.std.proofs.lemmas.List.{reverse-append, reverse-reverse, length-reverse, length-append}
use Rattle.wasm_ast.specs.declared.types.ValType.{ValType}
use Rattle.wasm_ast.specs.declared.types.FuncType.{FuncType}
use Rattle.wasm_ast.specs.declared.types.Value.{Value}
use Rattle.wasm_ast.specs.declared.module.Module.{Module}
use Rattle.wasm_ast.specs.Code.{Code}
use Rattle.wasm_ast.specs.Code as code
use Rattle.wasm_ast.specs.Values.{zero_of}
use Rattle.verified.specs.declared.imports.HostCall.{HostCall}
use Rattle.verified.specs.Weights.{call_units}
use Rattle.verified.specs.LeastUnits.{call_least}
use Rattle.verified.specs.Imports.{type_of_call}
use Rattle.verified.specs.declared.requirements.Requirement.TheVariants as requirement
use Rattle.verified.specs.Spaces.{first_type}
use Rattle.verified.specs.Kinds.{Kind, kinds}
use Rattle.verified.specs.Hosts.{host_call_at}
use Rattle.verified.specs.Memory.{memory_bytes}
use Rattle.verified.specs.Known.{Changes, call_requirements}
use Rattle.semantics.specs.Configuration.{State, with_locals, tick}
use Rattle.semantics.specs.Effects.{call_effect}
use Rattle.semantics.specs.Machine.{Callee, ControlEntry, Frame, Machine, Running, Stuck, gives_one, has_result, enter, take_call, advance}
use Rattle.verified.specs.Arities.{result_count}
use Rattle.semantics.specs.Heights.{beneath, callers}
use Rattle.semantics.proofs.Values.{HasKinds, HasTypes, Takes, takes, kinds_length, types-append, zeros_typed}
use Rattle.semantics.proofs.Sound.{Sound, Given, ticked}
use Rattle.semantics.proofs.Plains.{context}
use Rattle.semantics.proofs.Hosts.{host_given}
use Rattle.semantics.proofs.Callees.{IsHostFunction, IsDefinedFunction}
use Rattle.semantics.proofs.Lengths.{changes_length, host_length, defined_length, kinds_count}
use Rattle.semantics.proofs.Reach.{IsLow, Named, Reach, Reaches, GoodCode, larger}
use Rattle.semantics.proofs.Calling.{inside, call}
use Rattle.semantics.proofs.Codes.{acts}

-- ---- arguments

types-reverse : (vs : List Value) (ts : List ValType) → HasTypes vs ts → HasTypes (reverse vs) (reverse ts)
types-reverse [] [] h = tt
types-reverse [] (t ∷ ts) h = absurd h
types-reverse (v ∷ vs) [] h = absurd h
types-reverse (v ∷ vs) (t ∷ ts) h =
    let e = reverse-append (v ∷ []) vs in
    let g = reverse-append (t ∷ []) ts in
    let k = types-append (reverse vs) (v ∷ []) (reverse ts) (t ∷ []) (types-reverse vs ts h.1) (h.0, tt) in
    subst (λ (us : List ValType). HasTypes (reverse (v ∷ vs)) us) (sym g) (subst (λ (ws : List Value). HasTypes ws (reverse ts ++ t ∷ [])) (sym e) k)

-- the topmost operands are of these types, and the others below
pub record Arguments (ts : List ValType) (vs : List Value) (below : List Kind) : Type 0 where
  pub enough : length ts ≤ length vs
  pub taken : HasTypes (take (length ts) vs) ts
  pub left : HasKinds (drop (length ts) vs) below
  pub counted : length vs ≡ length ts + length (drop (length ts) vs)

arguments : (bytes : ℕ) (ts : List ValType) (vs us : List Value) (below : List Kind) → Takes bytes (map requirement.Value ts) vs us → HasKinds us below → Arguments ts vs below
arguments bytes [] vs us below k h =
    record { enough = omega arith; taken = tt; left = subst (λ (ws : List Value). HasKinds ws below) (sym k) h; counted = omega arith }
arguments bytes (t ∷ ts) [] us below k h = absurd k
arguments bytes (t ∷ ts) (v ∷ vs) us below k h =
    let a = arguments bytes ts vs us below k.1 h in
    record { enough = omega (arith, a.enough); taken = (k.0, a.taken); left = a.left; counted = omega (arith, a.counted) }

gives_is : (ts : List ValType) → gives_one ts ≡ has_result (first_type ts)
gives_is [] = refl
gives_is (t ∷ ts) = refl

module _ (m : Module) (H F : ℕ) (R : ℕ → ℕ → Type 0) (lo : List ValType) (o : Option ValType) (labels : List (Option ValType)) where
  -- ---- calls of the host

  abbrev TypedCall : Option HostCall → FuncType → List Kind → List Kind → Type 0
  TypedCall hc t from to = Changes (context m lo o labels) (call_requirements (context m lo o labels) hc t.parameters) (kinds (first_type t.results)) from to

  pub host_changes : (f : ℕ) (t : FuncType) (g : IsHostFunction m f t) (from to : List Kind) → TypedCall (host_call_at m f) t from to → TypedCall (Some g.call) (type_of_call g.call) from to
  host_changes f t g from to c =
      subst (λ (u : FuncType). TypedCall (Some g.call) u from to) g.typed (subst (λ (hc : Option HostCall). TypedCall hc t from to) g.named c)

  host_good : (f s : ℕ) (t : FuncType) (g : IsHostFunction m f t) (from to : List Kind) → TypedCall (host_call_at m f) t from to → (vs : List Value) (is : Code) (ls : List ControlEntry) (st : State) → HasKinds vs from → Sound m lo st → IsLow H F R (Running vs (code.call f is) ls st) → Reaches m H F R (context m lo o labels) (Named (code.call f code.end)) (call_units m f + s) (Running vs (code.call f is) ls st) is ls st to
  host_good f s t g from to c vs is ls st h sound low =
      let d = host_changes f t g from to c in
      let r = takes (memory_bytes m) (call_requirements (context m lo o labels) (Some g.call) (type_of_call g.call).parameters) vs from d.0 d.1 h in
      let given = subst (λ (ks : List Kind). Given m lo (call_effect g.call vs (tick (call_units m f) st)) (tick (call_units m f) st) ks) (sym d.2) (host_given m lo g.call o labels vs r.0 (tick (call_units m f) st) d.0 r.1 r.2 (ticked m lo (call_units m f) st sound)) in
      larger m H F R (context m lo o labels) (Named (code.call f code.end)) (Named (code.call f code.end)) (λ l k. k) (call_units m f) (call_units m f + s) _ is ls st to (omega arith)
      (acts m H F R (call_units m f) (call_least m f) (context m lo o labels) (Named (code.call f code.end)) (Running vs (code.call f is) ls st) (call_effect g.call vs (tick (call_units m f) st)) (st.count + call_units m f) is ls st to low (ap (λ (x : Option Callee). take_call m x vs is ls (tick (call_units m f) st)) g.called) given)

  -- ---- calls of the module's functions

  defined_changes : (f : ℕ) (t : FuncType) (g : IsDefinedFunction m f t) (from to : List Kind) → TypedCall (host_call_at m f) t from to → TypedCall None t from to
  defined_changes f t g from to c = subst (λ (hc : Option HostCall). TypedCall hc t from to) g.unnamed c

  enters : (f : ℕ) (t : FuncType) (g : IsDefinedFunction m f t) (vs : List Value) (is : Code) (ls : List ControlEntry) (st : State) → length t.parameters ≤ length vs → advance m (Running vs (code.call f is) ls st) ≡ Running [] g.function.body (Frame (gives_one t.results) st.locals (drop (length t.parameters) vs) is ∷ ls) (with_locals (tick (call_units m f) st) (reverse (take (length t.parameters) vs) ++ map zero_of g.function.locals))
  enters f t g vs is ls st n =
      ap (λ (x : Option Callee). take_call m x vs is ls (tick (call_units m f) st)) g.called
      ∙ ap (λ (x : Option FuncType). enter g.function x vs is ls (tick (call_units m f) st)) g.typed
      ∙ ap (λ (b : Bool). if b then Running [] g.function.body (Frame (gives_one t.results) st.locals (drop (length t.parameters) vs) is ∷ ls) (with_locals (tick (call_units m f) st) (reverse (take (length t.parameters) vs) ++ map zero_of g.function.locals)) else Stuck (st.count + call_units m f)) (le-leb (length t.parameters) (length vs) n)

  -- by their types, the lowest first
  own_arguments : (t : FuncType) (vs : List Value) (below : List Kind) → Arguments (reverse t.parameters) vs below → (length t.parameters ≤ length vs) × HasTypes (reverse (take (length t.parameters) vs)) t.parameters × HasKinds (drop (length t.parameters) vs) below × (length vs ≡ length t.parameters + length (drop (length t.parameters) vs))
  own_arguments t vs below a =
      let n = length-reverse t.parameters in
      let k = subst (λ (j : ℕ). HasTypes (take j vs) (reverse t.parameters)) n a.taken in
      let turned = subst (λ (ts : List ValType). HasTypes (reverse (take (length t.parameters) vs)) ts) (reverse-reverse t.parameters) (types-reverse (take (length t.parameters) vs) (reverse t.parameters) k) in
      (omega (arith, n, a.enough), turned, subst (λ (j : ℕ). HasKinds (drop j vs) below) n a.left, subst (λ (j : ℕ). length vs ≡ j + length (drop j vs)) n a.counted)

  entered : (f s hf df r : ℕ) (t : FuncType) (g : IsDefinedFunction m f t) → GoodCode m H F R (inside m (t.parameters ++ g.function.locals) (first_type t.results)) s hf df g.function.body [] (kinds (first_type t.results))
      → (from to : List Kind) → TypedCall (host_call_at m f) t from to → (vs : List Value) (is : Code) (ls : List ControlEntry) (st : State) → HasKinds vs from → Sound m lo st → IsLow H F R (Running vs (code.call f is) ls st)
      → beneath ls + (length vs - length t.parameters + hf) ≤ H → beneath ls + length to ≤ H → callers ls + r ≤ F → df < r → 1 ≤ df
      → Reaches m H F R (context m lo o labels) (Named (code.call f code.end)) (call_units m f + s) (Running vs (code.call f is) ls st) is ls st to
  entered f s hf df r t g good from to c vs is ls st h sound low room after shallow less one =
      let d = defined_changes f t g from to c in
      let k = takes (memory_bytes m) (map requirement.Value (reverse t.parameters)) vs from d.0 d.1 h in
      let a = own_arguments t vs d.0 (arguments (memory_bytes m) (reverse t.parameters) vs k.0 d.0 k.1 k.2) in
      let us = drop (length t.parameters) vs in
      let zs = reverse (take (length t.parameters) vs) ++ map zero_of g.function.locals in
      let inner = Frame (gives_one t.results) st.locals us is ∷ ls in
      let there = with_locals (tick (call_units m f) st) zs in
      let inner_sound : Sound m (t.parameters ++ g.function.locals) there = record {
        locals_typed = types-append (reverse (take (length t.parameters) vs)) (map zero_of g.function.locals) t.parameters g.function.locals a.1 (zeros_typed g.function.locals);
        globals_typed = sound.globals_typed;
        bytes_there = sound.bytes_there;
      } in
      let q = good [] inner there tt inner_sound (omega (arith, room, a.3)) (omega (arith, shallow, less)) in
      let b = subst (λ (y : Machine). Reach m H F R (inside m (t.parameters ++ g.function.locals) (first_type t.results)) (Named g.function.body) s y code.end inner there (kinds (first_type t.results)) q.0) (sym (enters f t g vs is ls st a.0)) q.1 in
      let size = length-append (kinds (first_type t.results)) d.0 in
      let sum = ap (λ (ks : List Kind). length ks) d.2 in
      let left = kinds_length us d.0 a.2 in
      subst (Reaches m H F R (context m lo o labels) (Named (code.call f code.end)) (call_units m f + s) (Running vs (code.call f is) ls st) is ls st) (sym d.2)
      (call m H F R (context m lo o labels) (t.parameters ++ g.function.locals) (first_type t.results) (gives_one t.results) (gives_is t.results) s (Running vs (code.call f is) ls st) us is ls st zs d.0 a.2 sound low (call_units m f) (call_least m f) (omega (arith, after, size, sum, left)) (omega (arith, shallow, less, one)) (Named g.function.body) (Named (code.call f code.end)) q.0 b)

  -- ---- both

  call_length_host : (f : ℕ) (t : FuncType) (g : IsHostFunction m f t) (from to : List Kind) → TypedCall (host_call_at m f) t from to → length to ≡ length from - length t.parameters + result_count (first_type t.results)
  call_length_host f t g from to c =
      let d = host_changes f t g from to c in
      let e = changes_length m lo o labels (call_requirements (context m lo o labels) (Some g.call) (type_of_call g.call).parameters) (kinds (first_type (type_of_call g.call).results)) from to d in
      let n = host_length m lo o labels g.call in
      let k = kinds_count (first_type (type_of_call g.call).results) in
      let there : length to ≡ length from - length (type_of_call g.call).parameters + result_count (first_type (type_of_call g.call).results) = omega (arith, e, n, k) in
      subst (λ (u : FuncType). length to ≡ length from - length u.parameters + result_count (first_type u.results)) (sym g.typed) there

  call_length_defined : (f : ℕ) (t : FuncType) (g : IsDefinedFunction m f t) (from to : List Kind) → TypedCall (host_call_at m f) t from to → length to ≡ length from - length t.parameters + result_count (first_type t.results)
  call_length_defined f t g from to c =
      let e = changes_length m lo o labels (call_requirements (context m lo o labels) None t.parameters) (kinds (first_type t.results)) from to (defined_changes f t g from to c) in
      let n = defined_length m lo o labels t.parameters in
      let k = kinds_count (first_type t.results) in
      omega (arith, e, n, k)

  pub call_length : (f : ℕ) (t : FuncType) → IsHostFunction m f t ⊎ IsDefinedFunction m f t → (from to : List Kind) → TypedCall (host_call_at m f) t from to → length to ≡ length from - length t.parameters + result_count (first_type t.results)
  call_length f t (inl g) from to c = call_length_host f t g from to c
  call_length f t (inr g) from to c = call_length_defined f t g from to c

  pub call_good : (f s hf df r : ℕ) (t : FuncType) (which : IsHostFunction m f t ⊎ IsDefinedFunction m f t) → ((g : IsDefinedFunction m f t) → (1 ≤ df) × GoodCode m H F R (inside m (t.parameters ++ g.function.locals) (first_type t.results)) s hf df g.function.body [] (kinds (first_type t.results)))
      → (from to : List Kind) → TypedCall (host_call_at m f) t from to → (vs : List Value) (is : Code) (ls : List ControlEntry) (st : State) → HasKinds vs from → Sound m lo st → IsLow H F R (Running vs (code.call f is) ls st)
      → beneath ls + (length vs - length t.parameters + hf) ≤ H → beneath ls + length to ≤ H → callers ls + r ≤ F → df < r
      → Reaches m H F R (context m lo o labels) (Named (code.call f code.end)) (call_units m f + s) (Running vs (code.call f is) ls st) is ls st to
  call_good f s hf df r t (inl g) good from to c vs is ls st h sound low room after shallow less = host_good f s t g from to c vs is ls st h sound low
  call_good f s hf df r t (inr g) good from to c vs is ls st h sound low room after shallow less =
      let k = good g in
      entered f s hf df r t g k.1 from to c vs is ls st h sound low room after shallow less k.0
