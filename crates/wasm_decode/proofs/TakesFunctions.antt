-- What is read is spelled so: locals and bodies of functions.
use Rattle.std.proofs.Common.{◌≡◌, ℕ, zero, suc, ◌+◌, ◌-◌, ◌≤◌, List, [], ◌∷◌, ◌++◌, length, replicate, Some, refl, sym, ap, ◌∙◌, append_assoc, arith, length-append}
use Rattle.std.proofs.lemmas.Bool.{leb-true, eqb-true}
use Rattle.std.proofs.lemmas.List.{append-nil, length-replicate}
use Rattle.std.specs.Prelude.{◌==◌, nat_le}
use Rattle.leb.specs.inside.Bytes.{IsBytes}
use Rattle.wasm_ast.specs.declared.types.ValType.{ValType}
use Rattle.wasm_ast.specs.declared.types.FuncType.{FuncType}
use Rattle.wasm_ast.specs.declared.module.Function.{Function}
use Rattle.wasm_ast.specs.Limits.{max_locals, parameters_of, IsBodyWithin, IsFunctionWithin}
use Rattle.wasm_items.specs.Bytes.{Then, U32, Items, Vector}
use Rattle.wasm_items.specs.Types.{SpellsValType}
use Rattle.wasm_items.specs.Instructions.{SpellsExpression}
use Rattle.wasm_items.specs.inside.Reading.{is_empty}
use Rattle.wasm_items.specs.inside.ReadingCode.{expression_at}
use Rattle.wasm_decode.specs.Grammar.{SpellsGroup, locals_of, SpellsLocals, SpellsFunction, type_numbers}
use Rattle.wasm_decode.specs.inside.ReadingModule.{groups_at, locals_at, function_in, function_at, bodies_at, functions_at}
use Rattle.wasm_items.proofs.TakesCode.{expression_takes}
use Rattle.wasm_items.proofs.TakesParts.{u32_takes, val_type_takes, part_takes, Sized-part}
use Rattle.wasm_items.proofs.Tools.{bind_some, guarded_some, some_is, IsSound, Takes-all, Takes-map, Takes-back, Then_takes, made_takes, Then-joined}
use Rattle.wasm_decode.proofs.SectionParts.{length-type_numbers}

-- ---- locals

-- so many groups of locals, no more locals than there is room for
record IsGrouped (count room : ℕ) (locals : List ValType) (bytes : List ℕ) : Type 0 where
  groups : List (ℕ × ValType)
  counted : length groups ≡ count
  few : length locals ≤ room
  grouped : locals ≡ locals_of groups
  spelled : Items SpellsGroup groups bytes

one_more : (count room n : ℕ) (t : ValType) (others : List ValType) (f g h : List ℕ) → n ≤ room → U32 n f → SpellsValType t g
    → IsGrouped count (room - n) others h → IsGrouped (suc count) room (replicate n t ++ others) (f ++ (g ++ h))
one_more count room n t others f g h fits s s1 after = record {
  groups = (n, t) ∷ after.groups;
  counted = ap suc after.counted;
  few = simp (length-append, length-replicate) (omega (arith, after.few));
  grouped = ap (λ (ts : List ValType). replicate n t ++ ts) after.grouped;
  spelled = record { front = f ++ g; back = h; is_first = Then-joined f g s s1; is_second = after.spelled; parts = sym (append_assoc f g h) };
}

groups_take : (count room : ℕ) → IsSound (groups_at count room) (IsGrouped count room)
unfolding groups_at
groups_take zero room bytes x fits e =
    rw (← some_is ([], bytes) x e)
    (record { front = []; is_spelled = record { groups = []; counted = refl; few = omega arith; grouped = refl; spelled = refl }; parts = refl })
groups_take (suc count) room bytes x fits e =
    Then_takes _ u32_takes fits e λ n f b s fits1 e1.
    let g = guarded_some (nat_le n room) _ x e1 in
    Then_takes _ val_type_takes fits1 g.1 λ t f1 b1 s1 fits2 e2.
    made_takes (λ ts f2. IsGrouped (suc count) room ts (f ++ (f1 ++ f2))) (groups_take count (room - n)) fits2 e2 λ others f2 s2.
    one_more count room n t others f f1 f2 (leb-true n room g.0) s s1 s2

-- locals, no more than there is room for
record Fits (room : ℕ) (locals : List ValType) (bytes : List ℕ) : Type 0 where
  few : length locals ≤ room
  spelled : SpellsLocals locals bytes

locals_take : (room : ℕ) → IsSound (locals_at room) (Fits room)
unfolding locals_at
locals_take room bytes x fits e =
    Then_takes _ u32_takes fits e λ n f b s fits1 e1.
    Takes-map (groups_take n room b x fits1 e1) λ f1 t.
    let counted = Then-joined f f1 (rw t.counted s) t.spelled in
    record { few = t.few; spelled = record { groups = t.groups; grouped = t.grouped; spelled = counted } }

-- ---- functions

-- a function of this type that is just these bytes, with no more locals than there may be beside its parameters
record IsFunction (t parameters : ℕ) (f : Function) (inside : List ℕ) : Type 0 where
  typed : f.type_number ≡ t
  few : parameters + length f.locals ≤ max_locals
  limited : IsBodyWithin f.body
  spelled : Then (SpellsLocals f.locals) (SpellsExpression f.body) inside

function_in_takes : (t parameters : ℕ) (inside : List ℕ) (f : Function) → parameters ≤ max_locals → IsBytes inside
    → function_in t parameters inside ≡ Some f → IsFunction t parameters f inside
unfolding function_in
function_in_takes t parameters inside f few fits e =
    let locals = bind_some (locals_at (max_locals - parameters) inside) _ f e in
    let body = bind_some (expression_at locals.0.1) _ f locals.2 in
    let end = guarded_some (is_empty body.0.1) _ f body.2 in
    let first = locals_take (max_locals - parameters) inside locals.0 fits locals.1 in
    let second = expression_takes locals.0.1 body.0 (Takes-back first fits) body.1 in
    let whole = Takes-all locals.0.1 body.0.1 second end.0 in
    rw (← some_is _ f end.1) (record {
      typed = refl;
      few = omega (arith, first.is_spelled.few);
      limited = whole.1;
      spelled = record { front = first.front; back = locals.0.1; is_first = first.is_spelled.spelled; is_second = whole.0; parts = first.parts };
    })

-- no type has more parameters than it may have
abbrev pub AreFew : List FuncType → Type 0
AreFew types = (t : ℕ) → parameters_of types t ≤ max_locals

-- a function of a module with these types
abbrev pub FunctionWithin : List FuncType → Function → List ℕ → Type 0
FunctionWithin types f bytes = SpellsFunction f bytes × IsFunctionWithin types f

-- the bodies of functions, whose types these are
pub record AreBodies (types : List FuncType) (ts : List ℕ) (functions : List Function) (bytes : List ℕ) : Type 0 where
  pub typed : type_numbers functions ≡ ts
  pub spelled : Vector (FunctionWithin types) functions bytes

module _ (types : List FuncType) (few : AreFew types) where
  -- a function of this type
  abbrev OfType : ℕ → Function → List ℕ → Type 0
  OfType t f bytes = (f.type_number ≡ t) × FunctionWithin types f bytes

  function_takes : (t : ℕ) → IsSound (function_at types t) (OfType t)
  unfolding function_at
  function_takes t bytes x fits e =
      Then_takes _ part_takes fits e λ inside f b s fits1 e1.
      let a = bind_some (function_in t (parameters_of types t) inside) _ x e1 in
      let is = function_in_takes t (parameters_of types t) inside a.0 (few t) s.are_bytes a.1 in
      let spelled : FunctionWithin types a.0 f = (Sized-part _ inside f s is.spelled, (rw is.typed is.few, is.limited)) in
      rw (← some_is (a.0, b) x a.2) (record { front = []; is_spelled = (is.typed, rw append-nil spelled); parts = refl })

  -- functions of these types
  abbrev OfTypes : List ℕ → List Function → List ℕ → Type 0
  OfTypes ts fs bytes = (type_numbers fs ≡ ts) × Items (FunctionWithin types) fs bytes

  bodies_take : (ts : List ℕ) → IsSound (bodies_at types ts) (OfTypes ts)
  unfolding bodies_at
  bodies_take [] bytes x fits e = rw (← some_is ([], bytes) x e) (record { front = []; is_spelled = (refl, refl); parts = refl })
  bodies_take (t ∷ ts) bytes x fits e =
      Then_takes _ (function_takes t) fits e λ one f b s fits1 e1.
      made_takes (λ fs g. OfTypes (t ∷ ts) fs (f ++ g)) (bodies_take ts) fits1 e1 λ others g s1.
      (rw (s.0, s1.0) refl, Then-joined f g s.1 s1.1)

  pub functions_take : (ts : List ℕ) → IsSound (functions_at types ts) (AreBodies types ts)
  unfolding functions_at
  functions_take ts bytes x fits e =
      Then_takes _ u32_takes fits e λ n f b s fits1 e1.
      let g = guarded_some (n == length ts) (bodies_at types ts b) x e1 in
      Takes-map (bodies_take ts b x fits1 g.1) λ f1 t.
      let count : n ≡ length x.0 = eqb-true n (length ts) g.0 ∙ ap length (sym t.0) ∙ length-type_numbers x.0 in
      record { typed = t.0; spelled = Then-joined f f1 (rw (← count) s) t.1 }
