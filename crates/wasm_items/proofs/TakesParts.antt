-- What is read is spelled so: numbers, vectors, names and types.
use Rattle.std.proofs.Common.{◌≡◌, ℕ, zero, suc, ◌≤◌, List, [], ◌∷◌, ◌++◌, length, take, drop, Some, None, Result, Ok, Err, refl, sym, ap, ◌∙◌}
use Rattle.std.proofs.lemmas.Bool.{leb-true, eqb-true}
use Rattle.std.proofs.lemmas.List.{take-append-drop, length-take-le}
use Rattle.std.proofs.lemmas.Str.{IsUtf8-from_is_utf8}
use Rattle.std.specs.Prelude.{◌==◌, nat_le}
use Rattle.std.specs.Str.{is_utf8}
use Rattle.leb.specs.inside.Bytes.{IsBytes}
use Rattle.leb.specs.declared.fault.LebFault.{LebFault}
use Rattle.leb.specs.inside.Reading.{unsigned_at, signed_at}
use Rattle.leb.specs.Spelling.{IsSigned}
use Rattle.leb.proofs.Unsigned.{unsigned_takes}
use Rattle.leb.proofs.Signed.{signed_takes}
use Rattle.wasm_ast.specs.declared.types.ValType.TheVariants.{I32, I64}
use Rattle.wasm_ast.specs.declared.types.Limits.{Limits}
use Rattle.wasm_ast.specs.declared.types.Mutability.TheVariants.{Constant, Variable}
use Rattle.wasm_ast.specs.declared.types.GlobalType.{GlobalType}
use Rattle.wasm_ast.specs.Limits.{max_parameters, max_results, IsTypeWithin}
use Rattle.wasm_items.specs.Bytes.{Byte, U32, Items, Vector, ByteVector, Name, Sized}
use Rattle.wasm_items.specs.Types.{SpellsValType, SpellsBlockType, SpellsFuncType, SpellsLimits, SpellsTableType, mutability_byte, SpellsGlobalType}
use Rattle.wasm_items.specs.inside.Reading.{Reads, guarded, of_leb, byte_at, u32_at, signed_number_at, take_at, part_at, items_at, vector_at, name_at, val_type_at, block_type_at, func_type_at, at_least_at, between_at, range_at, limits_at, table_type_at, mutability_at, global_type_at}
use Rattle.wasm_items.proofs.Tools.{Spelling, bind_some, guarded_some, some_is, never, by_byte, IsBytes-front, all_bytes, IsSound, Within, Takes-map, Then_takes, made_takes, Then-joined}

of_leb_some : {A : Type 0} (r : Result A LebFault) (y : A) → of_leb r ≡ Some y → r ≡ Ok y
of_leb_some (Ok x) y e = let same : x ≡ y = some_is x y e in rw same refl
of_leb_some (Err f) y e = never y e

pub byte_takes : IsSound byte_at Byte
unfolding byte_at
byte_takes [] x fits e = never x e
byte_takes (b ∷ bytes) x fits e = rw (← some_is (b, bytes) x e) (record { front = b ∷ []; is_spelled = refl; parts = refl })

pub u32_takes : IsSound u32_at U32
unfolding u32_at
u32_takes bytes x fits e =
    let t = unsigned_takes 32 bytes x fits (of_leb_some (unsigned_at 32 bytes) x e) in
    record { front = t.0; is_spelled = t.1; parts = t.2 }

pub signed_number_takes : (bits : ℕ) → IsSound (signed_number_at bits) (λ z f. IsSigned bits f z)
unfolding signed_number_at
signed_number_takes bits bytes x fits e =
    let t = signed_takes bits bytes x fits (of_leb_some (signed_at bits bytes) x e) in
    record { front = t.0; is_spelled = t.1; parts = t.2 }

-- a vector of at most so many items
pub record Limited {A : Type 0} (most : ℕ) (spelled : Spelling A) (xs : List A) (bytes : List ℕ) : Type 0 where
  pub few : length xs ≤ most
  pub is_vector : Vector spelled xs bytes

module _ {A : Type 0} {item : Reads A} (spelled : Spelling A) (sound : IsSound item spelled) where
  -- so many items
  abbrev Counted : ℕ → List A → List ℕ → Type 0
  Counted n xs bytes = (length xs ≡ n) × Items spelled xs bytes

  pub items_take : (n : ℕ) → IsSound (items_at item n) (Counted n)
  unfolding items_at
  items_take zero bytes x fits e = rw (← some_is ([], bytes) x e) (record { front = []; is_spelled = (refl, refl); parts = refl })
  items_take (suc n) bytes x fits e =
      Then_takes _ sound fits e λ y f b s fits1 e1.
      made_takes (λ ys g. Counted (suc n) ys (f ++ g)) (items_take n) fits1 e1 λ ys g t.
      (ap suc t.0, Then-joined f g s t.1)

  pub vector_takes : (most : ℕ) → IsSound (vector_at item most) (Limited most spelled)
  unfolding vector_at
  vector_takes most bytes x fits e =
      Then_takes _ u32_takes fits e λ n f b s fits1 e1.
      let g = guarded_some (nat_le n most) (items_at item n b) x e1 in
      Takes-map (items_take n b x fits1 g.1) λ f1 t.
      record { few = rw t.0 (leb-true n most g.0); is_vector = Then-joined f f1 (rw t.0 s) t.1 }

-- ---- parts that a size measures

-- bytes that are a size and so many bytes
pub record IsPart (inside bytes : List ℕ) : Type 0 where
  pub is_sized : Sized (λ content. content ≡ inside) bytes
  pub are_bytes : IsBytes inside

-- just so many bytes
record AreTaken (n : ℕ) (taken bytes : List ℕ) : Type 0 where
  same : bytes ≡ taken
  count : length taken ≡ n
  are_bytes : IsBytes taken

take_takes : (n : ℕ) → IsSound (take_at n) (AreTaken n)
unfolding take_at
take_takes n bytes x fits e =
    let g = guarded_some (nat_le n (length bytes)) (Some (take n bytes, drop n bytes)) x e in
    let whole : take n bytes ++ drop n bytes ≡ bytes = take-append-drop n bytes in
    let taken : AreTaken n (take n bytes) (take n bytes) = record {
      same = refl;
      count = length-take-le n bytes (leb-true n (length bytes) g.0);
      are_bytes = IsBytes-front (take n bytes) (drop n bytes) (rw (← whole) at fits);
    } in
    rw (← some_is (take n bytes, drop n bytes) x g.1) (record { front = take n bytes; is_spelled = taken; parts = sym whole })

pub part_takes : IsSound part_at IsPart
unfolding part_at
part_takes bytes x fits e =
    Then_takes _ u32_takes fits e λ n f b s fits1 e1.
    let t = take_takes n b x fits1 e1 in
    record {
      front = x.0;
      is_spelled = record {
        is_sized = record { size = f; inside = x.0; counted = rw t.is_spelled.count s; spelled = refl; parts = refl };
        are_bytes = t.is_spelled.are_bytes;
      };
      parts = t.parts ∙ ap (λ (g : List ℕ). g ++ x.1) t.is_spelled.same;
    }

-- a part with a content is the size and the content
pub Sized-part : (content : List ℕ → Type 0) (inside bytes : List ℕ) → IsPart inside bytes → content inside → Sized content bytes
Sized-part content inside bytes part spelled =
    let sized = part.is_sized in
    record { size = sized.size; inside = sized.inside; counted = sized.counted; spelled = rw sized.spelled spelled; parts = sized.parts }

Items-Byte : (name : List ℕ) → Items Byte name name
Items-Byte [] = refl
Items-Byte (b ∷ name) = Then-joined (b ∷ []) name refl (Items-Byte name)

-- a part is a vector of bytes
pub bytes_take : IsSound part_at ByteVector
bytes_take bytes x fits e =
    Takes-map (part_takes bytes x fits e) λ f part.
    let sized = part.is_sized in
    record {
      are_bytes = all_bytes x.0 part.are_bytes;
      spelled = record {
        front = sized.size;
        back = sized.inside;
        is_first = rw (← sized.spelled) sized.counted;
        is_second = rw sized.spelled (Items-Byte x.0);
        parts = sized.parts;
      };
    }

pub name_takes : IsSound name_at Name
unfolding name_at
name_takes bytes x fits e =
    let a = bind_some (part_at bytes) (λ name. guarded (is_utf8 name.0) (Some name)) x e in
    let g = guarded_some (is_utf8 a.0.0) (Some a.0) x a.2 in
    let t = bytes_take bytes a.0 fits a.1 in
    let named : Name a.0.0 t.front = record { utf8 = IsUtf8-from_is_utf8 a.0.0 g.0; spelled = t.is_spelled.spelled } in
    rw (← some_is a.0 x g.1) (record { front = t.front; is_spelled = named; parts = t.parts })

-- ---- types

pub val_type_takes : IsSound val_type_at SpellsValType
unfolding val_type_at
val_type_takes [] x fits e = never x e
val_type_takes (b ∷ bytes) x fits e =
    by_byte b 0x7F _ _ _ e (λ is h. rw (is, ← some_is (I32, bytes) x h) (record { front = 0x7F ∷ []; is_spelled = refl; parts = refl })) λ e1.
    by_byte b 0x7E _ _ _ e1 (λ is h. rw (is, ← some_is (I64, bytes) x h) (record { front = 0x7E ∷ []; is_spelled = refl; parts = refl })) λ e2.
    never x e2

pub block_type_takes : IsSound block_type_at SpellsBlockType
unfolding block_type_at
block_type_takes [] x fits e = never x e
block_type_takes (b ∷ bytes) x fits e =
    by_byte b 0x40 _ _ _ e (λ is h. rw (is, ← some_is (None, bytes) x h) (record { front = 0x40 ∷ []; is_spelled = refl; parts = refl })) λ e1.
    by_byte b 0x7F _ _ _ e1 (λ is h. rw (is, ← some_is (Some I32, bytes) x h) (record { front = 0x7F ∷ []; is_spelled = refl; parts = refl })) λ e2.
    by_byte b 0x7E _ _ _ e2 (λ is h. rw (is, ← some_is (Some I64, bytes) x h) (record { front = 0x7E ∷ []; is_spelled = refl; parts = refl })) λ e3.
    never x e3

pub func_type_takes : IsSound func_type_at (Within SpellsFuncType IsTypeWithin)
unfolding func_type_at
func_type_takes bytes x fits e =
    Then_takes _ byte_takes fits e λ form f b s fits1 e1.
    let g = guarded_some (form == 0x60) _ x e1 in
    let is_form : Byte 0x60 f = rw (← eqb-true form 0x60 g.0) s in
    Then_takes _ (vector_takes SpellsValType val_type_takes max_parameters) fits1 g.1 λ parameters f1 b1 s1 fits2 e2.
    made_takes (λ t f2. Within SpellsFuncType IsTypeWithin t (f ++ (f1 ++ f2))) (vector_takes SpellsValType val_type_takes max_results) fits2 e2 λ results f2 s2.
    (Then-joined f (f1 ++ f2) is_form (Then-joined f1 f2 s1.is_vector s2.is_vector), (s1.few, s2.few))

at_least_takes : IsSound at_least_at (λ l f. SpellsLimits l (0x00 ∷ f))
unfolding at_least_at
at_least_takes bytes x fits e =
    made_takes (λ (l : Limits) f. SpellsLimits l (0x00 ∷ f)) u32_takes fits e λ n f s. Then-joined (0x00 ∷ []) f refl s

between_takes : IsSound between_at (λ l f. SpellsLimits l (0x01 ∷ f))
unfolding between_at
between_takes bytes x fits e =
    Then_takes _ u32_takes fits e λ n f b s fits1 e1.
    made_takes (λ (l : Limits) f1. SpellsLimits l (0x01 ∷ (f ++ f1))) u32_takes fits1 e1 λ m f1 s1.
    Then-joined (0x01 ∷ []) (f ++ f1) refl (Then-joined f f1 s s1)

range_takes : (flag : ℕ) → IsSound (range_at flag) (λ l f. SpellsLimits l (flag ∷ f))
unfolding range_at
range_takes flag bytes x fits e =
    by_byte flag 0x00 _ _ _ e (λ is h. rw is (at_least_takes bytes x fits h)) λ e1.
    by_byte flag 0x01 _ _ _ e1 (λ is h. rw is (between_takes bytes x fits h)) λ e2.
    never x e2

pub limits_takes : IsSound limits_at SpellsLimits
unfolding limits_at
limits_takes bytes x fits e =
    Then_takes _ byte_takes fits e λ flag f b s fits1 e1. rw s (range_takes flag b x fits1 e1)

pub table_type_takes : IsSound table_type_at SpellsTableType
unfolding table_type_at
table_type_takes bytes x fits e =
    Then_takes _ byte_takes fits e λ kind f b s fits1 e1.
    let g = guarded_some (kind == 0x70) _ x e1 in
    Takes-map (limits_takes b x fits1 g.1) λ f1 s1. Then-joined f f1 (rw (← eqb-true kind 0x70 g.0) s) s1

mutability_takes : IsSound mutability_at (λ m f. Byte (mutability_byte m) f)
unfolding mutability_at
mutability_takes [] x fits e = never x e
mutability_takes (b ∷ bytes) x fits e =
    by_byte b 0x00 _ _ _ e (λ is h. rw (is, ← some_is (Constant, bytes) x h) (record { front = 0x00 ∷ []; is_spelled = refl; parts = refl })) λ e1.
    by_byte b 0x01 _ _ _ e1 (λ is h. rw (is, ← some_is (Variable, bytes) x h) (record { front = 0x01 ∷ []; is_spelled = refl; parts = refl })) λ e2.
    never x e2

pub global_type_takes : IsSound global_type_at SpellsGlobalType
unfolding global_type_at
global_type_takes bytes x fits e =
    Then_takes _ val_type_takes fits e λ t f b s fits1 e1.
    made_takes (λ (g : GlobalType) f1. SpellsGlobalType g (f ++ f1)) mutability_takes fits1 e1 λ m f1 s1. Then-joined f f1 s s1
