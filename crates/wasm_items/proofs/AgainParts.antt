-- What is spelled so is read: numbers, vectors, names and types.
use Rattle.std.proofs.Common.{◌≡◌, ℕ, ◌≤◌, List, [], ◌∷◌, ◌++◌, length, Option, Some, None, refl, ap, ◌∙◌, append_assoc, arith, length-append}
use Rattle.std.proofs.Math.Seq.{take-append_seam, drop-append_seam}
use Rattle.std.proofs.lemmas.Bool.{le-leb}
use Rattle.std.proofs.lemmas.Str.{is_utf8-from_IsUtf8}
use Rattle.leb.proofs.Unsigned.{unsigned_again, unsigned_below}
use Rattle.wasm_ast.specs.declared.types.ValType.TheVariants as val_type
use Rattle.wasm_ast.specs.declared.types.Mutability.TheVariants as mutability
use Rattle.wasm_ast.specs.Limits.{max_parameters, max_results, IsTypeWithin}
use Rattle.wasm_items.specs.Bytes.{Byte, U32, Items, Vector, Name, Sized}
use Rattle.wasm_items.specs.Types.{SpellsValType, SpellsBlockType, SpellsFuncType, SpellsRange, SpellsLimits, SpellsTableType, mutability_byte, SpellsGlobalType}
use Rattle.wasm_items.specs.inside.Reading.{Reads, of_leb, byte_at, u32_at, take_at, part_at, items_at, vector_at, name_at, val_type_at, block_type_at, func_type_at, at_least_at, between_at, range_at, limits_at, table_type_at, mutability_at, global_type_at}
use Rattle.wasm_items.proofs.Tools.{Spelling, Within, IsRead, IsComplete, Then_again}

pub byte_again : IsComplete byte_at Byte
unfolding byte_at
byte_again b front rest h = rw h refl

pub u32_again : IsComplete u32_at U32
unfolding u32_at
u32_again n front rest h = ap of_leb (unsigned_again 32 front n rest h)

module _ {A : Type 0} (item : Reads A) (spelled : Spelling A) (again : IsComplete item spelled) where
  pub items_again : (xs : List A) → IsRead (items_at item (length xs)) xs (Items spelled xs)
  unfolding items_at
  items_again [] front rest h = rw h refl
  items_again (x ∷ xs) front rest h = Then_again item _ rest x (again x) h (rw (items_again xs h.back rest h.is_second) refl)

  pub vector_again : (most : ℕ) (xs : List A) → length xs ≤ most → IsRead (vector_at item most) xs (Vector spelled xs)
  unfolding vector_at
  vector_again most xs few front rest h =
      Then_again u32_at _ rest (length xs) (u32_again (length xs)) h (rw (le-leb (length xs) most few) (items_again xs h.back rest h.is_second))

-- a vector has no more items than its count can say
pub length-Vector : {A : Type 0} (spelled : Spelling A) (xs : List A) (bytes : List ℕ) → Vector spelled xs bytes → length xs ≤ 4294967295
length-Vector spelled xs bytes h = omega (arith, unsigned_below 32 h.front (length xs) h.is_first)

take_again : (inside rest : List ℕ) → take_at (length inside) (inside ++ rest) ≡ Some (inside, rest)
unfolding take_at
take_again inside rest =
    let fits : length inside ≤ length (inside ++ rest) = omega (arith, length-append inside rest) in
    rw (le-leb _ _ fits, take-append_seam inside rest, drop-append_seam inside rest) refl

-- the part of the bytes that a size measures
pub part_again : {content : List ℕ → Type 0} {bytes : List ℕ} (rest : List ℕ) (h : Sized content bytes)
    → part_at (bytes ++ rest) ≡ Some (h.inside, rest)
unfolding part_at
part_again rest h =
    let split = ap (λ (b : List ℕ). b ++ rest) h.parts ∙ append_assoc h.size h.inside rest in
    rw (split, u32_again (length h.inside) h.size (h.inside ++ rest) h.counted) (take_again h.inside rest)

Items-Byte : (name bytes : List ℕ) → Items Byte name bytes → bytes ≡ name
Items-Byte [] bytes h = h
Items-Byte (b ∷ name) bytes h = h.parts ∙ rw (h.is_first, Items-Byte name h.back h.is_second) refl

-- a vector of bytes is a part
pub bytes_again : IsComplete part_at (Vector Byte)
bytes_again content front rest h =
    let sized : Sized (λ inside. inside ≡ content) front = record {
      size = h.front;
      inside = content;
      counted = h.is_first;
      spelled = refl;
      parts = rw (← Items-Byte content h.back h.is_second) h.parts;
    } in
    part_again rest sized

pub name_again : IsComplete name_at Name
unfolding name_at
name_again name front rest h = rw (bytes_again name front rest h.spelled, is_utf8-from_IsUtf8 name h.utf8) refl

-- ---- types

pub val_type_again : IsComplete val_type_at SpellsValType
unfolding val_type_at
val_type_again val_type.I32 front rest h = rw h refl
val_type_again val_type.I64 front rest h = rw h refl

pub block_type_again : IsComplete block_type_at SpellsBlockType
unfolding block_type_at
block_type_again None front rest h = rw h refl
block_type_again (Some val_type.I32) front rest h = rw h refl
block_type_again (Some val_type.I64) front rest h = rw h refl

pub func_type_again : IsComplete func_type_at (Within SpellsFuncType IsTypeWithin)
unfolding func_type_at
func_type_again t front rest h =
    let types = vector_again val_type_at SpellsValType val_type_again in
    let lists = h.0.is_second in
    Then_again byte_at _ rest 0x60 (byte_again 0x60) h.0
    (Then_again (vector_at val_type_at max_parameters) _ rest t.parameters (types max_parameters t.parameters h.1.0) lists
    (rw (types max_results t.results h.1.1 lists.back rest lists.is_second) refl))

range_again : (minimum : ℕ) (maximum : Option ℕ) → IsRead limits_at (record { minimum = minimum; maximum = maximum }) (SpellsRange minimum maximum)
unfolding limits_at range_at at_least_at between_at
range_again n None front rest h =
    Then_again byte_at _ rest 0x00 (byte_again 0x00) h (rw (u32_again n h.back rest h.is_second) refl)
range_again n (Some m) front rest h =
    Then_again byte_at _ rest 0x01 (byte_again 0x01) h
    (Then_again u32_at _ rest n (u32_again n) h.is_second (rw (u32_again m h.is_second.back rest h.is_second.is_second) refl))

pub limits_again : IsComplete limits_at SpellsLimits
limits_again l front rest h = range_again l.minimum l.maximum front rest h

pub table_type_again : IsComplete table_type_at SpellsTableType
unfolding table_type_at
table_type_again l front rest h = Then_again byte_at _ rest 0x70 (byte_again 0x70) h (limits_again l h.back rest h.is_second)

mutability_again : IsComplete mutability_at (λ m front. Byte (mutability_byte m) front)
unfolding mutability_at
mutability_again mutability.Constant front rest h = rw h refl
mutability_again mutability.Variable front rest h = rw h refl

pub global_type_again : IsComplete global_type_at SpellsGlobalType
unfolding global_type_at
global_type_again g front rest h =
    Then_again val_type_at _ rest g.value (val_type_again g.value) h (rw (mutability_again g.mutability h.back rest h.is_second) refl)
