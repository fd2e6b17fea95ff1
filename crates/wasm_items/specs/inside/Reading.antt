-- Reading from left to right: the item at the front of the bytes, if there is one, and the bytes after it.
use Rattle.std.specs.Prelude.{◌≡◌, ℕ, zero, suc, ℤ, Bool, true, false, List, [], ◌∷◌, length, take, drop, nat_le, Option, Some, None, Result, Ok, Err, ◌==◌, if◌then◌else◌}
use Rattle.std.specs.Str.{is_utf8}
use Rattle.leb.specs.declared.fault.LebFault.{LebFault}
use Rattle.leb.specs.inside.Reading.{unsigned_at, signed_at}
use Rattle.wasm_ast.specs.declared.types.ValType.{ValType}
use Rattle.wasm_ast.specs.declared.types.ValType.TheVariants.{I32, I64}
use Rattle.wasm_ast.specs.declared.types.FuncType.{FuncType}
use Rattle.wasm_ast.specs.declared.types.Limits.{Limits}
use Rattle.wasm_ast.specs.declared.types.Mutability.{Mutability}
use Rattle.wasm_ast.specs.declared.types.Mutability.TheVariants.{Constant, Variable}
use Rattle.wasm_ast.specs.declared.types.GlobalType.{GlobalType}
use Rattle.wasm_ast.specs.Limits.{max_parameters, max_results}
use Rattle.wasm_items.specs.declared.fault.DecodeFault.{DecodeFault}
use Rattle.wasm_items.specs.declared.fault.DecodeFault.TheVariants as fault

infixl 10 ◌>>=◌
abbrev pub ◌>>=◌ : {A B : Type 0} → Option A → (A → Option B) → Option B
(Some x) >>= f = f x
None >>= f = None

-- the fault is not out of memory
abbrev pub IsRefusal : DecodeFault → Type 0
IsRefusal fault.OutOfMemory = ⊥
IsRefusal _ = Unit {0}

-- A fault of the bytes means that there is no such item. Out of memory means nothing.
abbrev pub Fails : {Y : Type 0} → DecodeFault → Option Y → Type 0
Fails fault.OutOfMemory read = Unit {0}
Fails _ read = read ≡ None

-- The result that a function returned, mapped by `view`, is the result of reading, unless memory ran out.
abbrev pub Gives : {X Y : Type 0} → (X → Y) → Result X DecodeFault → Option Y → Type 0
Gives view (Ok x) read = read ≡ Some (view x)
Gives view (Err e) read = Fails e read

-- The result that a function returned and the bytes that remain are the result of reading, unless memory ran out.
abbrev pub GivesAndLeaves : {X : Type 0} → Result X DecodeFault → List ℕ → Option (X × List ℕ) → Type 0
GivesAndLeaves result left read = Gives (λ x. (x, left)) result read

abbrev pub found : {A : Type 0} → A → Option A
found x = Some x

-- the option where a test holds, else none
abbrev pub guarded : {A : Type 0} → Bool → Option A → Option A
guarded b read = if b then read else None

-- a reader of items of a type
abbrev pub Reads : Type 0 → Type 0
Reads A = List ℕ → Option (A × List ℕ)

-- ---- numbers, bytes and vectors

abbrev pub of_leb : {A : Type 0} → Result A LebFault → Option A
of_leb (Ok x) = Some x
of_leb (Err e) = None

unfoldable pub byte_at : List ℕ → Option (ℕ × List ℕ)
byte_at [] = None
byte_at (b ∷ bytes) = Some (b, bytes)

unfoldable pub u32_at : List ℕ → Option (ℕ × List ℕ)
u32_at bytes = of_leb (unsigned_at 32 bytes)

unfoldable pub signed_number_at : (bits : ℕ) → List ℕ → Option (ℤ × List ℕ)
signed_number_at bits bytes = of_leb (signed_at bits bytes)

-- this many bytes
unfoldable pub take_at : ℕ → List ℕ → Option (List ℕ × List ℕ)
take_at n bytes = guarded (nat_le n (length bytes)) (Some (take n bytes, drop n bytes))

-- a size, and that many bytes
unfoldable pub part_at : List ℕ → Option (List ℕ × List ℕ)
part_at bytes = do
  n ← u32_at bytes
  take_at n.0 n.1

unfoldable pub items_at : {A : Type 0} → (List ℕ → Option (A × List ℕ)) → ℕ → List ℕ → Option (List A × List ℕ)
items_at item zero bytes = Some ([], bytes)
items_at item (suc n) bytes = do
  first ← item bytes
  others ← items_at item n first.1
  Some (first.0 ∷ others.0, others.1)

-- a vector of at most this many items
unfoldable pub vector_at : {A : Type 0} → (List ℕ → Option (A × List ℕ)) → ℕ → List ℕ → Option (List A × List ℕ)
vector_at item most bytes = do
  n ← u32_at bytes
  guarded (nat_le n.0 most) (items_at item n.0 n.1)

unfoldable pub name_at : List ℕ → Option (List ℕ × List ℕ)
name_at bytes = do
  name ← part_at bytes
  guarded (is_utf8 name.0) (Some name)

-- no bytes remain
abbrev pub is_empty : List ℕ → Bool
is_empty [] = true
is_empty (b ∷ bytes) = false

-- the largest count that a number of 32 bits can express
abbrev pub any_count : ℕ
any_count = 4294967295

-- ---- types

unfoldable pub val_type_at : Reads ValType
val_type_at [] = None
val_type_at (b ∷ bytes) =
    if b == 0x7F then Some (I32, bytes)
    else (if b == 0x7E then Some (I64, bytes) else None)

unfoldable pub block_type_at : Reads (Option ValType)
block_type_at [] = None
block_type_at (b ∷ bytes) =
    if b == 0x40 then Some (None, bytes)
    else (if b == 0x7F then Some (Some I32, bytes)
    else (if b == 0x7E then Some (Some I64, bytes) else None))

unfoldable pub func_type_at : Reads FuncType
func_type_at bytes = do
  form ← byte_at bytes
  guarded (form.0 == 0x60) (do
    parameters ← vector_at val_type_at max_parameters form.1
    results ← vector_at val_type_at max_results parameters.1
    Some (record { parameters = parameters.0; results = results.0 }, results.1))

unfoldable pub at_least_at : Reads Limits
at_least_at bytes = do
  minimum ← u32_at bytes
  Some (record { minimum = minimum.0; maximum = None }, minimum.1)

unfoldable pub between_at : Reads Limits
between_at bytes = do
  minimum ← u32_at bytes
  maximum ← u32_at minimum.1
  Some (record { minimum = minimum.0; maximum = Some maximum.0 }, maximum.1)

-- what follows the byte that says whether there is a maximum
unfoldable pub range_at : (flag : ℕ) → Reads Limits
range_at flag bytes =
    if flag == 0x00 then at_least_at bytes
    else (if flag == 0x01 then between_at bytes else None)

unfoldable pub limits_at : Reads Limits
limits_at bytes = do
  flag ← byte_at bytes
  range_at flag.0 flag.1

unfoldable pub table_type_at : Reads Limits
table_type_at bytes = do
  kind ← byte_at bytes
  guarded (kind.0 == 0x70) (limits_at kind.1)

unfoldable pub mutability_at : Reads Mutability
mutability_at [] = None
mutability_at (b ∷ bytes) =
    if b == 0x00 then Some (Constant, bytes)
    else (if b == 0x01 then Some (Variable, bytes) else None)

unfoldable pub global_type_at : Reads GlobalType
global_type_at bytes = do
  value ← val_type_at bytes
  mutability ← mutability_at value.1
  Some (record { mutability = mutability.0; value = value.0 }, mutability.1)
