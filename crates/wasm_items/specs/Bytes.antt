-- The elements of the binary format: numbers, vectors, names and sized parts (Core 1.0, 5.1 and 5.2).
use Rattle.std.specs.Prelude.{◌≡◌, ℕ, ◌<◌, ◌^◌, List, [], ◌∷◌, ◌++◌, length}
use Rattle.std.specs.List.{AllByRecursion}
use Rattle.std.specs.Str.{IsUtf8}
use Rattle.leb.specs.Spelling.{IsUnsigned, IsSigned}
use Rattle.wasm_ast.specs.Numeric.{signed}
use Rattle.wasm_ast.specs.Representable.{IsByte}

-- A spelling relation says which bytes spell which item. An item may have several spellings; no bytes spell two items.
-- The bytes are a spelling of one item, then of another.
pub record Then (first second : List ℕ → Type 0) (bytes : List ℕ) : Type 0 where
  pub front : List ℕ
  pub back : List ℕ
  pub is_first : first front
  pub is_second : second back
  pub parts : bytes ≡ front ++ back

-- a byte
abbrev pub Byte : ℕ → List ℕ → Type 0
Byte b bytes = bytes ≡ b ∷ []

-- an unsigned number of 32 bits (5.2.2)
abbrev pub U32 : ℕ → List ℕ → Type 0
U32 n bytes = IsUnsigned 32 bytes n

-- an uninterpreted integer, spelled as the signed number that it represents (5.2.2)
pub record Uninterpreted (bits n : ℕ) (bytes : List ℕ) : Type 0 where
  pub fits : n < 2 ^ bits
  pub spelled : IsSigned bits bytes (signed bits n)

-- items one after another
abbrev pub Items : {A : Type 0} → (A → List ℕ → Type 0) → List A → List ℕ → Type 0
Items item [] bytes = bytes ≡ []
Items item (x ∷ xs) bytes = Then (item x) (Items item xs) bytes

-- a count, and that many items (5.1.3)
abbrev pub Vector : {A : Type 0} → (A → List ℕ → Type 0) → List A → List ℕ → Type 0
Vector item xs bytes = Then (U32 (length xs)) (Items item xs) bytes

-- a vector of any bytes, each of which spells itself (5.2.1)
pub record ByteVector (content bytes : List ℕ) : Type 0 where
  pub are_bytes : AllByRecursion IsByte content
  pub spelled : Vector Byte content bytes

-- a name: a vector of bytes in UTF-8 (5.2.4)
pub record Name (name bytes : List ℕ) : Type 0 where
  pub utf8 : IsUtf8 name
  pub spelled : Vector Byte name bytes

-- a size, and a content of exactly that many bytes
pub record Sized (content : List ℕ → Type 0) (bytes : List ℕ) : Type 0 where
  pub size : List ℕ
  pub inside : List ℕ
  pub counted : U32 (length inside) size
  pub spelled : content inside
  pub parts : bytes ≡ size ++ inside
