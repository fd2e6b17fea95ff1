-- The binary format: which bytes spell which module (Core 1.0, section 5), with integers only. A number has many
-- spellings, and custom sections may be anywhere. So a module has many spellings too. Each byte is below 256.
use Rattle.std.specs.Prelude.{◌≡◌, ℕ, ◌≤◌, ◌⊎◌, List, [], ◌∷◌, ◌++◌, length, Option, Some, None, replicate, flat_map}
use Rattle.std.specs.List.{AllByRecursion}
use Rattle.wasm_ast.specs.declared.types.ValType.{ValType}
use Rattle.wasm_ast.specs.declared.module.Function.{Function}
use Rattle.wasm_ast.specs.declared.module.Module.{Module}
use Rattle.wasm_ast.specs.Limits.{max_module_bytes, IsWithinLimits}
use Rattle.wasm_ast.specs.Representable.{IsByte}
use Rattle.wasm_items.specs.Bytes.{Then, Byte, U32, Items, Vector, Name, Sized}
use Rattle.wasm_items.specs.Types.{SpellsValType, SpellsFuncType, SpellsLimits, SpellsTableType}
use Rattle.wasm_items.specs.Instructions.{SpellsExpression}
use Rattle.wasm_items.specs.Items.{SpellsImport, SpellsGlobal, SpellsExport, SpellsElement, SpellsData}

-- ---- functions (5.5.13)

-- a group: a count, and the type of that many locals
abbrev pub SpellsGroup : ℕ × ValType → List ℕ → Type 0
SpellsGroup g bytes = Then (U32 g.0) (SpellsValType g.1) bytes

abbrev pub locals_of : List (ℕ × ValType) → List ValType
locals_of groups = flat_map (λ g. replicate g.0 g.1) groups

-- locals in groups; groups may be empty, and neighbouring groups may have the same type
pub record SpellsLocals (locals : List ValType) (bytes : List ℕ) : Type 0 where
  pub groups : List (ℕ × ValType)
  pub grouped : locals ≡ locals_of groups
  pub spelled : Vector SpellsGroup groups bytes

-- the locals and the body of a function; its type is in another section
abbrev pub SpellsFunction : Function → List ℕ → Type 0
SpellsFunction f bytes = Sized (Then (SpellsLocals f.locals) (SpellsExpression f.body)) bytes

abbrev pub type_numbers : List Function → List ℕ
type_numbers [] = []
type_numbers (f ∷ fs) = f.type_number ∷ type_numbers fs

-- ---- sections (5.5.2 and 5.5.3)

-- a name and any bytes
pub record IsCustom (bytes : List ℕ) : Type 0 where
  pub name : List ℕ
  pub front : List ℕ
  pub back : List ℕ
  pub named : Name name front
  pub are_bytes : AllByRecursion IsByte back
  pub parts : bytes ≡ front ++ back

-- a custom section with this content
abbrev pub SpellsCustom : List ℕ → List ℕ → Type 0
SpellsCustom content bytes = Then (Byte 0) (Sized (λ inside. (inside ≡ content) × IsCustom inside)) bytes

-- custom sections, as many as there are
pub record Customs (bytes : List ℕ) : Type 0 where
  pub contents : List (List ℕ)
  pub spelled : Items SpellsCustom contents bytes

-- a section with this id and content
abbrev pub Section : ℕ → (List ℕ → Type 0) → List ℕ → Type 0
Section number content bytes = Then (Byte number) (Sized content) bytes

-- a section of a vector, or nothing where the vector is empty
abbrev pub VectorSection : {A : Type 0} → ℕ → (A → List ℕ → Type 0) → List A → List ℕ → Type 0
VectorSection number item xs bytes = Section number (Vector item xs) bytes ⊎ ((xs ≡ []) × (bytes ≡ []))

-- the start section, or nothing where there is no start function
abbrev pub StartSection : Option ℕ → List ℕ → Type 0
StartSection None bytes = bytes ≡ []
StartSection (Some f) bytes = Section 8 (U32 f) bytes

-- ---- modules (5.5.15)

-- a section, with any custom sections before it
abbrev pub AfterCustoms : (section others : List ℕ → Type 0) → List ℕ → Type 0
AfterCustoms section others bytes = Then Customs (Then section others) bytes

-- the sections in their order, with custom sections between them
abbrev pub SpellsSections : Module → List ℕ → Type 0
SpellsSections m bytes =
    AfterCustoms (VectorSection 1 SpellsFuncType m.types)
    (AfterCustoms (VectorSection 2 SpellsImport m.imports)
    (AfterCustoms (VectorSection 3 U32 (type_numbers m.functions))
    (AfterCustoms (VectorSection 4 SpellsTableType m.tables)
    (AfterCustoms (VectorSection 5 SpellsLimits m.memories)
    (AfterCustoms (VectorSection 6 SpellsGlobal m.globals)
    (AfterCustoms (VectorSection 7 SpellsExport m.exports)
    (AfterCustoms (StartSection m.start)
    (AfterCustoms (VectorSection 9 SpellsElement m.elements)
    (AfterCustoms (VectorSection 10 SpellsFunction m.functions)
    (AfterCustoms (VectorSection 11 SpellsData m.data) Customs)))))))))) bytes

abbrev pub magic : List ℕ
magic = 0x00 ∷ 0x61 ∷ 0x73 ∷ 0x6D ∷ []

abbrev pub version : List ℕ
version = 0x01 ∷ 0x00 ∷ 0x00 ∷ 0x00 ∷ []

-- the bytes spell the module, and both are within the limits
pub record Spells (bytes : List ℕ) (m : Module) : Type 0 where
  pub sections : List ℕ
  pub spelled : SpellsSections m sections
  pub parts : bytes ≡ magic ++ version ++ sections
  pub small : length bytes ≤ max_module_bytes
  pub limited : IsWithinLimits m
