-- That what is written is a spelling: types and instructions.
use Rattle.std.proofs.Common.{◌≡◌, ℕ, ◌≤◌, inl, inr, List, [], ◌∷◌, ◌++◌, length, Option, Some, None, refl, sym, ap, ◌∙◌, append_assoc, arith, length-append}
use Rattle.std.specs.Bool.{⊤}
use Rattle.std.specs.List.{AllByRecursion}
use Rattle.leb.specs.Spelling.{u32_spelling, s32_spelling, s64_spelling}
use Rattle.wasm_ast.specs.declared.types.ValType.{ValType}
use Rattle.wasm_ast.specs.declared.types.Value.TheVariants as value
use Rattle.wasm_ast.specs.declared.types.FuncType.{FuncType}
use Rattle.wasm_ast.specs.declared.types.Limits.{Limits}
use Rattle.wasm_ast.specs.declared.types.GlobalType.{GlobalType}
use Rattle.wasm_ast.specs.declared.plain.Variable.{Variable}
use Rattle.wasm_ast.specs.declared.plain.Variable.TheVariants as variable
use Rattle.wasm_ast.specs.declared.plain.Memory.{Memory}
use Rattle.wasm_ast.specs.declared.plain.Memory.TheVariants as memory
use Rattle.wasm_ast.specs.declared.plain.MemoryArgument.{MemoryArgument}
use Rattle.wasm_ast.specs.declared.plain.Plain.{Plain}
use Rattle.wasm_ast.specs.declared.plain.Plain.TheVariants as plain
use Rattle.wasm_ast.specs.declared.plain.Branch.{Branch}
use Rattle.wasm_ast.specs.declared.plain.Branch.TheVariants as branch
use Rattle.wasm_ast.specs.Code.{Code}
use Rattle.wasm_ast.specs.Code as code
use Rattle.wasm_ast.specs.Numeric.{signed}
use Rattle.wasm_items.specs.Bytes.{Then, Byte, U32, Vector}
use Rattle.wasm_items.specs.Types.{val_type_byte, mutability_byte, SpellsValType, SpellsBlockType, SpellsFuncType, SpellsLimits, SpellsTableType, SpellsGlobalType}
use Rattle.wasm_items.specs.Instructions.{load_opcode, store_opcode, SpellsVariable, SpellsMemory, SpellsPlain, SpellsBranch, Ended, Arm, SpellsCode, SpellsExpression}
use Rattle.wasm_items.specs.Canonical.{vector, val_type_bytes, func_type_bytes, block_type_byte, limits_bytes, maximum_bytes, table_bytes, global_type_bytes, variable_bytes, memory_bytes, memory_argument_bytes, plain_bytes, branch_bytes, else_bytes, code_bytes, expression_bytes}
use Rattle.wasm_ast.specs.Representable.{IsU32, IsOptionalU32, AreLimitsHeld, IsVariableHeld, IsMemoryHeld, IsPlainHeld, IsBranchHeld, IsCodeHeld}
use Rattle.wasm_items.proofs.CanonicalParts.{IsSmall, IsSpelled, u32_spelled, u32_is_spelled, some_u32, i32_spelled, i64_spelled, joined, behind, small_front, small_back, vector_spelled}

-- ---- types

val_type_is_spelled : IsSpelled (λ t. ⊤) SpellsValType val_type_bytes
val_type_is_spelled t held small = refl

pub all_held : {A : Type 0} (xs : List A) → AllByRecursion (λ (x : A). ⊤) xs
all_held [] = tt
all_held (x ∷ xs) = (tt, all_held xs)

val_types_spelled : (ts : List ValType) → IsSmall (vector val_type_bytes ts) → Vector SpellsValType ts (vector val_type_bytes ts)
val_types_spelled ts small =
    vector_spelled (λ t. ⊤) SpellsValType val_type_bytes val_type_is_spelled (λ t. omega arith) ts (all_held ts) small

pub func_type_is_spelled : IsSpelled (λ t. ⊤) SpellsFuncType func_type_bytes
unfolding func_type_bytes
func_type_is_spelled t held small =
    let front = vector val_type_bytes t.parameters in
    let back = vector val_type_bytes t.results in
    let both : IsSmall (front ++ back) = omega arith in
    behind 0x60 (front ++ back)
    (joined front back (val_types_spelled t.parameters (small_front front back both)) (val_types_spelled t.results (small_back front back both)))

pub some_func_type : (t : FuncType) → 1 ≤ length (func_type_bytes t)
unfolding func_type_bytes
some_func_type t = omega arith

block_type_spelled : (t : Option ValType) → SpellsBlockType t (block_type_byte t ∷ [])
block_type_spelled None = refl
block_type_spelled (Some t) = refl

range_spelled : (minimum : ℕ) (maximum : Option ℕ) → IsU32 minimum → IsOptionalU32 maximum → (l : Limits)
    → l.minimum ≡ minimum → l.maximum ≡ maximum → SpellsLimits l (limits_bytes l)
range_spelled minimum None least most l is_minimum is_maximum =
    rw (is_minimum, is_maximum) (behind 0x00 (u32_spelling minimum) (u32_spelled minimum least))
range_spelled minimum (Some maximum) least most l is_minimum is_maximum =
    rw (is_minimum, is_maximum) (behind 0x01 (u32_spelling minimum ++ u32_spelling maximum)
    (joined (u32_spelling minimum) (u32_spelling maximum) (u32_spelled minimum least) (u32_spelled maximum most)))

pub limits_are_spelled : IsSpelled AreLimitsHeld SpellsLimits limits_bytes
limits_are_spelled l held small = range_spelled l.minimum l.maximum held.0 held.1 l refl refl

some_range : (minimum : ℕ) (maximum : Option ℕ) → 1 ≤ length (maximum_bytes minimum maximum)
some_range minimum None = omega arith
some_range minimum (Some maximum) = omega arith

pub some_limits : (l : Limits) → 1 ≤ length (limits_bytes l)
some_limits l = some_range l.minimum l.maximum

pub table_is_spelled : IsSpelled AreLimitsHeld SpellsTableType table_bytes
table_is_spelled l held small = behind 0x70 (limits_bytes l) (limits_are_spelled l held (omega arith))

pub global_type_spelled : (t : GlobalType) → SpellsGlobalType t (global_type_bytes t)
global_type_spelled t = behind (val_type_byte t.value) (mutability_byte t.mutability ∷ []) refl

-- ---- instructions that hold no others

numbered : (opcode n : ℕ) → IsU32 n → Then (Byte opcode) (U32 n) (opcode ∷ u32_spelling n)
numbered opcode n fits = behind opcode (u32_spelling n) (u32_spelled n fits)

variable_spelled : (v : Variable) → IsVariableHeld v → SpellsVariable v (variable_bytes v)
variable_spelled (variable.LocalGet x) held = numbered 0x20 x held
variable_spelled (variable.LocalSet x) held = numbered 0x21 x held
variable_spelled (variable.LocalTee x) held = numbered 0x22 x held
variable_spelled (variable.GlobalGet x) held = numbered 0x23 x held
variable_spelled (variable.GlobalSet x) held = numbered 0x24 x held

access_spelled : (opcode : ℕ) (a : MemoryArgument) → IsU32 a.align × IsU32 a.offset
    → Then (Byte opcode) (Then (U32 a.align) (U32 a.offset)) (opcode ∷ memory_argument_bytes a)
access_spelled opcode a held =
    behind opcode (memory_argument_bytes a)
    (joined (u32_spelling a.align) (u32_spelling a.offset) (u32_spelled a.align held.0) (u32_spelled a.offset held.1))

memory_spelled : (m : Memory) → IsMemoryHeld m → SpellsMemory m (memory_bytes m)
memory_spelled (memory.Load op a) held = access_spelled (load_opcode op) a held
memory_spelled (memory.Store op a) held = access_spelled (store_opcode op) a held
memory_spelled memory.Size held = behind 0x3F (0x00 ∷ []) refl
memory_spelled memory.Grow held = behind 0x40 (0x00 ∷ []) refl

plain_spelled : (p : Plain) → IsPlainHeld p → SpellsPlain p (plain_bytes p)
plain_spelled plain.Nop held = refl
plain_spelled plain.Drop held = refl
plain_spelled plain.Select held = refl
plain_spelled (plain.Const (value.I32 n)) held = behind 0x41 (s32_spelling (signed 32 n)) (i32_spelled n held)
plain_spelled (plain.Const (value.I64 n)) held = behind 0x42 (s64_spelling (signed 64 n)) (i64_spelled n held)
plain_spelled (plain.Numeric op) held = refl
plain_spelled (plain.Variable op) held = variable_spelled op held
plain_spelled (plain.Memory op) held = memory_spelled op held

branch_spelled : (b : Branch) → IsBranchHeld b → IsSmall (branch_bytes b) → SpellsBranch b (branch_bytes b)
branch_spelled (branch.Br l) held small = numbered 0x0C l held
branch_spelled (branch.BrIf l) held small = numbered 0x0D l held
branch_spelled (branch.BrTable ls l) held small =
    let front = vector u32_spelling ls in
    let labels : IsSmall front = omega (arith, small, length-append front (u32_spelling l)) in
    behind 0x0E (front ++ u32_spelling l)
    (joined front (u32_spelling l) (vector_spelled IsU32 U32 u32_spelling u32_is_spelled some_u32 ls held.0 labels) (u32_spelled l held.1))
branch_spelled branch.Return held small = refl

-- ---- instructions in sequence

-- an instruction, and what comes after it
first : (spelled : List ℕ → Type 0) (rest : Code) (front after whole : List ℕ) → spelled front → SpellsCode rest after → whole ≡ front ++ after
    → Then spelled (SpellsCode rest) whole
first spelled rest front after whole one others parts =
    record { front = front; back = after; is_first = one; is_second = others; parts = parts }

ended : (inside : List ℕ → Type 0) (bytes : List ℕ) → inside bytes → Ended inside (bytes ++ 0x0B ∷ [])
ended inside bytes spelled = joined bytes (0x0B ∷ []) spelled refl

-- what is inside of a block is as small as what is left of the whole
small_inside : (front back : List ℕ) (a b : ℕ) → IsSmall (a ∷ b ∷ (front ++ back)) → IsSmall front
small_inside front back a b small = omega (arith, small, length-append front back)

small_after : (front rest : List ℕ) (a b : ℕ) → IsSmall (a ∷ b ∷ (front ++ 0x0B ∷ rest)) → IsSmall rest
small_after front rest a b small = omega (arith, small, length-append front (0x0B ∷ rest))

block_spelled : (opcode : ℕ) (t : Option ValType) (body rest : Code) (inside after : List ℕ)
    → SpellsCode body inside → SpellsCode rest after
    → Then (Then (Byte opcode) (Then (SpellsBlockType t) (Ended (SpellsCode body)))) (SpellsCode rest)
    (opcode ∷ block_type_byte t ∷ (inside ++ 0x0B ∷ after))
block_spelled opcode t body rest inside after in_spelled after_spelled =
    let type = block_type_byte t ∷ [] in
    let closed = inside ++ 0x0B ∷ [] in
    first _ rest (opcode ∷ block_type_byte t ∷ closed) after _
    (behind opcode (block_type_byte t ∷ closed) (joined type closed (block_type_spelled t) (ended (SpellsCode body) inside in_spelled)))
    after_spelled
    (ap (λ (xs : List ℕ). opcode ∷ block_type_byte t ∷ xs) (sym (append_assoc inside (0x0B ∷ []) after)))

arm_there : (other : Code) (bytes : List ℕ) → SpellsCode other bytes → Then (Byte 0x05) (Ended (SpellsCode other)) (0x05 ∷ (bytes ++ 0x0B ∷ []))
arm_there other bytes spelled = behind 0x05 (bytes ++ 0x0B ∷ []) (ended (SpellsCode other) bytes spelled)

else_spelled : (other : Code) → SpellsCode other (code_bytes other) → Arm (SpellsCode other) other (else_bytes other (code_bytes other) ++ 0x0B ∷ [])
else_spelled code.end spelled = inr (refl, refl)
else_spelled (code.plain p rest) spelled = inl (arm_there (code.plain p rest) (code_bytes (code.plain p rest)) spelled)
else_spelled (code.branch b rest) spelled = inl (arm_there (code.branch b rest) (code_bytes (code.branch b rest)) spelled)
else_spelled (code.call f rest) spelled = inl (arm_there (code.call f rest) (code_bytes (code.call f rest)) spelled)
else_spelled (code.call_indirect t rest) spelled =
    inl (arm_there (code.call_indirect t rest) (code_bytes (code.call_indirect t rest)) spelled)
else_spelled (code.unreachable rest) spelled = inl (arm_there (code.unreachable rest) (code_bytes (code.unreachable rest)) spelled)
else_spelled (code.block t body rest) spelled = inl (arm_there (code.block t body rest) (code_bytes (code.block t body rest)) spelled)
else_spelled (code.loop t body rest) spelled = inl (arm_there (code.loop t body rest) (code_bytes (code.loop t body rest)) spelled)
else_spelled (code.choice t body other rest) spelled =
    inl (arm_there (code.choice t body other rest) (code_bytes (code.choice t body other rest)) spelled)

else_is_longer : (c : Code) (bytes : List ℕ) → bytes ≡ code_bytes c → length bytes ≤ length (else_bytes c bytes)
else_is_longer code.end bytes e = omega (arith, ap length e)
else_is_longer (code.plain p rest) bytes e = omega arith
else_is_longer (code.branch b rest) bytes e = omega arith
else_is_longer (code.call f rest) bytes e = omega arith
else_is_longer (code.call_indirect t rest) bytes e = omega arith
else_is_longer (code.unreachable rest) bytes e = omega arith
else_is_longer (code.block t body rest) bytes e = omega arith
else_is_longer (code.loop t body rest) bytes e = omega arith
else_is_longer (code.choice t body other rest) bytes e = omega arith

-- the three parts of an `if` are as small as the whole
small_arms : (front arm rest : List ℕ) (a b : ℕ) → IsSmall (a ∷ b ∷ (front ++ (arm ++ 0x0B ∷ rest))) → IsSmall front × IsSmall arm × IsSmall rest
small_arms front arm rest a b small =
    let whole = length-append front (arm ++ 0x0B ∷ rest) in
    let others = length-append arm (0x0B ∷ rest) in
    (omega (arith, small, whole), omega (arith, small, whole, others), omega (arith, small, whole, others))

choice_spelled : (t : Option ValType) (body other rest : Code) (inside arm after : List ℕ)
    → SpellsCode body inside → Arm (SpellsCode other) other (arm ++ 0x0B ∷ []) → SpellsCode rest after
    → Then (Then (Byte 0x04) (Then (SpellsBlockType t) (Then (SpellsCode body) (Arm (SpellsCode other) other)))) (SpellsCode rest)
    (0x04 ∷ block_type_byte t ∷ (inside ++ (arm ++ 0x0B ∷ after)))
choice_spelled t body other rest inside arm after in_spelled arm_spelled after_spelled =
    let type = block_type_byte t ∷ [] in
    let closed = arm ++ 0x0B ∷ [] in
    first _ rest (0x04 ∷ block_type_byte t ∷ (inside ++ closed)) after _
    (behind 0x04 (block_type_byte t ∷ (inside ++ closed))
    (joined type (inside ++ closed) (block_type_spelled t) (joined inside closed in_spelled arm_spelled)))
    after_spelled
    (ap (λ (xs : List ℕ). 0x04 ∷ block_type_byte t ∷ xs)
    (ap (λ (xs : List ℕ). inside ++ xs) (sym (append_assoc arm (0x0B ∷ []) after)) ∙ sym (append_assoc inside closed after)))

pub code_spelled : (c : Code) → IsCodeHeld c → IsSmall (code_bytes c) → SpellsCode c (code_bytes c)
code_spelled code.end held small = refl
code_spelled (code.plain p rest) held small =
    let front = plain_bytes p in
    joined front (code_bytes rest) (plain_spelled p held.0) (code_spelled rest held.1 (small_back front (code_bytes rest) small))
code_spelled (code.branch b rest) held small =
    let front = branch_bytes b in
    joined front (code_bytes rest) (branch_spelled b held.0 (small_front front (code_bytes rest) small))
    (code_spelled rest held.1 (small_back front (code_bytes rest) small))
code_spelled (code.call f rest) held small =
    let front = 0x10 ∷ u32_spelling f in
    joined front (code_bytes rest) (numbered 0x10 f held.0) (code_spelled rest held.1 (small_back front (code_bytes rest) small))
code_spelled (code.call_indirect t rest) held small =
    let front = u32_spelling t in
    let after = code_bytes rest in
    let less : IsSmall after = omega (arith, small, length-append front (0x00 ∷ after)) in
    first _ rest (0x11 ∷ (front ++ 0x00 ∷ [])) after _
    (behind 0x11 (front ++ 0x00 ∷ []) (joined front (0x00 ∷ []) (u32_spelled t held.0) refl))
    (code_spelled rest held.1 less)
    (ap (λ (xs : List ℕ). 0x11 ∷ xs) (sym (append_assoc front (0x00 ∷ []) after)))
code_spelled (code.unreachable rest) held small = behind 0x00 (code_bytes rest) (code_spelled rest held (omega (arith, small)))
code_spelled (code.block t body rest) held small =
    let inside = code_bytes body in
    let after = code_bytes rest in
    block_spelled 0x02 t body rest inside after
    (code_spelled body held.0 (small_inside inside (0x0B ∷ after) 0x02 (block_type_byte t) small))
    (code_spelled rest held.1 (small_after inside after 0x02 (block_type_byte t) small))
code_spelled (code.loop t body rest) held small =
    let inside = code_bytes body in
    let after = code_bytes rest in
    block_spelled 0x03 t body rest inside after
    (code_spelled body held.0 (small_inside inside (0x0B ∷ after) 0x03 (block_type_byte t) small))
    (code_spelled rest held.1 (small_after inside after 0x03 (block_type_byte t) small))
code_spelled (code.choice t body other rest) held small =
    let inside = code_bytes body in
    let arm = code_bytes other in
    let after = code_bytes rest in
    let parts = small_arms inside (else_bytes other arm) after 0x04 (block_type_byte t) small in
    let less : IsSmall arm = omega (arith, parts.1, else_is_longer other arm refl) in
    choice_spelled t body other rest inside (else_bytes other arm) after
    (code_spelled body held.0 parts.0) (else_spelled other (code_spelled other held.1 less)) (code_spelled rest held.2 parts.2)

pub expression_is_spelled : IsSpelled IsCodeHeld SpellsExpression expression_bytes
unfolding expression_bytes
expression_is_spelled c held small =
    let inside = code_bytes c in
    ended (SpellsCode c) inside (code_spelled c held (small_front inside (0x0B ∷ []) small))
