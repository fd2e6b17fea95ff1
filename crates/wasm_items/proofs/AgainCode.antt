-- What is spelled so, and within limits, is read: instructions.
use Rattle.std.proofs.Common.{◌≡◌, ℕ, zero, suc, ◌+◌, ◌-◌, ◌<◌, ◌≤◌, true, false, inl, inr, List, [], ◌∷◌, ◌++◌, length, slice_get, Option, Some, refl, ap, ◌∙◌, arith, length-append}
use Rattle.std.proofs.lemmas.Bool.{le-leb}
use Rattle.std.specs.Int.{w32, w64}
use Rattle.leb.specs.Spelling.{IsSigned}
use Rattle.leb.proofs.Signed.{signed_again}
use Rattle.wasm_ast.specs.declared.types.ValType.{ValType}
use Rattle.wasm_ast.specs.declared.types.ValType.TheVariants.{I32, I64}
use Rattle.wasm_ast.specs.declared.types.Value.TheVariants as value
use Rattle.wasm_ast.specs.declared.numeric.Unary.TheVariants.{Clz}
use Rattle.wasm_ast.specs.declared.numeric.Binary.TheVariants.{Add}
use Rattle.wasm_ast.specs.declared.numeric.Division.TheVariants.{DivS}
use Rattle.wasm_ast.specs.declared.numeric.Comparison.TheVariants.{Eq}
use Rattle.wasm_ast.specs.declared.numeric.Conversion.TheVariants.{Wrap}
use Rattle.wasm_ast.specs.declared.numeric.Numeric.{Numeric}
use Rattle.wasm_ast.specs.declared.numeric.Numeric.TheVariants as numeric
use Rattle.wasm_ast.specs.declared.plain.Variable.{Variable}
use Rattle.wasm_ast.specs.declared.plain.Variable.TheVariants as variable
use Rattle.wasm_ast.specs.declared.plain.Load.{Load}
use Rattle.wasm_ast.specs.declared.plain.Load.TheVariants as load
use Rattle.wasm_ast.specs.declared.plain.Store.{Store}
use Rattle.wasm_ast.specs.declared.plain.Store.TheVariants as store
use Rattle.wasm_ast.specs.declared.plain.MemoryArgument.{MemoryArgument}
use Rattle.wasm_ast.specs.declared.plain.Memory.{Memory}
use Rattle.wasm_ast.specs.declared.plain.Memory.TheVariants as memory
use Rattle.wasm_ast.specs.declared.plain.Plain.{Plain}
use Rattle.wasm_ast.specs.declared.plain.Plain.TheVariants as plain
use Rattle.wasm_ast.specs.declared.plain.Branch.{Branch}
use Rattle.wasm_ast.specs.declared.plain.Branch.TheVariants as branch
use Rattle.wasm_ast.specs.declared.body.Instr.{Instr}
use Rattle.wasm_ast.specs.declared.body.Instr.TheVariants as instr
use Rattle.wasm_ast.specs.Code.{Code}
use Rattle.wasm_ast.specs.Code as code
use Rattle.wasm_ast.specs.View.{then_code}
use Rattle.wasm_ast.specs.Limits.{max_align, max_labels, max_nesting, IsMemoryWithin, IsPlainWithin, IsBranchWithin, IsCodeWithin, IsBodyWithin}
use Rattle.wasm_items.specs.Bytes.{Then, Byte, U32, Vector}
use Rattle.wasm_items.specs.Types.{SpellsBlockType}
use Rattle.wasm_items.specs.Instructions.{SpellsNumeric, SpellsVariable, load_opcode, store_opcode, SpellsMemoryArgument, SpellsMemory, SpellsPlain, SpellsBranch, SpellsCallIndirect, Ended, Arm, SpellsCode, SpellsExpression}
use Rattle.wasm_items.specs.inside.Reading.{◌>>=◌, of_leb, byte_at, u32_at, signed_number_at, block_type_at}
use Rattle.wasm_items.specs.inside.ReadingCode.{numeric_of, i32_at, i64_at, variable_at, memory_argument_at, load_at, store_at, after_zero, memory_at, numeric_at, plain_at, br_at, br_if_at, br_table_at, branch_at, call_at, call_indirect_at, flat_at, Inner, closed_at, typed_with, block_with, loop_with, ended_with, arm_with, else_with, if_with, opcode_with, instr_with, stops, code_at, expression_at}
use Rattle.wasm_items.proofs.AgainParts.{byte_again, u32_again, vector_again, block_type_again}
use Rattle.wasm_items.proofs.Numbers.{cast_unsigned-signed}
use Rattle.wasm_items.proofs.Tools.{Within, IsRead, IsComplete, Then-append, Then-Byte, Then_again}

signed_number_again : (bits : ℕ) → IsComplete (signed_number_at bits) (λ z front. IsSigned bits front z)
unfolding signed_number_at
signed_number_again bits z front rest h = ap of_leb (signed_again bits front z rest h)

argument_again : IsComplete memory_argument_at (Within SpellsMemoryArgument (λ a. a.align ≤ max_align))
unfolding memory_argument_at
argument_again a front rest h =
    Then_again u32_at _ rest a.align (u32_again a.align) h.0
    (rw (le-leb a.align max_align h.1, u32_again a.offset h.0.back rest h.0.is_second) refl)

-- the bytes that an opcode and what follows it have
Then-length : {P Q : List ℕ → Type 0} {bytes : List ℕ} (h : Then P Q bytes) → length bytes ≡ length h.front + length h.back
Then-length h = ap length h.parts ∙ length-append h.front h.back

Byte-length : {b : ℕ} {Q : List ℕ → Type 0} {bytes : List ℕ} (h : Then (Byte b) Q bytes) → length bytes ≡ suc (length h.back)
Byte-length h = ap length (Then-Byte h)

module _ (inner : Inner) (levels : ℕ) where
  -- an instruction stands in the bytes: its opcode, which does not end the code, and what follows the opcode
  record Stands (i : Instr) (front : List ℕ) : Type 0 where
    opcode : ℕ
    operand : List ℕ
    parts : front ≡ opcode ∷ operand
    goes_on : stops (Some opcode) ≡ false
    is_read : (rest : List ℕ) → opcode_with inner levels opcode (operand ++ rest) ≡ Some (i, rest)

  bare : (opcode : ℕ) (i : Instr) (front : List ℕ) → stops (Some opcode) ≡ false
      → ((rest : List ℕ) → opcode_with inner levels opcode rest ≡ Some (i, rest)) → Byte opcode front → Stands i front
  bare opcode i front on is_read h = record { opcode = opcode; operand = []; parts = h; goes_on = on; is_read = is_read }

  with_operand : (opcode : ℕ) (i : Instr) (front : List ℕ) {P : List ℕ → Type 0} → stops (Some opcode) ≡ false
      → IsRead (opcode_with inner levels opcode) i P → Then (Byte opcode) P front → Stands i front
  with_operand opcode i front on is_read h =
      record { opcode = opcode; operand = h.back; parts = Then-Byte h; goes_on = on; is_read = λ rest. is_read h.back rest h.is_second }

  -- each is read by its opcode alone, so the first of each group shows how
  numeric_stands : (op : Numeric) (front : List ℕ) → SpellsNumeric op front → Stands (instr.Plain (plain.Numeric op)) front
  unfolding numeric_of numeric_at plain_at flat_at opcode_with
  numeric_stands (numeric.Eqz I32) front h = bare _ _ front refl (λ rest. refl) h
  numeric_stands (numeric.Eqz I64) front h = bare _ _ front refl (λ rest. refl) h
  numeric_stands (numeric.Comparison I32 Eq) front h = bare _ _ front refl (λ rest. refl) h
  numeric_stands (numeric.Comparison I64 Eq) front h = bare _ _ front refl (λ rest. refl) h
  numeric_stands (numeric.Unary I32 Clz) front h = bare _ _ front refl (λ rest. refl) h
  numeric_stands (numeric.Unary I64 Clz) front h = bare _ _ front refl (λ rest. refl) h
  numeric_stands (numeric.Binary I32 Add) front h = bare _ _ front refl (λ rest. refl) h
  numeric_stands (numeric.Binary I64 Add) front h = bare _ _ front refl (λ rest. refl) h
  numeric_stands (numeric.Division I32 DivS) front h = bare _ _ front refl (λ rest. refl) h
  numeric_stands (numeric.Division I64 DivS) front h = bare _ _ front refl (λ rest. refl) h
  numeric_stands (numeric.Conversion Wrap) front h = bare _ _ front refl (λ rest. refl) h
  numeric_stands _ front h = bare _ _ front refl (λ rest. refl) h

  variable_stands : (op : Variable) (front : List ℕ) → SpellsVariable op front → Stands (instr.Plain (plain.Variable op)) front
  unfolding variable_at plain_at flat_at opcode_with
  variable_stands (variable.LocalGet x) front h = with_operand 0x20 _ front refl (λ f r s. rw (u32_again x f r s) refl) h
  variable_stands (variable.LocalSet x) front h = with_operand 0x21 _ front refl (λ f r s. rw (u32_again x f r s) refl) h
  variable_stands (variable.LocalTee x) front h = with_operand 0x22 _ front refl (λ f r s. rw (u32_again x f r s) refl) h
  variable_stands (variable.GlobalGet x) front h = with_operand 0x23 _ front refl (λ f r s. rw (u32_again x f r s) refl) h
  variable_stands (variable.GlobalSet x) front h = with_operand 0x24 _ front refl (λ f r s. rw (u32_again x f r s) refl) h

  load_stops : (op : Load) → stops (Some (load_opcode op)) ≡ false
  load_stops load.I32 = refl
  load_stops _ = refl

  abbrev as_plain : Memory × List ℕ → Option (Plain × List ℕ)
  as_plain op = Some (plain.Memory op.0, op.1)

  abbrev as_instr : Plain × List ℕ → Option (Instr × List ℕ)
  as_instr p = Some (instr.Plain p.0, p.1)

  abbrev as_load : Load → MemoryArgument × List ℕ → Option (Memory × List ℕ)
  as_load op a = Some (memory.Load op a.0, a.1)

  abbrev as_store : Store → MemoryArgument × List ℕ → Option (Memory × List ℕ)
  as_store op a = Some (memory.Store op a.0, a.1)

  load_reads : (op : Load) (bytes : List ℕ) → opcode_with inner levels (load_opcode op) bytes
      ≡ (((memory_argument_at bytes >>= as_load op) >>= as_plain) >>= as_instr)
  unfolding load_at memory_at plain_at flat_at opcode_with
  load_reads load.I32 bytes = refl
  load_reads _ bytes = refl

  store_stops : (op : Store) → stops (Some (store_opcode op)) ≡ false
  store_stops store.I32 = refl
  store_stops _ = refl

  store_reads : (op : Store) (bytes : List ℕ) → opcode_with inner levels (store_opcode op) bytes
      ≡ (((memory_argument_at bytes >>= as_store op) >>= as_plain) >>= as_instr)
  unfolding store_at memory_at plain_at flat_at opcode_with
  store_reads store.I32 bytes = refl
  store_reads _ bytes = refl

  memory_stands : (op : Memory) (front : List ℕ) → SpellsMemory op front → IsMemoryWithin op → Stands (instr.Plain (plain.Memory op)) front
  unfolding after_zero memory_at plain_at flat_at opcode_with
  memory_stands (memory.Load op a) front h within =
      with_operand (load_opcode op) _ front (load_stops op) (λ f r s. load_reads op (f ++ r) ∙ rw (argument_again a f r (s, within)) refl) h
  memory_stands (memory.Store op a) front h within =
      with_operand (store_opcode op) _ front (store_stops op) (λ f r s. store_reads op (f ++ r) ∙ rw (argument_again a f r (s, within)) refl) h
  memory_stands memory.Size front h within = with_operand 0x3F _ front refl (λ f r s. rw (byte_again 0x00 f r s) refl) h
  memory_stands memory.Grow front h within = with_operand 0x40 _ front refl (λ f r s. rw (byte_again 0x00 f r s) refl) h

  plain_stands : (p : Plain) (front : List ℕ) → SpellsPlain p front → IsPlainWithin p → Stands (instr.Plain p) front
  unfolding i32_at i64_at plain_at flat_at opcode_with
  plain_stands plain.Nop front h within = bare 0x01 _ front refl (λ rest. refl) h
  plain_stands plain.Drop front h within = bare 0x1A _ front refl (λ rest. refl) h
  plain_stands plain.Select front h within = bare 0x1B _ front refl (λ rest. refl) h
  plain_stands (plain.Const (value.I32 n)) front h within =
      with_operand 0x41 _ front refl (λ f r s. rw (signed_number_again 32 _ f r s.spelled, cast_unsigned-signed w32 refl n s.fits) refl) h
  plain_stands (plain.Const (value.I64 n)) front h within =
      with_operand 0x42 _ front refl (λ f r s. rw (signed_number_again 64 _ f r s.spelled, cast_unsigned-signed w64 refl n s.fits) refl) h
  plain_stands (plain.Numeric op) front h within = numeric_stands op front h
  plain_stands (plain.Variable op) front h within = variable_stands op front h
  plain_stands (plain.Memory op) front h within = memory_stands op front h within

  branch_stands : (b : Branch) (front : List ℕ) → SpellsBranch b front → IsBranchWithin b → Stands (instr.Branch b) front
  unfolding br_at br_if_at br_table_at branch_at flat_at opcode_with
  branch_stands (branch.Br l) front h within = with_operand 0x0C _ front refl (λ f r s. rw (u32_again l f r s) refl) h
  branch_stands (branch.BrIf l) front h within = with_operand 0x0D _ front refl (λ f r s. rw (u32_again l f r s) refl) h
  branch_stands (branch.BrTable ls l) front h within =
      with_operand 0x0E _ front {P = Then (Vector U32 ls) (U32 l)} refl
      (λ f r s. rw (Then-append f r s, vector_again u32_at U32 u32_again max_labels ls within s.front (s.back ++ r) s.is_first, u32_again l s.back r s.is_second) refl) h
  branch_stands branch.Return front h within = bare 0x0F _ front refl (λ rest. refl) h

  call_stands : (f : ℕ) (front : List ℕ) → Then (Byte 0x10) (U32 f) front → Stands (instr.Call f) front
  unfolding call_at flat_at opcode_with
  call_stands f front h = with_operand 0x10 _ front refl (λ g r s. rw (u32_again f g r s) refl) h

  call_indirect_stands : (t : ℕ) (front : List ℕ) → SpellsCallIndirect t front → Stands (instr.CallIndirect t) front
  unfolding after_zero call_indirect_at flat_at opcode_with
  call_indirect_stands t front h =
      with_operand 0x11 _ front {P = Then (U32 t) (Byte 0x00)} refl
      (λ f r s. rw (Then-append f r s, u32_again t s.front (s.back ++ r) s.is_first, byte_again 0x00 s.back r s.is_second) refl) h

  unreachable_stands : (front : List ℕ) → Byte 0x00 front → Stands instr.Unreachable front
  unfolding flat_at opcode_with
  unreachable_stands front h = bare 0x00 _ front refl (λ rest. refl) h

  -- ---- instructions that hold others

  -- code in an instruction is read, where a byte follows that ends it
  abbrev IsInside : Code → List ℕ → Type 0
  IsInside c front = (rest : List ℕ) → stops (slice_get rest 0) ≡ true → inner (levels - 1) (front ++ rest) ≡ Some (c, rest)

  typed_again : {Q : List ℕ → Type 0} (t : Option ValType) (body : Code) (bytes rest after : List ℕ) → 1 ≤ levels → (h : Then (SpellsBlockType t) Q bytes)
      → inner (levels - 1) (h.back ++ rest) ≡ Some (body, after) → typed_with inner levels (bytes ++ rest) ≡ Some ((t, body), after)
  unfolding typed_with
  typed_again t body bytes rest after some h read =
      rw (le-leb 1 levels some) (Then_again block_type_at _ rest t (block_type_again t) h (rw read refl))

  closed_again : (rest : List ℕ) → closed_at (0x0B ∷ rest) ≡ Some rest
  unfolding closed_at byte_at
  closed_again rest = refl

  -- what ends, and more bytes
  Ended-append : {P : List ℕ → Type 0} (bytes rest : List ℕ) (h : Ended P bytes) → bytes ++ rest ≡ h.front ++ 0x0B ∷ rest
  Ended-append bytes rest h = rw (Then-append bytes rest h, h.is_second) refl

  ended_again : (t : Option ValType) (body : Code) (bytes rest : List ℕ) → 1 ≤ levels → (h : Then (SpellsBlockType t) (Ended (SpellsCode body)) bytes)
      → IsInside body h.is_second.front → typed_with inner levels (bytes ++ rest) ≡ Some ((t, body), 0x0B ∷ rest)
  ended_again t body bytes rest some h inside =
      typed_again t body bytes rest (0x0B ∷ rest) some h (rw (Ended-append h.back rest h.is_second) (inside (0x0B ∷ rest) refl))

  block_stands : (t : Option ValType) (body : Code) (front : List ℕ) → 1 ≤ levels → (h : Then (Byte 0x02) (Then (SpellsBlockType t) (Ended (SpellsCode body))) front)
      → IsInside body h.is_second.is_second.front → Stands (instr.Block t body) front
  unfolding block_with opcode_with
  block_stands t body front some h inside = record {
    opcode = 0x02;
    operand = h.back;
    parts = Then-Byte h;
    goes_on = refl;
    is_read = λ rest. rw (ended_again t body h.back rest some h.is_second inside, closed_again rest) refl;
  }

  loop_stands : (t : Option ValType) (body : Code) (front : List ℕ) → 1 ≤ levels → (h : Then (Byte 0x03) (Then (SpellsBlockType t) (Ended (SpellsCode body))) front)
      → IsInside body h.is_second.is_second.front → Stands (instr.Loop t body) front
  unfolding loop_with opcode_with
  loop_stands t body front some h inside = record {
    opcode = 0x03;
    operand = h.back;
    parts = Then-Byte h;
    goes_on = refl;
    is_read = λ rest. rw (ended_again t body h.back rest some h.is_second inside, closed_again rest) refl;
  }

  arm_stops : (P : List ℕ → Type 0) (other : Code) (bytes rest : List ℕ) → Arm P other bytes → stops (slice_get (bytes ++ rest) 0) ≡ true
  arm_stops P other bytes rest (inl a) = rw (Then-Byte a) refl
  arm_stops P other bytes rest (inr a) = rw a.1 refl

  -- the other arm of an `if`, where it is there
  abbrev IsOther : (other : Code) (bytes : List ℕ) → Arm (SpellsCode other) other bytes → Type 0
  IsOther other bytes (inl a) = IsInside other a.is_second.front
  IsOther other bytes (inr a) = Unit {0}

  else_again : (other : Code) (bytes rest : List ℕ) (a : Arm (SpellsCode other) other bytes) → IsOther other bytes a → else_with inner levels (bytes ++ rest) ≡ Some (other, rest)
  unfolding else_with arm_with ended_with byte_at
  else_again other bytes rest (inl a) inside =
      rw (Then-Byte a, Ended-append a.back rest a.is_second, inside (0x0B ∷ rest) refl, closed_again rest) refl
  else_again other bytes rest (inr a) inside = rw (a.1, a.0) refl

  other_again : (other : Code) (bytes : List ℕ) (n : ℕ) (a : Arm (SpellsCode other) other bytes) → length bytes < n
      → ((front rest : List ℕ) → SpellsCode other front → length front < n → stops (slice_get rest 0) ≡ true → inner (levels - 1) (front ++ rest) ≡ Some (other, rest))
      → IsOther other bytes a
  other_again other bytes n (inl a) lt again =
      let less : length a.is_second.front < n = omega (arith, Byte-length a, Then-length a.is_second) in
      λ rest off. again a.is_second.front rest a.is_second.is_first less off
  other_again other bytes n (inr a) lt again = tt

  choice_stands : (t : Option ValType) (body other : Code) (front : List ℕ) → 1 ≤ levels
      → (h : Then (Byte 0x04) (Then (SpellsBlockType t) (Then (SpellsCode body) (Arm (SpellsCode other) other))) front)
      → IsInside body h.is_second.is_second.front → IsOther other h.is_second.is_second.back h.is_second.is_second.is_second → Stands (instr.If t body other) front
  unfolding if_with opcode_with
  choice_stands t body other front some h inside inside1 =
      let typed = h.is_second in
      let arms = typed.is_second in
      record {
        opcode = 0x04;
        operand = h.back;
        parts = Then-Byte h;
        goes_on = refl;
        is_read = λ rest.
            let off = arm_stops (SpellsCode other) other arms.back rest arms.is_second in
            let first : inner (levels - 1) (typed.back ++ rest) ≡ Some (body, arms.back ++ rest) = rw (Then-append typed.back rest arms) (inside (arms.back ++ rest) off) in
            rw (typed_again t body h.back rest (arms.back ++ rest) some typed first, else_again other arms.back rest arms.is_second inside1) refl;
      }

-- ---- instructions one after another

-- one instruction, and the code after it
step : (n levels : ℕ) (front back rest : List ℕ) (i : Instr) (c : Code) → Stands (code_at n) levels i front → code_at n levels back ≡ Some (c, rest)
    → code_at (suc n) levels (front ++ back) ≡ Some (then_code i c, rest)
unfolding code_at instr_with byte_at
step n levels front back rest i c s after = rw (s.parts, s.goes_on, s.is_read back, after) refl

finish : (n levels : ℕ) (front rest : List ℕ) → front ≡ [] → stops (slice_get rest 0) ≡ true → code_at (suc n) levels (front ++ rest) ≡ Some (code.end, rest)
unfolding code_at
finish n levels front rest none off = rw (none, off) refl

-- an instruction spells at least one byte, so fewer are left for those behind it
follows : {P : List ℕ → Type 0} (i : Instr) (c : Code) (n levels : ℕ) (front rest : List ℕ) (h : Then P (SpellsCode c) front)
    → Stands (code_at n) levels i h.front → length front < suc n → (length h.back < n → code_at n levels (h.back ++ rest) ≡ Some (c, rest))
    → code_at (suc n) levels (front ++ rest) ≡ Some (then_code i c, rest)
follows i c n levels front rest h s lt after =
    let less : length h.back < n = omega (arith, ap length h.parts, length-append h.front h.back, ap length s.parts) in
    rw (Then-append front rest h) (step n levels h.front (h.back ++ rest) rest i c s (after less))

-- what stands in an instruction is shorter than code that begins with it
inside_shorter : {b : ℕ} {A P Q R : List ℕ → Type 0} {front : List ℕ} (n : ℕ) (h : Then (Then (Byte b) (Then A (Then P Q))) R front) → length front < suc n
    → (length h.is_first.is_second.is_second.front < n) × (length h.is_first.is_second.is_second.back < n)
inside_shorter n h lt =
    let whole = Then-length h in
    let opcode = Byte-length h.is_first in
    let typed = Then-length h.is_first.is_second in
    let inside = Then-length h.is_first.is_second.is_second in
    (omega (arith, lt, whole, opcode, typed, inside), omega (arith, lt, whole, opcode, typed, inside))

code_again : (c : Code) (n levels : ℕ) (front rest : List ℕ) → SpellsCode c front → IsCodeWithin levels c → length front < n → stops (slice_get rest 0) ≡ true
    → code_at n levels (front ++ rest) ≡ Some (c, rest)
code_again c zero levels front rest h w lt off = absurd (omega arith)
code_again code.end (suc n) levels front rest h w lt off = finish n levels front rest h off
code_again (code.plain p k) (suc n) levels front rest h w lt off =
    follows (instr.Plain p) k n levels front rest h (plain_stands (code_at n) levels p h.front h.is_first w.0) lt
    (λ less. code_again k n levels h.back rest h.is_second w.1 less off)
code_again (code.branch b k) (suc n) levels front rest h w lt off =
    follows (instr.Branch b) k n levels front rest h (branch_stands (code_at n) levels b h.front h.is_first w.0) lt
    (λ less. code_again k n levels h.back rest h.is_second w.1 less off)
code_again (code.call f k) (suc n) levels front rest h w lt off =
    follows (instr.Call f) k n levels front rest h (call_stands (code_at n) levels f h.front h.is_first) lt
    (λ less. code_again k n levels h.back rest h.is_second w less off)
code_again (code.call_indirect t k) (suc n) levels front rest h w lt off =
    follows (instr.CallIndirect t) k n levels front rest h (call_indirect_stands (code_at n) levels t h.front h.is_first) lt
    (λ less. code_again k n levels h.back rest h.is_second w less off)
code_again (code.unreachable k) (suc n) levels front rest h w lt off =
    follows instr.Unreachable k n levels front rest h (unreachable_stands (code_at n) levels h.front h.is_first) lt
    (λ less. code_again k n levels h.back rest h.is_second w less off)
code_again (code.block t body k) (suc n) levels front rest h w lt off =
    let typed = h.is_first.is_second in
    let inside = typed.is_second in
    let less : length inside.front < n = (inside_shorter n h lt).0 in
    follows (instr.Block t body) k n levels front rest h
    (block_stands (code_at n) levels t body h.front w.0 h.is_first (λ r o. code_again body n (levels - 1) inside.front r inside.is_first w.1 less o)) lt
    (λ less. code_again k n levels h.back rest h.is_second w.2 less off)
code_again (code.loop t body k) (suc n) levels front rest h w lt off =
    let typed = h.is_first.is_second in
    let inside = typed.is_second in
    let less : length inside.front < n = (inside_shorter n h lt).0 in
    follows (instr.Loop t body) k n levels front rest h
    (loop_stands (code_at n) levels t body h.front w.0 h.is_first (λ r o. code_again body n (levels - 1) inside.front r inside.is_first w.1 less o)) lt
    (λ less. code_again k n levels h.back rest h.is_second w.2 less off)
code_again (code.choice t body other k) (suc n) levels front rest h w lt off =
    let typed = h.is_first.is_second in
    let arms = typed.is_second in
    let less = inside_shorter n h lt in
    follows (instr.If t body other) k n levels front rest h
    (choice_stands (code_at n) levels t body other h.front w.0 h.is_first
    (λ r o. code_again body n (levels - 1) arms.front r arms.is_first w.1 less.0 o)
    (other_again (code_at n) levels other arms.back n arms.is_second less.1 (λ f r s lt1 o. code_again other n (levels - 1) f r s w.2 lt1 o))) lt
    (λ less. code_again k n levels h.back rest h.is_second w.3 less off)

ended_code : (c : Code) (n : ℕ) (front rest : List ℕ) (s : SpellsExpression c front) → IsBodyWithin c → length front < n
    → code_at n max_nesting (front ++ rest) ≡ Some (c, 0x0B ∷ rest)
ended_code c n front rest s within lt =
    let less : length s.front < n = omega (arith, Then-length s) in
    rw (Ended-append (code_at n) max_nesting front rest s) (code_again c n max_nesting s.front (0x0B ∷ rest) s.is_first within less refl)

pub expression_again : IsComplete expression_at (Within SpellsExpression IsBodyWithin)
unfolding expression_at ended_with
expression_again c front rest h =
    let n = suc (length (front ++ rest)) in
    rw (ended_code c n front rest h.0 h.1 (omega (arith, length-append front rest)), closed_again (code_at n) max_nesting rest) refl
