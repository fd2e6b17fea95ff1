-- What a reader leaves is no longer than what it was given.
use Rattle.std.proofs.Common.{◌≡◌, ℕ, zero, suc, ◌-◌, ◌+◌, ◌≤◌, ◌<◌, ◌==◌, ◌^◌, ℤ, Bool, true, false, cond, nat_le, nat_lt, List, [], ◌∷◌, length, drop, slice_get, Option, Some, None, Result, Ok, Err, IfOk, IfSome, ap, arith, length-drop}
use Rattle.std.proofs.lemmas.Option.{some_pair_parts}
use Rattle.leb.specs.declared.fault.LebFault.{LebFault}
use Rattle.leb.specs.inside.Reading.{unsigned_at, signed_at, with_low, with_low_signed}
use Rattle.wasm_ast.specs.declared.types.ValType.{ValType}
use Rattle.wasm_ast.specs.declared.plain.Memory.TheVariants as memory
use Rattle.wasm_ast.specs.declared.body.Instr.{Instr}
use Rattle.wasm_ast.specs.declared.body.Instr.TheVariants as instr
use Rattle.wasm_ast.specs.Code.{Code}
use Rattle.wasm_ast.specs.Limits.{max_align, max_labels}
use Rattle.wasm_items.specs.inside.Reading.{◌>>=◌, Reads, of_leb, guarded, byte_at, u32_at, signed_number_at, items_at, vector_at, take_at, part_at, block_type_at}
use Rattle.wasm_items.specs.inside.ReadingCode.{is_from, numeric_of, numeric_at, i32_at, i64_at, variable_at, memory_argument_at, load_of, store_of, load_at, store_at, after_zero, memory_at, plain_at, br_at, br_if_at, br_table_at, branch_at, call_at, call_indirect_at, flat_at, Inner, closed_at, typed_with, block_with, loop_with, ended_with, arm_with, else_with, if_with, opcode_with, instr_with, stops, code_at}

-- at most so many bytes are left
abbrev pub LeavesAtMost : {A : Type 0} → ℕ → Option (A × List ℕ) → Type 0
LeavesAtMost n read = IfSome read (λ x. length x.1 ≤ n)

-- a step, and one that leaves no more
LeavesAtMost-then : {A B : Type 0} (n : ℕ) (step : Option (A × List ℕ)) (next : A × List ℕ → Option (B × List ℕ)) → LeavesAtMost n step
    → ((x : A × List ℕ) → length x.1 ≤ n → LeavesAtMost n (next x)) → LeavesAtMost n (step >>= next)
LeavesAtMost-then n None next h k = tt
LeavesAtMost-then n (Some x) next h k = k x h

LeavesAtMost-guarded : {A : Type 0} (n : ℕ) (b : Bool) (read : Option (A × List ℕ)) → LeavesAtMost n read → LeavesAtMost n (guarded b read)
LeavesAtMost-guarded n true read h = h
LeavesAtMost-guarded n false read h = tt

LeavesAtMost-cond : {A : Type 0} (n : ℕ) (b : Bool) (x y : Option (A × List ℕ)) → LeavesAtMost n x → LeavesAtMost n y → LeavesAtMost n (cond b x y)
LeavesAtMost-cond n true x y h k = h
LeavesAtMost-cond n false x y h k = k

-- ---- numbers

-- the same of a number in LEB128
abbrev LebLeaves : {N : Type 0} → ℕ → Result (N × List ℕ) LebFault → Type 0
LebLeaves n read = IfOk read (λ x. length x.1 ≤ n)

LebLeaves-cond : {N : Type 0} (n : ℕ) (b : Bool) (x y : Result (N × List ℕ) LebFault) → LebLeaves n x → LebLeaves n y → LebLeaves n (cond b x y)
LebLeaves-cond n true x y h k = h
LebLeaves-cond n false x y h k = k

with_low_leaves : (n m b : ℕ) (read : Result (ℕ × List ℕ) LebFault) → m ≤ n → LebLeaves m read → LebLeaves n (with_low b read)
with_low_leaves n m b (Ok x) le h = omega (arith, h)
with_low_leaves n m b (Err e) le h = tt

with_low_signed_leaves : (n m b : ℕ) (read : Result (ℤ × List ℕ) LebFault) → m ≤ n → LebLeaves m read → LebLeaves n (with_low_signed b read)
with_low_signed_leaves n m b (Ok x) le h = omega (arith, h)
with_low_signed_leaves n m b (Err e) le h = tt

unsigned_leaves : (bits : ℕ) (bytes : List ℕ) → LebLeaves (length bytes) (unsigned_at bits bytes)
unsigned_leaves bits [] = tt
unsigned_leaves bits (b ∷ bs) =
    let le : length bs ≤ suc (length bs) = omega arith in
    LebLeaves-cond _ (nat_lt b 128) _ _ (LebLeaves-cond _ (nat_lt b (2 ^ bits)) _ _ le tt)
    (LebLeaves-cond _ (nat_le bits 7) _ _ tt (with_low_leaves _ (length bs) b (unsigned_at (bits - 7) bs) le (unsigned_leaves (bits - 7) bs)))

signed_leaves : (bits : ℕ) (bytes : List ℕ) → LebLeaves (length bytes) (signed_at bits bytes)
signed_leaves bits [] = tt
signed_leaves bits (b ∷ bs) =
    let le : length bs ≤ suc (length bs) = omega arith in
    LebLeaves-cond _ (nat_lt b 64) _ _ (LebLeaves-cond _ (nat_lt b (2 ^ (bits - 1))) _ _ le tt)
    (LebLeaves-cond _ (nat_lt b 128) _ _ (LebLeaves-cond _ (nat_le 128 (b + 2 ^ (bits - 1))) _ _ le tt)
    (LebLeaves-cond _ (nat_le bits 7) _ _ tt (with_low_signed_leaves _ (length bs) b (signed_at (bits - 7) bs) le (signed_leaves (bits - 7) bs))))

of_leb_leaves : {N : Type 0} (n : ℕ) (read : Result (N × List ℕ) LebFault) → LebLeaves n read → LeavesAtMost n (of_leb read)
of_leb_leaves n (Ok x) h = h
of_leb_leaves n (Err e) h = tt

u32_leaves : (bytes : List ℕ) → LeavesAtMost (length bytes) (u32_at bytes)
unfolding u32_at
u32_leaves bytes = of_leb_leaves (length bytes) (unsigned_at 32 bytes) (unsigned_leaves 32 bytes)

signed_number_leaves : (bits : ℕ) (bytes : List ℕ) → LeavesAtMost (length bytes) (signed_number_at bits bytes)
unfolding signed_number_at
signed_number_leaves bits bytes = of_leb_leaves (length bytes) (signed_at bits bytes) (signed_leaves bits bytes)

-- ---- readers, of bytes that are at most so many

abbrev pub Leaves : {A : Type 0} → Reads A → Type 0
Leaves reader = (n : ℕ) (bytes : List ℕ) → length bytes ≤ n → LeavesAtMost n (reader bytes)

LeavesAtMost-more : {A : Type 0} (m n : ℕ) (read : Option (A × List ℕ)) → m ≤ n → LeavesAtMost m read → LeavesAtMost n read
LeavesAtMost-more m n None le h = tt
LeavesAtMost-more m n (Some x) le h = omega (arith, h)

-- a step that leaves the bytes alone
LeavesAtMost-of : {A B : Type 0} (n : ℕ) (step : Option A) (next : A → Option (B × List ℕ)) → ((x : A) → LeavesAtMost n (next x)) → LeavesAtMost n (step >>= next)
LeavesAtMost-of n None next k = tt
LeavesAtMost-of n (Some x) next k = k x

-- what is made of an item
map_leaves : {A B : Type 0} (n : ℕ) (read : Option (A × List ℕ)) (make : A → B) → LeavesAtMost n read → LeavesAtMost n (read >>= λ x. Some (make x.0, x.1))
map_leaves n None make h = tt
map_leaves n (Some x) make h = h

u32s : Leaves u32_at
u32s n bytes le = LeavesAtMost-more (length bytes) n (u32_at bytes) le (u32_leaves bytes)

signed_numbers : (bits : ℕ) → Leaves (signed_number_at bits)
signed_numbers bits n bytes le = LeavesAtMost-more (length bytes) n (signed_number_at bits bytes) le (signed_number_leaves bits bytes)

byte_leaves : Leaves byte_at
unfolding byte_at
byte_leaves n [] le = tt
byte_leaves n (b ∷ bytes) le = omega arith

items_leave : {A : Type 0} (item : Reads A) → Leaves item → (count : ℕ) → Leaves (items_at item count)
unfolding items_at
items_leave item each zero n bytes le = le
items_leave item each (suc count) n bytes le =
    LeavesAtMost-then n (item bytes) _ (each n bytes le) λ x le1.
    map_leaves n (items_at item count x.1) _ (items_leave item each count n x.1 le1)

vector_leaves : {A : Type 0} (item : Reads A) → Leaves item → (most : ℕ) → Leaves (vector_at item most)
unfolding vector_at
vector_leaves item each most n bytes le =
    LeavesAtMost-then n (u32_at bytes) _ (u32s n bytes le) λ x le1.
    LeavesAtMost-guarded n (nat_le x.0 most) _ (items_leave item each x.0 n x.1 le1)

block_type_leaves : Leaves block_type_at
unfolding block_type_at
block_type_leaves n [] le = tt
block_type_leaves n (b ∷ bytes) le =
    let less : length bytes ≤ n = omega arith in
    LeavesAtMost-cond n (b == 0x40) _ _ less (LeavesAtMost-cond n (b == 0x7F) _ _ less (LeavesAtMost-cond n (b == 0x7E) _ _ less tt))

-- ---- instructions

zero_leaves : {A : Type 0} (x : A) → Leaves (after_zero x)
unfolding after_zero
zero_leaves x n bytes le =
    LeavesAtMost-then n (byte_at bytes) _ (byte_leaves n bytes le) λ b le1. LeavesAtMost-guarded n (b.0 == 0x00) _ le1

argument_leaves : Leaves memory_argument_at
unfolding memory_argument_at
argument_leaves n bytes le =
    LeavesAtMost-then n (u32_at bytes) _ (u32s n bytes le) λ align le1.
    LeavesAtMost-guarded n (nat_le align.0 max_align) _ (map_leaves n (u32_at align.1) _ (u32s n align.1 le1))

memory_leaves : (opcode : ℕ) → Leaves (memory_at opcode)
unfolding memory_at load_at store_at
memory_leaves opcode n bytes le =
    let argument = argument_leaves n bytes le in
    LeavesAtMost-cond n (opcode == 0x3F) _ _ (zero_leaves memory.Size n bytes le)
    (LeavesAtMost-cond n (opcode == 0x40) _ _ (zero_leaves memory.Grow n bytes le)
    (LeavesAtMost-cond n (nat_le opcode 0x35) _ _
    (LeavesAtMost-of n (load_of (opcode - 0x28)) _ λ op. map_leaves n (memory_argument_at bytes) _ argument)
    (LeavesAtMost-of n (store_of (opcode - 0x36)) _ λ op. map_leaves n (memory_argument_at bytes) _ argument)))

plain_leaves : (opcode : ℕ) → Leaves (plain_at opcode)
unfolding plain_at variable_at i32_at i64_at numeric_at
plain_leaves opcode n bytes le =
    LeavesAtMost-cond n (opcode == 0x01) _ _ le
    (LeavesAtMost-cond n (opcode == 0x1A) _ _ le
    (LeavesAtMost-cond n (opcode == 0x1B) _ _ le
    (LeavesAtMost-cond n (is_from 0x20 0x24 opcode) _ _ (map_leaves n (u32_at bytes) _ (u32s n bytes le))
    (LeavesAtMost-cond n (is_from 0x28 0x40 opcode) _ _ (map_leaves n (memory_at opcode bytes) _ (memory_leaves opcode n bytes le))
    (LeavesAtMost-cond n (opcode == 0x41) _ _ (map_leaves n (signed_number_at 32 bytes) _ (signed_numbers 32 n bytes le))
    (LeavesAtMost-cond n (opcode == 0x42) _ _ (map_leaves n (signed_number_at 64 bytes) _ (signed_numbers 64 n bytes le))
    (LeavesAtMost-of n (numeric_of opcode) _ λ op. le)))))))

branch_leaves : (opcode : ℕ) → Leaves (branch_at opcode)
unfolding branch_at br_at br_if_at br_table_at
branch_leaves opcode n bytes le =
    LeavesAtMost-cond n (opcode == 0x0C) _ _ (map_leaves n (u32_at bytes) _ (u32s n bytes le))
    (LeavesAtMost-cond n (opcode == 0x0D) _ _ (map_leaves n (u32_at bytes) _ (u32s n bytes le))
    (LeavesAtMost-cond n (opcode == 0x0E) _ _
    (LeavesAtMost-then n (vector_at u32_at max_labels bytes) _ (vector_leaves u32_at u32s max_labels n bytes le) λ labels le1.
    map_leaves n (u32_at labels.1) _ (u32s n labels.1 le1)) le))

flat_leaves : (opcode : ℕ) → Leaves (flat_at opcode)
unfolding flat_at call_at call_indirect_at
flat_leaves opcode n bytes le =
    LeavesAtMost-cond n (opcode == 0x00) _ _ le
    (LeavesAtMost-cond n (is_from 0x0C 0x0F opcode) _ _ (map_leaves n (branch_at opcode bytes) _ (branch_leaves opcode n bytes le))
    (LeavesAtMost-cond n (opcode == 0x10) _ _ (map_leaves n (u32_at bytes) _ (u32s n bytes le))
    (LeavesAtMost-cond n (opcode == 0x11) _ _
    (LeavesAtMost-then n (u32_at bytes) _ (u32s n bytes le) λ t le1. zero_leaves (instr.CallIndirect t.0) n t.1 le1)
    (map_leaves n (plain_at opcode bytes) _ (plain_leaves opcode n bytes le)))))

-- ---- instructions that hold others

closed_leaves : {A : Type 0} (n : ℕ) (bytes : List ℕ) (next : List ℕ → Option (A × List ℕ)) → length bytes ≤ n
    → ((rest : List ℕ) → length rest ≤ n → LeavesAtMost n (next rest)) → LeavesAtMost n (closed_at bytes >>= next)
unfolding closed_at byte_at
closed_leaves n [] next le k = tt
closed_leaves n (b ∷ bytes) next le k = ends (b == 0x0B)
  where
    ends : (t : Bool) → LeavesAtMost n (guarded t (Some bytes) >>= next)
    ends true = k bytes (omega arith)
    ends false = tt

module _ (inner : Inner) (each : (levels : ℕ) → Leaves (inner levels)) (levels : ℕ) where
  typed_leaves : Leaves (typed_with inner levels)
  unfolding typed_with
  typed_leaves n bytes le =
      LeavesAtMost-guarded n (nat_le 1 levels) _
      (LeavesAtMost-then n (block_type_at bytes) _ (block_type_leaves n bytes le) λ t le1.
      map_leaves n (inner (levels - 1) t.1) _ (each (levels - 1) n t.1 le1))

  arm_leaves : (first : ℕ) → Leaves (arm_with inner levels first)
  unfolding arm_with ended_with
  arm_leaves first n bytes le =
      LeavesAtMost-cond n (first == 0x05) _ _
      (LeavesAtMost-then n (inner (levels - 1) bytes) _ (each (levels - 1) n bytes le) λ other le1.
      closed_leaves n other.1 _ le1 λ rest le2. le2)
      (LeavesAtMost-guarded n (first == 0x0B) _ le)

  else_leaves : Leaves (else_with inner levels)
  unfolding else_with
  else_leaves n bytes le =
      LeavesAtMost-then n (byte_at bytes) _ (byte_leaves n bytes le) λ first le1. arm_leaves first.0 n first.1 le1

  opcode_leaves : (opcode : ℕ) → Leaves (opcode_with inner levels opcode)
  unfolding opcode_with block_with loop_with if_with
  opcode_leaves opcode n bytes le =
      let typed = typed_leaves n bytes le in
      LeavesAtMost-cond n (opcode == 0x02) _ _
      (LeavesAtMost-then n (typed_with inner levels bytes) _ typed λ x le1. closed_leaves n x.1 _ le1 λ rest le2. le2)
      (LeavesAtMost-cond n (opcode == 0x03) _ _
      (LeavesAtMost-then n (typed_with inner levels bytes) _ typed λ x le1. closed_leaves n x.1 _ le1 λ rest le2. le2)
      (LeavesAtMost-cond n (opcode == 0x04) _ _
      (LeavesAtMost-then n (typed_with inner levels bytes) _ typed λ x le1.
      map_leaves n (else_with inner levels x.1) _ (else_leaves n x.1 le1))
      (flat_leaves opcode n bytes le)))

  instr_leaves : Leaves (instr_with inner levels)
  unfolding instr_with
  instr_leaves n bytes le =
      LeavesAtMost-then n (byte_at bytes) _ (byte_leaves n bytes le) λ b le1. opcode_leaves b.0 n b.1 le1

code_leaves : (k levels : ℕ) → Leaves (code_at k levels)
unfolding code_at
code_leaves zero levels n bytes le = tt
code_leaves (suc k) levels n bytes le =
    LeavesAtMost-cond n (stops (slice_get bytes 0)) _ _ le
    (LeavesAtMost-then n (instr_with (code_at k) levels bytes) _ (instr_leaves (code_at k) (code_leaves k) levels n bytes le) λ i le1.
    map_leaves n (code_at k levels i.1) _ (code_leaves k levels n i.1 le1))

-- ---- the same of what was read

pub byte_shortens : (bytes rest : List ℕ) (b : ℕ) → byte_at bytes ≡ Some (b, rest) → length bytes ≡ suc (length rest)
unfolding byte_at
byte_shortens [] rest b e = absurd cc
byte_shortens (c ∷ bytes) rest b e = let same : bytes ≡ rest = (some_pair_parts c b bytes rest e).1 in ap (λ (r : List ℕ). suc (length r)) same

pub block_type_shortens : (bytes rest : List ℕ) (t : Option ValType) → block_type_at bytes ≡ Some (t, rest) → length rest ≤ length bytes
block_type_shortens bytes rest t e = rw e at (block_type_leaves (length bytes) bytes (omega arith))

pub typed_shortens : (k levels : ℕ) (bytes rest : List ℕ) (x : Option ValType × Code) → typed_with (code_at k) levels bytes ≡ Some (x, rest) → length rest ≤ length bytes
typed_shortens k levels bytes rest x e = rw e at (typed_leaves (code_at k) (code_leaves k) levels (length bytes) bytes (omega arith))

-- an instruction has an opcode
pub instr_shortens : (k levels : ℕ) (bytes rest : List ℕ) (i : Instr) → instr_with (code_at k) levels bytes ≡ Some (i, rest) → length rest < length bytes
unfolding instr_with byte_at
instr_shortens k levels [] rest i e = absurd cc
instr_shortens k levels (b ∷ bytes) rest i e =
    let le : length rest ≤ length bytes = rw e at (opcode_leaves (code_at k) (code_leaves k) levels b (length bytes) bytes (omega arith)) in
    omega arith

-- ---- parts

take_leaves : (len n : ℕ) (bytes : List ℕ) → length bytes ≤ n → LeavesAtMost n (take_at len bytes)
unfolding take_at
take_leaves len n bytes le =
    let h : length (drop len bytes) ≤ n = omega (arith, length-drop len bytes) in
    LeavesAtMost-guarded n (nat_le len (length bytes)) _ h

pub part_leaves : (bytes : List ℕ) → LeavesAtMost (length bytes) (part_at bytes)
unfolding part_at
part_leaves bytes = LeavesAtMost-then (length bytes) (u32_at bytes) _ (u32_leaves bytes) (λ x le. take_leaves x.0 (length bytes) x.1 le)
