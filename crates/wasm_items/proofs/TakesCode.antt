-- What is read is spelled so, and within limits: instructions.
use Rattle.std.proofs.Common.{◌≡◌, ℕ, zero, suc, ◌-◌, ◌<◌, ◌≤◌, Bool, true, false, List, [], ◌∷◌, ◌++◌, length, slice_get, Option, Some, None, refl, sym, ap, ◌∙◌, append_assoc, inl, inr, arith}
use Rattle.std.proofs.lemmas.Bool.{eqb-true, leb-true, leb-false, le-leb, and_from, and_parts, agree_below_at}
use Rattle.std.proofs.lemmas.List.{append-nil}
use Rattle.std.specs.Int.{w32, w64}
use Rattle.std.specs.Prelude.{◌==◌, if◌then◌else◌, nat_le}
use Rattle.leb.proofs.Signed.{signed_fits}
use Rattle.wasm_ast.specs.declared.types.ValType.{ValType}
use Rattle.wasm_ast.specs.declared.numeric.Numeric.{Numeric}
use Rattle.wasm_ast.specs.declared.plain.Load.{Load}
use Rattle.wasm_ast.specs.declared.plain.Store.{Store}
use Rattle.wasm_ast.specs.declared.plain.MemoryArgument.{MemoryArgument}
use Rattle.wasm_ast.specs.declared.plain.Memory.{Memory}
use Rattle.wasm_ast.specs.declared.plain.Memory.TheVariants as memory
use Rattle.wasm_ast.specs.declared.plain.Plain.{Plain}
use Rattle.wasm_ast.specs.declared.plain.Plain.TheVariants as plain
use Rattle.wasm_ast.specs.declared.plain.Branch.{Branch}
use Rattle.wasm_ast.specs.declared.plain.Branch.TheVariants as branch
use Rattle.wasm_ast.specs.declared.body.Instr.{Instr}
use Rattle.wasm_ast.specs.declared.body.Instr.TheVariants as instr
use Rattle.wasm_ast.specs.Code.{Code, end}
use Rattle.wasm_ast.specs.View.{then_code}
use Rattle.wasm_ast.specs.Limits.{max_align, max_labels, max_nesting, IsMemoryWithin, IsPlainWithin, IsBranchWithin, IsCodeWithin, IsBodyWithin}
use Rattle.wasm_items.specs.Bytes.{Then, Byte, U32}
use Rattle.wasm_items.specs.Types.{SpellsBlockType}
use Rattle.wasm_items.specs.Instructions.{numeric_opcode, SpellsNumeric, SpellsVariable, load_opcode, store_opcode, SpellsMemoryArgument, SpellsMemory, SpellsPlain, SpellsBranch, Ended, Arm, SpellsCode, SpellsExpression}
use Rattle.wasm_items.specs.inside.Reading.{◌>>=◌, guarded, byte_at}
use Rattle.wasm_items.specs.inside.ReadingCode.{is_from, numeric_of, i32_at, i64_at, variable_of, variable_at, memory_argument_at, load_of, store_of, load_at, store_at, after_zero, memory_at, numeric_at, plain_at, br_at, br_if_at, br_table_at, branch_at, call_at, call_indirect_at, flat_at, Inner, closed_at, typed_with, block_with, loop_with, ended_with, arm_with, else_with, if_with, opcode_with, instr_with, stops, code_at, expression_at}
use Rattle.wasm_items.proofs.Numbers.{signed-cast_unsigned, cast_unsigned_below}
use Rattle.wasm_items.proofs.TakesParts.{byte_takes, u32_takes, signed_number_takes, vector_takes, block_type_takes}
use Rattle.wasm_items.proofs.Tools.{bind_some, guarded_some, some_is, never, by_test, by_byte, by_byte_or, Takes, IsSound, Within, Takes-map, Takes-cons, Then_takes, made_takes, Then-joined, Then-assoc}

-- ---- opcodes: a rule holds of each of the 256 bytes

abbrev numeric_matches : Option Numeric → ℕ → Bool
numeric_matches None b = true
numeric_matches (Some op) b = b == numeric_opcode op

numeric_of_spells : (b : ℕ) (op : Numeric) → b < 256 → numeric_of b ≡ Some op → SpellsNumeric op (b ∷ [])
unfolding numeric_of
numeric_of_spells b op byte e =
    let table = agree_below_at (λ b. numeric_matches (numeric_of b) b) (λ b. true) 256 b refl byte in
    ap (λ (b : ℕ). b ∷ []) (eqb-true b (numeric_opcode op) (rw e at table))

is_between : (low high b : ℕ) → low ≤ b → b ≤ high → is_from low high b ≡ true
is_between low high b above below = and_from (nat_le low b) (nat_le b high) (le-leb low b above) (le-leb b high below)

abbrev load_matches : Option Load → ℕ → Bool
load_matches None b = true
load_matches (Some op) b = b == load_opcode op

load_of_spells : (b : ℕ) (op : Load) → 0x28 ≤ b → b ≤ 0x35 → load_of (b - 0x28) ≡ Some op → Byte (load_opcode op) (b ∷ [])
load_of_spells b op above below e =
    let among = is_between 0x28 0x35 b above below in
    let table = agree_below_at (λ b. if is_from 0x28 0x35 b then load_matches (load_of (b - 0x28)) b else true) (λ b. true) 256 b refl (omega arith) in
    ap (λ (b : ℕ). b ∷ []) (eqb-true b (load_opcode op) (rw (among, e) at table))

abbrev store_matches : Option Store → ℕ → Bool
store_matches None b = true
store_matches (Some op) b = b == store_opcode op

store_of_spells : (b : ℕ) (op : Store) → 0x36 ≤ b → b ≤ 0x3E → store_of (b - 0x36) ≡ Some op → Byte (store_opcode op) (b ∷ [])
store_of_spells b op above below e =
    let among = is_between 0x36 0x3E b above below in
    let table = agree_below_at (λ b. if is_from 0x36 0x3E b then store_matches (store_of (b - 0x36)) b else true) (λ b. true) 256 b refl (omega arith) in
    ap (λ (b : ℕ). b ∷ []) (eqb-true b (store_opcode op) (rw (among, e) at table))

from_low : (low high b : ℕ) → is_from low high b ≡ true → low ≤ b
from_low low high b h = leb-true low b (and_parts (nat_le low b) (nat_le b high) h).0

from_high : (low high b : ℕ) → is_from low high b ≡ true → b ≤ high
from_high low high b h = leb-true b high (and_parts (nat_le low b) (nat_le b high) h).1

after : {P : List ℕ → Type 0} (b : ℕ) (f : List ℕ) → P f → Then (Byte b) P (b ∷ f)
after b f s = Then-joined (b ∷ []) f refl s

-- ---- memory

argument_takes : IsSound memory_argument_at (Within SpellsMemoryArgument (λ a. a.align ≤ max_align))
unfolding memory_argument_at
argument_takes bytes x fits e =
    Then_takes _ u32_takes fits e λ align f b s fits1 e1.
    let g = guarded_some (nat_le align max_align) _ x e1 in
    made_takes (λ (a : MemoryArgument) f1. SpellsMemoryArgument a (f ++ f1) × (a.align ≤ max_align)) u32_takes fits1 g.1 λ offset f1 s1.
    (Then-joined f f1 s s1, leb-true align max_align g.0)

-- an opcode, and what follows it
abbrev MemoryBehind : ℕ → Memory → List ℕ → Type 0
MemoryBehind b op f = SpellsMemory op (b ∷ f) × IsMemoryWithin op

load_takes : (b : ℕ) → 0x28 ≤ b → b ≤ 0x35 → IsSound (load_at b) (MemoryBehind b)
unfolding load_at
load_takes b above below bytes x fits e =
    let a = bind_some (load_of (b - 0x28)) _ x e in
    made_takes (MemoryBehind b) argument_takes fits a.2 λ argument f s.
    (Then-joined (b ∷ []) f (load_of_spells b a.0 above below a.1) s.0, s.1)

store_takes : (b : ℕ) → 0x36 ≤ b → b ≤ 0x3E → IsSound (store_at b) (MemoryBehind b)
unfolding store_at
store_takes b above below bytes x fits e =
    let a = bind_some (store_of (b - 0x36)) _ x e in
    made_takes (MemoryBehind b) argument_takes fits a.2 λ argument f s.
    (Then-joined (b ∷ []) f (store_of_spells b a.0 above below a.1) s.0, s.1)

zero_takes : {A : Type 0} (whole : A) → IsSound (after_zero whole) (λ y f. (y ≡ whole) × Byte 0x00 f)
unfolding after_zero
zero_takes whole bytes x fits e =
    Then_takes _ byte_takes fits e λ index f b s fits1 e1.
    let g = guarded_some (index == 0x00) _ x e1 in
    let is_zero : Byte 0x00 f = rw (← eqb-true index 0x00 g.0) s in
    rw (← some_is (whole, b) x g.1) (record { front = []; is_spelled = (refl, rw append-nil is_zero); parts = refl })

memory_takes : (b : ℕ) → 0x28 ≤ b → b ≤ 0x40 → IsSound (memory_at b) (MemoryBehind b)
unfolding memory_at
memory_takes b above below bytes x fits e =
    by_byte_or b 0x3F _ _ _ e (λ is h. rw is (Takes-map (zero_takes memory.Size bytes x fits h) λ f s. rw s.0 (after 0x3F f s.1, tt))) λ n e1.
    by_byte_or b 0x40 _ _ _ e1 (λ is h. rw is (Takes-map (zero_takes memory.Grow bytes x fits h) λ f s. rw s.0 (after 0x40 f s.1, tt))) λ n1 e2.
    by_test (nat_le b 0x35) _ _ _ e2 (λ is h. load_takes b above (leb-true b 0x35 is) bytes x fits h) λ other h.
    store_takes b (omega (arith, leb-false b 0x35 other)) (omega (arith, n, n1)) bytes x fits h

-- ---- instructions without control

-- an opcode, and what follows it
abbrev PlainBehind : ℕ → Plain → List ℕ → Type 0
PlainBehind b p f = SpellsPlain p (b ∷ f) × IsPlainWithin p

numeric_takes : (b : ℕ) → b < 256 → IsSound (numeric_at b) (PlainBehind b)
unfolding numeric_at
numeric_takes b byte bytes x fits e =
    let a = bind_some (numeric_of b) (λ op. Some (plain.Numeric op, bytes)) x e in
    rw (← some_is (plain.Numeric a.0, bytes) x a.2) (record { front = []; is_spelled = (numeric_of_spells b a.0 byte a.1, tt); parts = refl })

i32_takes : IsSound i32_at (PlainBehind 0x41)
unfolding i32_at
i32_takes bytes x fits e =
    made_takes (PlainBehind 0x41) (signed_number_takes 32) fits e λ z f s.
    let range = signed_fits 32 f z s in
    (after 0x41 f (record { fits = cast_unsigned_below w32 refl z range; spelled = rw (signed-cast_unsigned w32 refl z range) s }), tt)

i64_takes : IsSound i64_at (PlainBehind 0x42)
unfolding i64_at
i64_takes bytes x fits e =
    made_takes (PlainBehind 0x42) (signed_number_takes 64) fits e λ z f s.
    let range = signed_fits 64 f z s in
    (after 0x42 f (record { fits = cast_unsigned_below w64 refl z range; spelled = rw (signed-cast_unsigned w64 refl z range) s }), tt)

variable_spells : (b x : ℕ) (f : List ℕ) → 0x20 ≤ b → b ≤ 0x24 → U32 x f → SpellsVariable (variable_of b x) (b ∷ f)
variable_spells b x f above below s =
    by_byte_or b 0x20 _ _ (variable_of b x) refl (λ is h. rw (← h, is) (after 0x20 f s)) λ n e1.
    by_byte_or b 0x21 _ _ _ e1 (λ is h. rw (← h, is) (after 0x21 f s)) λ n1 e2.
    by_byte_or b 0x22 _ _ _ e2 (λ is h. rw (← h, is) (after 0x22 f s)) λ n2 e3.
    by_byte_or b 0x23 _ _ _ e3 (λ is h. rw (← h, is) (after 0x23 f s)) λ n3 e4.
    let is : b ≡ 0x24 = omega (arith, n, n1, n2, n3) in
    rw (← e4, is) (after 0x24 f s)

variable_takes : (b : ℕ) → 0x20 ≤ b → b ≤ 0x24 → IsSound (variable_at b) (PlainBehind b)
unfolding variable_at
variable_takes b above below bytes x fits e =
    made_takes (PlainBehind b) u32_takes fits e λ n f s. (variable_spells b n f above below s, tt)

-- what follows an opcode
plain_takes : (b : ℕ) → b < 256 → IsSound (plain_at b) (PlainBehind b)
unfolding plain_at
plain_takes b byte bytes x fits e =
    by_byte b 0x01 _ _ _ e (λ is h. rw (is, ← some_is (plain.Nop, bytes) x h) (record { front = []; is_spelled = (refl, tt); parts = refl })) λ e1.
    by_byte b 0x1A _ _ _ e1 (λ is h. rw (is, ← some_is (plain.Drop, bytes) x h) (record { front = []; is_spelled = (refl, tt); parts = refl })) λ e2.
    by_byte b 0x1B _ _ _ e2 (λ is h. rw (is, ← some_is (plain.Select, bytes) x h) (record { front = []; is_spelled = (refl, tt); parts = refl })) λ e3.
    by_test (is_from 0x20 0x24 b) _ _ _ e3 (λ is h. variable_takes b (from_low 0x20 0x24 b is) (from_high 0x20 0x24 b is) bytes x fits h) λ other e4.
    by_test (is_from 0x28 0x40 b) _ _ _ e4 (λ is h.
    made_takes (PlainBehind b) (memory_takes b (from_low 0x28 0x40 b is) (from_high 0x28 0x40 b is)) fits h λ op f s. s) λ other1 e5.
    by_byte b 0x41 _ _ _ e5 (λ is h. rw is (i32_takes bytes x fits h)) λ e6.
    by_byte b 0x42 _ _ _ e6 (λ is h. rw is (i64_takes bytes x fits h)) λ e7.
    numeric_takes b byte bytes x fits e7

-- ---- instructions with control

abbrev BranchBehind : ℕ → Branch → List ℕ → Type 0
BranchBehind b op f = SpellsBranch op (b ∷ f) × IsBranchWithin op

br_table_takes : IsSound br_table_at (BranchBehind 0x0E)
unfolding br_table_at
br_table_takes bytes x fits e =
    Then_takes _ (vector_takes U32 u32_takes max_labels) fits e λ labels f b s fits1 e1.
    made_takes (λ op f1. BranchBehind 0x0E op (f ++ f1)) u32_takes fits1 e1 λ default f1 s1.
    (after 0x0E (f ++ f1) (Then-joined f f1 s.is_vector s1), s.few)

branch_takes : (b : ℕ) → 0x0C ≤ b → b ≤ 0x0F → IsSound (branch_at b) (BranchBehind b)
unfolding branch_at br_at br_if_at
branch_takes b above below bytes x fits e =
    by_byte_or b 0x0C _ _ _ e (λ is h. rw is (made_takes (BranchBehind 0x0C) u32_takes fits h λ l f s. (after 0x0C f s, tt))) λ n e1.
    by_byte_or b 0x0D _ _ _ e1 (λ is h. rw is (made_takes (BranchBehind 0x0D) u32_takes fits h λ l f s. (after 0x0D f s, tt))) λ n1 e2.
    by_byte_or b 0x0E _ _ _ e2 (λ is h. rw is (br_table_takes bytes x fits h)) λ n2 h.
    let is : b ≡ 0x0F = omega (arith, n, n1, n2) in
    rw (is, ← some_is (branch.Return, bytes) x h) (record { front = []; is_spelled = (refl, tt); parts = refl })

-- bytes of an instruction: before the bytes of code they are bytes of code, and it is within the limits where that is
record Begins (levels : ℕ) (i : Instr) (f : List ℕ) : Type 0 where
  spells : (c : Code) (g : List ℕ) → SpellsCode c g → SpellsCode (then_code i c) (f ++ g)
  limited : (c : Code) → IsCodeWithin levels c → IsCodeWithin levels (then_code i c)

module _ (levels : ℕ) where
  -- an opcode, and what follows it
  abbrev InstrBehind : ℕ → Instr → List ℕ → Type 0
  InstrBehind b i f = Begins levels i (b ∷ f)

  call_takes : IsSound call_at (InstrBehind 0x10)
  unfolding call_at
  call_takes bytes x fits e =
      made_takes (InstrBehind 0x10) u32_takes fits e λ n f s.
      record { spells = λ c g t. Then-joined (0x10 ∷ f) g (after 0x10 f s) t; limited = λ c h. h }

  call_indirect_takes : IsSound call_indirect_at (InstrBehind 0x11)
  unfolding call_indirect_at
  call_indirect_takes bytes x fits e =
      Then_takes _ u32_takes fits e λ n f b s fits1 e1.
      Takes-map (zero_takes (instr.CallIndirect n) b x fits1 e1) λ f1 s1.
      rw s1.0 (record { spells = λ c g t. Then-joined (0x11 ∷ (f ++ f1)) g (after 0x11 (f ++ f1) (Then-joined f f1 s s1.1)) t; limited = λ c h. h })

  flat_takes : (b : ℕ) → b < 256 → IsSound (flat_at b) (InstrBehind b)
  unfolding flat_at
  flat_takes b byte bytes x fits e =
      by_byte b 0x00 _ _ _ e (λ is h. rw (is, ← some_is (instr.Unreachable, bytes) x h)
      (record { front = []; is_spelled = record { spells = λ c g t. Then-joined (0x00 ∷ []) g refl t; limited = λ c k. k }; parts = refl })) λ e1.
      by_test (is_from 0x0C 0x0F b) _ _ _ e1 (λ is h.
      made_takes (InstrBehind b) (branch_takes b (from_low 0x0C 0x0F b is) (from_high 0x0C 0x0F b is)) fits h λ op f s.
      record { spells = λ c g t. Then-joined (b ∷ f) g s.0 t; limited = λ c k. (s.1, k) }) λ other e2.
      by_byte b 0x10 _ _ _ e2 (λ is h. rw is (call_takes bytes x fits h)) λ e3.
      by_byte b 0x11 _ _ _ e3 (λ is h. rw is (call_indirect_takes bytes x fits h)) λ e4.
      made_takes (InstrBehind b) (plain_takes b byte) fits e4 λ p f s.
      record { spells = λ c g t. Then-joined (b ∷ f) g s.0 t; limited = λ c k. (s.1, k) }

-- ---- instructions that hold others

-- code, and its limits
abbrev pub CodeWithin : ℕ → Code → List ℕ → Type 0
CodeWithin levels c f = SpellsCode c f × IsCodeWithin levels c

-- the byte that ends a sequence, and the next step
closed_some : {B : Type 0} (bytes : List ℕ) (next : List ℕ → Option B) (y : B) → (closed_at bytes >>= next) ≡ Some y
    → (rest : List ℕ) × (bytes ≡ 0x0B ∷ rest) × (next rest ≡ Some y)
unfolding closed_at byte_at
closed_some [] next y e = never y e
closed_some (b ∷ bytes) next y e = by_end (b == 0x0B) refl e
  where
    by_end : (t : Bool) → (b == 0x0B) ≡ t → (guarded t (Some bytes) >>= next) ≡ Some y → (rest : List ℕ) × (b ∷ bytes ≡ 0x0B ∷ rest) × (next rest ≡ Some y)
    by_end true is h = (bytes, ap (λ (b : ℕ). b ∷ bytes) (eqb-true b 0x0B is), h)
    by_end false other h = never y h

-- what was read first, and the byte that ends it
Takes-closed : {P R : List ℕ → Type 0} {bytes after rest : List ℕ} (t : Takes P bytes after) → after ≡ 0x0B ∷ rest
    → R (t.front ++ 0x0B ∷ []) → Takes R bytes rest
Takes-closed {P} {R} {bytes} {after} {rest} t ends spelled = record {
  front = t.front ++ 0x0B ∷ [];
  is_spelled = spelled;
  parts = t.parts ∙ ap (λ (f : List ℕ). t.front ++ f) ends ∙ sym (append_assoc t.front (0x0B ∷ []) rest);
}

-- an inner reader keeps to the grammar and the limits
abbrev IsInner : Inner → Type 0
IsInner inner = (levels : ℕ) → IsSound (inner levels) (CodeWithin levels)

-- a block's type and its body, which has a level less
record IsTyped (levels : ℕ) (x : Option ValType × Code) (f : List ℕ) : Type 0 where
  some : 1 ≤ levels
  spelled : Then (SpellsBlockType x.0) (SpellsCode x.1) f
  limited : IsCodeWithin (levels - 1) x.1

module _ (inner : Inner) (sound : IsInner inner) (levels : ℕ) where
  typed_takes : IsSound (typed_with inner levels) (IsTyped levels)
  unfolding typed_with
  typed_takes bytes x fits e =
      let g = guarded_some (nat_le 1 levels) _ x e in
      Then_takes _ block_type_takes fits g.1 λ t f b s fits1 e1.
      made_takes (λ y f1. IsTyped levels y (f ++ f1)) (sound (levels - 1)) fits1 e1 λ body f1 s1.
      record { some = leb-true 1 levels g.0; spelled = Then-joined f f1 s s1.0; limited = s1.1 }

  ended_takes : IsSound (ended_with inner levels) (λ c f. Ended (SpellsCode c) f × IsCodeWithin levels c)
  unfolding ended_with
  ended_takes bytes x fits e =
      let a = bind_some (inner levels bytes) _ x e in
      let z = closed_some a.0.1 _ x a.2 in
      let t = sound levels bytes a.0 fits a.1 in
      rw (← some_is (a.0.0, z.0) x z.2) (Takes-closed t z.1 (Then-joined t.front (0x0B ∷ []) t.is_spelled.0 refl, t.is_spelled.1))

  block_takes : IsSound (block_with inner levels) (InstrBehind levels 0x02)
  unfolding block_with
  block_takes bytes x fits e =
      let a = bind_some (typed_with inner levels bytes) _ x e in
      let z = closed_some a.0.1 _ x a.2 in
      let t = typed_takes bytes a.0 fits a.1 in
      let s = t.is_spelled in
      let inside = t.front ++ 0x0B ∷ [] in
      rw (← some_is (instr.Block a.0.0.0 a.0.0.1, z.0) x z.2) (Takes-closed t z.1 (record {
        spells = λ c g k. Then-joined (0x02 ∷ inside) g (after 0x02 inside (Then-assoc (Then-joined t.front (0x0B ∷ []) s.spelled refl))) k;
        limited = λ c k. (s.some, s.limited, k);
      }))

  loop_takes : IsSound (loop_with inner levels) (InstrBehind levels 0x03)
  unfolding loop_with
  loop_takes bytes x fits e =
      let a = bind_some (typed_with inner levels bytes) _ x e in
      let z = closed_some a.0.1 _ x a.2 in
      let t = typed_takes bytes a.0 fits a.1 in
      let s = t.is_spelled in
      let inside = t.front ++ 0x0B ∷ [] in
      rw (← some_is (instr.Loop a.0.0.0 a.0.0.1, z.0) x z.2) (Takes-closed t z.1 (record {
        spells = λ c g k. Then-joined (0x03 ∷ inside) g (after 0x03 inside (Then-assoc (Then-joined t.front (0x0B ∷ []) s.spelled refl))) k;
        limited = λ c k. (s.some, s.limited, k);
      }))

module _ (inner : Inner) (sound : IsInner inner) (levels : ℕ) where
  arm_takes : (b : ℕ) → IsSound (arm_with inner levels b) (λ other f. Arm (SpellsCode other) other (b ∷ f) × IsCodeWithin (levels - 1) other)
  unfolding arm_with
  arm_takes b bytes x fits e =
      by_byte b 0x05 _ _ _ e (λ is h. rw is (Takes-map (ended_takes inner sound (levels - 1) bytes x fits h) λ f s. (inl (after 0x05 f s.0), s.1))) λ e1.
      let g = guarded_some (b == 0x0B) _ x e1 in
      rw (← some_is (end, bytes) x g.1)
      (record { front = []; is_spelled = (inr (refl, ap (λ (b : ℕ). b ∷ []) (eqb-true b 0x0B g.0)), tt); parts = refl })

  else_takes : IsSound (else_with inner levels) (λ other f. Arm (SpellsCode other) other f × IsCodeWithin (levels - 1) other)
  unfolding else_with
  else_takes bytes x fits e =
      Then_takes _ byte_takes fits e λ b f after s fits1 e1. rw s (arm_takes b after x fits1 e1)

  if_takes : IsSound (if_with inner levels) (InstrBehind levels 0x04)
  unfolding if_with
  if_takes bytes x fits e =
      Then_takes _ (typed_takes inner sound levels) fits e λ typed f b s fits1 e1.
      made_takes (λ i f1. InstrBehind levels 0x04 i (f ++ f1)) else_takes fits1 e1 λ other f1 s1.
      record {
        spells = λ c g k. Then-joined (0x04 ∷ (f ++ f1)) g (after 0x04 (f ++ f1) (Then-assoc (Then-joined f f1 s.spelled s1.0))) k;
        limited = λ c k. (s.some, s.limited, s1.1, k);
      }

  opcode_takes : (b : ℕ) → b < 256 → IsSound (opcode_with inner levels b) (InstrBehind levels b)
  unfolding opcode_with
  opcode_takes b byte bytes x fits e =
      by_byte b 0x02 _ _ _ e (λ is h. rw is (block_takes inner sound levels bytes x fits h)) λ e1.
      by_byte b 0x03 _ _ _ e1 (λ is h. rw is (loop_takes inner sound levels bytes x fits h)) λ e2.
      by_byte b 0x04 _ _ _ e2 (λ is h. rw is (if_takes bytes x fits h)) λ e3.
      flat_takes levels b byte bytes x fits e3

  instr_takes : IsSound (instr_with inner levels) (Begins levels)
  unfolding instr_with byte_at
  instr_takes [] x fits e = never x e
  instr_takes (b ∷ bytes) x fits e = Takes-cons b (opcode_takes b (fits 0) bytes x (λ i. fits (suc i)) e)

code_takes : (n : ℕ) → IsInner (code_at n)
unfolding code_at
code_takes zero levels bytes x fits e = never x e
code_takes (suc n) levels bytes x fits e =
    by_test (stops (slice_get bytes 0)) _ _ _ e (λ is h.
    rw (← some_is (end, bytes) x h) (record { front = []; is_spelled = (refl, tt); parts = refl })) λ other e1.
    Then_takes _ (instr_takes (code_at n) (code_takes n) levels) fits e1 λ i f b s fits1 e2.
    made_takes (λ c g. CodeWithin levels c (f ++ g)) (code_takes n levels) fits1 e2 λ c g t.
    (s.spells c g t.0, s.limited c t.1)

pub expression_takes : IsSound expression_at (Within SpellsExpression IsBodyWithin)
unfolding expression_at
expression_takes bytes x fits e = ended_takes (code_at (suc (length bytes))) (code_takes (suc (length bytes))) max_nesting bytes x fits e
