-- Reading instructions that hold others: what each step gives, and the loop over the instructions of a sequence.
use Rattle.std.proofs.Common.{◌≡◌, ℕ, zero, suc, ◌-◌, ◌≤◌, ◌<◌, false, true, nat_le, List, [], ◌∷◌, ◌++◌, length, slice_get, Option, Some, None, refl, ap, ◌∙◌, arith}
use Rattle.std.proofs.lemmas.Bool.{le-leb, leb-true, eq-eqb}
use Rattle.wasm_ast.specs.declared.types.ValType.{ValType}
use Rattle.wasm_ast.specs.declared.body.Instr.{Instr}
use Rattle.wasm_ast.specs.declared.body.Instr.TheVariants as instr
use Rattle.wasm_ast.specs.Code.{Code, end}
use Rattle.wasm_ast.specs.View.{then_code, code_of}
use Rattle.wasm_items.specs.declared.fault.DecodeFault.{DecodeFault}
use Rattle.wasm_items.specs.inside.Reading.{◌>>=◌, Fails, byte_at, block_type_at}
use Rattle.wasm_items.specs.inside.ReadingCode.{Inner, typed_with, ended_with, arm_with, else_with, if_with, opcode_with, instr_with, stops, code_at}
use Rattle.wasm_items.proofs.Loops.{continued, goes_on, is_done, Fails-continued, Fails-then}
use Rattle.wasm_items.proofs.Shrinks.{instr_shortens}
use Rattle.wasm_items.proofs.Tools.{guarded_some}

-- ---- instructions one after another

-- instructions before code
abbrev pub onto : List Instr → Code → Code
onto [] code = code
onto (i ∷ is) code = then_code i (onto is code)

onto-append : (is : List Instr) (i : Instr) (code : Code) → onto (is ++ i ∷ []) code ≡ onto is (then_code i code)
onto-append [] i code = refl
onto-append (j ∷ is) i code = ap (then_code j) (onto-append is i code)

onto-end : (is : List Instr) → onto is end ≡ code_of is
onto-end [] = refl
onto-end (i ∷ is) = ap (then_code i) (onto-end is)

-- reading the rest, with some bound that is large enough, completes what reading all gives
abbrev pub Completes : List Instr → (levels : ℕ) → List ℕ → Option (Code × List ℕ) → Type 0
Completes front levels rest total = (k : ℕ) × (length rest < k) × (continued (onto front) (code_at k levels rest) ≡ total)

nothing_before : (read : Option (Code × List ℕ)) → continued (onto []) read ≡ read
nothing_before None = refl
nothing_before (Some x) = refl

pub starts : (front : List Instr) (levels : ℕ) (bytes : List ℕ) (n : ℕ) → front ≡ [] → length bytes < n → Completes front levels bytes (code_at n levels bytes)
starts front levels bytes n none lt = (n, lt, rw none (nothing_before (code_at n levels bytes)))

code_at-more : (n levels : ℕ) (bytes : List ℕ) → stops (slice_get bytes 0) ≡ false
    → code_at (suc n) levels bytes ≡ (instr_with (code_at n) levels bytes >>= λ i. continued (then_code i.0) (code_at n levels i.1))
unfolding code_at
code_at-more n levels bytes on = rw on refl

pub reads_on : (front : List Instr) (levels : ℕ) (bytes after : List ℕ) (i : Instr) (total : Option (Code × List ℕ)) → stops (slice_get bytes 0) ≡ false
    → ((m : ℕ) → length bytes ≤ m → instr_with (code_at m) levels bytes ≡ Some (i, after)) → Completes front levels bytes total
    → Completes (front ++ i ∷ []) levels after total
reads_on front levels bytes after i total on each (zero, lt, so_far) = absurd (omega arith)
reads_on front levels bytes after i total on each (suc n, lt, so_far) =
    let le : length bytes ≤ n = omega arith in
    let h = each n le in
    let less = instr_shortens n levels bytes after i h in
    let one : code_at (suc n) levels bytes ≡ continued (then_code i) (code_at n levels after) = rw (code_at-more n levels bytes on, h) refl in
    (n, omega arith, goes_on (onto front) (then_code i) (onto (front ++ i ∷ [])) (code_at (suc n) levels bytes) (code_at n levels after) total (onto-append front i) one so_far)

pub has_no_instr : (fault : DecodeFault) (front : List Instr) (levels : ℕ) (bytes : List ℕ) (total : Option (Code × List ℕ)) → stops (slice_get bytes 0) ≡ false
    → ((m : ℕ) → length bytes ≤ m → Fails fault (instr_with (code_at m) levels bytes)) → Completes front levels bytes total → Fails fault total
has_no_instr fault front levels bytes total on each (zero, lt, so_far) = absurd (omega arith)
has_no_instr fault front levels bytes total on each (suc n, lt, so_far) =
    let le : length bytes ≤ n = omega arith in
    Fails-continued fault (onto front) (code_at (suc n) levels bytes) total
    (rw (code_at-more n levels bytes on) (Fails-then fault (instr_with (code_at n) levels bytes) _ (each n le))) so_far

pub ends : (front : List Instr) (levels : ℕ) (bytes : List ℕ) (total : Option (Code × List ℕ)) → stops (slice_get bytes 0) ≡ true
    → Completes front levels bytes total → total ≡ Some (code_of front, bytes)
unfolding code_at
ends front levels bytes total off (zero, lt, so_far) = absurd (omega arith)
ends front levels bytes total off (suc n, lt, so_far) =
    let one : code_at (suc n) levels bytes ≡ Some (end, bytes) = rw off refl in
    is_done (onto front) (code_at (suc n) levels bytes) total end bytes one so_far ∙ ap (λ (code : Code). Some (code, bytes)) (onto-end front)

-- ---- steps

-- an opcode, and what follows it
pub opcode_first : (inner : Inner) (levels : ℕ) (bytes rest : List ℕ) (b : ℕ) → byte_at bytes ≡ Some (b, rest)
    → instr_with inner levels bytes ≡ opcode_with inner levels b rest
unfolding instr_with
opcode_first inner levels bytes rest b e = rw e refl

pub typed_some : (inner : Inner) (levels : ℕ) (bytes rest after : List ℕ) (t : Option ValType) (body : Code) → 1 ≤ levels → block_type_at bytes ≡ Some (t, rest)
    → inner (levels - 1) rest ≡ Some (body, after) → typed_with inner levels bytes ≡ Some ((t, body), after)
unfolding typed_with
typed_some inner levels bytes rest after t body some e f = rw (le-leb 1 levels some, e, f) refl

pub typed_fails : (inner : Inner) (levels : ℕ) (bytes rest : List ℕ) (t : Option ValType) (fault : DecodeFault) → 1 ≤ levels → block_type_at bytes ≡ Some (t, rest)
    → Fails fault (inner (levels - 1) rest) → Fails fault (typed_with inner levels bytes)
unfolding typed_with
typed_fails inner levels bytes rest t fault some e f = rw (le-leb 1 levels some, e) (Fails-then fault (inner (levels - 1) rest) _ f)

-- where a body was read, it was allowed
pub typed_levels : (inner : Inner) (levels : ℕ) (bytes : List ℕ) (x : (Option ValType × Code) × List ℕ) → typed_with inner levels bytes ≡ Some x → 1 ≤ levels
unfolding typed_with
typed_levels inner levels bytes x e = leb-true 1 levels (guarded_some (nat_le 1 levels) _ x e).0

pub if_some : (inner : Inner) (levels : ℕ) (bytes rest after : List ℕ) (x : Option ValType × Code) (other : Code) → typed_with inner levels bytes ≡ Some (x, rest)
    → else_with inner levels rest ≡ Some (other, after) → if_with inner levels bytes ≡ Some (instr.If x.0 x.1 other, after)
unfolding if_with
if_some inner levels bytes rest after x other e f = rw (e, f) refl

pub if_fails : (inner : Inner) (levels : ℕ) (bytes rest : List ℕ) (x : Option ValType × Code) (fault : DecodeFault) → typed_with inner levels bytes ≡ Some (x, rest)
    → Fails fault (else_with inner levels rest) → Fails fault (if_with inner levels bytes)
unfolding if_with
if_fails inner levels bytes rest x fault e f = rw e (Fails-then fault (else_with inner levels rest) _ f)

-- an `else`, and the other arm
pub else_arm : (inner : Inner) (levels : ℕ) (bytes rest : List ℕ) (b : ℕ) → byte_at bytes ≡ Some (b, rest) → b ≡ 0x05
    → else_with inner levels bytes ≡ ended_with inner (levels - 1) rest
unfolding else_with arm_with
else_arm inner levels bytes rest b e is_else = rw (e, eq-eqb b 0x05 is_else) refl
