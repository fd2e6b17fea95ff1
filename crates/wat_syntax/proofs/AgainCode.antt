-- What is printed is read again: instructions one after another, and those that hold others.
use Rattle.std.proofs.Common.{◌≡◌, ℕ, zero, suc, ◌-◌, ◌<◌, ◌≤◌, true, List, [], ◌∷◌, ◌++◌, Option, Some, None, refl, sym, ap, ◌∙◌, append_assoc, append-nil, arith}
use Rattle.wasm_ast.specs.declared.types.ValType.{ValType}
use Rattle.wasm_ast.specs.declared.types.FuncType.{FuncType}
use Rattle.wasm_ast.specs.declared.types.Value.TheVariants as value
use Rattle.wasm_ast.specs.declared.plain.Variable.TheVariants as variable
use Rattle.wasm_ast.specs.declared.plain.Memory.TheVariants as memory
use Rattle.wasm_ast.specs.declared.plain.Plain.{Plain}
use Rattle.wasm_ast.specs.declared.plain.Plain.TheVariants as leaf
use Rattle.wasm_ast.specs.declared.plain.Branch.{Branch}
use Rattle.wasm_ast.specs.declared.plain.Branch.TheVariants as jump
use Rattle.wasm_ast.specs.declared.body.Instr.{Instr}
use Rattle.wasm_ast.specs.declared.body.Instr.TheVariants as instr
use Rattle.wasm_ast.specs.Code.{Code, end, plain, branch, call, call_indirect, unreachable, block, loop, choice, size_of}
use Rattle.wasm_ast.specs.View.{code_of}
use Rattle.wasm_ast.specs.Limits.{max_labels, max_nesting, IsCodeWithin, IsBodyWithin}
use Rattle.wasm_ast.specs.Representable.{IsCodeHeld}
use Rattle.wat_syntax.specs.declared.pieces.Gap.{Gap}
use Rattle.wat_syntax.specs.declared.keyword.Keyword.TheVariants as keyword
use Rattle.wat_syntax.specs.Pieces.{Piece}
use Rattle.wat_syntax.specs.Pieces as piece
use Rattle.wat_syntax.specs.Instructions.{plain_line, branch_line, block_type, deeper, else_line, code}
use Rattle.wat_syntax.specs.inside.Tokens.{sorted}
use Rattle.wat_syntax.specs.inside.Tokens as tok
use Rattle.wat_syntax.specs.inside.Reading.{State, repeated, closed_at, block_type_at, val_type_at}
use Rattle.wat_syntax.specs.inside.ReadingCode.{Inner, end_at, header_at, ended_with, else_with, other_with, block_with, loop_with, if_with, instr_with, linear_with, stops, goes_on, instr_step, inner_at, instrs_at, code_at}
use Rattle.wat_syntax.proofs.AgainTools.{unnamed_again, Ends, key_ends, stops_ends, step_again, stop_again}
use Rattle.wat_syntax.proofs.AgainInstructions.{Stands, plain_stands, branch_stands, call_stands, call_indirect_stands, unreachable_stands}

-- ---- what code begins with

plain_ends : (g : Gap) (p : Plain) (more : List Piece) → Ends (sorted (plain_line g p more))
plain_ends g (leaf.Const (value.I32 x)) more = key_ends _ _
plain_ends g (leaf.Const (value.I64 x)) more = key_ends _ _
plain_ends g (leaf.Variable (variable.LocalGet x)) more = key_ends _ _
plain_ends g (leaf.Variable _) more = key_ends _ _
plain_ends g (leaf.Memory (memory.Load op a)) more = key_ends _ _
plain_ends g (leaf.Memory _) more = key_ends _ _
plain_ends g _ more = key_ends _ _

branch_ends : (g : Gap) (b : Branch) (more : List Piece) → Ends (sorted (branch_line g b more))
branch_ends g (jump.Br l) more = key_ends _ _
branch_ends g _ more = key_ends _ _

pub code_ends : (g : Gap) (c : Code) (more : List Piece) → Ends (sorted more) → Ends (sorted (code g c more))
code_ends g end more e = e
code_ends g (plain p rest) more e = plain_ends g p (code g rest more)
code_ends g (branch b rest) more e = branch_ends g b (code g rest more)
code_ends g (call f rest) more e = key_ends _ _
code_ends g (call_indirect t rest) more e = key_ends _ _
code_ends g (unreachable rest) more e = key_ends _ _
code_ends g (block t body rest) more e = key_ends _ _
code_ends g (loop t body rest) more e = key_ends _ _
code_ends g (choice t body other rest) more e = key_ends _ _

-- ---- instructions that hold others

block_type_again : (t : Option ValType) (more : List Piece) (types : List FuncType) → Ends (sorted more) → block_type_at (sorted (block_type t more), types) ≡ Some (t, (sorted more, types))
unfolding block_type_at val_type_at closed_at
block_type_again None more types e = e.no_block_type types
block_type_again (Some t) more types e = refl

end_again : (more : List Piece) (types : List FuncType) → end_at (tok.key keyword.End ∷ sorted more, types) ≡ Some (sorted more, types)
unfolding end_at
end_again more types = unnamed_again more types

module _ (n : ℕ) (inner : Inner) (g : Gap) where
  -- code is read as the inside of a block, up to this end
  abbrev IsInside : Code → (inside after : List Piece) → Type 0
  IsInside c inside after = (types : List FuncType) → inner (sorted inside, types) ≡ Some (c, (sorted after, types))

  header_again : (t : Option ValType) (inside : List Piece) (types : List FuncType) → Ends (sorted inside)
      → header_at (sorted (block_type t inside), types) ≡ Some (t, (sorted inside, types))
  unfolding header_at
  header_again t inside types e = rw (unnamed_again (block_type t inside) types, block_type_again t inside types e) refl

  block_stands : (t : Option ValType) (body : Code) (inside more : List Piece) → Ends (sorted inside) → IsInside body inside (piece.says g keyword.End ∷ more)
      → Stands n inner (instr.Block t body) (piece.says g keyword.Block ∷ block_type t inside) more
  unfolding instr_with linear_with block_with ended_with
  block_stands t body inside more e read =
      record { goes_on = refl; reads = λ types. rw (header_again t inside types e, read types, end_again more types) refl }

  loop_stands : (t : Option ValType) (body : Code) (inside more : List Piece) → Ends (sorted inside) → IsInside body inside (piece.says g keyword.End ∷ more)
      → Stands n inner (instr.Loop t body) (piece.says g keyword.Loop ∷ block_type t inside) more
  unfolding instr_with linear_with loop_with ended_with
  loop_stands t body inside more e read =
      record { goes_on = refl; reads = λ types. rw (header_again t inside types e, read types, end_again more types) refl }

  -- the second arm, which may be empty
  abbrev arm : Code → List Piece → List Piece
  arm other more = else_line g other (code (deeper g) other (piece.says g keyword.End ∷ more))

  arm_stops : (other : Code) (more : List Piece) → stops (sorted (arm other more)) ≡ true
  arm_stops end more = refl
  arm_stops _ more = refl

  arm_again : (other : Code) (more : List Piece) → IsInside other (code (deeper g) other (piece.says g keyword.End ∷ more)) (piece.says g keyword.End ∷ more)
      → (types : List FuncType) → else_with inner (sorted (arm other more), types) ≡ Some (other, (sorted (piece.says g keyword.End ∷ more), types))
  unfolding else_with
  arm_again end more read types = refl
  arm_again other more read types = rw (unnamed_again (code (deeper g) other (piece.says g keyword.End ∷ more)) types) (read types)

  if_stands : (t : Option ValType) (body other : Code) (inside more : List Piece) → Ends (sorted inside) → IsInside body inside (arm other more)
      → IsInside other (code (deeper g) other (piece.says g keyword.End ∷ more)) (piece.says g keyword.End ∷ more)
      → Stands n inner (instr.If t body other) (piece.says g keyword.If ∷ block_type t inside) more
  unfolding instr_with linear_with if_with other_with
  if_stands t body other inside more e read second =
      record { goes_on = refl; reads = λ types. rw (header_again t inside types e, read types, arm_again other more second types, end_again more types) refl }

-- ---- one after another

-- code as a list, which reading makes
abbrev instrs_of : Code → List Instr
instrs_of end = []
instrs_of (plain p rest) = instr.Plain p ∷ instrs_of rest
instrs_of (branch b rest) = instr.Branch b ∷ instrs_of rest
instrs_of (call f rest) = instr.Call f ∷ instrs_of rest
instrs_of (call_indirect t rest) = instr.CallIndirect t ∷ instrs_of rest
instrs_of (unreachable rest) = instr.Unreachable ∷ instrs_of rest
instrs_of (block t body rest) = instr.Block t body ∷ instrs_of rest
instrs_of (loop t body rest) = instr.Loop t body ∷ instrs_of rest
instrs_of (choice t body other rest) = instr.If t body other ∷ instrs_of rest

code_of-instrs_of : (c : Code) → code_of (instrs_of c) ≡ c
code_of-instrs_of end = refl
code_of-instrs_of (plain p rest) = ap (plain p) (code_of-instrs_of rest)
code_of-instrs_of (branch b rest) = ap (branch b) (code_of-instrs_of rest)
code_of-instrs_of (call f rest) = ap (call f) (code_of-instrs_of rest)
code_of-instrs_of (call_indirect t rest) = ap (call_indirect t) (code_of-instrs_of rest)
code_of-instrs_of (unreachable rest) = ap unreachable (code_of-instrs_of rest)
code_of-instrs_of (block t body rest) = ap (block t body) (code_of-instrs_of rest)
code_of-instrs_of (loop t body rest) = ap (loop t body) (code_of-instrs_of rest)
code_of-instrs_of (choice t body other rest) = ap (choice t body other) (code_of-instrs_of rest)

some_size : (c : Code) → 1 ≤ size_of c
some_size end = omega arith
some_size (plain p rest) = omega arith
some_size (branch b rest) = omega arith
some_size (call f rest) = omega arith
some_size (call_indirect t rest) = omega arith
some_size (unreachable rest) = omega arith
some_size (block t body rest) = omega arith
some_size (loop t body rest) = omega arith
some_size (choice t body other rest) = omega arith

onward : (n m : ℕ) (inner : Inner) (front is : List Instr) (i : Instr) (ps more after : List Piece) (types : List FuncType) → 1 ≤ m → Stands n inner i ps more
    → repeated goes_on (instr_step n inner) (m - 1) (front ++ i ∷ [], (sorted more, types)) ≡ Some ((front ++ i ∷ []) ++ is, (sorted after, types))
    → repeated goes_on (instr_step n inner) m (front, (sorted ps, types)) ≡ Some (front ++ i ∷ is, (sorted after, types))
onward n m inner front is i ps more after types some stands rest =
    step_again goes_on (instr_step n inner) m (front, (sorted ps, types)) (front ++ i ∷ [], (sorted more, types)) some (rw stands.goes_on refl) (rw (stands.reads types) refl)
    ∙ rest
    ∙ ap (λ js. Some (js, (sorted after, types))) (append_assoc front (i ∷ []) is)

-- inside of a block
inside_again : (levels n : ℕ) (c : Code) (s after : State) → 1 ≤ levels
    → repeated goes_on (instr_step n (inner_at (levels - 1) n)) n ([], s) ≡ Some (instrs_of c, after) → inner_at levels n s ≡ Some (c, after)
unfolding inner_at
inside_again zero n c s after some h = absurd (omega arith)
inside_again (suc levels) n c s after some h =
    let same : suc levels - 1 ≡ levels = omega arith in
    let read : repeated goes_on (instr_step n (inner_at levels n)) n ([], s) ≡ Some (instrs_of c, after) = rw same at h in
    rw (read, code_of-instrs_of c) refl

instrs_again : (c : Code) (levels n m : ℕ) (g : Gap) (front : List Instr) (more : List Piece) (types : List FuncType) → IsCodeHeld c → IsCodeWithin levels c
    → max_labels < n → size_of c ≤ n → size_of c ≤ m → stops (sorted more) ≡ true
    → repeated goes_on (instr_step n (inner_at levels n)) m (front, (sorted (code g c more), types)) ≡ Some (front ++ instrs_of c, (sorted more, types))
instrs_again end levels n m g front more types h w some le lt off =
    stop_again goes_on (instr_step n (inner_at levels n)) m (front, (sorted more, types)) (omega arith) (rw off refl) ∙ ap (λ is. Some (is, (sorted more, types))) (sym (append-nil front))
instrs_again (plain p rest) levels n m g front more types h w some le lt off =
    let stands = plain_stands n (inner_at levels n) g p (code g rest more) h.0 w.0 (code_ends g rest more (stops_ends (sorted more) off)) in
    onward n m (inner_at levels n) front (instrs_of rest) (instr.Plain p) _ (code g rest more) more types (omega arith) stands
    (instrs_again rest levels n (m - 1) g (front ++ instr.Plain p ∷ []) more types h.1 w.1 some (omega arith) (omega arith) off)
instrs_again (branch b rest) levels n m g front more types h w some le lt off =
    let stands = branch_stands n (inner_at levels n) g b (code g rest more) some h.0 w.0 (code_ends g rest more (stops_ends (sorted more) off)) in
    onward n m (inner_at levels n) front (instrs_of rest) (instr.Branch b) _ (code g rest more) more types (omega arith) stands
    (instrs_again rest levels n (m - 1) g (front ++ instr.Branch b ∷ []) more types h.1 w.1 some (omega arith) (omega arith) off)
instrs_again (call f rest) levels n m g front more types h w some le lt off =
    onward n m (inner_at levels n) front (instrs_of rest) (instr.Call f) _ (code g rest more) more types (omega arith) (call_stands n (inner_at levels n) g f (code g rest more) h.0)
    (instrs_again rest levels n (m - 1) g (front ++ instr.Call f ∷ []) more types h.1 w some (omega arith) (omega arith) off)
instrs_again (call_indirect t rest) levels n m g front more types h w some le lt off =
    let stands = call_indirect_stands n (inner_at levels n) g t (code g rest more) h.0 (code_ends g rest more (stops_ends (sorted more) off)) in
    onward n m (inner_at levels n) front (instrs_of rest) (instr.CallIndirect t) _ (code g rest more) more types (omega arith) stands
    (instrs_again rest levels n (m - 1) g (front ++ instr.CallIndirect t ∷ []) more types h.1 w some (omega arith) (omega arith) off)
instrs_again (unreachable rest) levels n m g front more types h w some le lt off =
    onward n m (inner_at levels n) front (instrs_of rest) instr.Unreachable _ (code g rest more) more types (omega arith) (unreachable_stands n (inner_at levels n) g (code g rest more))
    (instrs_again rest levels n (m - 1) g (front ++ instr.Unreachable ∷ []) more types h w some (omega arith) (omega arith) off)
instrs_again (block t body rest) levels n m g front more types h w some le lt off =
    let after : List Piece = piece.says g keyword.End ∷ code g rest more in
    let inside : List Piece = code (deeper g) body after in
    let read : IsInside n (inner_at levels n) g body inside after = (λ ts. inside_again levels n body (sorted inside, ts) (sorted after, ts) w.0
    (instrs_again body (levels - 1) n n (deeper g) [] after ts h.0 w.1 some (omega arith) (omega arith) refl)) in
    onward n m (inner_at levels n) front (instrs_of rest) (instr.Block t body) _ (code g rest more) more types (omega arith)
    (block_stands n (inner_at levels n) g t body inside (code g rest more) (code_ends (deeper g) body after (key_ends _ _)) read)
    (instrs_again rest levels n (m - 1) g (front ++ instr.Block t body ∷ []) more types h.1 w.2 some (omega arith) (omega (arith, some_size body)) off)
instrs_again (loop t body rest) levels n m g front more types h w some le lt off =
    let after : List Piece = piece.says g keyword.End ∷ code g rest more in
    let inside : List Piece = code (deeper g) body after in
    let read : IsInside n (inner_at levels n) g body inside after = (λ ts. inside_again levels n body (sorted inside, ts) (sorted after, ts) w.0
    (instrs_again body (levels - 1) n n (deeper g) [] after ts h.0 w.1 some (omega arith) (omega arith) refl)) in
    onward n m (inner_at levels n) front (instrs_of rest) (instr.Loop t body) _ (code g rest more) more types (omega arith)
    (loop_stands n (inner_at levels n) g t body inside (code g rest more) (code_ends (deeper g) body after (key_ends _ _)) read)
    (instrs_again rest levels n (m - 1) g (front ++ instr.Loop t body ∷ []) more types h.1 w.2 some (omega arith) (omega (arith, some_size body)) off)
instrs_again (choice t body other rest) levels n m g front more types h w some le lt off =
    let ended : List Piece = piece.says g keyword.End ∷ code g rest more in
    let second : List Piece = code (deeper g) other ended in
    let after : List Piece = else_line g other second in
    let inside : List Piece = code (deeper g) body after in
    let stopped : stops (sorted after) ≡ true = arm_stops n (inner_at levels n) g other (code g rest more) in
    let read_other : IsInside n (inner_at levels n) g other second ended = (λ ts. inside_again levels n other (sorted second, ts) (sorted ended, ts) w.0
    (instrs_again other (levels - 1) n n (deeper g) [] ended ts h.1 w.2 some (omega arith) (omega arith) refl)) in
    let read : IsInside n (inner_at levels n) g body inside after = (λ ts. inside_again levels n body (sorted inside, ts) (sorted after, ts) w.0
    (instrs_again body (levels - 1) n n (deeper g) [] after ts h.0 w.1 some (omega arith) (omega arith) stopped)) in
    onward n m (inner_at levels n) front (instrs_of rest) (instr.If t body other) _ (code g rest more) more types (omega arith)
    (if_stands n (inner_at levels n) g t body other inside (code g rest more) (code_ends (deeper g) body after (stops_ends (sorted after) stopped)) read read_other)
    (instrs_again rest levels n (m - 1) g (front ++ instr.If t body other ∷ []) more types h.2 w.3 some (omega arith) (omega (arith, some_size body)) off)

-- a body, an initial value or an offset
pub body_again : (c : Code) (n : ℕ) (g : Gap) (more : List Piece) (types : List FuncType) → IsCodeHeld c → IsBodyWithin c → max_labels < n → size_of c ≤ n
    → stops (sorted more) ≡ true → code_at max_nesting n (sorted (code g c more), types) ≡ Some (c, (sorted more, types))
unfolding code_at instrs_at
body_again c n g more types h w some le off =
    rw (instrs_again c max_nesting n n g [] more types h w some le le off, code_of-instrs_of c) refl
