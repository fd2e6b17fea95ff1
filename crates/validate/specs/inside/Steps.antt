-- The operand stack after code, if the code is typed: one function for each rule of `Instructions`.
use Rattle.std.specs.Prelude.{Bool, true, false, ◌&&◌, ℕ, List, [], ◌∷◌, Option, Some, None, slice_get, reverse, length, nat_le, nat_lt, ◌^◌}
use Rattle.wasm_ast.specs.declared.types.ValType.{ValType}
use Rattle.wasm_ast.specs.declared.types.ValType.TheVariants.{I32}
use Rattle.wasm_ast.specs.declared.types.FuncType.{FuncType}
use Rattle.wasm_ast.specs.declared.types.Mutability.{Mutability}
use Rattle.wasm_ast.specs.declared.types.Mutability.TheVariants as mutability
use Rattle.wasm_ast.specs.declared.plain.Variable.{Variable}
use Rattle.wasm_ast.specs.declared.plain.Variable.TheVariants as variable
use Rattle.wasm_ast.specs.declared.plain.Memory.{Memory}
use Rattle.wasm_ast.specs.declared.plain.Memory.TheVariants as memory
use Rattle.wasm_ast.specs.declared.numeric.Numeric.{Numeric}
use Rattle.wasm_ast.specs.declared.plain.Plain.{Plain}
use Rattle.wasm_ast.specs.declared.plain.Plain.TheVariants as plain
use Rattle.wasm_ast.specs.declared.plain.Branch.{Branch}
use Rattle.wasm_ast.specs.declared.plain.Branch.TheVariants as branch
use Rattle.wasm_ast.specs.Code.{Code}
use Rattle.wasm_ast.specs.Code as code
use Rattle.wasm_ast.specs.NumericTypes.{numeric_takes, numeric_gives}
use Rattle.wasm_ast.specs.Values.{type_of}
use Rattle.verified.specs.Spaces.{Spaces, function_type, first_type}
use Rattle.wasm_ast.specs.Widths.{load_type, load_width, store_type, store_width}
use Rattle.verified.specs.Instructions.{Context, with_label, operands_of}
use Rattle.validate.specs.inside.Stack.{Stack, bottom, any_below, and_then, take_one, take_all, give_all, change, leave, take_any, join, push_if, is_empty, same_type}

abbrev pub at_some : {A : Type 0} → Option A → (A → Option Stack) → Option Stack
at_some None go = None
at_some (Some a) go = go a

abbrev pub only_if : Bool → Option Stack → Option Stack
only_if true s = s
only_if false s = None

-- ---- variables and memory

abbrev pub is_variable : Mutability → Bool
is_variable mutability.Constant = false
is_variable mutability.Variable = true

abbrev pub variable_step : Context → Variable → Stack → Option Stack
variable_step c (variable.LocalGet x) s = at_some (slice_get c.locals x) (λ t. change [] (t ∷ []) s)
variable_step c (variable.LocalSet x) s = at_some (slice_get c.locals x) (λ t. change (t ∷ []) [] s)
variable_step c (variable.LocalTee x) s = at_some (slice_get c.locals x) (λ t. change (t ∷ []) (t ∷ []) s)
variable_step c (variable.GlobalGet x) s = at_some (slice_get c.spaces.globals x) (λ g. change [] (g.value ∷ []) s)
variable_step c (variable.GlobalSet x) s =
    at_some (slice_get c.spaces.globals x) (λ g. only_if (is_variable g.mutability) (change (g.value ∷ []) [] s))

abbrev pub has_memory : Spaces → Bool
has_memory s = nat_lt 0 (length s.memories)

abbrev pub has_table : Spaces → Bool
has_table s = nat_lt 0 (length s.tables)

-- the alignment is at most the width
abbrev pub is_aligned : ℕ → ℕ → Bool
is_aligned align width = nat_le (2 ^ align) width

abbrev pub memory_step : Context → Memory → Stack → Option Stack
memory_step c (memory.Load op a) s =
    only_if (has_memory c.spaces) (only_if (is_aligned a.align (load_width op)) (change (I32 ∷ []) (load_type op ∷ []) s))
memory_step c (memory.Store op a) s =
    only_if (has_memory c.spaces) (only_if (is_aligned a.align (store_width op)) (change (store_type op ∷ I32 ∷ []) [] s))
memory_step c memory.Size s = only_if (has_memory c.spaces) (change [] (I32 ∷ []) s)
memory_step c memory.Grow s = only_if (has_memory c.spaces) (change (I32 ∷ []) (I32 ∷ []) s)

-- ---- other instructions without control

-- the operands that a numeric instruction pops, and the result that it pushes
abbrev pub numeric_step : Numeric → Stack → Option Stack
numeric_step op s = change (numeric_takes op) (numeric_gives op ∷ []) s

abbrev pub select_step : Stack → Option Stack
select_step s =
    and_then (take_one I32 s) (λ r. take_any r (λ j q. take_any q (λ k o. push_if (join j k) o)))

abbrev pub plain_step : Context → Plain → Stack → Option Stack
plain_step c plain.Nop s = Some s
plain_step c plain.Drop s = take_any s (λ k r. Some r)
plain_step c plain.Select s = select_step s
plain_step c (plain.Const v) s = change [] (type_of v ∷ []) s
plain_step c (plain.Numeric op) s = numeric_step op s
plain_step c (plain.Variable op) s = variable_step c op s
plain_step c (plain.Memory op) s = memory_step c op s

-- ---- control

abbrev pub same_taken : Option ValType → Option ValType → Bool
same_taken None None = true
same_taken None (Some t) = false
same_taken (Some s) None = false
same_taken (Some s) (Some t) = same_type s t

abbrev pub takes_same : Option ValType → Option (Option ValType) → Bool
takes_same t None = false
takes_same t (Some u) = same_taken t u

-- a branch to each of these labels takes t
abbrev pub all_take : List (Option ValType) → Option ValType → List ℕ → Bool
all_take labels t [] = true
all_take labels t (l ∷ ls) = takes_same t (slice_get labels l) && all_take labels t ls

abbrev pub branch_step : Context → Branch → Stack → Option Stack
branch_step c (branch.Br l) s = at_some (slice_get c.labels l) (λ t. leave (operands_of t) s)
branch_step c (branch.BrIf l) s =
    at_some (slice_get c.labels l) (λ t. change (I32 ∷ operands_of t) (operands_of t) s)
branch_step c (branch.BrTable ls l) s =
    at_some (slice_get c.labels l) (λ t. only_if (all_take c.labels t ls) (leave (I32 ∷ operands_of t) s))
branch_step c branch.Return s = leave (operands_of c.outcome) s

-- the arguments that a call of a function of this type pops, and the result that it pushes
abbrev pub called_step : FuncType → Stack → Option Stack
called_step t s = change (reverse t.parameters) (operands_of (first_type t.results)) s

abbrev pub call_step : Context → ℕ → Stack → Option Stack
call_step c f s =
    at_some (function_type c.spaces f) (λ t. called_step t s)

abbrev pub call_indirect_step : Context → ℕ → Stack → Option Stack
call_indirect_step c n s =
    at_some (slice_get c.spaces.types n) (λ t. only_if (has_table c.spaces) (change (I32 ∷ reverse t.parameters) (operands_of (first_type t.results)) s))

-- exactly those operands remain
abbrev pub is_some_empty : Option Stack → Bool
is_some_empty None = false
is_some_empty (Some s) = is_empty s

abbrev pub closes : Option Stack → Option ValType → Bool
closes o t = is_some_empty (and_then o (take_all (operands_of t)))

abbrev pub run : Code → Context → Stack → Option Stack
run code.end c s = Some s
run (code.plain p rest) c s = and_then (plain_step c p s) (λ r. run rest c r)
run (code.branch b rest) c s = and_then (branch_step c b s) (λ r. run rest c r)
run (code.call f rest) c s = and_then (call_step c f s) (λ r. run rest c r)
run (code.call_indirect n rest) c s = and_then (call_indirect_step c n s) (λ r. run rest c r)
run (code.unreachable rest) c s = run rest c any_below
run (code.block t body rest) c s =
    only_if (closes (run body (with_label t c) bottom) t) (run rest c (give_all (operands_of t) s))
run (code.loop t body rest) c s =
    only_if (closes (run body (with_label None c) bottom) t) (run rest c (give_all (operands_of t) s))
run (code.choice t body other rest) c s =
    and_then (take_one I32 s) (λ r.
    only_if (closes (run body (with_label t c) bottom) t)
    (only_if (closes (run other (with_label t c) bottom) t)
    (run rest c (give_all (operands_of t) r))))
