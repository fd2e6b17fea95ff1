-- Outlines tell what bodies hold.
use Rattle.std.proofs.Common.{◌≡◌, ℕ, ◌+◌, ◌-◌, min, List, [], ◌∷◌, ◌++◌, Option, Some, None, slice_get, Bool, true, false, nat_lt, if◌then◌else◌, map, append_assoc, refl, sym, ap, ◌∙◌, arith}
use Rattle.std.specs.Prelude.{sum_by}
use Rattle.std.specs.Option.{option_map}
use Rattle.std.proofs.lemmas.List.Sums.{sum_by-append}
use Rattle.std.proofs.lemmas.Option.{slice_get-map}
use Rattle.wasm_ast.specs.declared.module.Function.{Function}
use Rattle.wasm_ast.specs.declared.module.Module.{Module}
use Rattle.wasm_ast.specs.declared.body.Instr.TheVariants as instr
use Rattle.wasm_ast.specs.Code.{Code, end, plain, branch, call, call_indirect, unreachable, block, loop, choice}
use Rattle.verified.specs.Weights.{units_of}
use Rattle.wasm_ast.specs.Limits.{imported_functions}
use Rattle.cost.specs.declared.outline.Outlines.{Outlines}
use Rattle.verified.specs.Calls.{callees, body_of, calls_in, calls_of}
use Rattle.verified.specs.Sizes.{AreSizes, code_size, size_in}
use Rattle.verified.specs.CallHeights.{most, height}
use Rattle.cost.specs.inside.Outline.{Summary, nothing, with_units, with_call, with_code, cap}
use Rattle.cost.specs.inside.Outlines.{AreOutlines, outline_at, calls_at, own_at, height_at, called, AreSizesOf}

append_nil : (xs : List ℕ) → xs ++ [] ≡ xs
append_nil [] = refl
append_nil (x ∷ xs) = ap (λ ys. x ∷ ys) (append_nil xs)

-- the outline goes on with the calls of the code
calls-with_code : (m : Module) (o : Summary) (c : Code) → (with_code m o c).calls ≡ o.calls ++ calls_of c
calls-with_code m o end = sym (append_nil o.calls)
calls-with_code m o (plain p rest) = calls-with_code m (with_units (units_of m (instr.Plain p)) o) rest
calls-with_code m o (branch b rest) = calls-with_code m (with_units (units_of m (instr.Branch b)) o) rest
calls-with_code m o (call f rest) =
    calls-with_code m (with_call f (with_units (units_of m (instr.Call f)) o)) rest ∙ append_assoc o.calls (f ∷ []) (calls_of rest)
calls-with_code m o (call_indirect t rest) = calls-with_code m (with_units (units_of m (instr.CallIndirect t)) o) rest
calls-with_code m o (unreachable rest) = calls-with_code m (with_units (units_of m instr.Unreachable) o) rest
calls-with_code m o (block t body rest) =
    let p = with_units (units_of m (instr.Block t body)) o in
    calls-with_code m (with_code m p body) rest ∙ ap (λ xs. xs ++ calls_of rest) (calls-with_code m p body) ∙ append_assoc o.calls (calls_of body) (calls_of rest)
calls-with_code m o (loop t body rest) =
    let p = with_units (units_of m (instr.Loop t body)) o in
    calls-with_code m (with_code m p body) rest ∙ ap (λ xs. xs ++ calls_of rest) (calls-with_code m p body) ∙ append_assoc o.calls (calls_of body) (calls_of rest)
calls-with_code m o (choice t body other rest) =
    let p = with_units (units_of m (instr.If t body other)) o in
    let q = with_code m p body in
    calls-with_code m (with_code m q other) rest ∙ ap (λ xs. xs ++ calls_of rest) (calls-with_code m q other) ∙ ap (λ xs. xs ++ calls_of other ++ calls_of rest) (calls-with_code m p body) ∙ append_assoc (o.calls ++ calls_of body) (calls_of other) (calls_of rest) ∙ append_assoc o.calls (calls_of body) (calls_of other ++ calls_of rest)

-- what an outline counts, up to the cap
abbrev counts : (ℕ → ℕ) → Summary → ℕ
counts s o = o.own + sum_by s o.calls

-- one instruction more, and then code of this size
one_more : (own units sum size all : ℕ) → min cap all ≡ min cap (min (own + units) cap + sum + size) → min cap all ≡ min cap (own + sum + (units + size))
one_more own units sum size all e = omega (arith, e)

one_call : (own units sum extra more size all : ℕ) → more ≡ sum + extra → min cap all ≡ min cap (min (own + units) cap + more + size) → min cap all ≡ min cap (own + sum + (units + extra + size))
one_call own units sum extra more size all d e = omega (arith, d, e)

one_block : (own units sum body size middle all : ℕ) → min cap middle ≡ min cap (min (own + units) cap + sum + body) → min cap all ≡ min cap (middle + size) → min cap all ≡ min cap (own + sum + (units + body + size))
one_block own units sum body size middle all d e = omega (arith, d, e)

one_choice : (own units sum body other size middle next all : ℕ) → min cap middle ≡ min cap (min (own + units) cap + sum + body) → min cap next ≡ min cap (middle + other) → min cap all ≡ min cap (next + size) → min cap all ≡ min cap (own + sum + (units + body + other + size))
one_choice own units sum body other size middle next all d e f = omega (arith, d, e, f)

counts-with_code : (m : Module) (s : ℕ → ℕ) (o : Summary) (c : Code) → min cap (counts s (with_code m o c)) ≡ min cap (counts s o + code_size m s c)
counts-with_code m s o end = omega arith
counts-with_code m s o (plain p rest) =
    one_more o.own (units_of m (instr.Plain p)) (sum_by s o.calls) (code_size m s rest) _ (counts-with_code m s (with_units (units_of m (instr.Plain p)) o) rest)
counts-with_code m s o (branch b rest) =
    one_more o.own (units_of m (instr.Branch b)) (sum_by s o.calls) (code_size m s rest) _ (counts-with_code m s (with_units (units_of m (instr.Branch b)) o) rest)
counts-with_code m s o (call f rest) =
    one_call o.own (units_of m (instr.Call f)) (sum_by s o.calls) (s f) (sum_by s (o.calls ++ f ∷ [])) (code_size m s rest) _ (omega (arith, sum_by-append s o.calls (f ∷ []))) (counts-with_code m s (with_call f (with_units (units_of m (instr.Call f)) o)) rest)
counts-with_code m s o (call_indirect t rest) =
    one_more o.own (units_of m (instr.CallIndirect t)) (sum_by s o.calls) (code_size m s rest) _ (counts-with_code m s (with_units (units_of m (instr.CallIndirect t)) o) rest)
counts-with_code m s o (unreachable rest) =
    one_more o.own (units_of m instr.Unreachable) (sum_by s o.calls) (code_size m s rest) _ (counts-with_code m s (with_units (units_of m instr.Unreachable) o) rest)
counts-with_code m s o (block t body rest) =
    let p = with_units (units_of m (instr.Block t body)) o in
    one_block o.own (units_of m (instr.Block t body)) (sum_by s o.calls) (code_size m s body) (code_size m s rest) (counts s (with_code m p body)) _ (counts-with_code m s p body) (counts-with_code m s (with_code m p body) rest)
counts-with_code m s o (loop t body rest) =
    let p = with_units (units_of m (instr.Loop t body)) o in
    one_block o.own (units_of m (instr.Loop t body)) (sum_by s o.calls) (code_size m s body) (code_size m s rest) (counts s (with_code m p body)) _ (counts-with_code m s p body) (counts-with_code m s (with_code m p body) rest)
counts-with_code m s o (choice t body other rest) =
    let p = with_units (units_of m (instr.If t body other)) o in
    let q = with_code m p body in
    one_choice o.own (units_of m (instr.If t body other)) (sum_by s o.calls) (code_size m s body) (code_size m s other) (code_size m s rest) (counts s q) (counts s (with_code m q other)) _ (counts-with_code m s p body) (counts-with_code m s q other) (counts-with_code m s (with_code m q other) rest)

-- ---- the functions of a module

-- the outlines are those of the bodies
outline_of_body : (m : Module) (os : Outlines) → AreOutlines m os → (f : ℕ) → outline_at os f ≡ option_map (λ (c : Code). with_code m nothing c) (body_of m f)
outline_of_body m os a f = rw (a.imported, a.defined) (chosen (nat_lt f (imported_functions m.imports)))
  where
    found : (o : Option Function) → option_map (λ (g : Function). with_code m nothing g.body) o ≡ option_map (λ (c : Code). with_code m nothing c) (option_map (λ (g : Function). g.body) o)
    found None = refl
    found (Some g) = refl

    number : ℕ
    number = f - imported_functions m.imports

    chosen : (b : Bool) → (if b then None else slice_get (map (λ (g : Function). with_code m nothing g.body) m.functions) (f - imported_functions m.imports)) ≡ option_map (λ (c : Code). with_code m nothing c) (if b then None else option_map (λ (g : Function). g.body) (slice_get m.functions (f - imported_functions m.imports)))
    chosen true = refl
    chosen false = slice_get-map (λ (g : Function). with_code m nothing g.body) m.functions (f - imported_functions m.imports) ∙ found (slice_get m.functions (f - imported_functions m.imports))

pub called_same : (m : Module) (os : Outlines) → AreOutlines m os → (f : ℕ) → called os f ≡ callees m f
called_same m os a f = ap calls_at (outline_of_body m os a f) ∙ same (body_of m f)
  where
    same : (b : Option Code) → calls_at (option_map (λ (c : Code). with_code m nothing c) b) ≡ calls_in b
    same None = refl
    same (Some c) = calls-with_code m nothing c

pub height_same : (m : Module) (os : Outlines) → AreOutlines m os → (rank : ℕ → ℕ) (f : ℕ) → height_at rank (outline_at os f) ≡ height rank (body_of m f)
height_same m os a rank f = ap (height_at rank) (outline_of_body m os a f) ∙ same (body_of m f)
  where
    same : (b : Option Code) → height_at rank (option_map (λ (c : Code). with_code m nothing c) b) ≡ height rank b
    same None = refl
    same (Some c) = ap (λ xs. 1 + most rank xs) (calls-with_code m nothing c)

pub sizes_same : (m : Module) (os : Outlines) → AreOutlines m os → (s : ℕ → ℕ) → AreSizes m s → AreSizesOf os s
sizes_same m os a s h f =
    ap (λ n. min cap n) (h f) ∙ same (body_of m f) ∙ sym (ap (λ o. min cap (own_at o + sum_by s (calls_at o))) (outline_of_body m os a f))
  where
    same : (b : Option Code) → min cap (size_in m s b) ≡ min cap (own_at (option_map (λ (c : Code). with_code m nothing c) b) + sum_by s (calls_at (option_map (λ (c : Code). with_code m nothing c) b)))
    same None = refl
    same (Some c) = let e = counts-with_code m s nothing c in omega (arith, e)
