-- What is spelled so is read: locals and bodies of functions.
use Rattle.std.proofs.Common.{◌≡◌, ℕ, ◌+◌, ◌-◌, ◌≤◌, List, [], ◌∷◌, ◌++◌, length, Some, refl, sym, ap, ◌∙◌, arith, length-append}
use Rattle.std.proofs.lemmas.Bool.{le-leb, eq-eqb}
use Rattle.std.proofs.lemmas.List.{append-nil, length-replicate}
use Rattle.wasm_ast.specs.declared.types.ValType.{ValType}
use Rattle.wasm_ast.specs.declared.types.FuncType.{FuncType}
use Rattle.wasm_ast.specs.declared.module.Function.{Function}
use Rattle.wasm_ast.specs.Limits.{max_locals, parameters_of, IsBodyWithin}
use Rattle.wasm_items.specs.Bytes.{Then, Items, Vector}
use Rattle.wasm_items.specs.Instructions.{SpellsExpression}
use Rattle.wasm_items.specs.inside.Reading.{u32_at, val_type_at}
use Rattle.wasm_decode.specs.Grammar.{SpellsGroup, locals_of, SpellsLocals, type_numbers}
use Rattle.wasm_decode.specs.inside.ReadingModule.{groups_at, locals_at, function_in, function_at, bodies_at, functions_at}
use Rattle.wasm_items.proofs.AgainCode.{expression_again}
use Rattle.wasm_items.proofs.AgainParts.{u32_again, val_type_again, part_again}
use Rattle.wasm_items.proofs.Tools.{IsRead, Then-assoc, Then_again}
use Rattle.wasm_decode.proofs.SectionParts.{length-type_numbers}
use Rattle.wasm_decode.proofs.TakesFunctions.{FunctionWithin}

groups_again : (groups : List (ℕ × ValType)) (room : ℕ) → length (locals_of groups) ≤ room
    → IsRead (groups_at (length groups) room) (locals_of groups) (Items SpellsGroup groups)
unfolding groups_at
groups_again [] room few front rest h = rw h refl
groups_again (g ∷ groups) room few front rest h =
    let lengths : length (locals_of (g ∷ groups)) ≡ g.0 + length (locals_of groups) = simp (length-append, length-replicate) in
    let fits : g.0 ≤ room = omega arith in
    let others : length (locals_of groups) ≤ room - g.0 = omega arith in
    let parts = Then-assoc h in
    Then_again u32_at _ rest g.0 (u32_again g.0) parts
    (rw (le-leb g.0 room fits)
    (Then_again val_type_at _ rest g.1 (val_type_again g.1) parts.is_second
    (rw (groups_again groups (room - g.0) others parts.is_second.back rest parts.is_second.is_second) refl)))

locals_again : (locals : List ValType) (room : ℕ) → length locals ≤ room → IsRead (locals_at room) locals (SpellsLocals locals)
unfolding locals_at
locals_again locals room few front rest h =
    let fits : length (locals_of h.groups) ≤ room = rw (← h.grouped) few in
    Then_again u32_at _ rest (length h.groups) (u32_again (length h.groups)) h.spelled
    (rw (h.grouped) (groups_again h.groups room fits h.spelled.back rest h.spelled.is_second))

-- locals and a body, and nothing behind them
function_in_again : (parameters : ℕ) (f : Function) (inside : List ℕ) → parameters + length f.locals ≤ max_locals → IsBodyWithin f.body
    → Then (SpellsLocals f.locals) (SpellsExpression f.body) inside → function_in f.type_number parameters inside ≡ Some f
unfolding function_in
function_in_again parameters f inside few within h =
    let fits : length f.locals ≤ max_locals - parameters = omega arith in
    let body = expression_again f.body h.back [] (h.is_second, within) in
    let all : inside ≡ inside ++ [] = sym (append-nil inside) in
    ap (function_in f.type_number parameters) all
    ∙ Then_again (locals_at (max_locals - parameters)) _ [] f.locals (locals_again f.locals (max_locals - parameters) fits) h (rw body refl)

function_again : (types : List FuncType) (f : Function) → IsRead (function_at types f.type_number) f (FunctionWithin types f)
unfolding function_at
function_again types f front rest h =
    rw (part_again rest h.0, function_in_again (parameters_of types f.type_number) f h.0.inside h.1.0 h.1.1 h.0.spelled) refl

bodies_again : (types : List FuncType) (functions : List Function)
    → IsRead (bodies_at types (type_numbers functions)) functions (Items (FunctionWithin types) functions)
unfolding bodies_at
bodies_again types [] front rest h = rw h refl
bodies_again types (f ∷ fs) front rest h =
    Then_again (function_at types f.type_number) _ rest f (function_again types f) h (rw (bodies_again types fs h.back rest h.is_second) refl)

pub functions_again : (types : List FuncType) (functions : List Function)
    → IsRead (functions_at types (type_numbers functions)) functions (Vector (FunctionWithin types) functions)
unfolding functions_at
functions_again types functions front rest h =
    let counts = eq-eqb (length functions) (length (type_numbers functions)) (sym (length-type_numbers functions)) in
    Then_again u32_at _ rest (length functions) (u32_again (length functions)) h (rw counts (bodies_again types functions h.back rest h.is_second))
