-- That no spelling is shorter than the one that is written: functions.
use Rattle.std.proofs.Common.{ℕ, ◌≤◌, List, [], ◌∷◌, ◌++◌, length, ap, arith, length-append}
use Rattle.std.specs.Bool.{⊤}
use Rattle.std.specs.List.{flat_map}
use Rattle.leb.specs.Spelling.{u32_spelling}
use Rattle.wasm_ast.specs.declared.types.ValType.{ValType}
use Rattle.wasm_ast.specs.declared.module.Function.{Function}
use Rattle.wasm_items.specs.Types.{val_type_byte}
use Rattle.wasm_items.specs.Canonical.{vector, expression_bytes}
use Rattle.wasm_decode.specs.Grammar.{SpellsGroup, SpellsLocals, SpellsFunction, locals_of}
use Rattle.wasm_decode.specs.Canonical.{groups_of, group_bytes, locals_bytes, function_bytes}
use Rattle.wasm_ast.specs.Representable.{IsCodeHeld}
use Rattle.wasm_items.proofs.ShortestParts.{IsShortest, u32_is_shortest, u32_grows, Then_length, sized_shortest, items_are_shortest}
use Rattle.wasm_items.proofs.ShortestInstructions.{expression_is_shortest}
use Rattle.wasm_decode.proofs.ShortestGroups.{groups_are_shortest}

group_is_shortest : IsShortest (λ g. ⊤) SpellsGroup group_bytes
group_is_shortest g bytes h =
    (tt, omega (arith, (u32_is_shortest g.0 h.front h.is_first).1, ap length h.is_second, Then_length bytes h, length-append (u32_spelling g.0) (val_type_byte g.1 ∷ [])))

locals_shortest : (ts : List ValType) (bytes : List ℕ) → SpellsLocals ts bytes → length (locals_bytes ts) ≤ length bytes
unfolding locals_bytes vector
locals_shortest ts bytes h =
    let groups = h.groups in
    let given = h.spelled in
    let count = (u32_is_shortest (length groups) given.front given.is_first).1 in
    let items = (items_are_shortest (λ g. ⊤) SpellsGroup group_bytes group_is_shortest groups given.back given.is_second).1 in
    let less = groups_are_shortest groups in
    let grows = u32_grows (length (groups_of (locals_of groups))) (length groups) less.count in
    let whole = length-append (u32_spelling (length (groups_of (locals_of groups)))) (flat_map group_bytes (groups_of (locals_of groups))) in
    rw h.grouped (omega (arith, count, items, less.bytes, grows, whole, Then_length bytes given))

-- the number of its type stands elsewhere
abbrev pub IsBodyHeld : Function → Type 0
IsBodyHeld f = IsCodeHeld f.body

pub function_is_shortest : IsShortest IsBodyHeld SpellsFunction function_bytes
unfolding function_bytes
function_is_shortest f bytes h =
    let inside = h.spelled in
    let body = expression_is_shortest f.body inside.back inside.is_second in
    let locals = locals_shortest f.locals inside.front inside.is_first in
    let written = locals_bytes f.locals ++ expression_bytes f.body in
    let le : length written ≤ length h.inside =
    omega (arith, body.1, locals, Then_length h.inside inside, length-append (locals_bytes f.locals) (expression_bytes f.body)) in
    (body.0, sized_shortest _ written bytes h le)
