use Rattle.std.proofs.Common.{◌≡◌, ◌∙◌, ℕ, ◌+◌, ◌<◌, ◌++◌, ◌∷◌, [], Err, List, Option, ap, arith, drop, get_or, length, reverse, subst, sym}
use Rattle.std.proofs.lemmas.List.{at_drop_all, at_drop_more, reverse-append}
use Rattle.std.proofs.lemmas.Result.{err_from_is_err_and}
use Rattle.wasm_ast.specs.Falls.{item_falls}
use Rattle.wasm_ast.specs.View.{code_of, then_code}
use Rattle.wasm_ast.specs.declared.body.Instr.{Instr}
use Rattle.wasm_ast.specs.declared.types.ValType.{ValType}
use Rattle.verified.specs.declared.operand.Operand.{Operand}
use Rattle.profile_rules.specs.inside.ConstantsFaults.{FalseBut, Says}
use Rattle.profile_rules.specs.inside.Tracking.{Setting, check, labels_of, operands_of}
use Rattle.profile_rules.proofs.constants.bodies.+inside.Goals as goal

-- the label of a block comes first once it is entered
entered : (labels inner : List (Option ValType)) (label : Option ValType) → inner ≡ labels ++ label ∷ [] → reverse inner ≡ label ∷ reverse labels
entered labels inner label kept = ap reverse kept ∙ reverse-append labels (label ∷ [])

-- code of which these instructions are left, at the next of them
check_item : (items : List Instr) (k : ℕ) (item : Instr) (setting : Setting) (labels : List (Option ValType)) (s : List Operand)
    → k < length items → item ≡ get_or items k item
    → check (code_of (drop k items)) setting labels s ≡ check (then_code item (code_of (drop (k + 1) items))) setting labels s
check_item items k item setting labels s h is =
    ap (λ code. check code setting labels s) (at_drop_more code_of items k item h ∙ ap (λ i. then_code i (code_of (drop (k + 1) items))) (sym is))

pub check_inside-check_instr-requires : goal.check_inside-check_instr-requires
check_inside-check_instr-requires t c =
    let h : c.loop-instr.instr-index < length c.as_slice-instr-items.result.now = omega arith in
    let f = item_falls c.as_slice-instr-items.result.now c.loop-instr.instr-index c.instr-item.result c.args.body.now h c.instr-item.is c.as_slice-instr-items.ensures in
    (omega (arith, f, c.decreases), tt)

pub check_inside-returns-in_err-check_instr-clause-says : goal.check_inside-returns-in_err-check_instr-clause-says
check_inside-returns-in_err-check_instr-clause-says t c =
    let setting = c.args.setting.now in
    let labels = c.args.label ∷ labels_of c.args.scope.now in
    let items = c.as_slice-instr-items.result.now in
    let k = c.loop-instr.instr-index in
    let operands = operands_of c.loop-instr.operands in
    let rest = code_of (drop (k + 1) items) in
    let fault = c.in_err-check_instr.field-0.0 in
    let inner = entered c.args.scope.now.labels.items c.loop-instr.scope.labels.items c.args.label c.loop-instr.invariant.kept in
    let fails = subst (λ scope. FalseBut fault (check (then_code c.instr-item.result rest) setting scope operands)) inner (c.in_err-check_instr.ensures.finds rest) in
    let checked = ap (λ code. check code setting labels []) (sym c.as_slice-instr-items.ensures) ∙ c.loop-instr.invariant.checks
    ∙ check_item items k c.instr-item.result setting labels operands (omega arith) c.instr-item.is in
    let passed = err_from_is_err_and c.from_residual-in_err-check_instr.result c.from_residual-in_err-check_instr.ensures.1 in
    let answer : c.from_residual-in_err-check_instr.result ≡ Err fault = cc in
    subst (Says (check c.args.body.now setting labels [])) (sym answer) (subst (FalseBut fault) (sym checked) fails)

pub check_inside-returns-clause-says : goal.check_inside-returns-clause-says
check_inside-returns-clause-says t c =
    let setting = c.args.setting.now in
    let labels = c.args.label ∷ labels_of c.args.scope.now in
    let items = c.as_slice-instr-items.result.now in
    ap (λ code. check code setting labels []) (sym c.as_slice-instr-items.ensures) ∙ c.loop-instr.invariant.checks
    ∙ ap (λ code. check code setting labels (operands_of c.loop-instr.operands)) (at_drop_all code_of items c.loop-instr.instr-index (omega arith))

pub check_inside-loop-instr-preserved : goal.check_inside-loop-instr-preserved
check_inside-loop-instr-preserved t c =
    let setting = c.args.setting.now in
    let labels = c.args.label ∷ labels_of c.args.scope.now in
    let items = c.as_slice-instr-items.result.now in
    let k = c.loop-instr.instr-index in
    let operands = operands_of c.loop-instr.operands in
    let rest = code_of (drop (k + 1) items) in
    let inner = entered c.args.scope.now.labels.items c.loop-instr.scope.labels.items c.args.label c.loop-instr.invariant.kept in
    let found = subst (λ scope. check (then_code c.instr-item.result rest) setting scope operands ≡ check rest setting scope (operands_of c.check_instr.new.operands))
    inner (c.in_ok-check_instr.ensures.finds rest) in
    record {
      kept = ◌∙◌ {A = List (Option ValType)} c.in_ok-check_instr.ensures.kept c.loop-instr.invariant.kept;
      checks = c.loop-instr.invariant.checks ∙ check_item items k c.instr-item.result setting labels operands (omega arith) c.instr-item.is ∙ found;
    }
