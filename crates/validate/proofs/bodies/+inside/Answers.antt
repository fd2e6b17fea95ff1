use Rattle.std.proofs.Common.{◌≡◌, ◌∙◌, ℕ, ◌+◌, ◌<◌, ◌++◌, ◌∷◌, [], Bool, true, Option, Some, None, Result, Ok, Err, List, drop, get_or, length, reverse, ap, subst, sym, arith}
use Rattle.std.proofs.lemmas.List.{at_drop_all, at_drop_more, reverse-append}
use Rattle.std.proofs.lemmas.Result.{err_from_is_err_and}
use Rattle.wasm_ast.specs.Code.{Code}
use Rattle.wasm_ast.specs.Falls.{item_falls}
use Rattle.wasm_ast.specs.View.{code_of, then_code}
use Rattle.wasm_ast.specs.declared.body.Instr.{Instr}
use Rattle.wasm_ast.specs.declared.types.ValType.{ValType}
use Rattle.wasm_ast.specs.declared.types.ValType.TheVariants.{I32}
use Rattle.verified.specs.Instructions.{Context, operands_of, with_label}
use Rattle.validate.specs.declared.fault.Place.{Place}
use Rattle.validate.specs.declared.fault.ValidFault.{ValidFault}
use Rattle.validate.specs.declared.fault.ValidFault.TheVariants as fault
use Rattle.validate.specs.declared.operands.Operands.{Operands}
use Rattle.validate.specs.inside.Answers.{StepsOver, context_of, inside_passes, stack_of, with_result}
use Rattle.validate.specs.inside.Findings.{FalseBut, Finds, NoneBut, Says, answer_at, placed}
use Rattle.validate.specs.inside.Stack.{Stack, bottom, and_then, give_all, take_one}
use Rattle.validate.specs.inside.Steps.{closes, only_if, run}
use Rattle.validate.proofs.bodies.+inside.Goals as goal

-- an instruction whose inner code decides the answer
steps_over : (instr : Instr) (c : Context) (old new : Operands) (answer : Result (Unit {0}) ValidFault) (passes : Bool)
    → ((rest : Code) → run (then_code instr rest) c (stack_of old) ≡ only_if passes (run rest c (stack_of new)))
    → Says passes answer → StepsOver instr c old new answer
steps_over instr c old new (Ok done) passes runs says = λ rest. runs rest ∙ ap (λ p. only_if p (run rest c (stack_of new))) says
steps_over instr c old new (Err fault.OutOfMemory) passes runs says = λ rest. tt
steps_over instr c old new (Err (fault.Breaks rule place)) passes runs says =
    λ rest. runs rest ∙ ap (λ p. only_if p (run rest c (stack_of new))) says

-- what was found, where the answer with its place is good
found_at : (answer : Result (Unit {0}) ValidFault) (place : Place) (found : Option Stack) (s : Stack)
    → Ok tt ≡ answer_at answer place → Finds found answer s → found ≡ Some s
found_at (Ok done) place found s is finds = finds
found_at (Err e) place found s is finds = cc

-- the label of a block comes first once it is entered
entered : (labels inner : List (Option ValType)) (label : Option ValType) → inner ≡ labels ++ label ∷ [] → reverse inner ≡ label ∷ reverse labels
entered labels inner label kept = ap reverse kept ∙ reverse-append labels (label ∷ [])

-- code of which these instructions are left, at the next of them
run_item : (items : List Instr) (k : ℕ) (item : Instr) (c : Context) (s : Stack) → k < length items → item ≡ get_or items k item
    → run (code_of (drop k items)) c s ≡ run (then_code item (code_of (drop (k + 1) items))) c s
run_item items k item c s h is =
    ap (λ code. run code c s) (at_drop_more code_of items k item h ∙ ap (λ i. then_code i (code_of (drop (k + 1) items))) (sym is))

-- a fault says the same with another place
false_placed : (fault : ValidFault) (place : Place) (passes : Bool) → FalseBut fault passes → FalseBut (placed fault place) passes
false_placed fault.OutOfMemory place passes h = tt
false_placed (fault.Breaks rule at) place passes h = h

-- where there is no stack, no block is left
none_closes : (fault : ValidFault) (o : Option Stack) (gives : Option ValType) → NoneBut fault o → FalseBut fault (closes o gives)
none_closes fault.OutOfMemory o gives none = tt
none_closes (fault.Breaks rule at) o gives none = ap (λ s. closes s gives) none

pub check_inside-check_instr-requires : goal.check_inside-check_instr-requires
check_inside-check_instr-requires t c =
    let h : c.loop-instr.instr-index < length c.as_slice-instr-items.result.now = omega arith in
    let f = item_falls c.as_slice-instr-items.result.now c.loop-instr.instr-index c.instr-item.result c.args.body.now h c.instr-item.is c.as_slice-instr-items.ensures in
    (omega (arith, f, c.decreases), tt)

pub check_instr-returns-in_ok-give-in-Block-clause-finds : goal.check_instr-returns-in_ok-give-in-Block-clause-finds
check_instr-returns-in_ok-give-in-Block-clause-finds t c =
    let context = context_of c.args.context.now c.args.scope.now in
    let stack = stack_of c.args.operands.now in
    let passes = inside_passes c.in-Block.gives c.in-Block.gives c.in-Block.body in
    let given : stack_of c.give.new.self ≡ with_result c.in-Block.gives stack = c.in_ok-give-in-Block.ensures in
    let says = subst (λ labels. Says (passes (record context { labels = reverse labels.items })) c.check_inside.result) c.count.ensures c.check_inside.ensures.says in
    steps_over c.args.instr.now context c.args.operands.now c.give.new.self c.check_inside.result (passes context)
    (λ rest. ap (λ i. run (then_code i rest) context stack) c.in-Block.is ∙ ap (λ s. only_if (passes context) (run rest context s)) (sym given))
    says

pub check_instr-returns-in_ok-give-in-Loop-clause-finds : goal.check_instr-returns-in_ok-give-in-Loop-clause-finds
check_instr-returns-in_ok-give-in-Loop-clause-finds t c =
    let context = context_of c.args.context.now c.args.scope.now in
    let stack = stack_of c.args.operands.now in
    let passes = inside_passes None c.in-Loop.gives c.in-Loop.body in
    let given : stack_of c.give-in-Loop.new.self ≡ with_result c.in-Loop.gives stack = c.in_ok-give-in-Loop.ensures in
    let says = subst (λ labels. Says (passes (record context { labels = reverse labels.items })) c.check_inside-in-Loop.result) c.count.ensures c.check_inside-in-Loop.ensures.says in
    steps_over c.args.instr.now context c.args.operands.now c.give-in-Loop.new.self c.check_inside-in-Loop.result (passes context)
    (λ rest. ap (λ i. run (then_code i rest) context stack) c.in-Loop.is ∙ ap (λ s. only_if (passes context) (run rest context s)) (sym given))
    says

pub check_instr-returns-in_ok-check_inside-in-If-clause-finds : goal.check_instr-returns-in_ok-check_inside-in-If-clause-finds
check_instr-returns-in_ok-check_inside-in-If-clause-finds t c =
    let context = context_of c.args.context.now c.args.scope.now in
    let stack = stack_of c.args.operands.now in
    let first = inside_passes c.in-If.gives c.in-If.gives c.in-If.body in
    let second = inside_passes c.in-If.gives c.in-If.gives c.in-If.other in
    let taken = found_at c.take.result _ (take_one I32 stack) (stack_of c.take.new.self) c.in_ok-at_place-in-If.ensures c.take.ensures in
    let given : stack_of c.give-in-If.new.self ≡ with_result c.in-If.gives (stack_of c.take.new.self) = c.in_ok-give-in-If.ensures in
    let counted = ap (λ labels. labels.items) c.count.ensures in
    let passed = subst (λ labels. first (record context { labels = reverse labels }) ≡ true) counted c.in_ok-check_inside-in-If.ensures.says in
    let says = subst (λ labels. Says (second (record context { labels = reverse labels })) c.check_inside-in-If-2.result)
    (c.in_ok-check_inside-in-If.ensures.kept ∙ counted) c.check_inside-in-If-2.ensures.says in
    steps_over c.args.instr.now context c.args.operands.now c.give-in-If.new.self c.check_inside-in-If-2.result (second context)
    (λ rest. let after = λ (s : Stack). only_if (second context) (run rest context s) in
    ap (λ i. run (then_code i rest) context stack) c.in-If.is
    ∙ ap (λ o. and_then o (λ s. only_if (first context) (after (give_all (operands_of c.in-If.gives) s)))) taken
    ∙ ap (λ p. only_if p (after (with_result c.in-If.gives (stack_of c.take.new.self)))) passed
    ∙ ap after (sym given))
    says

pub check_inside-returns-in_err-check_instr-clause-says : goal.check_inside-returns-in_err-check_instr-clause-says
check_inside-returns-in_err-check_instr-clause-says t c =
    let inner = with_label c.args.label (context_of c.args.context.now c.args.scope.now) in
    let items = c.as_slice-instr-items.result.now in
    let k = c.loop-instr.instr-index in
    let stack = stack_of c.loop-instr.operands in
    let rest = code_of (drop (k + 1) items) in
    let fault = c.in_err-check_instr.field-0.0 in
    let scoped = entered c.args.scope.now.labels.items c.loop-instr.scope.labels.items c.args.label c.loop-instr.invariant.kept in
    let none = subst (λ labels. NoneBut fault (run (then_code c.instr-item.result rest) (record inner { labels = labels }) stack))
    scoped (c.in_err-check_instr.ensures.finds rest) in
    let ran = ap (λ code. run code inner bottom) (sym c.as_slice-instr-items.ensures) ∙ c.loop-instr.invariant.runs
    ∙ run_item items k c.instr-item.result inner stack (omega arith) c.instr-item.is in
    let passed = err_from_is_err_and c.from_residual-in_err-check_instr.result c.from_residual-in_err-check_instr.ensures.1 in
    let answer : c.from_residual-in_err-check_instr.result ≡ Err fault = cc in
    subst (Says (inside_passes c.args.label c.args.gives c.args.body.now (context_of c.args.context.now c.args.scope.now))) (sym answer)
    (none_closes fault _ c.args.gives (subst (NoneBut fault) (sym ran) none))

pub check_inside-returns-in-Ok-clause-says : goal.check_inside-returns-in-Ok-clause-says
check_inside-returns-in-Ok-clause-says t c =
    let inner = with_label c.args.label (context_of c.args.context.now c.args.scope.now) in
    let items = c.as_slice-instr-items.result.now in
    let stack = stack_of c.loop-instr.operands in
    let ran = ap (λ code. run code inner bottom) (sym c.as_slice-instr-items.ensures) ∙ c.loop-instr.invariant.runs
    ∙ ap (λ code. run code inner stack) (at_drop_all code_of items c.loop-instr.instr-index (omega arith)) in
    ap (λ o. closes o c.args.gives) ran ∙ c.in-Ok.ensures

pub check_inside-returns-clause-says : goal.check_inside-returns-clause-says
check_inside-returns-clause-says t c =
    let inner = with_label c.args.label (context_of c.args.context.now c.args.scope.now) in
    let items = c.as_slice-instr-items.result.now in
    let stack = stack_of c.loop-instr.operands in
    let ran = ap (λ code. run code inner bottom) (sym c.as_slice-instr-items.ensures) ∙ c.loop-instr.invariant.runs
    ∙ ap (λ code. run code inner stack) (at_drop_all code_of items c.loop-instr.instr-index (omega arith)) in
    subst (λ fault. FalseBut fault (inside_passes c.args.label c.args.gives c.args.body.now (context_of c.args.context.now c.args.scope.now))) (sym c.at.ensures)
    (false_placed c.in-Err.fault c.args.place _ (subst (λ o. FalseBut c.in-Err.fault (closes o c.args.gives)) (sym ran) c.in-Err.ensures))

pub check_inside-loop-instr-preserved : goal.check_inside-loop-instr-preserved
check_inside-loop-instr-preserved t c =
    let inner = with_label c.args.label (context_of c.args.context.now c.args.scope.now) in
    let items = c.as_slice-instr-items.result.now in
    let k = c.loop-instr.instr-index in
    let stack = stack_of c.loop-instr.operands in
    let rest = code_of (drop (k + 1) items) in
    let scoped = entered c.args.scope.now.labels.items c.loop-instr.scope.labels.items c.args.label c.loop-instr.invariant.kept in
    let found = subst (λ labels. run (then_code c.instr-item.result rest) (record inner { labels = labels }) stack
    ≡ run rest (record inner { labels = labels }) (stack_of c.check_instr.new.operands))
    scoped (c.in_ok-check_instr.ensures.finds rest) in
    record {
      kept = ◌∙◌ {A = List (Option ValType)} c.in_ok-check_instr.ensures.kept c.loop-instr.invariant.kept;
      runs = c.loop-instr.invariant.runs ∙ run_item items k c.instr-item.result inner stack (omega arith) c.instr-item.is ∙ found;
    }
