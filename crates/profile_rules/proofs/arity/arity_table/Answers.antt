use Rattle.std.proofs.Common.{◌≡◌, ◌∙◌, ℕ, ◌++◌, ◌∷◌, [], ap, map, slice_get, sym}
use Rattle.std.specs.List.{cons_option}
use Rattle.std.proofs.lemmas.List.{append-nil}
use Rattle.verified.specs.Arities.{type_arity}
use Rattle.verified.specs.Spaces.{function_import, imported}
use Rattle.profile_rules.proofs.Arities.{function_added, import_added, imports_whole, not_function, table_whole}
use Rattle.profile_rules.proofs.arity.arity_table.Goals as goal
use Rattle.profile_rules.proofs.arity.arity_table.Goals.{in-Function+in_ok-push, in_default}

pub returns : goal.returns
returns c =
    table_whole c.args.module.now c.loop-function.table.items c.as_slice-types.result.now c.as_slice-function-items.result.now c.loop-function.function-index c.as_slice-types.ensures c.as_slice-function-items.ensures c.loop-function-test.false c.loop-function.invariant

pub loop-import-preserved : goal.loop-import-preserved
loop-import-preserved c =
    let a = λ (n : ℕ). type_arity (slice_get c.as_slice-types.result.now n) in
    let table = c.loop-import.table.items in
    let added : c.match-import.table.items ≡ table ++ map a (cons_option (function_import c.import-item.result.description) []) = elim c.match-import.branch [
      | in-Function+in_ok-push w ↦ ap (λ v. v.items) w.table-is ∙ w.in_ok-push.ensures.items ∙ ap (λ arity. table ++ arity ∷ []) w.arity_of_type.ensures
          ∙ ap (λ d. table ++ map a (cons_option (function_import d) [])) (sym w.in-Function.is)
      | in_default w ↦ ap (λ v. v.items) w.table-is ∙ sym (append-nil table)
          ∙ ap (λ n. table ++ map a (cons_option n [])) (sym (not_function c.import-item.result.description w.in_default.not-Function))
    ] in
    import_added a c.as_slice-import-items.result.now c.loop-import.import-index c.import-item.result table c.match-import.table.items
    c.loop-import-test.true c.import-item.is added c.loop-import.invariant

pub loop-function-init : goal.loop-function-init
loop-function-init c =
    let a = λ (n : ℕ). type_arity (slice_get c.as_slice-types.result.now n) in
    imports_whole a c.args.module.now c.as_slice-import-items.result.now c.loop-import.import-index c.loop-import.table.items
    c.as_slice-import-items.ensures c.loop-import-test.false c.loop-import.invariant

pub loop-function-preserved : goal.loop-function-preserved
loop-function-preserved c =
    let a = λ (n : ℕ). type_arity (slice_get c.as_slice-types.result.now n) in
    function_added a c.as_slice-function-items.result.now c.loop-function.function-index c.function-item.result (map a (imported function_import c.args.module.now.imports))
    c.loop-function.table.items c.push-in-loop-function.new.self.items c.loop-function-test.true c.function-item.is c.loop-function.invariant
    (c.in_ok-push-2.ensures.items ∙ ap (λ arity. c.loop-function.table.items ++ arity ∷ []) c.arity_of_type-in-loop-function.ensures)
