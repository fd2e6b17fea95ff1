use Rattle.std.proofs.Common.{◌≡◌, ◌∙◌, ◌+◌, ◌++◌, ◌∷◌, [], List, Option, None, Some, append_assoc, ap, cond, drop, map, subst, sym, true}
use Rattle.std.specs.List.{AllByRecursion}
use Rattle.std.specs.Prelude.{filter}
use Rattle.std.proofs.lemmas.List.{append-nil, at_drop_all, at_drop_more, map_push}
use Rattle.wasm_ast.specs.declared.module.Import.{Import}
use Rattle.wasm_ast.specs.Limits.{is_function, is_function_description}
use Rattle.verified.specs.declared.imports.HostCall.{HostCall}
use Rattle.verified.specs.Hosts.{IsHostImport}
use Rattle.verified.specs.Imports.{call_named, call_of, module_name}
use Rattle.profile_rules.proofs.hosts.host_calls.Goals as goal

-- the calls after one more import, which is a function
added : (calls new : List HostCall) (call : HostCall) (i : Import) (rest : List Import)
    → is_function i ≡ true → call_of i ≡ Some call → new ≡ calls ++ call ∷ []
    → map Some calls ++ map call_of (filter is_function (i ∷ rest)) ≡ map Some new ++ map call_of (filter is_function rest)
added calls new call i rest function named pushed =
    let others = map call_of (filter is_function rest) in
    ap (λ b. map Some calls ++ map call_of (cond b (i ∷ filter is_function rest) (filter is_function rest))) function
    ∙ ap (λ named. map Some calls ++ (named ∷ others)) named
    ∙ sym (append_assoc (map Some calls) (Some call ∷ []) others)
    ∙ ap (λ xs. xs ++ others) (sym (map_push Some calls call) ∙ ap (map Some) (sym pushed))

-- a name that is no call is not that of a call
none_apart : (named : Option HostCall) (call : HostCall) → named ≡ None → named ≡ Some call → ⊥
none_apart named call none some = cc

pub unreachable-requires : goal.unreachable-requires
unreachable-requires c =
    let items = c.as_slice-import-items.result.now in
    let k = c.loop-import.import-index in
    let import = c.import-item.result in
    let next = at_drop_more (λ is. is) items k import c.loop-import-test.true ∙ ap (λ i. i ∷ drop (k + 1) items) (sym c.import-item.is) in
    let here = subst (AllByRecursion (IsHostImport c.args.module.now)) next c.loop-import.invariant.rest in
    none_apart c.named.result here.0.host_call c.in-None.is
    (c.named.ensures ∙ ap (λ m. call_named m c.as_str-in-loop-import.result.now) (c.as_str.ensures ∙ here.0.brings_in.of_module)
    ∙ ap (call_named module_name) (c.as_str-in-loop-import.ensures ∙ here.0.brings_in.of_name)
    ∙ c.each_import_is_one_call.ensures.named here.0.host_call)

pub loop-import-preserved : goal.loop-import-preserved
loop-import-preserved c =
    let items = c.as_slice-import-items.result.now in
    let k = c.loop-import.import-index in
    let import = c.import-item.result in
    let calls = c.loop-import.calls.items in
    let next = at_drop_more (λ is. is) items k import c.loop-import-test.true ∙ ap (λ i. i ∷ drop (k + 1) items) (sym c.import-item.is) in
    let here = subst (AllByRecursion (IsHostImport c.args.module.now)) next c.loop-import.invariant.rest in
    let named : call_of import ≡ Some c.in-Some.call = ap (λ m. call_named m import.name) (sym c.as_str.ensures)
    ∙ ap (call_named c.as_str.result.now) (sym c.as_str-in-loop-import.ensures) ∙ sym c.named.ensures ∙ c.in-Some.is in
    record {
      rest = here.1;
      calls = c.loop-import.invariant.calls ∙ ap (λ is. map Some calls ++ map call_of (filter is_function is)) next
          ∙ added calls c.push.new.self.items c.in-Some.call import (drop (k + 1) items) (ap is_function_description here.0.describes) named c.in_ok-push-in-Some.ensures.items;
    }

pub returns : goal.returns
returns c =
    let calls = c.loop-import.calls.items in
    ap (λ is. map call_of (filter is_function is)) (sym c.as_slice-import-items.ensures) ∙ c.loop-import.invariant.calls
    ∙ ap (λ others. map Some calls ++ others) (at_drop_all (λ is. map call_of (filter is_function is)) c.as_slice-import-items.result.now c.loop-import.import-index c.loop-import-test.false)
    ∙ append-nil (map Some calls)
