-- The table of what calls take and give.
use Rattle.std.proofs.Common.{◌≡◌, ℕ, ◌+◌, ◌<◌, ◌≤◌, List, [], ◌∷◌, ◌++◌, length, take, drop, get_or, map, slice_get, Option, Some, None, append_assoc, refl, sym, ap, ◌∙◌}
use Rattle.std.specs.List.{cons_option}
use Rattle.std.proofs.lemmas.List.{append-nil, at_drop_all, at_drop_more, map-append, map_more, take_all}
use Rattle.wasm_ast.specs.declared.types.FuncType.{FuncType}
use Rattle.wasm_ast.specs.declared.module.Function.{Function}
use Rattle.wasm_ast.specs.declared.module.Import.{Import}
use Rattle.wasm_ast.specs.declared.module.ImportDescription.{ImportDescription}
use Rattle.wasm_ast.specs.declared.module.ImportDescription.TheVariants as description
use Rattle.wasm_ast.specs.declared.module.Module.{Module}
use Rattle.verified.specs.Spaces.{imported, function_import}
use Rattle.verified.specs.declared.arity.Arity.{Arity}
use Rattle.verified.specs.Arities.{type_arity, arity_table}

types_of : (a : ℕ → Arity) (fs : List Function) → map a (map (λ (f : Function). f.type_number) fs) ≡ map (λ (f : Function). a f.type_number) fs
types_of a [] = refl
types_of a (f ∷ fs) = ap (λ xs. a f.type_number ∷ xs) (types_of a fs)

pub table_whole : (m : Module) (table : List Arity) (types : List FuncType) (fs : List Function) (n : ℕ) → types ≡ m.types → fs ≡ m.functions → length fs ≤ n → table ≡ map (λ k. type_arity (slice_get types k)) (imported function_import m.imports) ++ map (λ (f : Function). type_arity (slice_get types f.type_number)) (take n fs) → table ≡ arity_table m
table_whole m table types fs n te fe h e =
    e
    ∙ ap (λ (gs : List Function). map (λ k. type_arity (slice_get types k)) (imported function_import m.imports) ++ map (λ (f : Function). type_arity (slice_get types f.type_number)) gs) (take_all n fs h ∙ fe)
    ∙ ap (λ (ts : List FuncType). map (λ k. type_arity (slice_get ts k)) (imported function_import m.imports) ++ map (λ (f : Function). type_arity (slice_get ts f.type_number)) m.functions) te
    ∙ ap (λ xs. map (λ k. type_arity (slice_get m.types k)) (imported function_import m.imports) ++ xs) (sym (types_of (λ k. type_arity (slice_get m.types k)) m.functions))
    ∙ sym (map-append (λ k. type_arity (slice_get m.types k)) (imported function_import m.imports) (map (λ (f : Function). f.type_number) m.functions))

pub not_function : (d : ImportDescription) → ((n : ℕ) → d ≡ description.Function n → ⊥) → function_import d ≡ None
not_function (description.Function n) h = absurd (h n refl)
not_function (description.Table t) h = refl
not_function (description.Memory t) h = refl
not_function (description.Global t) h = refl

-- what the first import adds, if it is a function, comes before what the others add
split_first : (a : ℕ → Arity) (n : Option ℕ) (ns : List ℕ) → map a (cons_option n ns) ≡ map a (cons_option n []) ++ map a ns
split_first a None ns = refl
split_first a (Some n) ns = refl

-- the table after one more import
pub import_added : (a : ℕ → Arity) (imports : List Import) (k : ℕ) (import : Import) (table new : List Arity)
    → k < length imports → import ≡ get_or imports k import → new ≡ table ++ map a (imported function_import (import ∷ []))
    → map a (imported function_import imports) ≡ table ++ map a (imported function_import (drop k imports))
    → map a (imported function_import imports) ≡ new ++ map a (imported function_import (drop (k + 1) imports))
import_added a imports k import table new h is added before =
    before
    ∙ ap (λ xs. table ++ xs) (at_drop_more (λ is. map a (imported function_import is)) imports k import h
    ∙ ap (λ (i : Import). map a (imported function_import (i ∷ drop (k + 1) imports))) (sym is)
    ∙ split_first a (function_import import.description) (imported function_import (drop (k + 1) imports)))
    ∙ sym (append_assoc table (map a (imported function_import (import ∷ []))) (map a (imported function_import (drop (k + 1) imports))))
    ∙ ap (λ xs. xs ++ map a (imported function_import (drop (k + 1) imports))) (sym added)

-- the table after the last import
pub imports_whole : (a : ℕ → Arity) (m : Module) (imports : List Import) (k : ℕ) (table : List Arity)
    → imports ≡ m.imports → length imports ≤ k
    → map a (imported function_import imports) ≡ table ++ map a (imported function_import (drop k imports))
    → table ≡ map a (imported function_import m.imports) ++ []
imports_whole a m imports k table same h left =
    sym (append-nil table)
    ∙ ap (λ xs. table ++ xs) (sym (at_drop_all (λ is. map a (imported function_import is)) imports k h))
    ∙ sym left
    ∙ ap (λ (is : List Import). map a (imported function_import is)) same
    ∙ sym (append-nil (map a (imported function_import m.imports)))

-- the table after one more function
pub function_added : (a : ℕ → Arity) (fs : List Function) (k : ℕ) (f : Function) (first table new : List Arity)
    → k < length fs → f ≡ get_or fs k f → table ≡ first ++ map (λ (f : Function). a f.type_number) (take k fs)
    → new ≡ table ++ a f.type_number ∷ [] → new ≡ first ++ map (λ (f : Function). a f.type_number) (take (k + 1) fs)
function_added a fs k f first table new h is before added =
    added ∙ ap (λ xs. xs ++ a f.type_number ∷ []) before ∙ append_assoc first (map (λ (f : Function). a f.type_number) (take k fs)) (a f.type_number ∷ [])
    ∙ ap (λ (g : Function). first ++ (map (λ (f : Function). a f.type_number) (take k fs) ++ a g.type_number ∷ [])) is
    ∙ ap (λ xs. first ++ xs) (sym (map_more (λ (f : Function). a f.type_number) fs k f h))
