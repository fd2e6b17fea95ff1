-- The table of the host's functions is that of the imports.
use Rattle.std.proofs.Common.{◌≡◌, ◌↔◌, inl, inr, ℕ, List, [], ◌∷◌, slice_get, Option, Some, None, refl, sym, ap, ◌∙◌, subst}
use Rattle.std.specs.Prelude.{filter}
use Rattle.std.specs.Option.{option_and_then, option_flatten, option_map}
use Rattle.std.specs.List.{AllByRecursion}
use Rattle.std.proofs.lemmas.Option.{slice_get-map}
use Rattle.wasm_ast.specs.declared.module.Import.{Import}
use Rattle.wasm_ast.specs.declared.module.Function.{Function}
use Rattle.wasm_ast.specs.declared.module.Module.{Module}
use Rattle.wasm_ast.specs.Limits.{is_function}
use Rattle.wasm_ast.specs.Code.{Code}
use Rattle.wasm_ast.specs.Code as code
use Rattle.verified.specs.declared.imports.HostCall.{HostCall}
use Rattle.verified.specs.declared.shape.Shape.TheVariants as shape
use Rattle.verified.specs.Imports.{call_of}
use Rattle.verified.specs.Hosts.{host_call_at, host_table, call_at}
use Rattle.verified.specs.Profile.{EachBody, LoopsTakeItems}
use Rattle.verified.specs.Shapes.{Everywhere, LoopTakes, TakesItems, TakesItem, Keeps}

at_same : (m : Module) (f : ℕ) → call_at (host_table m) f ≡ host_call_at m f
at_same m f = ap option_flatten (slice_get-map call_of (filter is_function m.imports) f) ∙ by_import (slice_get (filter is_function m.imports) f)
  where
    by_import : (o : Option Import) → option_flatten (option_map call_of o) ≡ option_and_then call_of o
    by_import None = refl
    by_import (Some i) = refl

body_same : (p q : ℕ → Option HostCall) → ((f : ℕ) → p f ≡ q f) → (body : Code) → TakesItems p body → TakesItems q body
body_same p q e body (inl h) = inl (record {
  function = h.function;
  label = h.label;
  rest = h.rest;
  opens = h.opens;
  takes = subst TakesItem (e h.function) h.takes;
  leaves = h.leaves;
})
body_same p q e body (inr h) = inr (record {
  front = h.front;
  function = h.function;
  closes = h.closes;
  takes = subst TakesItem (e h.function) h.takes;
  alone = h.alone;
})

loop_same : (p q : ℕ → Option HostCall) → ((f : ℕ) → p f ≡ q f) → (c : Code) → LoopTakes p c → LoopTakes q c
loop_same p q e code.end h = tt
loop_same p q e (code.plain x rest) h = tt
loop_same p q e (code.branch b rest) h = tt
loop_same p q e (code.call f rest) h = tt
loop_same p q e (code.call_indirect t rest) h = tt
loop_same p q e (code.unreachable rest) h = tt
loop_same p q e (code.block t body rest) h = tt
loop_same p q e (code.loop t body rest) h = body_same p q e body h
loop_same p q e (code.choice t body other rest) h = tt

everywhere_same : (P Q : Code → Type 0) → ((c : Code) → P c → Q c) → (c : Code) → Everywhere P c → Everywhere Q c
everywhere_same P Q g code.end h = tt
everywhere_same P Q g (code.plain p rest) h = (g _ h.0, everywhere_same P Q g rest h.1)
everywhere_same P Q g (code.branch b rest) h = (g _ h.0, everywhere_same P Q g rest h.1)
everywhere_same P Q g (code.call f rest) h = (g _ h.0, everywhere_same P Q g rest h.1)
everywhere_same P Q g (code.call_indirect t rest) h = (g _ h.0, everywhere_same P Q g rest h.1)
everywhere_same P Q g (code.unreachable rest) h = (g _ h.0, everywhere_same P Q g rest h.1)
everywhere_same P Q g (code.block t body rest) h =
    (g _ h.0, everywhere_same P Q g body h.1, everywhere_same P Q g rest h.2)
everywhere_same P Q g (code.loop t body rest) h =
    (g _ h.0, everywhere_same P Q g body h.1, everywhere_same P Q g rest h.2)
everywhere_same P Q g (code.choice t body other rest) h =
    (g _ h.0, everywhere_same P Q g body h.1, everywhere_same P Q g other h.2, everywhere_same P Q g rest h.3)

each_same : (P Q : Code → Type 0) → ((c : Code) → P c → Q c) → (fs : List Function) → AllByRecursion (λ (f : Function). Everywhere P f.body) fs → AllByRecursion (λ (f : Function). Everywhere Q f.body) fs
each_same P Q g [] h = tt
each_same P Q g (f ∷ fs) h = (everywhere_same P Q g f.body h.0, each_same P Q g fs h.1)

-- by the table or by the imports
pub by_table : (m : Module) (table : List (Option HostCall)) → table ≡ host_table m → EachBody (Keeps (call_at table) shape.LoopsTakeItems) m ↔ LoopsTakeItems m
by_table m table e =
    let same : (f : ℕ) → call_at table f ≡ host_call_at m f = λ f. ap (λ t. call_at t f) e ∙ at_same m f in
    (each_same (LoopTakes (call_at table)) (LoopTakes (host_call_at m)) (loop_same (call_at table) (host_call_at m) same) m.functions, each_same (LoopTakes (host_call_at m)) (LoopTakes (call_at table)) (loop_same (host_call_at m) (call_at table) (λ f. sym (same f))) m.functions)
