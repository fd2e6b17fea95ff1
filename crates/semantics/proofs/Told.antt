-- The bound by the facts of a module, and without any.
use Rattle.std.proofs.Common.{ℕ, ◌+◌, ◌*◌, subst}
use Rattle.wasm_ast.specs.declared.module.Module.{Module}
use Rattle.verified.specs.declared.call.CallInput.{CallInput}
use Rattle.verified.specs.Modules.{IsTyped}
use Rattle.verified.specs.Profile.{IsBounded}
use Rattle.semantics.specs.Bounded.{Ends, FactsHold, ComesToItsEnd, items_of}
use Rattle.semantics.proofs.Whole.{calls_end}
use Rattle.semantics.proofs.Fixed.{depths_there, sizes_there, heights_there}

pub facts_hold : (m : Module) → FactsHold m
facts_hold m typed bounded facts are input =
    let a = are bounded.compute in
    let s = a.size in
    let h = a.operands in
    let d = a.frames in
    let f = bounded.compute.number in
    let all = calls_end m typed bounded s.0 h.0 d.0 s.1 h.1 d.1 input in
    let sized = subst (λ (n : ℕ). Ends m input (n * (1 + items_of input)) (h.0 f) (d.0 f)) s.2 all in
    let high = subst (λ (n : ℕ). Ends m input (facts.size * (1 + items_of input)) n (d.0 f)) h.2 sized in
    subst (λ (n : ℕ). Ends m input (facts.size * (1 + items_of input)) facts.max_operands n) d.2 high

pub always_ends : (m : Module) → IsTyped m → IsBounded m → (input : CallInput) → ComesToItsEnd m input
always_ends m typed bounded input =
    let s = sizes_there m bounded.acyclic in
    let h = heights_there m bounded.acyclic in
    let d = depths_there m bounded.acyclic in
    let f = bounded.compute.number in
    (s.0 f * (1 + items_of input), h.0 f, d.0 f, calls_end m typed bounded s.0 h.0 d.0 s.1 h.1 d.1 input)
