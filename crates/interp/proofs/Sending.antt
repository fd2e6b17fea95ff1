-- What a call has sent and contributed to aggregators stays so.
use Rattle.std.proofs.Common.{◌≡◌, ℕ, ℤ, ◌+◌, ◌≤◌, List, [], ◌∷◌, ◌++◌, Bool, true, false, Option, Some, None, Result, Ok, Err, length, nat_lt, if◌then◌else◌, refl, sym, ap, ◌∙◌, subst, arith, length-append}
use Rattle.std.specs.Prelude.{IsOk, OnErr}
use Rattle.wasm_ast.specs.declared.types.ValType.{ValType}
use Rattle.wasm_ast.specs.declared.types.ValType.TheVariants as val_type
use Rattle.wasm_ast.specs.declared.types.Value.{Value}
use Rattle.wasm_ast.specs.declared.module.Module.{Module}
use Rattle.wasm_ast.specs.Code.{Code}
use Rattle.wasm_ast.specs.Limits.{IsWithinLimits}
use Rattle.verified.specs.declared.call.TheConstants.{AGGREGATORS}
use Rattle.verified.specs.declared.call.CallInput.{CallInput}
use Rattle.verified.specs.declared.imports.HostCall.{HostCall}
use Rattle.verified.specs.declared.imports.HostCall.TheVariants.{VertexId, Superstep, NumVertices, GetValue, SetValue, NextMessage, MessageValue, NextEdge, EdgeTarget, EdgeValue, Send, Aggregate, Aggregated, VoteToHalt}
use Rattle.verified.specs.Effects.{HostEffect, Gives, Traps, Misses, answer}
use Rattle.verified.specs.Host.{Host, host_of, take_edge, take_message}
use Rattle.verified.specs.Operands.{number, with_number, pop}
use Rattle.verified.specs.Modules.{IsTyped}
use Rattle.verified.specs.Memory.{number_of}
use Rattle.verified.specs.Profile.{IsBounded}
use Rattle.semantics.specs.Call.{outcome_of}
use Rattle.semantics.specs.Configuration.{State}
use Rattle.semantics.specs.Effects.{lifted}
use Rattle.semantics.specs.Machine.{Machine, Running, Done, Trapped, Stuck, ControlEntry, after_effect, run}
use Rattle.interp.specs.Room.{IsSilent}
use Rattle.semantics.specs.Start.{Starts}
use Rattle.interp.specs.inside.Begun.{Sends}
use Rattle.interp.specs.inside.Cells.{cell_call, in_width, narrowed, of_any_width}
use Rattle.interp.specs.inside.Given.{HasGiven, HostHasGiven, given, gives}
use Rattle.interp.specs.inside.Going.{is_going}
use Rattle.interp.proofs.Limited.{HostEffectKeeps, Lasts, MachineWithin, run_within}
use Rattle.semantics.proofs.OneEnd.{one_start}
use Rattle.semantics.proofs.Outcomes.{first}
use Rattle.semantics.proofs.RunLaws.{run-add, stays, over_at}
use Rattle.interp.proofs.Staying.{AnyHost, any_lasts, start_within}
use Rattle.semantics.proofs.Told.{always_ends}

-- ---- calls of the host

number_keeps : (o : Option ℕ) (go : ℕ → HostEffect) → ((n : ℕ) → HostEffectKeeps HostHasGiven (go n)) → HostEffectKeeps HostHasGiven (with_number Misses o go)
number_keeps None go h = tt
number_keeps (Some n) go h = h n

pop_keeps : (t : ValType) (vs : List Value) (go : ℕ → List Value → HostEffect) → ((n : ℕ) (us : List Value) → HostEffectKeeps HostHasGiven (go n us)) → HostEffectKeeps HostHasGiven (pop Misses t vs go)
pop_keeps t [] go h = tt
pop_keeps t (v ∷ vs) go h = number_keeps (number t v) (λ n. go n vs) (λ n. h n vs)

slot_keeps : (b : Bool) (vs : List Value) (h : Host) → HostHasGiven h → HostEffectKeeps HostHasGiven (if b then Gives vs h else Traps)
slot_keeps true vs h g = g
slot_keeps false vs h g = tt

message_keeps : (ms : List ℤ) (vs : List Value) (h : Host) → HostHasGiven h → HostEffectKeeps HostHasGiven (answer (take_message ms h) vs)
message_keeps [] vs h g = g
message_keeps (m ∷ ms) vs h g = g

edge_keeps : (es : List (ℤ × ℤ)) (vs : List Value) (h : Host) → HostHasGiven h → HostEffectKeeps HostHasGiven (answer (take_edge es h) vs)
edge_keeps [] vs h g = g
edge_keeps (e ∷ es) vs h g = g

-- one more is something
one_more : {A : Type 0} (xs : List A) (x : A) (n : ℕ) → 1 ≤ length (xs ++ x ∷ []) + n
one_more xs x n = let l = length-append xs (x ∷ []) in omega (arith, l)

one_more_after : {A : Type 0} (xs : List A) (x : A) (n : ℕ) → 1 ≤ n + length (xs ++ x ∷ [])
one_more_after xs x n = let l = length-append xs (x ∷ []) in omega (arith, l)

given_lasts : Lasts HostHasGiven
given_lasts VertexId vs h g = g
given_lasts Superstep vs h g = g
given_lasts NumVertices vs h g = g
given_lasts GetValue vs h g = g
given_lasts SetValue vs h g = pop_keeps val_type.I64 vs _ (λ n us. g)
given_lasts NextMessage vs h g = message_keeps h.messages vs h g
given_lasts MessageValue vs h g = g
given_lasts NextEdge vs h g = edge_keeps h.edges vs h g
given_lasts EdgeTarget vs h g = g
given_lasts EdgeValue vs h g = g
given_lasts Send vs h g = pop_keeps val_type.I64 vs _ (λ n us. pop_keeps val_type.I64 us _ (λ k ws. one_more h.sends _ (length h.contributions)))
given_lasts Aggregate vs h g = pop_keeps val_type.I64 vs _ (λ n us. pop_keeps val_type.I32 us _ (λ k ws. slot_keeps (nat_lt k AGGREGATORS) ws _ (one_more_after h.contributions _ (length h.sends))))
given_lasts Aggregated vs h g = pop_keeps val_type.I32 vs _ (λ k us. slot_keeps (nat_lt k AGGREGATORS) _ h g)
given_lasts VoteToHalt vs h g = g

-- ---- runs

with_given : (x : Machine) → MachineWithin AnyHost x → HasGiven x → MachineWithin HostHasGiven x
with_given (Running vs is ls st) w g = ((w.0.0, g), w.1)
with_given (Done st) w g = g
with_given (Trapped count) w g = absurd g
with_given (Stuck count) w g = absurd g

empty : {A : Type 0} (xs : List A) → xs ≡ [] → length xs ≡ 0
empty xs e = ap length e

-- a call that has given something is not silent
pub not_silent : (m : Module) → IsTyped m → IsBounded m → IsWithinLimits m → (input : CallInput) (x : Machine) → Starts m input x → (n : ℕ) → HasGiven (run m n x) → IsSilent m input → ⊥
not_silent m typed bounded limits input x starts n has silent =
    let e = (always_ends m typed bounded input).3 in
    let d = first m e.steps e.first e.final e.done in
    let done : run m d.steps x ≡ Done d.final = ap (λ (y : Machine). run m d.steps y) (one_start m input x e.first starts e.starts) ∙ d.done in
    let here = run_within AnyHost m limits.functions any_lasts n x (start_within AnyHost m limits (host_of input) x starts tt) in
    let there = run_within HostHasGiven m limits.functions given_lasts d.steps (run m n x) (with_given (run m n x) here has) in
    let h : d.steps ≤ n + d.steps = omega arith in
    let s : run m d.steps (run m n x) ≡ Done d.final = sym (run-add m n d.steps x) ∙ stays m d.steps (n + d.steps) x (over_at m d.steps x (Done d.final) done tt) h ∙ done in
    let g : HostHasGiven d.final.host = subst (λ (y : Machine). MachineWithin HostHasGiven y) s there in
    let none = silent (outcome_of d.final) (record { first = e.first; starts = e.starts; steps = d.steps; final = d.final; done = d.done; least = d.least; leaves = refl }) in
    absurd (omega (arith, g, empty d.final.host.sends none.0, empty d.final.host.contributions none.1))

-- ---- where memory runs out

slot_gives : (b : Bool) (vs : List Value) (h : Host) (is : Code) (ls : List ControlEntry) (st : State) (count : ℕ) → 1 ≤ given h → is_going (after_effect (lifted st (if b then Gives vs h else Traps)) is ls count) ≡ true → HasGiven (after_effect (lifted st (if b then Gives vs h else Traps)) is ls count)
slot_gives true vs h is ls st count g e = g
slot_gives false vs h is ls st count g e = absurd cc

-- a call that may take memory gives something where it is done
pub call_gives : (c : HostCall) (vs : List Value) (is : Code) (ls : List ControlEntry) (st : State) (count : ℕ) → gives c ≡ true → is_going (after_effect (cell_call of_any_width c vs st) is ls count) ≡ true → HasGiven (after_effect (cell_call in_width c vs st) is ls count)
call_gives Send [] is ls st count g e = absurd cc
call_gives Send (v ∷ []) is ls st count g e = absurd cc
call_gives Send (v ∷ u ∷ vs) is ls st count g e = one_more st.host.sends _ (length st.host.contributions)
call_gives Aggregate [] is ls st count g e = absurd cc
call_gives Aggregate (v ∷ []) is ls st count g e = absurd cc
call_gives Aggregate (v ∷ u ∷ vs) is ls st count g e = slot_gives (nat_lt (narrowed val_type.I32 (number_of u)) AGGREGATORS) vs _ is ls st count (one_more_after st.host.contributions _ (length st.host.sends)) e
call_gives VertexId vs is ls st count g e = absurd cc
call_gives Superstep vs is ls st count g e = absurd cc
call_gives NumVertices vs is ls st count g e = absurd cc
call_gives GetValue vs is ls st count g e = absurd cc
call_gives SetValue vs is ls st count g e = absurd cc
call_gives NextMessage vs is ls st count g e = absurd cc
call_gives MessageValue vs is ls st count g e = absurd cc
call_gives NextEdge vs is ls st count g e = absurd cc
call_gives EdgeTarget vs is ls st count g e = absurd cc
call_gives EdgeValue vs is ls st count g e = absurd cc
call_gives Aggregated vs is ls st count g e = absurd cc
call_gives VoteToHalt vs is ls st count g e = absurd cc

pub on_any : {T E : Type 0} (r : Result T E) (P : Type 0) → P → OnErr r P
on_any (Ok x) P p = tt
on_any (Err e) P p = p

-- ---- the answer of a call

pub silent_ok : {T E : Type 0} (r : Result T E) (m k : Module) → m ≡ k → IsTyped k → IsBounded k → IsWithinLimits k → (input : CallInput) → OnErr r (Sends m input) → IsSilent k input → IsOk r
silent_ok (Ok x) m k same typed bounded limits input h silent = refl
silent_ok (Err e) m k same typed bounded limits input h silent =
    let s = subst (λ (j : Module). Sends j input) same h in
    absurd (not_silent k typed bounded limits input s.0 s.1 s.2.0 s.2.1 silent)
