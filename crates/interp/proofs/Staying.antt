-- The number of control entries and locals in a call of a bounded module, and that what it sent stays sent.
use Rattle.std.proofs.Common.{◌≡◌, ℕ, ◌≤◌, length, refl, sym, subst, arith}
use Rattle.std.proofs.lemmas.List.{length-map}
use Rattle.wasm_ast.specs.declared.module.Function.{Function}
use Rattle.wasm_ast.specs.declared.module.Module.{Module}
use Rattle.wasm_ast.specs.Limits.{IsFunctionWithin, IsWithinLimits, max_locals, max_nesting}
use Rattle.wasm_ast.specs.Values.{zero_of}
use Rattle.verified.specs.Effects.{HostEffect, Gives, Traps, Misses, host_effect}
use Rattle.verified.specs.Host.{Host, host_of}
use Rattle.verified.specs.declared.call.CallInput.{CallInput}
use Rattle.verified.specs.Modules.{IsTyped}
use Rattle.verified.specs.Profile.{IsBounded}
use Rattle.semantics.specs.Heights.{frames, entries, locals, operands}
use Rattle.semantics.specs.Machine.{Machine, Running, Done, Trapped, Stuck, run}
use Rattle.interp.specs.Room.{CallsStayWithin, most_entries, most_locals}
use Rattle.semantics.specs.Start.{Starts, StartsFrom}
use Rattle.interp.specs.inside.Begun.{EndsEachWithin, EndsInRoom, HasRoom, HasStartRoom}
use Rattle.interp.specs.inside.Place.{Room}
use Rattle.interp.specs.inside.Walk.{IsWithinRoom}
use Rattle.semantics.proofs.Fixed.{sizes_there}
use Rattle.interp.proofs.Functions.{of_defined}
use Rattle.interp.proofs.Limited.{HostEffectKeeps, Lasts, MachineWithin, few_held, few_entries, run_within}
use Rattle.semantics.proofs.OneEnd.{one_start}
use Rattle.semantics.proofs.Told.{facts_hold}
use Rattle.semantics.proofs.Whole.{calls_end}

-- ---- what lasts

abbrev pub AnyHost : Host → Type 0
AnyHost h = Unit {0}

any_effect : (e : HostEffect) → HostEffectKeeps AnyHost e
any_effect (Gives vs h) = tt
any_effect Traps = tt
any_effect Misses = tt

pub any_lasts : Lasts AnyHost
any_lasts c vs h q = any_effect (host_effect c vs h)

-- ---- the start

pub start_within : (Q : Host → Type 0) (m : Module) → IsWithinLimits m → (h : Host) (first : Machine) → StartsFrom m h first → Q h → MachineWithin Q first
start_within Q m limits h first s q =
    let w = of_defined m (IsFunctionWithin m.types) limits.functions s.begins.number s.function s.begins.is_defined in
    let n = length-map s.function.locals zero_of in
    subst (λ (x : Machine). MachineWithin Q x) (sym s.is) ((omega (arith, n, w.0), q), (max_nesting, w.1, refl))

-- ---- how many stand

few_at : (F : ℕ) (x : Machine) → MachineWithin AnyHost x → frames x ≤ F → (entries x ≤ most_entries F) × (locals x ≤ most_locals F)
few_at F (Running vs is ls st) w h =
    let a = few_entries w.1.0 ls w.1.2 in
    let b = few_held w.1.0 ls w.1.2 in
    (omega (arith, a, h), omega (arith, b, h, w.0.0))
few_at F (Done st) w h = (omega arith, omega arith)
few_at F (Trapped count) w h = (omega arith, omega arith)
few_at F (Stuck count) w h = (omega arith, omega arith)

pub calls_stay_within : (m : Module) → CallsStayWithin m
calls_stay_within m typed bounded limits facts are input first starts =
    let e = facts_hold m typed bounded facts are input in
    let same = one_start m input e.first first e.starts starts in
    let start = start_within AnyHost m limits (host_of input) first starts tt in
    let few : (n : ℕ) → (entries (run m n first) ≤ most_entries facts.max_frames) × (locals (run m n first) ≤ most_locals facts.max_frames) = λ n.
    few_at facts.max_frames (run m n first) (run_within AnyHost m limits.functions any_lasts n first start) (subst (λ (x : Machine). frames (run m n x) ≤ facts.max_frames) same (e.shallow n)) in
    record { few_entries = λ n. (few n).0; few_locals = λ n. (few n).1 }

-- where there is room for the most that a call has, there is always room for another frame
pub low_room : (m : Module) → IsTyped m → IsBounded m → IsWithinLimits m → (room : Room) → HasRoom m room → (input : CallInput) (x : Machine) → Starts m input x → (n : ℕ) → IsWithinRoom room (run m n x)
low_room m typed bounded limits room has input x starts n =
    let d = has.told bounded.compute in
    let s = sizes_there m bounded.acyclic in
    let h = has.told_height bounded.compute in
    let e = calls_end m typed bounded s.0 h.0 d.0 s.1 h.1 d.1 input in
    let same = one_start m input e.first x e.starts starts in
    let low : operands (run m n x) ≤ has.height = subst (λ (k : ℕ). operands (run m n x) ≤ k) h.2 (subst (λ (y : Machine). operands (run m n y) ≤ h.0 bounded.compute.number) same (e.low n)) in
    let start = start_within AnyHost m limits (host_of input) x starts tt in
    let shallow : frames (run m n x) ≤ has.frames = subst (λ (k : ℕ). frames (run m n x) ≤ k) d.2 (subst (λ (y : Machine). frames (run m n y) ≤ d.0 bounded.compute.number) same (e.shallow n)) in
    let few = few_at has.frames (run m n x) (run_within AnyHost m limits.functions any_lasts n x start) shallow in
    record { few_entries = omega (arith, few.0, has.few_entries); few_operands = omega (arith, low, has.few_operands); few_locals = omega (arith, few.1, has.few_locals) }

-- the same of an equal module, whose calls end
pub in_room : (m k : Module) → m ≡ k → IsTyped m → IsBounded m → IsWithinLimits m → (room : Room) → HasRoom m room → (input : CallInput) (most : ℕ) → EndsEachWithin k input most → EndsInRoom k input most room
in_room m k same typed bounded limits room has input most ends =
    let low : (x : Machine) → Starts m input x → (n : ℕ) → IsWithinRoom room (run m n x) = low_room m typed bounded limits room has input in
    let there = subst (λ (j : Module). (x : Machine) → Starts j input x → (n : ℕ) → IsWithinRoom room (run j n x)) same low in
    λ x s. (ends x s, there x s)

pub start_room : (m k : Module) → m ≡ k → (function : Function) (room : Room) → HasRoom m room → length function.locals ≤ max_locals → HasStartRoom k function room
start_room m k same function room has few =
    subst (λ (j : Module). HasStartRoom j function room) same (record { locals = omega (arith, has.few_locals, few); globals = has.globals; bytes = has.bytes })
