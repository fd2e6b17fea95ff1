-- What the host's calls leave where their arguments have the right types.
use Rattle.std.proofs.Common.{◌≡◌, ℕ, Bool, true, false, List, [], ◌∷◌, ◌++◌, map, reverse, nat_lt, inl, inr, refl, if◌then◌else◌}
use Rattle.wasm_ast.specs.declared.types.ValType.{ValType}
use Rattle.wasm_ast.specs.declared.types.ValType.TheVariants as val_type
use Rattle.wasm_ast.specs.declared.types.Value.{Value}
use Rattle.wasm_ast.specs.declared.types.Value.TheVariants.{I32, I64}
use Rattle.wasm_ast.specs.Numeric.{truth}
use Rattle.wasm_ast.specs.Values.{type_of}
use Rattle.verified.specs.declared.call.TheConstants.{AGGREGATORS}
use Rattle.verified.specs.declared.imports.HostCall.{HostCall}
use Rattle.verified.specs.declared.imports.HostCall.TheVariants.{VertexId, Superstep, NumVertices, GetValue, SetValue, NextMessage, MessageValue, NextEdge, EdgeTarget, EdgeValue, Send, Aggregate, Aggregated, VoteToHalt}
use Rattle.verified.specs.Effects.{HostEffect, Traps, signed, host_effect, Answers}
use Rattle.verified.specs.Host.{Host, take_message, take_edge, aggregator_value}
use Rattle.verified.specs.Imports.{type_of_call}

no_argument : (vs : List Value) → map type_of vs ≡ [] → vs ≡ []
no_argument [] e = refl
no_argument (v ∷ vs) e = absurd cc

one_i64 : (vs : List Value) → map type_of vs ≡ val_type.I64 ∷ [] → (n : ℕ) × (vs ≡ I64 n ∷ [])
one_i64 [] e = absurd cc
one_i64 (I32 n ∷ vs) e = absurd cc
one_i64 (I64 n ∷ []) e = (n, refl)
one_i64 (I64 n ∷ v ∷ vs) e = absurd cc

one_i32 : (vs : List Value) → map type_of vs ≡ val_type.I32 ∷ [] → (n : ℕ) × (vs ≡ I32 n ∷ [])
one_i32 [] e = absurd cc
one_i32 (I64 n ∷ vs) e = absurd cc
one_i32 (I32 n ∷ []) e = (n, refl)
one_i32 (I32 n ∷ v ∷ vs) e = absurd cc

-- a topmost i64, and what lies beneath
first_i64 : (vs : List Value) (t : ValType) → map type_of vs ≡ val_type.I64 ∷ t ∷ [] → (n : ℕ) × (us : List Value) × (vs ≡ I64 n ∷ us) × (map type_of us ≡ t ∷ [])
first_i64 [] t e = absurd cc
first_i64 (I32 n ∷ vs) t e = absurd cc
first_i64 (I64 n ∷ vs) t e = (n, vs, refl, cc)

slotted : (b : Bool) (call : HostCall) (others : List Value) (effect : HostEffect) → Answers call others effect → Answers call others Traps → Answers call others (if b then effect else Traps)
slotted true call others effect gives traps = gives
slotted false call others effect gives traps = traps

pub fits : (call : HostCall) (arguments others : List Value) (host : Host) → map type_of arguments ≡ reverse (type_of_call call).parameters → Answers call others (host_effect call (arguments ++ others) host)
fits VertexId vs others host e = rw (no_argument vs e) (signed host.id ∷ [], refl, refl)
fits Superstep vs others host e = rw (no_argument vs e) (signed host.superstep ∷ [], refl, refl)
fits NumVertices vs others host e = rw (no_argument vs e) (signed host.num_vertices ∷ [], refl, refl)
fits GetValue vs others host e = rw (no_argument vs e) (signed host.value ∷ [], refl, refl)
fits SetValue vs others host e = rw (one_i64 vs e).1 ([], refl, refl)
fits NextMessage vs others host e = rw (no_argument vs e) (I32 (truth (take_message host.messages host).0) ∷ [], refl, refl)
fits MessageValue vs others host e = rw (no_argument vs e) (signed host.message ∷ [], refl, refl)
fits NextEdge vs others host e = rw (no_argument vs e) (I32 (truth (take_edge host.edges host).0) ∷ [], refl, refl)
fits EdgeTarget vs others host e = rw (no_argument vs e) (signed host.edge.0 ∷ [], refl, refl)
fits EdgeValue vs others host e = rw (no_argument vs e) (signed host.edge.1 ∷ [], refl, refl)
fits Send vs others host e =
    let top = first_i64 vs val_type.I64 e in
    let next = one_i64 top.1 top.3 in
    rw (top.2, next.1) ([], refl, refl)
fits Aggregate vs others host e =
    let top = first_i64 vs val_type.I32 e in
    let next = one_i32 top.1 top.3 in
    rw (top.2, next.1) (slotted (nat_lt next.0 AGGREGATORS) Aggregate others _ ([], refl, refl) (inl refl))
fits Aggregated vs others host e =
    let only = one_i32 vs e in
    rw only.1 (slotted (nat_lt only.0 AGGREGATORS) Aggregated others _ (signed (aggregator_value host only.0) ∷ [], refl, refl) (inr refl))
fits VoteToHalt vs others host e = rw (no_argument vs e) ([], refl, refl)
