-- The effect of host calls on the operands, the topmost first (Core 1.0, 4.4.7). A call takes its arguments and leaves
-- its results.
use Rattle.std.specs.Prelude.{◌≡◌, ℕ, ℤ, List, ◌∷◌, ◌++◌, ◌⊎◌, map, Bool, nat_lt, if◌then◌else◌}
use Rattle.std.specs.Int.{cast_unsigned, cast_signed, w64}
use Rattle.wasm_ast.specs.declared.types.ValType.TheVariants as val_type
use Rattle.wasm_ast.specs.declared.types.Value.{Value}
use Rattle.wasm_ast.specs.declared.types.Value.TheVariants.{I32, I64}
use Rattle.wasm_ast.specs.Numeric.{truth}
use Rattle.wasm_ast.specs.Values.{type_of}
use Rattle.verified.specs.declared.call.TheConstants.{AGGREGATORS}
use Rattle.verified.specs.declared.imports.HostCall.{HostCall}
use Rattle.verified.specs.declared.imports.HostCall.TheVariants.{VertexId, Superstep, NumVertices, GetValue, SetValue, NextMessage, MessageValue, NextEdge, EdgeTarget, EdgeValue, Send, Aggregate, Aggregated, VoteToHalt}
use Rattle.verified.specs.Imports.{type_of_call}
use Rattle.verified.specs.Operands.{pop}
use Rattle.verified.specs.Host.{Host, with_value, take_message, take_edge, with_send, with_contribution, with_halt, aggregator_value}

pub data HostEffect : Type 0 where
  Gives : (operands : List Value) (host : Host) → HostEffect
  -- there is no aggregator with this number
  Traps : HostEffect
  -- an operand is missing or of the wrong type
  Misses : HostEffect

-- a signed number as an i64 operand
abbrev pub signed : ℤ → Value
signed z = I64 (cast_unsigned w64 z)

-- whether something was taken, as an i32 operand
abbrev pub answer : Bool × Host → List Value → HostEffect
answer taken vs = Gives (I32 (truth taken.0) ∷ vs) taken.1

-- the effect where there is an aggregator with this number, else a trap
abbrev pub at_slot : ℕ → HostEffect → HostEffect
at_slot slot effect = if nat_lt slot AGGREGATORS then effect else Traps

abbrev pub host_effect : HostCall → List Value → Host → HostEffect
host_effect VertexId vs host = Gives (signed host.id ∷ vs) host
host_effect Superstep vs host = Gives (signed host.superstep ∷ vs) host
host_effect NumVertices vs host = Gives (signed host.num_vertices ∷ vs) host
host_effect GetValue vs host = Gives (signed host.value ∷ vs) host
host_effect SetValue vs host = pop Misses val_type.I64 vs (λ n us. Gives us (with_value host (cast_signed w64 n)))
host_effect NextMessage vs host = answer (take_message host.messages host) vs
host_effect MessageValue vs host = Gives (signed host.message ∷ vs) host
host_effect NextEdge vs host = answer (take_edge host.edges host) vs
host_effect EdgeTarget vs host = Gives (signed host.edge.0 ∷ vs) host
host_effect EdgeValue vs host = Gives (signed host.edge.1 ∷ vs) host
host_effect Send vs host =
    pop Misses val_type.I64 vs (λ value us. pop Misses val_type.I64 us (λ target ws.
    Gives ws (with_send host (cast_signed w64 target) (cast_signed w64 value))))
host_effect Aggregate vs host =
    pop Misses val_type.I64 vs (λ value us. pop Misses val_type.I32 us (λ slot ws.
    at_slot slot (Gives ws (with_contribution host slot (cast_signed w64 value)))))
host_effect Aggregated vs host =
    pop Misses val_type.I32 vs (λ slot us. at_slot slot (Gives (signed (aggregator_value host slot) ∷ us) host))
host_effect VoteToHalt vs host = Gives vs (with_halt host)

-- what a call may do where its arguments are on top of other operands: it leaves its results on them, or traps if it is
-- `aggregate` or `aggregated`
abbrev pub Answers : HostCall → List Value → HostEffect → Type 0
Answers call others (Gives operands host) =
    (results : List Value) × (operands ≡ results ++ others) × (map type_of results ≡ (type_of_call call).results)
Answers call others Traps = (call ≡ Aggregate) ⊎ (call ≡ Aggregated)
Answers call others Misses = ⊥
