-- The functions of module `pregel` that a module may import, by name and type.
use Rattle.std.specs.Prelude.{◌≡◌, ℕ, List, [], ◌∷◌, Option, find, codes, if◌then◌else◌, None, bytes_eq}
use Rattle.wasm_ast.specs.declared.types.ValType.TheVariants.{I32, I64}
use Rattle.wasm_ast.specs.declared.types.FuncType.{FuncType}
use Rattle.wasm_ast.specs.declared.module.Import.{Import}
use Rattle.verified.specs.declared.imports.HostCall.{HostCall}
use Rattle.verified.specs.declared.imports.HostCall.TheVariants.{VertexId, Superstep, NumVertices, GetValue, SetValue, NextMessage, MessageValue, NextEdge, EdgeTarget, EdgeValue, Send, Aggregate, Aggregated, VoteToHalt}

abbrev pub module_name : List ℕ
module_name = codes "pregel"

abbrev pub name_of : HostCall → List ℕ
name_of VertexId = codes "vertex_id"
name_of Superstep = codes "superstep"
name_of NumVertices = codes "num_vertices"
name_of GetValue = codes "get_value"
name_of SetValue = codes "set_value"
name_of NextMessage = codes "next_message"
name_of MessageValue = codes "message_value"
name_of NextEdge = codes "next_edge"
name_of EdgeTarget = codes "edge_target"
name_of EdgeValue = codes "edge_value"
name_of Send = codes "send"
name_of Aggregate = codes "aggregate"
name_of Aggregated = codes "aggregated"
name_of VoteToHalt = codes "vote_to_halt"

abbrev pub gives_i64 : FuncType
gives_i64 = record { parameters = []; results = I64 ∷ [] }

abbrev pub type_of_call : HostCall → FuncType
type_of_call VertexId = gives_i64
type_of_call Superstep = gives_i64
type_of_call NumVertices = gives_i64
type_of_call GetValue = gives_i64
type_of_call SetValue = record { parameters = I64 ∷ []; results = [] }
type_of_call NextMessage = record { parameters = []; results = I32 ∷ [] }
type_of_call MessageValue = gives_i64
type_of_call NextEdge = record { parameters = []; results = I32 ∷ [] }
type_of_call EdgeTarget = gives_i64
type_of_call EdgeValue = gives_i64
type_of_call Send = record { parameters = I64 ∷ I64 ∷ []; results = [] }
type_of_call Aggregate = record { parameters = I32 ∷ I64 ∷ []; results = [] }
type_of_call Aggregated = record { parameters = I32 ∷ []; results = I64 ∷ [] }
type_of_call VoteToHalt = record { parameters = []; results = [] }

abbrev pub all_calls : List HostCall
all_calls =
    VertexId ∷ Superstep ∷ NumVertices ∷ GetValue ∷ SetValue ∷ NextMessage ∷ MessageValue ∷ NextEdge ∷ EdgeTarget
    ∷ EdgeValue ∷ Send ∷ Aggregate ∷ Aggregated ∷ VoteToHalt ∷ []

-- the host function with this module and name
abbrev pub call_named : List ℕ → List ℕ → Option HostCall
call_named «module» name =
    if bytes_eq «module» module_name then find (λ call. bytes_eq (name_of call) name) all_calls else None

-- the host function with the import's module and name, whatever its type
abbrev pub call_of : Import → Option HostCall
call_of i = call_named i.«module» i.name

-- An import of this module, name and type brings in the host function `call`.
pub record BringsIn («module» name : List ℕ) (func_type : FuncType) (call : HostCall) : Type 0 where
  pub of_module : «module» ≡ module_name
  pub of_name : name ≡ name_of call
  pub of_type : func_type ≡ type_of_call call
