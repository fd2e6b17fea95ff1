-- The results of host calls, where their operands meet the requirements.
use Rattle.std.proofs.Common.{◌≡◌, ℕ, ◌+◌, ◌<◌, ℤ, Bool, List, [], ◌∷◌, ◌++◌, length, Option, Some, if◌then◌else◌, refl, ap, ◌∙◌, arith}
use Rattle.std.specs.Int.{cast_signed, w64}
use Rattle.std.proofs.lemmas.Bool.{lt-ltb}
use Rattle.wasm_ast.specs.declared.types.ValType.{ValType}
use Rattle.wasm_ast.specs.declared.types.ValType.TheVariants as val_type
use Rattle.wasm_ast.specs.declared.types.Value.{Value}
use Rattle.wasm_ast.specs.declared.types.Value.TheVariants.{I32}
use Rattle.wasm_ast.specs.declared.module.Module.{Module}
use Rattle.verified.specs.declared.imports.HostCall.{HostCall}
use Rattle.verified.specs.declared.imports.HostCall.TheVariants.{VertexId, Superstep, NumVertices, GetValue, SetValue, NextMessage, MessageValue, NextEdge, EdgeTarget, EdgeValue, Send, Aggregate, Aggregated, VoteToHalt}
use Rattle.verified.specs.Imports.{type_of_call}
use Rattle.verified.specs.Operands.{pop}
use Rattle.verified.specs.Host.{Host, with_value, take_message, take_edge, with_send, with_contribution, with_halt, aggregator_value}
use Rattle.verified.specs.Effects.{HostEffect, host_effect, signed, answer, at_slot}
use Rattle.verified.specs.Effects as host
use Rattle.verified.specs.declared.requirements.Premise.TheVariants as premise
use Rattle.verified.specs.declared.requirements.Requirement.{Requirement}
use Rattle.verified.specs.declared.requirements.Requirement.TheVariants as requirement
use Rattle.verified.specs.Spaces.{first_type}
use Rattle.verified.specs.Kinds.{Kind, Any, kinds}
use Rattle.verified.specs.Memory.{memory_bytes, number_of}
use Rattle.verified.specs.Known.{call_requirements}
use Rattle.semantics.specs.Configuration.{State, with_host}
use Rattle.semantics.specs.Effects.{lifted}
use Rattle.semantics.proofs.Values.{HasKinds, Takes, kept, popped_any, popped_known}
use Rattle.semantics.proofs.Sound.{Sound, Given, items_left}
use Rattle.semantics.proofs.Plains.{context}

module _ (m : Module) (ls : List ValType) where
  -- a call that leaves these operands and this host, which has no other items but those that were taken
  hosted : (effect : HostEffect) (st : State) (to : List Kind) (vs : List Value) (h : Host) (taken : ℕ) → effect ≡ host.Gives vs h → HasKinds vs to → items_left st.host ≡ taken + items_left h → Sound m ls st → Given m ls (lifted st effect) st to
  hosted effect st to vs h taken e k i s = record {
    values = vs;
    state = with_host st h;
    gives = ap (λ (x : HostEffect). lifted st x) e;
    kinds = k;
    sound = record { locals_typed = s.locals_typed; globals_typed = s.globals_typed; bytes_there = s.bytes_there };
    taken = taken;
    items = i;
    counts = refl;
  }

  abbrev HostGives : List Requirement → List Kind → (List Value → Host → HostEffect) → Type 0
  HostGives ws given act =
      (vs us : List Value) (st : State) (below : List Kind) → Takes (memory_bytes m) ws vs us → HasKinds us below → Sound m ls st → Given m ls (lifted st (act vs st.host)) st (given ++ below)

  gives_number : (f : Host → ℤ) → HostGives [] (Any val_type.I64 ∷ []) (λ vs h. host.Gives (signed (f h) ∷ vs) h)
  gives_number f vs us st below k h s = hosted _ st _ (signed (f st.host) ∷ vs) st.host 0 refl (refl, kept vs us below k h) (omega arith) s

  sets_value : HostGives (requirement.Value val_type.I64 ∷ []) [] (host_effect SetValue)
  sets_value [] us st below k h s = absurd k
  sets_value (v ∷ vs) us st below k h s =
      hosted _ st below vs (with_value st.host (cast_signed w64 (number_of v))) 0 (popped_any host.Misses val_type.I64 v vs (λ n ws. host.Gives ws (with_value st.host (cast_signed w64 n))) k.0) (kept vs us below k.1 h) (omega arith) s

  message_taken : (ms : List ℤ) (vs us : List Value) (st : State) (below : List Kind) → st.host.messages ≡ ms → HasKinds vs below → Sound m ls st → Given m ls (lifted st (answer (take_message ms st.host) vs)) st (Any val_type.I32 ∷ below)
  message_taken [] vs us st below e h s = hosted _ st _ (I32 0 ∷ vs) st.host 0 refl (refl, h) (omega arith) s
  message_taken (x ∷ ms) vs us st below e h s =
      let n : length st.host.messages ≡ length (x ∷ ms) = ap (λ (l : List ℤ). length l) e in
      hosted _ st _ (I32 1 ∷ vs) (take_message (x ∷ ms) st.host).1 1 refl (refl, h) (omega (arith, n)) s

  edge_taken : (es : List (ℤ × ℤ)) (vs us : List Value) (st : State) (below : List Kind) → st.host.edges ≡ es → HasKinds vs below → Sound m ls st → Given m ls (lifted st (answer (take_edge es st.host) vs)) st (Any val_type.I32 ∷ below)
  edge_taken [] vs us st below e h s = hosted _ st _ (I32 0 ∷ vs) st.host 0 refl (refl, h) (omega arith) s
  edge_taken (x ∷ es) vs us st below e h s =
      let n : length st.host.edges ≡ length (x ∷ es) = ap (λ (l : List (ℤ × ℤ)). length l) e in
      hosted _ st _ (I32 1 ∷ vs) (take_edge (x ∷ es) st.host).1 1 refl (refl, h) (omega (arith, n)) s

  sends : HostGives (requirement.Value val_type.I64 ∷ requirement.Value val_type.I64 ∷ []) [] (host_effect Send)
  sends [] us st below k h s = absurd k
  sends (v ∷ []) us st below k h s = absurd k.1
  sends (v ∷ t ∷ vs) us st below k h s =
      hosted _ st below vs (with_send st.host (cast_signed w64 (number_of t)) (cast_signed w64 (number_of v))) 0
      (popped_any host.Misses val_type.I64 v (t ∷ vs) (λ value us. pop host.Misses val_type.I64 us (λ target ws. host.Gives ws (with_send st.host (cast_signed w64 target) (cast_signed w64 value)))) k.0
      ∙ popped_any host.Misses val_type.I64 t vs (λ target ws. host.Gives ws (with_send st.host (cast_signed w64 target) (cast_signed w64 (number_of v)))) k.1.0)
      (kept vs us below k.1.1 h) (omega arith) s

  there_is : (n : ℕ) (effect : HostEffect) → n < 8 → at_slot n effect ≡ effect
  there_is n effect h = ap (λ (b : Bool). if b then effect else host.Traps) (lt-ltb n 8 h)

  aggregates : HostGives (requirement.Value val_type.I64 ∷ requirement.Constant val_type.I32 premise.IsSlot ∷ []) [] (host_effect Aggregate)
  aggregates [] us st below k h s = absurd k
  aggregates (v ∷ []) us st below k h s = absurd k.1
  aggregates (v ∷ a ∷ vs) us st below k h s =
      let n = k.1.0.0 in
      let after = host.Gives vs (with_contribution st.host n (cast_signed w64 (number_of v))) in
      hosted _ st below vs (with_contribution st.host n (cast_signed w64 (number_of v))) 0
      (popped_any host.Misses val_type.I64 v (a ∷ vs) (λ value us. pop host.Misses val_type.I32 us (λ slot ws. at_slot slot (host.Gives ws (with_contribution st.host slot (cast_signed w64 value))))) k.0
      ∙ popped_known host.Misses val_type.I32 a n vs (λ slot ws. at_slot slot (host.Gives ws (with_contribution st.host slot (cast_signed w64 (number_of v))))) k.1.0.1
      ∙ there_is n after k.1.0.2)
      (kept vs us below k.1.1 h) (omega arith) s

  reads_slot : HostGives (requirement.Constant val_type.I32 premise.IsSlot ∷ []) (Any val_type.I64 ∷ []) (host_effect Aggregated)
  reads_slot [] us st below k h s = absurd k
  reads_slot (a ∷ vs) us st below k h s =
      let n = k.0.0 in
      hosted _ st _ (signed (aggregator_value st.host n) ∷ vs) st.host 0
      (popped_known host.Misses val_type.I32 a n vs (λ slot ws. at_slot slot (host.Gives (signed (aggregator_value st.host slot) ∷ ws) st.host)) k.0.1 ∙ there_is n (host.Gives (signed (aggregator_value st.host n) ∷ vs) st.host) k.0.2)
      (refl, kept vs us below k.1 h) (omega arith) s

  halts : HostGives [] [] (host_effect VoteToHalt)
  halts vs us st below k h s = hosted _ st below vs (with_halt st.host) 0 refl (kept vs us below k h) (omega arith) s

  pub host_given : (call : HostCall) (o : Option ValType) (labels : List (Option ValType)) → HostGives (call_requirements (context m ls o labels) (Some call) (type_of_call call).parameters) (kinds (first_type (type_of_call call).results)) (host_effect call)
  host_given VertexId o l = gives_number (λ h. h.id)
  host_given Superstep o l = gives_number (λ h. h.superstep)
  host_given NumVertices o l = gives_number (λ h. h.num_vertices)
  host_given GetValue o l = gives_number (λ h. h.value)
  host_given SetValue o l = sets_value
  host_given NextMessage o l = λ vs us st below k h s. message_taken st.host.messages vs us st below refl (kept vs us below k h) s
  host_given MessageValue o l = gives_number (λ h. h.message)
  host_given NextEdge o l = λ vs us st below k h s. edge_taken st.host.edges vs us st below refl (kept vs us below k h) s
  host_given EdgeTarget o l = gives_number (λ h. h.edge.0)
  host_given EdgeValue o l = gives_number (λ h. h.edge.1)
  host_given Send o l = sends
  host_given Aggregate o l = aggregates
  host_given Aggregated o l = reads_slot
  host_given VoteToHalt o l = halts
