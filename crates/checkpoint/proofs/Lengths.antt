-- How many bytes a checkpoint has.
use Rattle.std.proofs.Common.{◌≡◌, ℕ, ◌+◌, ◌*◌, List, [], ◌∷◌, ◌++◌, length, sym, ap, ◌∙◌, arith}
use Rattle.std.specs.List.{flat_map, sum_by}
use Rattle.std.proofs.lemmas.List.{length-append}
use Rattle.std.proofs.lemmas.List.Concat.{flat_map-cons, length-flat_map}
use Rattle.std.proofs.Math.Nat.{add_comm, mul-suc, mul-zero}
use Rattle.std.specs.Int.{cast_unsigned, w64}
use Rattle.job_state.specs.declared.state.VertexState.{VertexState}
use Rattle.job_state.specs.State.{Standing}
use Rattle.checkpoint.specs.Numbers.{number, signed}
use Rattle.checkpoint.specs.Checkpoint.{checkpoint_bytes, flag, head_bytes, older_bytes, told_bytes, vertex_bytes, vertices_bytes}
use Rattle.checkpoint.proofs.Again.{length_digest, length_magic}
use Rattle.checkpoint.proofs.Fields.{length_number}

length_all : {A : Type 0} (spelling : A → List ℕ) (size : A → ℕ) (xs : List A) → ((x : A) → length (spelling x) ≡ size x) → length (flat_map spelling xs) ≡ sum_by size xs
length_all spelling size xs each = length-flat_map spelling xs ∙ (λ i. sum_by (λ x. each x i) xs)

length_each : {A : Type 0} (spelling : A → List ℕ) (size : ℕ) (xs : List A) → ((x : A) → length (spelling x) ≡ size) → length (flat_map spelling xs) ≡ size * length xs
length_each spelling size [] each = sym (mul-zero size)
length_each spelling size (x ∷ xs) each =
    ap length (flat_map-cons spelling x xs) ∙ length-append (spelling x) (flat_map spelling xs)
    ∙ (λ i. each x i + length_each spelling size xs each i) ∙ (add_comm size (size * length xs) ∙ sym (mul-suc size (length xs)))

length_vertex : (v : VertexState) → length (vertex_bytes v) ≡ 25 + 8 * length v.inbox
unfolding vertex_bytes
length_vertex v =
    let inbox = flat_map signed v.inbox in
    simp length-append (omega (
      arith,
      length_number 8 v.id,
      length_number 8 (cast_unsigned w64 v.value),
      length_number 1 (flag v.active),
      length_number 8 (length v.inbox),
      length_each signed 8 v.inbox (λ z. length_number 8 (cast_unsigned w64 z)),
    ))

length_head : (version : ℕ) (state : Standing) → length state.aggregates ≡ 8 → length (head_bytes version state) ≡ 108
unfolding head_bytes
length_head version state eight =
    simp length-append (omega (
      arith,
      eight,
      length_magic,
      length_number 4 version,
      length_number 4 state.superstep,
      length_number 16 state.dropped,
      length_number 16 state.units,
      length_each signed 8 state.aggregates (λ z. length_number 8 (cast_unsigned w64 z)),
    ))

length_told : (state : Standing) → length (told_bytes state) ≡ 4 + 16 * length state.by_superstep
unfolding told_bytes
length_told state =
    simp length-append (omega (arith, length_number 4 state.since, length_each (number 16) 16 state.by_superstep (λ n. length_number 16 n)))

length_vertices : (vs : List VertexState) → length (vertices_bytes vs) ≡ 4 + sum_by (λ vertex. 25 + 8 * length vertex.inbox) vs
unfolding vertices_bytes
length_vertices vs =
    simp length-append (omega (arith, length_number 4 (length vs), length_all vertex_bytes (λ vertex. 25 + 8 * length vertex.inbox) vs length_vertex))

pub length_newer : (state : Standing) → length state.aggregates ≡ 8
    → length (checkpoint_bytes state) ≡ 148 + 16 * length state.by_superstep + sum_by (λ vertex. 25 + 8 * length vertex.inbox) state.vertices
length_newer state eight =
    simp length-append (omega (arith, length_head 2 state eight, length_told state, length_vertices state.vertices, length_digest (head_bytes 2 state ++ (told_bytes state ++ vertices_bytes state.vertices))))

pub length_older : (state : Standing) → length state.aggregates ≡ 8
    → length (older_bytes state) ≡ 144 + sum_by (λ vertex. 25 + 8 * length vertex.inbox) state.vertices
length_older state eight =
    simp length-append (omega (arith, length_head 1 state eight, length_vertices state.vertices, length_digest (head_bytes 1 state ++ vertices_bytes state.vertices)))
