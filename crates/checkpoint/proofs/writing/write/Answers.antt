use Rattle.std.proofs.Common.{◌≡◌, ◌++◌, Bor, List, append_assoc, ap, arith, inl, length, map, subst, ◌∙◌}
use Rattle.std.specs.List.{AllByRecursion}
use Rattle.std.proofs.lemmas.List.{length-map}
use Rattle.job_state.specs.declared.state.VertexState.{VertexState}
use Rattle.checkpoint.specs.Checkpoint.{VertexFits, checkpoint_bytes, head_bytes, sealed, told_bytes, vertices_bytes}
use Rattle.checkpoint.proofs.writing.write.Goals.{In_ok-extend_from_slice}
use Rattle.checkpoint.proofs.writing.write.Goals as goal

abbrev seen : List (Bor VertexState) → List VertexState
seen vertices = map (λ (vertex : Bor VertexState). vertex.now) vertices

pub put_vertices-requires : goal.put_vertices-requires
put_vertices-requires c =
    omega (
      arith,
      c.in_order.ensures.state.few,
      ap length c.deref-2.ensures.value,
      length-map c.in_ok-vertices.vertices.items (λ (vertex : Bor VertexState). vertex.now),
      ap length c.in_ok-vertices.ensures.same,
    )

vertices_are : (c : In_ok-extend_from_slice) → seen c.deref-2.result.now ≡ c.args.state.now.vertices
vertices_are c = ap seen c.deref-2.ensures.value ∙ c.in_ok-vertices.ensures.same

spelled : (c : In_ok-extend_from_slice) → c.extend_from_slice.new.self.items ≡ checkpoint_bytes c.args.state.now
spelled c =
    let state = c.args.state.now in
    let content : c.put_vertices.new.out.items ≡ head_bytes 2 state ++ (told_bytes state ++ vertices_bytes state.vertices) =
    rw (c.in_ok-put_vertices.ensures.appended, c.in_ok-put_told.ensures.appended, c.in_ok-put_head.ensures.appended, c.in_ok-out.ensures.items, vertices_are c)
    (append_assoc (head_bytes 2 state) (told_bytes state) (vertices_bytes state.vertices)) in
    c.in_ok-extend_from_slice.ensures.items ∙ rw (c.digest_of-seal.ensures, c.deref-3.ensures.value) (ap sealed content)

pub returns-clause-bytes : goal.returns-clause-bytes
returns-clause-bytes c = spelled c.before

pub returns-clause-checkpoint : goal.returns-clause-checkpoint
returns-clause-checkpoint c = record {
  is_state = c.in_order.ensures.state;
  fits = record {
    head = c.in_ok-put_head.ensures.fits;
    by_superstep = c.in_ok-put_told.ensures.fits;
    vertices = subst (λ (vertices : List VertexState). AllByRecursion VertexFits vertices) (vertices_are c.before) c.in_ok-put_vertices.ensures.fits;
  };
  spelled = inl (spelled c.before);
}
