use Rattle.std.proofs.Common.{◌≤◌, length}
use Rattle.std.specs.Prelude.{vec_len}
use Rattle.session.specs.inside.Seen.{maps_of}
use Rattle.session.proofs.Loops.{IsAt}
use Rattle.session.proofs.serving.answer_bytes.Given as goal

abbrev pub invariant-loop-front : goal.invariant-loop-front
invariant-loop-front g l = record {
  room : vec_len l.line ≤ 4097;
  at : IsAt (g.F.Files.disk l.initial.files) (g.F.Files.disk l.files) (g.N.Runner.runs l.runner)
      (maps_of l.initial.session) (maps_of l.session) l.initial.line.items l.bytes l.line.items l.rest
      (g.W.Write.contents l.initial.writer) (g.W.Write.contents l.writer);
}

abbrev pub decreases-loop-front : goal.decreases-loop-front
decreases-loop-front g l = length l.rest
