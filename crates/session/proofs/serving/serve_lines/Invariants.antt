use Rattle.std.proofs.Common.{◌≤◌}
use Rattle.std.specs.Prelude.{vec_len}
use Rattle.session.specs.inside.Seen.{maps_of}
use Rattle.session.proofs.Loops.{IsServing}
use Rattle.session.proofs.serving.serve_lines.Given as goal

abbrev pub invariant-reads : goal.invariant-reads
invariant-reads g l = record {
  room : vec_len l.line ≤ 4097;
  serving : IsServing (g.F.Files.disk l.initial.files) (g.F.Files.disk l.files) (g.N.Runner.runs l.runner)
      (maps_of l.initial.session) (maps_of l.session) (g.R.Read.remaining l.initial.reader) (g.R.Read.remaining l.reader)
      (g.W.Write.contents l.initial.writer) (g.W.Write.contents l.writer) l.line.items;
}
