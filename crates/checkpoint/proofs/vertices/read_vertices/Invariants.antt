use Rattle.std.proofs.Common.{◌≡◌, ◌-◌}
use Rattle.checkpoint.specs.Reading.{vertices_at}
use Rattle.checkpoint.proofs.Tools.{continued}
use Rattle.checkpoint.proofs.Rows.{onto}
use Rattle.checkpoint.proofs.vertices.read_vertices.Given as goal

abbrev pub invariant-loop : goal.invariant-loop
invariant-loop l = continued (onto l.all.items l.told) (vertices_at (l.count - l.counter) l.rest) ≡ vertices_at l.count l.bytes
