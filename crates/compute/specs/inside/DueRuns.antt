-- A part whose due vertices are called, one after another.
use Rattle.std.specs.Prelude.{◌≡◌, ℕ, List, take, drop}
use Rattle.graph.specs.Entry.{Entry}
use Rattle.compute.specs.declared.part_output.PartOutput.{PartOutput}
use Rattle.job_state.specs.declared.state.VertexState.{VertexState}
use Rattle.superstep.specs.declared.task.Shared.{Shared}
use Rattle.job_state.specs.inside.DueRows.{due_rows}
use Rattle.compute.specs.inside.PartOutput.{CallsPart}

-- The vertices below a row are called, where they are due, and those from it on stay as they are.
pub record RunsUpto (shared : Shared) (entries : List Entry) (before now : List VertexState) (row : ℕ) (left : PartOutput) (active : List ℕ) : Type 0 where
  pub calls : CallsPart shared (take row entries) (take row before) (take row now) left
  pub rest : drop row now ≡ drop row before
  pub listed : active ≡ due_rows 0 (take row now)

-- The same up to some row, where these are the due rows from it on.
pub record IsRunning (shared : Shared) (entries : List Entry) (before now : List VertexState) (due : List ℕ) (left : PartOutput) (active : List ℕ) : Type 0 where
  pub row : ℕ
  pub runs : RunsUpto shared entries before now row left active
  pub waiting : due ≡ due_rows row (drop row before)
