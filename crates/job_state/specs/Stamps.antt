-- The numbers of a task and of a result.
use Rattle.std.specs.Prelude.{ℕ}

-- the model of a task
pub record TaskStamp : Type 0 where
  pub epoch : ℕ
  pub superstep : ℕ
  pub part : ℕ

-- the model of a result
pub record DoneStamp : Type 0 where
  pub epoch : ℕ
  pub superstep : ℕ
  pub part : ℕ
  pub units : ℕ
