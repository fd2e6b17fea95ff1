-- What the work of a thread starts with, and what it returns.
use Rattle.std.specs.Prelude.{◌≡◌, ℕ, Bool, false, []}
use Rattle.superstep.specs.Job.{Work}
use Rattle.hub_ends.specs.Passes.{IsReceipt, IsTickReceipt, handed_in, taken}
use Rattle.hub_ends.specs.Verdicts.{heard_on, reads_on}
use Rattle.worker_loops.specs.Counted.{JoinsAfterLoss}
use Rattle.worker_loops.specs.inside.Epochs.{IsSteady, IsSteadyTicker}
use Rattle.worker_loops.specs.inside.Joins.{HasJoined}
use Rattle.worker_loops.specs.inside.Returning.{HasReturned}
use Rattle.hub_ends.specs.declared.pass.TickPass.{TickPass}
use Rattle.hub_ends.specs.declared.pass.TickReceipt.{TickReceipt}
use Rattle.hub_ends.specs.declared.pass.WorkerPass.{WorkerPass}
use Rattle.hub_ends.specs.declared.verdict.VerdictReader.{VerdictReader}
use Rattle.worker_loops.specs.declared.worker_loop.WorkerEnd.{WorkerEnd}

module _ {J : Type 0} where
  -- a pass and a line on which nothing was sent, taken or heard
  pub record AreUnused (pass : WorkerPass J) (reader : VerdictReader) : Type 0 where
    pub new : handed_in pass ≡ []
    pub untaken : taken pass ≡ []
    pub unheard : heard_on reader ≡ []

  -- what a worker returns that had this pass and heard on this line
  pub record EndsWork (work : Work) (honest : ℕ → Bool) (loses : Bool) (pass : WorkerPass J) (reader : VerdictReader) (end : WorkerEnd J) : Type 0 where
    pub whose : IsReceipt pass end.receipt
    pub joins : JoinsAfterLoss end.receipt
    pub counted : HasJoined end
    pub returned : HasReturned work honest end.receipt
    pub steady : loses ≡ false → IsSteady end.receipt
    pub line : reads_on end.reader ≡ reads_on reader

  -- what the ticker returns that had this pass
  pub record EndsTicks (loses : Bool) (pass : TickPass J) (receipt : TickReceipt J) : Type 0 where
    pub whose : IsTickReceipt pass receipt
    pub steady : loses ≡ false → IsSteadyTicker receipt
