use Rattle.std.proofs.Common.{codes, refl}
use Rattle.command_line.specs.inside.Matches.{rows_in}
use Rattle.command_line.proofs.Entries.{asks_run, none_is, text_read}
use Rattle.command_line.proofs.command_line.run_asked.Goals as goal

pub returns : goal.returns
returns c = (
  refl,
  record {
    job = c.in_ok-job.ensures;
    cores = c.cores_asked.ensures;
    keep = text_read c.args.entries.now (codes "keep") c.get_str.result c.get_str.ensures;
    resume = c.is_set.ensures;
    lose = text_read c.args.entries.now (codes "lose") c.get_str-2.result c.get_str-2.ensures;
    again = c.is_set-2.ensures;
    progress = c.progress_asked.ensures;
    report = text_read c.args.entries.now (codes "report") c.get_str-3.result c.get_str-3.ensures;
    plot = text_read c.args.entries.now (codes "plot") c.get_str-4.result c.get_str-4.ensures;
  },
)

pub returns-in_err-job : goal.returns-in_err-job
returns-in_err-job c =
    none_is _ _ c.from_residual.ensures (λ asked asks.
    let gives = asks_run (rows_in c.args.entries.now) asked asks in
    c.in_err-job.ensures gives.0.job gives.1.job)
