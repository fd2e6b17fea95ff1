use Rattle.std.proofs.Common.{codes, subst, sym}
use Rattle.command_line.specs.CommandLine.{AsksFor}
use Rattle.command_line.specs.inside.Matches.{Finds, rows_in}
use Rattle.command_line.proofs.Entries.{asks_none, asks_print, asks_verify, lacking, none_is, text_given}
use Rattle.command_line.proofs.command_line.requested.Goals as goal

pub returns-in_ok-module-in-print : goal.returns-in_ok-module-in-print
returns-in_ok-module-in-print c = (
  c.in-print.is,
  text_given c.args.entries.now (codes "module") c.get_str.result c.in_ok-module-in-print.«module» c.get_str.ensures c.in_ok-module-in-print.was,
)

pub returns-in_ok-module-in-verify : goal.returns-in_ok-module-in-verify
returns-in_ok-module-in-verify c = (c.in-verify.is, c.in_ok-module-in-verify.ensures)

pub returns-in-call : goal.returns-in-call
returns-in-call c = subst (λ name. Finds (AsksFor name (rows_in c.args.entries.now)) c.call_asked.result) (sym c.in-call.is) c.call_asked.ensures

pub returns-in-replay : goal.returns-in-replay
returns-in-replay c = subst (λ name. Finds (AsksFor name (rows_in c.args.entries.now)) c.replay_asked.result) (sym c.in-replay.is) c.replay_asked.ensures

pub returns-in-upgrade : goal.returns-in-upgrade
returns-in-upgrade c = subst (λ name. Finds (AsksFor name (rows_in c.args.entries.now)) c.upgrade_asked.result) (sym c.in-upgrade.is) c.upgrade_asked.ensures

pub returns-in-asm : goal.returns-in-asm
returns-in-asm c = subst (λ name. Finds (AsksFor name (rows_in c.args.entries.now)) c.assemble_asked.result) (sym c.in-asm.is) c.assemble_asked.ensures

pub returns-in-fit : goal.returns-in-fit
returns-in-fit c = subst (λ name. Finds (AsksFor name (rows_in c.args.entries.now)) c.fit_asked.result) (sym c.in-fit.is) c.fit_asked.ensures

pub returns-in-graph : goal.returns-in-graph
returns-in-graph c = subst (λ name. Finds (AsksFor name (rows_in c.args.entries.now)) c.import_asked.result) (sym c.in-graph.is) c.import_asked.ensures

pub returns-in-run : goal.returns-in-run
returns-in-run c = subst (λ name. Finds (AsksFor name (rows_in c.args.entries.now)) c.run_asked.result) (sym c.in-run.is) c.run_asked.ensures

pub returns-in_err-module-in-print : goal.returns-in_err-module-in-print
returns-in_err-module-in-print c = none_is _ _ c.from_residual.ensures (λ asked asks.
    let gives = asks_print (rows_in c.args.entries.now) asked (subst (λ name. AsksFor name (rows_in c.args.entries.now) asked) c.in-print.is asks) in
    lacking c.args.entries.now (codes "module") c.get_str.result c.get_str.ensures c.in_err-module-in-print.was gives.0 gives.1)

pub returns-in_err-module-in-verify : goal.returns-in_err-module-in-verify
returns-in_err-module-in-verify c = none_is _ _ c.from_residual-in_err-module-in-verify.ensures (λ asked asks.
    let gives = asks_verify (rows_in c.args.entries.now) asked (subst (λ name. AsksFor name (rows_in c.args.entries.now) asked) c.in-verify.is asks) in
    c.in_err-module-in-verify.ensures gives.0 gives.1)

pub returns-in_default : goal.returns-in_default
returns-in_default c = asks_none c.args.name.now (rows_in c.args.entries.now) c.in_default.not-call c.in_default.not-run c.in_default.not-replay c.in_default.not-upgrade
    c.in_default.not-asm c.in_default.not-fit c.in_default.not-print c.in_default.not-verify c.in_default.not-graph
