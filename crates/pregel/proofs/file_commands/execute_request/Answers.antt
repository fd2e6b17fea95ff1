use Rattle.pregel.proofs.file_commands.execute_request.Goals as goal

pub returns-in-Call-clause-refused : goal.returns-in-Call-clause-refused
returns-in-Call-clause-refused g c = rw c.in-Call.is c.call_files.ensures.refused

pub returns-in-Assemble-clause-tried : goal.returns-in-Assemble-clause-tried
returns-in-Assemble-clause-tried g c = rw c.in-Assemble.is c.assemble_file.ensures.tried

pub returns-in-Fit-clause-tried : goal.returns-in-Fit-clause-tried
returns-in-Fit-clause-tried g c = rw c.in-Fit.is c.fit_file.ensures.tried

pub returns-in-Run-clause-refused : goal.returns-in-Run-clause-refused
returns-in-Run-clause-refused g c = rw c.in-Run.is c.run_files.ensures.refused

pub returns-in-Upgrade-clause-tried : goal.returns-in-Upgrade-clause-tried
returns-in-Upgrade-clause-tried g c = rw c.in-Upgrade.is c.upgrade_file.ensures.tried

pub returns-in-Replay-clause-refused : goal.returns-in-Replay-clause-refused
returns-in-Replay-clause-refused g c = rw c.in-Replay.is c.replay_files.ensures.refused

pub returns-in-Import-clause-tried : goal.returns-in-Import-clause-tried
returns-in-Import-clause-tried g c = rw c.in-Import.is c.import_file.ensures.tried

pub returns-in-Import-clause-refused : goal.returns-in-Import-clause-refused
returns-in-Import-clause-refused g c = rw c.in-Import.is c.import_file.ensures.refused

pub returns-in-Run-clause-noted : goal.returns-in-Run-clause-noted
returns-in-Run-clause-noted g c = rw c.in-Run.is c.run_files.ensures.noted

pub returns-in-Run-clause-fault_noted : goal.returns-in-Run-clause-fault_noted
returns-in-Run-clause-fault_noted g c = rw c.in-Run.is c.run_files.ensures.fault_noted

pub returns-in-Run-clause-only : goal.returns-in-Run-clause-only
returns-in-Run-clause-only g c = rw c.in-Run.is c.run_files.ensures.only
