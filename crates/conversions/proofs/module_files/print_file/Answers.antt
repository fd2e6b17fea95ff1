use Rattle.std.proofs.Common.{inl}
use Rattle.sources.proofs.Faults.{is_fault}
use Rattle.sources.proofs.Disks.{within_at}
use Rattle.conversions.proofs.module_files.print_file.Goals as goal

pub print-requires : goal.print-requires
print-requires g c = within_at (g.F.Files.disk c.args.files.now) c.args.path.now c.in_ok-module.module c.in_ok-module.ensures.found

pub returns-in_err-module-clause-refused : goal.returns-in_err-module-clause-refused
returns-in_err-module-clause-refused g c = rw (is_fault _ _ c.from_residual.ensures.1) c.in_err-module.ensures.found

pub returns-in_err-text-clause-refused : goal.returns-in_err-text-clause-refused
returns-in_err-text-clause-refused g c = rw (is_fault _ _ c.from_residual-in_err-text.ensures.1) (inl tt)

pub returns-clause-answered : goal.returns-clause-answered
returns-clause-answered g c = (c.in_ok-module.module, c.in_ok-module.ensures.found, c.in_ok-text.ensures)
