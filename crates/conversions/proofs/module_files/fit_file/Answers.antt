use Rattle.std.proofs.Common.{inl, inr}
use Rattle.sources.proofs.Faults.{IfErr-along, IfOk-along, OnErr-along, is_fault}
use Rattle.sources.proofs.Disks.{stays_again}
use Rattle.conversions.proofs.Fits.{fitted_then, not_fitted, tried_then, unfitted_before}
use Rattle.conversions.proofs.module_files.fit_file.Goals as goal

pub returns-in_err-module-clause-refused : goal.returns-in_err-module-clause-refused
returns-in_err-module-clause-refused g c =
    rw (is_fault _ _ c.from_residual.ensures.1)
    (not_fitted (g.F.Files.disk c.args.files.now) c.args.path.now c.args.binary.now c.in_err-module.field-0.0 c.in_err-module.ensures.found)

pub returns-in_err-module-clause-before : goal.returns-in_err-module-clause-before
returns-in_err-module-clause-before g c = rw (is_fault _ _ c.from_residual.ensures.1) (λ before. c.in_err-module.ensures.kept)

pub returns-in_err-module-clause-tried : goal.returns-in_err-module-clause-tried
returns-in_err-module-clause-tried g c = rw (is_fault _ _ c.from_residual.ensures.1) (inl c.in_err-module.ensures.kept)

pub returns-clause-answered : goal.returns-clause-answered
returns-clause-answered g c =
    IfOk-along c.write_fitted.result
    (λ text is. (
      c.in_ok-module.module,
      c.in_ok-module.ensures.found,
      fitted_then (g.F.Files.disk c.args.files.now) (g.F.Files.disk c.read_module.new.files) (g.F.Files.disk c.write_fitted.new.files)
          c.args.binary.now _ c.in_ok-module.module c.in_ok-module.ensures.kept is,
    ))
    c.write_fitted.ensures.answered

pub returns-clause-refused : goal.returns-clause-refused
returns-clause-refused g c =
    IfErr-along c.write_fitted.result
    (λ fault is. inr (
      c.in_ok-module.ensures.found.0,
      c.in_ok-module.ensures.found.1,
      inr (
        c.in_ok-module.module,
        c.in_ok-module.ensures.found.2,
        unfitted_before (g.F.Files.disk c.args.files.now) (g.F.Files.disk c.read_module.new.files) c.args.binary.now c.in_ok-module.module
            c.in_ok-module.ensures.kept fault is,
      ),
    ))
    c.write_fitted.ensures.refused

pub returns-clause-before : goal.returns-clause-before
returns-clause-before g c =
    IfErr-along c.write_fitted.result
    (λ fault stays before. stays_again (g.F.Files.disk c.args.files.now) (g.F.Files.disk c.read_module.new.files) (g.F.Files.disk c.write_fitted.new.files)
    c.in_ok-module.ensures.kept (stays before))
    c.write_fitted.ensures.before

pub returns-clause-tried : goal.returns-clause-tried
returns-clause-tried g c =
    OnErr-along c.write_fitted.result
    (tried_then (g.F.Files.disk c.args.files.now) (g.F.Files.disk c.read_module.new.files) (g.F.Files.disk c.write_fitted.new.files)
    c.args.path.now c.args.binary.now c.in_ok-module.module c.in_ok-module.ensures.kept c.in_ok-module.ensures.found)
    c.write_fitted.ensures.tried
