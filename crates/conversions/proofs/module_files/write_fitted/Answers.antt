use Rattle.std.proofs.Common.{inl, inr}
use Rattle.fit.specs.Fit.{IsFitOf}
use Rattle.sources.proofs.Faults.{IfErr-along, IfOk-along, OnErr-along, is_fault}
use Rattle.sources.proofs.Disks.{stays_same}
use Rattle.conversions.proofs.Fits.{fits_of, unspelled_fit}
use Rattle.conversions.proofs.module_files.write_fitted.Goals as goal

pub returns-in_err-valid-clause-refused : goal.returns-in_err-valid-clause-refused
returns-in_err-valid-clause-refused g c = rw (is_fault _ _ c.from_residual.ensures.1) c.in_err-valid.ensures.refused

pub returns-in_err-valid-clause-before : goal.returns-in_err-valid-clause-before
returns-in_err-valid-clause-before g c = rw (is_fault _ _ c.from_residual.ensures.1) (λ before. stays_same (g.F.Files.disk c.args.files.now))

pub returns-in_err-valid-clause-tried : goal.returns-in_err-valid-clause-tried
returns-in_err-valid-clause-tried g c = rw (is_fault _ _ c.from_residual.ensures.1) (inl (stays_same (g.F.Files.disk c.args.files.now)))

pub returns-in_err-fitted-clause-refused : goal.returns-in_err-fitted-clause-refused
returns-in_err-fitted-clause-refused g c = rw (is_fault _ _ c.from_residual-in_err-fitted.ensures.1) tt

pub returns-in_err-fitted-clause-before : goal.returns-in_err-fitted-clause-before
returns-in_err-fitted-clause-before g c =
    rw (is_fault _ _ c.from_residual-in_err-fitted.ensures.1) (λ before. stays_same (g.F.Files.disk c.args.files.now))

pub returns-in_err-fitted-clause-tried : goal.returns-in_err-fitted-clause-tried
returns-in_err-fitted-clause-tried g c =
    rw (is_fault _ _ c.from_residual-in_err-fitted.ensures.1) (inl (stays_same (g.F.Files.disk c.args.files.now)))

pub returns-clause-answered : goal.returns-clause-answered
returns-clause-answered g c =
    let fits : IsFitOf c.args.module c.module.result.now =
    fits_of c.args.module c.in_ok-valid.valid c.in_ok-fitted.fitted c.module.result.now c.in_ok-valid.ensures.kept c.in_ok-fitted.ensures.outside
    c.in_ok-fitted.ensures.bounded c.module.ensures.value c.module.ensures.typed c.module.ensures.within in
    IfOk-along c.write_module.result (λ text told. (c.module.result.now, fits, told)) c.write_module.ensures.answered

pub returns-clause-refused : goal.returns-clause-refused
returns-clause-refused g c =
    let fits : IsFitOf c.args.module c.module.result.now =
    fits_of c.args.module c.in_ok-valid.valid c.in_ok-fitted.fitted c.module.result.now c.in_ok-valid.ensures.kept c.in_ok-fitted.ensures.outside
    c.in_ok-fitted.ensures.bounded c.module.ensures.value c.module.ensures.typed c.module.ensures.within in
    IfErr-along c.write_module.result (unspelled_fit (g.F.Files.disk c.args.files.now) c.args.binary.now c.args.module c.module.result.now fits)
    c.write_module.ensures.refused

pub returns-clause-tried : goal.returns-clause-tried
returns-clause-tried g c =
    let fits : IsFitOf c.args.module c.module.result.now =
    fits_of c.args.module c.in_ok-valid.valid c.in_ok-fitted.fitted c.module.result.now c.in_ok-valid.ensures.kept c.in_ok-fitted.ensures.outside
    c.in_ok-fitted.ensures.bounded c.module.ensures.value c.module.ensures.typed c.module.ensures.within in
    OnErr-along c.write_module.result (λ tries. inr (c.module.result.now, fits, tries)) c.write_module.ensures.tried
