use Rattle.std.proofs.Common.{Err, ap, length, subst, sym, ◌∙◌, ◌≤◌}
use Rattle.std.specs.Prelude.{OnErr}
use Rattle.wasm_ast.specs.Limits.{max_module_bytes}
use Rattle.wasm_decode.specs.Canonical.{canonical}
use Rattle.sources.specs.Disk.{Tries}
use Rattle.sources.proofs.Faults.{IfErr-along, IfOk-along, is_fault}
use Rattle.sources.proofs.Disks.{stays_same, tries_nothing}
use Rattle.conversions.proofs.Disks.{spelling_told, unwritable}
use Rattle.conversions.proofs.module_files.write_module.Goals as goal

pub returns-in_err-bytes-clause-refused : goal.returns-in_err-bytes-clause-refused
returns-in_err-bytes-clause-refused g c = rw (is_fault _ _ c.from_residual.ensures.1) (λ e. c.in_err-bytes.ensures.over (ap Err e))

pub returns-in_err-bytes-clause-before : goal.returns-in_err-bytes-clause-before
returns-in_err-bytes-clause-before g c =
    rw (is_fault _ _ c.from_residual.ensures.1) (λ before. stays_same (g.F.Files.disk c.args.files.now))

pub returns-in_err-bytes-clause-tried : goal.returns-in_err-bytes-clause-tried
returns-in_err-bytes-clause-tried g c =
    rw (is_fault _ _ c.from_residual.ensures.1) (tries_nothing c.args.binary.now (canonical c.args.module.now) (g.F.Files.disk c.args.files.now))

pub returns-clause-answered : goal.returns-clause-answered
returns-clause-answered g c =
    let small = subst (λ bs. length bs ≤ max_module_bytes) (sym c.as_slice.ensures.value) c.in_ok-bytes.ensures.small in
    IfOk-along c.write_told.result
    (λ text is. spelling_told (g.F.Files.disk c.args.files.now) (g.F.Files.disk c.write_told.new.files) c.args.binary.now c.as_slice.result.now
    _ c.args.module.now (c.as_slice.ensures.value ∙ c.in_ok-bytes.ensures.ok) small is)
    c.write_told.ensures.answered

pub returns-clause-refused : goal.returns-clause-refused
returns-clause-refused g c =
    IfErr-along c.write_told.result (unwritable (g.F.Files.disk c.args.files.now) c.args.binary.now c.args.module.now) c.write_told.ensures.refused

pub returns-clause-tried : goal.returns-clause-tried
returns-clause-tried g c =
    subst (λ bs. OnErr c.write_told.result (Tries c.args.binary.now bs (g.F.Files.disk c.args.files.now) (g.F.Files.disk c.write_told.new.files)))
    (c.as_slice.ensures.value ∙ c.in_ok-bytes.ensures.ok) c.write_told.ensures.tried
