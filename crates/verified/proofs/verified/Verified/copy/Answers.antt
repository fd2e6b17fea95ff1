use Rattle.std.proofs.Common.{◌≡◌, sym, ap, ◌∙◌, subst}
use Rattle.wasm_ast.specs.declared.module.Module.{Module}
use Rattle.verified.specs.declared.verified.Judged.{Judged}
use Rattle.verified.specs.inside.Tables.{AreTables}
use Rattle.verified.proofs.SameTables.{same_tables}
use Rattle.verified.proofs.verified.Verified.copy.Goals as goal

pub of-requires-clause-tables : goal.of-requires-clause-tables
of-requires-clause-tables c =
    let t = c.deref-2.result.now.tables in
    let told = c.in_ok-tables.ensures in
    let here = subst (λ (j : Judged). AreTables j.valid j.tables) (sym c.deref-2.ensures) c.self.invariant.2 in
    let same : c.deref-2.result.now.valid ≡ c.in_ok-valid.valid =
    ap (λ (j : Judged). j.valid) (c.deref-2.ensures ∙ sym c.deref.ensures) ∙ sym c.in_ok-valid.ensures in
    same_tables c.in_ok-valid.valid t c.in_ok-tables.tables told.facts told.calls told.cells told.extents (subst (λ (m : Module). AreTables m t) same here)
