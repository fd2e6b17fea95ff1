-- Tables of the same module.
use Rattle.std.proofs.Common.{◌≡◌, List, ◌∙◌, sym, subst}
use Rattle.wasm_ast.specs.declared.module.Module.{Module}
use Rattle.verified.specs.declared.imports.HostCall.{HostCall}
use Rattle.verified.specs.declared.facts.Facts.{Facts}
use Rattle.verified.specs.declared.extents.Extent.{Extent}
use Rattle.verified.specs.declared.tables.Tables.{Tables}
use Rattle.verified.specs.Facts.{AreFacts}
use Rattle.verified.specs.Hosts.{AreHostCalls}
use Rattle.verified.specs.inside.Extents.{TellReached}
use Rattle.verified.specs.inside.Tables.{AreTables}

-- tables with the same contents are of the same module
pub same_tables : (m : Module) (t u : Tables) → u.facts ≡ t.facts → u.calls.items ≡ t.calls.items → u.cells.items ≡ t.cells.items → u.extents.items ≡ t.extents.items → AreTables m t → AreTables m u
same_tables m t u facts calls cells extents tables = record {
  facts = subst (λ (told : Facts). AreFacts m told) (sym facts) tables.facts;
  calls = subst (λ (told : List HostCall). AreHostCalls m told) (sym calls) tables.calls;
  cells = cells ∙ tables.cells;
  extents = subst (λ (told : List Extent). TellReached m told) (sym extents) tables.extents;
}
