-- The tables of a module in the bounded profile.
use Rattle.std.specs.Prelude.{◌≡◌}
use Rattle.wasm_ast.specs.declared.module.Module.{Module}
use Rattle.verified.specs.Cells.{cells_table}
use Rattle.verified.specs.Facts.{AreFacts}
use Rattle.verified.specs.Hosts.{AreHostCalls}
use Rattle.verified.specs.inside.Extents.{TellReached}
use Rattle.verified.specs.declared.tables.Tables.{Tables}

-- the tables are those of the module
pub record AreTables (m : Module) (tables : Tables) : Type 0 where
  pub facts : AreFacts m tables.facts
  pub calls : AreHostCalls m tables.calls.items
  pub cells : tables.cells.items ≡ cells_table m
  pub extents : TellReached m tables.extents.items
