use Rattle.std.proofs.Common.{◌≡◌, length, ap, ◌∙◌, arith}
use Rattle.std.proofs.lemmas.List.{length-map}
use Rattle.wasm_ast.specs.Limits.{imported_functions}
use Rattle.verified.specs.Cells.{cells_of}
use Rattle.verified.proofs.Framing.{imports_counted, read_cells, runs_small}
use Rattle.verified.proofs.verified.Verified.cells.Goals as goal

pub overflow_sub-function : goal.overflow_sub-function
overflow_sub-function c =
    let count = imports_counted c.args.self.now c.tables-tables.result.now.calls.items c.tables-tables.ensures.tables.calls in
    omega (arith, c.len.ensures, count, c.requires.0)

pub index-requires : goal.index-requires
index-requires c =
    let m = c.args.self.now in
    let t = c.tables-tables.result.now in
    let count = imports_counted m t.calls.items c.tables-tables.ensures.tables.calls in
    let long : length t.cells.items ≡ length m.functions = ap length c.tables-tables.ensures.tables.cells ∙ length-map m.functions (cells_of m) in
    omega (arith, c.len.ensures, count, c.requires.0, c.requires.1, long)

pub returns : goal.returns
returns c =
    let m = c.args.self.now in
    let t = c.tables-tables.result.now in
    let f = c.args.function in
    let told = c.index.result.now in
    let count = imports_counted m t.calls.items c.tables-tables.ensures.tables.calls in
    let counted : c.len.result ≡ imported_functions m.imports = omega (arith, c.len.ensures, count) in
    let tells = read_cells m f c.len.result t.cells.items told c.tables-tables.ensures.tables.cells counted c.requires.0 c.requires.1 c.index.ensures in
    let operands = tells.1 in
    record {
      locals = tells.0;
      operands = operands;
      exact = λ run.
          let few = runs_small m t.facts f c.tables-tables.ensures.typed.types c.tables-tables.ensures.bounded c.tables-tables.ensures.tables.facts run in
          omega (arith, operands, few);
    }
