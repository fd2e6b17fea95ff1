use Rattle.wasm_items.proofs.Parts.{is_empty-drop}
use Rattle.wasm_items.proofs.reader.Reader.finish.Goals as goal

pub returns-then-self-clause-err : goal.returns-then-self-clause-err
returns-then-self-clause-err c = (tt, rw (← c.self.view_is) (is_empty-drop c.self.inside.bytes.now c.self.inside.at c.if-self.true))
