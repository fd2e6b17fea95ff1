use Rattle.wasm_items.proofs.Parts.{part_at-drop}
use Rattle.wasm_items.proofs.reader.Reader.part.Goals as goal

pub returns : goal.returns
returns c =
    part_at-drop c.args.self.now c.u32.new.self c.self.inside.bytes.now c.self.inside.at c.in_ok-len.field-0 c.in_ok-len.ensures c.self.view_is c.if-len-self.false
