use Rattle.wasm_items.proofs.Texts.{name_at-utf8, name_at-not_utf8}
use Rattle.wasm_items.proofs.names.text.Goals as goal

pub returns-in-Ok : goal.returns-in-Ok
returns-in-Ok c =
    rw c.in-Ok.ensures.cases.0 (name_at-utf8 c.args.reader.now c.u32.new.self c.in_ok-bytes.bytes.now c.take.new.self c.in_ok-len.len c.in_ok-len.ensures c.in_ok-bytes.ensures c.in-Ok.ensures.cases.1)

pub returns-in-Err : goal.returns-in-Err
returns-in-Err c =
    name_at-not_utf8 c.args.reader.now c.u32.new.self c.in_ok-bytes.bytes.now c.take.new.self c.in_ok-len.len c.in_ok-len.ensures c.in_ok-bytes.ensures c.in-Err.ensures.cases.0
