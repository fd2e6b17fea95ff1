use Rattle.std.proofs.Common.{◌≡◌, ◌*◌, length, ap, ◌∙◌, arith}
use Rattle.wasm_ast.specs.declared.module.Module.{Module}
use Rattle.verified.specs.Memory.{bytes_of, memory_bytes, page}
use Rattle.interp.proofs.Kept.{length-kept}
use Rattle.interp.proofs.memory.Memory.size.Goals as goal

pub returns : goal.returns
returns c =
    let m = c.self.inside.verified.now in
    let pages : page * c.page_count.result ≡ memory_bytes m = c.page_count.ensures ∙ ap bytes_of c.as_slice.ensures ∙ ap (λ (n : Module). bytes_of n.memories) c.module.ensures.value in
    omega (arith, pages, length-kept m c.self.inside.bytes.items, ap length c.self.view_is)
