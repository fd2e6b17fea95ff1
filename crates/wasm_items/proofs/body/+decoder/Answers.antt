use Rattle.std.proofs.Common.{◌≡◌, Option, ◌<◌, ◌≤◌, suc, false, true, length, slice_get, arith}
use Rattle.std.proofs.lemmas.Result.{err_from_is_err_and}
use Rattle.wasm_ast.specs.declared.types.ValType.{ValType}
use Rattle.wasm_ast.specs.Code.{Code}
use Rattle.wasm_items.specs.inside.ReadingCode.{stops, code_at}
use Rattle.wasm_items.proofs.Nested.{starts, reads_on, has_no_instr, ends, opcode_first, typed_some, typed_fails, typed_levels, if_some, if_fails, else_arm}
use Rattle.wasm_items.proofs.Shrinks.{byte_shortens, block_type_shortens, typed_shortens, instr_shortens}
use Rattle.wasm_items.proofs.body.+decoder.Goals as goal

pub sequence-each-init : goal.sequence-each-init
sequence-each-init t c = λ n lt. starts c.new-instrs.result.items c.args.levels c.args.reader.now n c.new-instrs.ensures.items lt

pub sequence-returns-in_err-instr : goal.sequence-returns-in_err-instr
sequence-returns-in_err-instr t c = λ n lt.
    let p = err_from_is_err_and c.from_residual.result c.from_residual.ensures.1 in
    let on : stops (slice_get c.each.reader 0) ≡ false = cc in
    rw (p.1, p.2) (has_no_instr c.in_err-instr.field-0.0 c.each.instrs.items c.args.levels c.each.reader (code_at n c.args.levels c.args.reader.now) on c.in_err-instr.ensures (c.each.invariant n lt))

pub sequence-each-smaller : goal.sequence-each-smaller
sequence-each-smaller t c =
    instr_shortens (length c.each.reader) c.args.levels c.each.reader c.instruction.new.reader c.in_ok-instr.instr (c.in_ok-instr.ensures (length c.each.reader) (omega arith))

pub sequence-each-preserved : goal.sequence-each-preserved
sequence-each-preserved t c = λ n lt.
    let on : stops (slice_get c.each.reader 0) ≡ false = cc in
    rw c.in_ok-push.ensures.items (reads_on c.each.instrs.items c.args.levels c.each.reader c.instruction.new.reader c.in_ok-instr.instr (code_at n c.args.levels c.args.reader.now) on c.in_ok-instr.ensures (c.each.invariant n lt))

pub sequence-returns : goal.sequence-returns
sequence-returns t c = λ n lt.
    let off : stops (slice_get c.each.reader 0) ≡ true = cc in
    rw (c.from.ensures, c.shrink_to_fit.ensures.items) (ends c.each.instrs.items c.args.levels c.each.reader (code_at n c.args.levels c.args.reader.now) off (c.each.invariant n lt))

pub instruction-returns : goal.instruction-returns
instruction-returns t c = λ n le.
    let b = c.in_ok-opcode in
    let less : length c.byte.new.self < n = omega (arith, byte_shortens c.args.reader.now c.byte.new.self b.opcode b.ensures) in
    rw (opcode_first (code_at n) c.args.levels c.args.reader.now c.byte.new.self b.opcode b.ensures) (c.after_opcode.ensures n less)

pub typed_body-returns-in_err-body : goal.typed_body-returns-in_err-body
typed_body-returns-in_err-body t c = λ n lt.
    let p = err_from_is_err_and c.from_residual-in_err-body.result c.from_residual-in_err-body.ensures.1 in
    let x = c.in_ok-result_type in
    let less : length c.block_type.new.reader < n = omega (arith, lt, block_type_shortens c.args.reader.now c.block_type.new.reader x.result_type x.ensures) in
    let some : 1 ≤ c.args.levels = omega (arith, c.if-levels-eq0.false) in
    rw (p.1, p.2) (typed_fails (code_at n) c.args.levels c.args.reader.now c.block_type.new.reader x.result_type c.in_err-body.field-0.0 some x.ensures (c.in_err-body.ensures n less))

pub typed_body-returns : goal.typed_body-returns
typed_body-returns t c = λ n lt.
    let x = c.in_ok-result_type in
    let less : length c.block_type.new.reader < n = omega (arith, lt, block_type_shortens c.args.reader.now c.block_type.new.reader x.result_type x.ensures) in
    let some : 1 ≤ c.args.levels = omega (arith, c.if-levels-eq0.false) in
    typed_some (code_at n) c.args.levels c.args.reader.now c.block_type.new.reader c.sequence.new.reader x.result_type c.in_ok-body.body some x.ensures (c.in_ok-body.ensures n less)

pub choice-else_body-requires : goal.choice-else_body-requires
choice-else_body-requires t c =
    let n = suc (length c.args.reader.now) in
    let x = c.in_ok-result_type in
    let some : 1 ≤ c.args.levels = typed_levels (code_at n) c.args.levels c.args.reader.now ((x.result_type, x.body), c.typed_body.new.reader) (x.ensures n (omega arith)) in
    (omega arith, some)

pub choice-returns-in_err-other : goal.choice-returns-in_err-other
choice-returns-in_err-other t c = λ n lt.
    let p = err_from_is_err_and c.from_residual-in_err-other.result c.from_residual-in_err-other.ensures.1 in
    let x = c.in_ok-result_type in
    let pair : Option ValType × Code = (x.result_type, x.body) in
    let read = x.ensures n lt in
    let less : length c.typed_body.new.reader < n = omega (arith, lt, typed_shortens n c.args.levels c.args.reader.now c.typed_body.new.reader pair read) in
    rw (p.1, p.2) (if_fails (code_at n) c.args.levels c.args.reader.now c.typed_body.new.reader pair c.in_err-other.field-0.0 read (c.in_err-other.ensures n less))

pub choice-returns : goal.choice-returns
choice-returns t c = λ n lt.
    let x = c.in_ok-result_type in
    let pair : Option ValType × Code = (x.result_type, x.body) in
    let read = x.ensures n lt in
    let less : length c.typed_body.new.reader < n = omega (arith, lt, typed_shortens n c.args.levels c.args.reader.now c.typed_body.new.reader pair read) in
    if_some (code_at n) c.args.levels c.args.reader.now c.typed_body.new.reader c.else_body.new.reader pair c.in_ok-other.other read (c.in_ok-other.ensures n less)

pub else_body-returns-in-5 : goal.else_body-returns-in-5
else_body-returns-in-5 t c = λ n lt.
    let b = c.in_ok-byte in
    let less : length c.byte.new.self < n = omega (arith, lt, byte_shortens c.args.reader.now c.byte.new.self b.field-0 b.ensures) in
    rw (else_arm (code_at n) c.args.levels c.args.reader.now c.byte.new.self b.field-0 b.ensures c.in-5.is) (c.ended.ensures n less)
