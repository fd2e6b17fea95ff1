use Rattle.std.proofs.Common.{[]}
use Rattle.wat_syntax.specs.Layout.{pieces}
use Rattle.wat_syntax.proofs.AgainModule.{steps_of}
use Rattle.wat_syntax.proofs.AgainHeld.{pieces_held}
use Rattle.wat_syntax.proofs.Assembled.{layout_printed, tokens_again}
use Rattle.wat_syntax.proofs.Printed.{printed_nameless}
use Rattle.wat_asm.proofs.assembling.assemble.Goals as goal

pub returns-in-Ok-clause-printed : goal.returns-in-Ok-clause-printed
returns-in-Ok-clause-printed c = λ m within held same.
    let read = c.in-Ok.ensures.again (pieces m []) (pieces_held m held within) (layout_printed c.args.text.now m same) in
    c.parsed.ensures.again (steps_of m) m (printed_nameless c.args.text.now c.in-Ok.tokens.tokens.items (pieces m []) read)
    (tokens_again c.args.text.now c.in-Ok.tokens.tokens.items m held within read) within

pub returns-in-Err-clause-printed : goal.returns-in-Err-clause-printed
returns-in-Err-clause-printed c = λ m within held same.
    c.lexed_fault.ensures (c.in-Err.ensures.again (pieces m []) (pieces_held m held within) (layout_printed c.args.text.now m same))
