use Rattle.std.proofs.lemmas.Result.{err_from_is_err_and}
use Rattle.wat_syntax.specs.inside.Tokens.{toks_of}
use Rattle.wat_syntax.specs.inside.ReadingModule.{module_at}
use Rattle.wat_syntax.proofs.Repeats.{said, failed}
use Rattle.wat_syntax.proofs.parser.modules.limited.Goals as goal

pub returns-in_err-module-clause-again : goal.returns-in_err-module-clause-again
returns-in_err-module-clause-again c = λ n m e within.
    let p = err_from_is_err_and c.from_residual.result c.from_residual.ensures.1 in
    rw (p.1, p.2) (failed c.in_err-module.field-0.0 (module_at n (toks_of c.args.source.now c.args.tokens.now)) m (c.in_err-module.ensures n) e)

pub returns-then-within_limits-clause-again : goal.returns-then-within_limits-clause-again
returns-then-within_limits-clause-again c = λ n m e within.
    said c.in_ok-module.module (module_at n (toks_of c.args.source.now c.args.tokens.now)) m (c.in_ok-module.ensures n) e
