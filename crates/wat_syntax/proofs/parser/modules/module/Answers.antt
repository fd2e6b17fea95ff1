use Rattle.std.proofs.lemmas.Result.{err_from_is_err_and}
use Rattle.wat_syntax.specs.inside.Tokens.{toks_of}
use Rattle.wat_syntax.specs.inside.ReadingModule.{drafted}
use Rattle.wat_syntax.proofs.Modules.{module_failed, module_said}
use Rattle.wat_syntax.proofs.parser.modules.module.Goals as goal

pub returns-in_err-only : goal.returns-in_err-only
returns-in_err-only c = λ n.
    let p = err_from_is_err_and c.from_residual.result c.from_residual.ensures.1 in
    rw (p.1, p.2) (module_failed n (drafted c.new-draft.result) c.new-parser.result (toks_of c.args.source.now c.args.tokens.now) c.in_err-only.field-0.0
    c.new-draft.ensures c.new-parser.ensures (c.in_err-only.ensures.again n))

pub returns : goal.returns
returns c = λ n.
    rw c.into_module.ensures (module_said n (drafted c.new-draft.result) c.new-parser.result (toks_of c.args.source.now c.args.tokens.now) (drafted c.only.new.draft) c.only.new.parser _
    c.new-draft.ensures c.new-parser.ensures c.parser.view_is (c.in_ok-only.ensures.again n))
