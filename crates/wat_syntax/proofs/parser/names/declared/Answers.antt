use Rattle.std.proofs.Common.{◌≡◌, true, List, sym, subst}
use Rattle.wat_syntax.specs.declared.lexer.token.Token.{Token}
use Rattle.wat_syntax.specs.inside.ReadingModule.{nameless}
use Rattle.wat_syntax.proofs.Nameless.{all_from, nameless_drop}
use Rattle.wat_syntax.proofs.parser.names.declared.Goals as goal

pub returns-in_err-depth : goal.returns-in_err-depth
returns-in_err-depth c = λ h.
    let e = c.in_err-depth.ensures (subst (λ (ts : List Token). nameless ts ≡ true) (sym (all_from c.args.tokens.now c.loop-i.i)) (nameless_drop c.args.tokens.now c.loop-i.i h)) in
    absurd cc
