use Rattle.std.proofs.Common.{rules}
use Rattle.wat_syntax.proofs.Texts.{name_failed}
use Rattle.wat_syntax.proofs.parser.tokens.Parser.text.Goals as goal

pub returns : goal.returns
returns c = record {
  again = name_failed c.in_ok-bytes.bytes.items c.args.self.now c.bytes.new.self _ c.in_ok-bytes.ensures.again (λ u. let e = c.in-Err.ensures.succeeds u in absurd cc);
  shrinks = search rules;
}
