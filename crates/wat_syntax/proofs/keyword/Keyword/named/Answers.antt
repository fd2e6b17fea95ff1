use Rattle.std.proofs.Common.{List, ℕ, ap, ◌∙◌}
use Rattle.wat_syntax.specs.declared.keyword.TheConstants.{KEYWORDS}
use Rattle.wat_syntax.specs.Keywords.{lookup}
use Rattle.wat_syntax.proofs.Keywords.{named_is}
use Rattle.wat_syntax.proofs.keyword.Keyword.named.Goals as goal

pub returns : goal.returns
returns c = named_is c.args.word.now c.spelled.result
    (c.spelled.ensures ∙ ap (λ (w : List ℕ). lookup KEYWORDS w) c.as_bytes.ensures.value)
