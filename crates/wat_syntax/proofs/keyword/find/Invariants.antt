use Rattle.std.proofs.Common.{◌≡◌, drop}
use Rattle.wat_syntax.specs.Keywords.{lookup}
use Rattle.wat_syntax.proofs.keyword.find.Given as goal

abbrev pub invariant-loop-keyword : goal.invariant-loop-keyword
invariant-loop-keyword l = lookup (drop l.keyword-index l.keywords) l.word ≡ lookup l.keywords l.word
