use Rattle.std.proofs.Common.{rules}
use Rattle.std.proofs.lemmas.Iterator.Adapters.{YieldsList-from_bytes}
use Rattle.std.proofs.lemmas.Iterator.Search.{all_from_yields_List}
use borrow.Author.Tests.{tests}
use Rattle.session.specs.Words.{is_name_byte}
use Rattle.session.proofs.word.has_name_bytes.Goals as goal

pub returns : goal.returns
returns c = all_from_yields_List is_name_byte _ _ _ c.all.ensures.ran (YieldsList-from_bytes c.args.word.now cc) (λ x b q k. search (rules, tests))
