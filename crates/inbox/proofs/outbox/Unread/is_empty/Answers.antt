use Rattle.std.proofs.Common.{◌≡◌, arith, refl, length, List, ℤ, [], ◌∷◌}
use Rattle.std.proofs.lemmas.Bool.Decides.{nat_tests}
use Rattle.inbox.specs.inside.Outboxes.{letters_of}
use Rattle.inbox.specs.declared.outbox.Source.{Source}
use Rattle.inbox.proofs.outbox.Unread.is_empty.Goals as goal

none_unread : (sources : List Source) (sends : List (ℤ × ℤ)) → length sources ≡ 0 → letters_of sources sends ≡ []
none_unread [] sends none = refl
none_unread (source ∷ sources) sends none = absurd (omega (arith, none))

pub returns : goal.returns
returns c = λ empty. none_unread c.args.self.sources.now c.args.self.sends.now (grind (arith, nat_tests))
