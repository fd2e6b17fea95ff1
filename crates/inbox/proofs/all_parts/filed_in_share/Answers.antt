use Rattle.std.proofs.Common.{refl}
use Rattle.inbox.specs.inside.Filing.{IsFiled}
use Rattle.inbox.proofs.all_parts.filed_in_share.Goals as goal

pub returns-in-Some : goal.returns-in-Some
unfolding IsFiled
returns-in-Some c =
    let found = rw c.in-Some.is at c.in_ok-filed.ensures in
    record {
      target_set = c.targets-targets.result;
      within = c.targets-targets.ensures;
      some = found.0;
      are = found.1;
      each = found.2;
    }

pub returns : goal.returns
unfolding IsFiled
returns c = record {
  target_set = c.targets-targets.result;
  within = c.targets-targets.ensures;
  by = c.in_ok-letters.ensures;
  same = refl;
}
