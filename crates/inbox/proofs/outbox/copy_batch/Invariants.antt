use Rattle.std.proofs.Common.{◌≡◌, ◌++◌, filter, take}
use Rattle.inbox.specs.Merging.{letters_sent}
use Rattle.inbox.specs.inside.Shares.{goes_into}
use Rattle.inbox.proofs.outbox.copy_batch.Given as goal

abbrev pub invariant-loop-seq : goal.invariant-loop-seq
invariant-loop-seq l = l.letters.items ≡ l.fn.letters.items ++ filter (goes_into l.targets) (letters_sent l.batch.id (take l.seq l.batch.sends.now))
