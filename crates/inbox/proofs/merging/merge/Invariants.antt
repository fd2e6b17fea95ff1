use Rattle.std.proofs.Common.{◌≡◌, map, take}
use Rattle.inbox.specs.Merging.{inbox_of, dropped_of}
use Rattle.inbox.proofs.merging.merge.Given as goal

abbrev pub invariant-loop-letter : goal.invariant-loop-letter
invariant-loop-letter l = record {
  inboxes : l.inboxes.items ≡ map (inbox_of (map (λ letter. letter.now) (take l.letter-index l.letter-items))) l.ids;
  dropped : l.dropped ≡ dropped_of (map (λ letter. letter.now) (take l.letter-index l.letter-items)) l.ids;
}
