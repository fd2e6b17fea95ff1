-- The letters of an outbox, a source after another.
use Rattle.std.specs.Prelude.{◌+◌, ◌++◌, ℕ, ℤ, List, [], ◌∷◌, drop, take}
use Rattle.inbox.specs.declared.letters.Letter.{Letter}
use Rattle.inbox.specs.declared.outbox.Batch.{Batch}
use Rattle.inbox.specs.declared.outbox.Source.{Source}
use Rattle.inbox.specs.declared.outbox.Unread.{Unread}
use Rattle.inbox.specs.Merging.{letters_sent}

-- the number of letters that these sources sent
abbrev pub count_of : List Source → ℕ
count_of [] = 0
count_of (source ∷ sources) = source.count + count_of sources

-- the letters of these sources, each of which sent the next messages, as many as it counts
abbrev pub letters_of : List Source → List (ℤ × ℤ) → List Letter
letters_of [] sends = []
letters_of (source ∷ sources) sends = letters_sent source.id (take source.count sends) ++ letters_of sources (drop source.count sends)

abbrev pub unread_letters : Unread → List Letter
unread_letters unread = letters_of unread.sources.now unread.sends.now

abbrev pub batch_letters : Batch → List Letter
batch_letters batch = letters_sent batch.id batch.sends.now
