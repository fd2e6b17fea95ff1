-- Letters become inboxes: sorted by source, and those of one source in the order of sending.
use Rattle.std.specs.Prelude.{◌≡◌, ℕ, ℤ, pos, List, Bool, not, ◌&&◌, ◌==◌, map, filter, count_by, vec_items, All}
use Rattle.std.specs.List.{list_any, enumerate_from, flat_map}
use Rattle.std.specs.declared.vec.Vec.{Vec}
use Rattle.std.specs.Ordering.{int_eq, nat_cmp, ordering_then}
use Rattle.std.specs.declared.cmp.Ordering.{Ordering}
use Rattle.std.specs.List.Sorted.{IsPermutation, IsStrictlySortedBy}
use Rattle.inbox.specs.declared.letters.Letter.{Letter}

-- whether two letters have the same source and the same number
abbrev pub are_one : Letter → Letter → Bool
are_one a b = (a.from == b.from) && (a.seq == b.seq)

-- the order of letters: that of the lesser source comes first, and of one source the one that was sent earlier
abbrev pub source_cmp : Letter → Letter → Ordering
source_cmp a b = ordering_then (nat_cmp a.from b.from) (nat_cmp a.seq b.seq)

-- The letters sorted by source: the same letters, each below the next.
pub record IsBySource (letters ordered : List Letter) : Type 0 where
  pub same : IsPermutation letters ordered
  pub rising : IsStrictlySortedBy source_cmp ordered

-- whether a letter goes to this id
abbrev pub goes_to : Letter → ℕ → Bool
goes_to letter id = int_eq letter.to (pos id)

-- the inbox of this id: the values of the letters to it, in their order
abbrev pub inbox_of : List Letter → ℕ → List ℤ
inbox_of ordered id = map (λ letter. letter.value) (filter (λ letter. goes_to letter id) ordered)

-- the inboxes of these ids, one for each
abbrev pub inboxes_of : List Letter → List ℕ → List (List ℤ)
inboxes_of ordered ids = map (inbox_of ordered) ids

-- the number of letters that go to none of these ids
abbrev pub dropped_of : List Letter → List ℕ → ℕ
dropped_of letters ids = count_by (λ letter. not (list_any (goes_to letter) ids)) letters

-- the concatenation of lists: the letters of all lists, or the ids of all parts
abbrev pub all_of : {X Z : Type 0} → List (Vec X Z) → List X
all_of lists = flat_map vec_items lists

-- the letter of a message that the vertex with this id sent, given its number, its target and its value
abbrev pub letter_sent : ℕ → ℕ × (ℤ × ℤ) → Letter
letter_sent id sent = record { to = sent.1.0; from = id; seq = sent.0; value = sent.1.1 }

-- the letters of a vertex: its messages, numbered in the order of sending
abbrev pub letters_sent : ℕ → List (ℤ × ℤ) → List Letter
letters_sent id sends = map (letter_sent id) (enumerate_from 0 sends)

-- the letters of all outboxes, one outbox after another
abbrev pub sent_in : List (List Letter) → List Letter
sent_in outboxes = flat_map (λ (letters : List Letter). letters) outboxes

-- each source sends letters of its own, in the order of their numbers
pub record AreSent (sent_by : ℕ → List Letter) : Type 0 where
  pub own : (source : ℕ) → All (λ letter. letter.from ≡ source) (sent_by source)
  pub numbered : (source : ℕ) → IsStrictlySortedBy (λ a b. nat_cmp a.seq b.seq) (sent_by source)
