-- The inboxes of a part's ids that get messages.
use Rattle.std.specs.Prelude.{ℕ, ◌+◌, ℤ, List, [], ◌∷◌}
use Rattle.inbox.specs.declared.arrivals.Arrival.{Arrival}

-- the inbox of the id in this row before those of later rows, unless it is empty
abbrev pub arrived : ℕ → List ℤ → List Arrival → List Arrival
arrived row [] later = later
arrived row (message ∷ messages) later = record { row = row; inbox = message ∷ messages } ∷ later

-- of the inboxes of ids, the first of which is in this row, those that are not empty, each with its row
abbrev pub arrivals_from : ℕ → List (List ℤ) → List Arrival
arrivals_from row [] = []
arrivals_from row (inbox ∷ inboxes) = arrived row inbox (arrivals_from (row + 1) inboxes)
