-- The messages to the ids of a block, by their places.
use Rattle.std.specs.Prelude.{◌≡◌, ◌<◌, ◌==◌, ℕ, ℤ, List, [], ◌∷◌, map, filter, length, slice_index_or}
use Rattle.inbox.specs.declared.slips.Slip.{Slip}

-- places and values, of which each two at one index are a message
abbrev pub joined : List ℕ → List ℤ → List Slip
joined [] values = []
joined (place ∷ places) [] = []
joined (place ∷ places) (value ∷ values) = record { place = place; value = value } ∷ joined places values

-- the messages to the id at this place
abbrev pub messages_at : ℕ → List Slip → List ℤ
messages_at place slips = map (λ slip. slip.value) (filter (λ slip. slip.place == place) slips)

-- These are the inboxes of a block's ids, made of its messages. There are `count` ids.
pub record AreInboxesOf (slips : List Slip) (count : ℕ) (inboxes : List (List ℤ)) : Type 0 where
  pub one_each : length inboxes ≡ count
  pub each : (place : ℕ) → place < count → slice_index_or inboxes place [] ≡ messages_at place slips
