-- Inboxes handed to the vertices of all parts.
use Rattle.std.proofs.Common.{◌≡◌, ℕ, ℤ, List, [], ◌∷◌, Global, Vec, length, map, vec_items, refl, ap, sym, ◌∙◌}
use Rattle.std.specs.List.{AllByRecursion, AllZip, zip}
use Rattle.std.proofs.lemmas.Simd.{map-map}
use Rattle.inbox.specs.declared.arrivals.Arrival.{Arrival}
use Rattle.inbox.specs.declared.letters.Letter.{Letter}
use Rattle.inbox.specs.Arrivals.{arrivals_from}
use Rattle.inbox.specs.Merging.{inbox_of, inboxes_of}
use Rattle.job_state.specs.declared.state.VertexState.{VertexState}
use Rattle.superstep.specs.Superstep.{messages_to}
use Rattle.superstep.specs.Tasks.{VertexOutcome, emptied, outcomes_in}
use Rattle.job_state.specs.inside.Filled.{filled}
use Rattle.superstep.specs.inside.Barrier.{all_filled, left_ids}
use Rattle.job_state.specs.inside.Handed.{HasNoInbox, handed}

-- the inboxes that letters bring to the vertices of each part
pub all_inboxes : (ids : List (Vec ℕ Global)) (lefts : List (List VertexOutcome)) (ordered : List VertexOutcome) (sent : List Letter)
    → ((id : ℕ) → inbox_of sent id ≡ messages_to (outcomes_in ordered) id) → map vec_items ids ≡ map left_ids lefts
    → map (λ part. inboxes_of sent part.items) ids ≡ map (λ left. map (messages_to (outcomes_in ordered)) (left_ids left)) lefts
all_inboxes ids lefts ordered sent each same =
    (λ i. map (λ part. map (λ id. each id i) part.items) ids)
    ∙ sym (map-map (map (messages_to (outcomes_in ordered))) vec_items ids)
    ∙ ap (map (map (messages_to (outcomes_in ordered)))) same
    ∙ map-map (map (messages_to (outcomes_in ordered))) left_ids lefts

pub all_arrivals : (ids : List (Vec ℕ Global)) (lefts : List (List VertexOutcome)) (ordered : List VertexOutcome) (sent : List Letter)
    → ((id : ℕ) → inbox_of sent id ≡ messages_to (outcomes_in ordered) id) → map vec_items ids ≡ map left_ids lefts
    → map (λ part. arrivals_from 0 (inboxes_of sent part.items)) ids
    ≡ map (arrivals_from 0) (map (λ left. map (messages_to (outcomes_in ordered)) (left_ids left)) lefts)
all_arrivals ids lefts ordered sent each same =
    sym (map-map (arrivals_from 0) (λ (part : Vec ℕ Global). inboxes_of sent part.items) ids) ∙ ap (map (arrivals_from 0)) (all_inboxes ids lefts ordered sent each same)

-- after their calls all vertices have empty inboxes
none_left : (left : List VertexOutcome) → AllByRecursion HasNoInbox (map emptied left)
none_left [] = tt
none_left (one ∷ left) = (refl, none_left left)

pub no_inboxes : (lefts : List (List VertexOutcome)) → AllByRecursion (AllByRecursion HasNoInbox) (map (map emptied) lefts)
no_inboxes [] = tt
no_inboxes (left ∷ lefts) = (none_left left, no_inboxes lefts)

-- the vertices of a part, and the inboxes that are handed to them
abbrev pub Delivery : Type 0
Delivery = List VertexState × Vec Arrival Global

abbrev pub IsHanded : Delivery → List VertexState → Type 0
IsHanded pair part = (inboxes : List (List ℤ)) → pair.1.items ≡ arrivals_from 0 inboxes → length pair.0 ≡ length inboxes → AllByRecursion HasNoInbox pair.0 → part ≡ filled (pair.0, inboxes)

pub pairs_handed : (vertices : List (List VertexState)) (arrivals : List (Vec Arrival Global)) (parts : List (List VertexState)) (inboxes : List (List (List ℤ)))
    → AllZip IsHanded (zip vertices arrivals) parts → map vec_items arrivals ≡ map (arrivals_from 0) inboxes → map length vertices ≡ map length inboxes
    → AllByRecursion (AllByRecursion HasNoInbox) vertices → parts ≡ all_filled vertices inboxes
pairs_handed [] arrivals [] inboxes each same long none = refl
pairs_handed [] arrivals (part ∷ parts) inboxes each same long none = absurd each
pairs_handed (own ∷ vertices) [] parts [] each same long none = cc
pairs_handed (own ∷ vertices) [] parts (inbox ∷ inboxes) each same long none = cc
pairs_handed (own ∷ vertices) (found ∷ arrivals) [] inboxes each same long none = absurd each
pairs_handed (own ∷ vertices) (found ∷ arrivals) (part ∷ parts) [] each same long none = cc
pairs_handed (own ∷ vertices) (found ∷ arrivals) (part ∷ parts) (inbox ∷ inboxes) each same long none =
    let first : found.items ≡ arrivals_from 0 inbox = cc in
    let rest : map vec_items arrivals ≡ map (arrivals_from 0) inboxes = cc in
    let own_long : length own ≡ length inbox = cc in
    let rest_long : map length vertices ≡ map length inboxes = cc in
    let here = each.0 inbox first own_long none.0 in
    λ i. here i ∷ pairs_handed vertices arrivals parts inboxes each.1 rest rest_long none.1 i
