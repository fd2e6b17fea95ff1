-- Messages that go to the inboxes of their targets, one more at a time.
use Rattle.std.proofs.Common.{◌≡◌, ◌≢◌, ℕ, ℤ, pos, ◌+◌, ◌<◌, Bool, true, false, List, [], ◌∷◌, ◌++◌, length, get_or, map, set, take, filter, cond, refl, ap, sym, ◌∙◌, arith, inl, inr, append-nil, append_assoc}
use Rattle.std.specs.List.{list_any, sum_by}
use Rattle.std.specs.List.Sorted.{IsStrictlyIncreasing}
use Rattle.std.specs.Ordering.{int_eq}
use Rattle.std.proofs.lemmas.Bool.{cases_eq}
use Rattle.std.proofs.lemmas.Bool.Decides.{nat_tests}
use Rattle.std.proofs.lemmas.Grind.{get_or-set_at}
use Rattle.std.proofs.lemmas.List.{get_or-map, get_or-set_other, get_or_default, length-map, length-set, map-append, map-id, same_lists, take_more}
use Rattle.std.proofs.lemmas.List.Elements.{filter-append}
use Rattle.std.proofs.lemmas.List.Sums.{sum_by-append, sum_by-cons}
use Rattle.std.proofs.lemmas.Map.Keys.{below_from_sorted, sorted_from_strictly_increasing}
use Rattle.std.proofs.lemmas.Simd.{map-map}
use Rattle.semantics.specs.Call.{Outcome}
use Rattle.inbox.proofs.Delivery.{other_id}
use Rattle.superstep.specs.Snapshot.{Row, row_id}
use Rattle.superstep.specs.Superstep.{dropped_by, messages_to, is_sent_to, sent_to}
use Rattle.plain_run.specs.inside.OneMachine.{lost_in, messages_of, sent_among, with_messages}

abbrev pub Message : Type 0
Message = ℤ × ℤ

-- a vertex with another inbox
abbrev pub holding : Row → List ℤ → Row
holding row inbox = record { id = row.id; value = row.value; edges = row.edges; active = row.active; inbox = inbox }

value_of : Message → ℤ
value_of send = send.1

-- ---- two lists of messages

among_both : (some others : List Message) (id : ℕ) → sent_among (some ++ others) id ≡ sent_among some id ++ sent_among others id
among_both some others id =
    ap (λ (sends : List Message). map (λ (send : Message). send.1) sends) (filter-append (is_sent_to id) some others)
    ∙ map-append (λ (send : Message). send.1) (filter (is_sent_to id) some) (filter (is_sent_to id) others)

with_both : (some others : List Message) (row : Row) → with_messages others (with_messages some row) ≡ with_messages (some ++ others) row
with_both some others row =
    ap (λ inbox. holding row inbox)
    (append_assoc row.inbox (sent_among some row.id) (sent_among others row.id) ∙ ap (λ inbox. row.inbox ++ inbox) (sym (among_both some others row.id)))

with_none : (row : Row) → with_messages [] row ≡ row
with_none row = ap (λ inbox. holding row inbox) (append-nil row.inbox)

pub none_sent : (rows : List Row) → rows ≡ map (with_messages []) rows
none_sent rows = sym ((λ i. map (λ (row : Row). with_none row i) rows) ∙ map-id rows)

-- one message more
pub one_more_sent : (messages : List Message) (i : ℕ) (d : Message) (rows now after : List Row) → i < length messages → now ≡ map (with_messages (take i messages)) rows
    → after ≡ map (with_messages (get_or messages i d ∷ [])) now → after ≡ map (with_messages (take (i + 1) messages)) rows
one_more_sent messages i d rows now after below was is =
    is
    ∙ ap (map (with_messages (get_or messages i d ∷ []))) was
    ∙ map-map (with_messages (get_or messages i d ∷ [])) (with_messages (take i messages)) rows
    ∙ (λ j. map (λ (row : Row). with_both (take i messages) (get_or messages i d ∷ []) row j) rows)
    ∙ ap (λ (sends : List Message). map (with_messages sends) rows) (sym (take_more messages i d below))

-- ---- one message

-- a vertex that it goes to, and one that it does not
grows : (message : Message) (row : Row) → is_sent_to row.id message ≡ true → with_messages (message ∷ []) row ≡ holding row (row.inbox ++ message.1 ∷ [])
grows message row goes =
    ap (λ (b : Bool). holding row (row.inbox ++ map (λ (send : Message). send.1) (cond b (message ∷ []) []))) goes

stays : (message : Message) (row : Row) → is_sent_to row.id message ≡ false → with_messages (message ∷ []) row ≡ row
stays message row other =
    ap (λ (b : Bool). holding row (row.inbox ++ map (λ (send : Message). send.1) (cond b (message ∷ []) []))) other ∙ with_none row

-- numbers that rise are the same only at one place
apart : (ids : List ℕ) (i k : ℕ) → IsStrictlyIncreasing ids → i < length ids → k < length ids → k ≢ i → get_or ids k 0 ≢ get_or ids i 0
apart ids i k up inside here other same =
    let sorted = sorted_from_strictly_increasing ids up in
    grind (arith, below_from_sorted ids i k 0 sorted, below_from_sorted ids k i 0 sorted)

same_id : (n m : ℕ) → n ≡ m → int_eq (pos n) (pos m) ≡ true
same_id n m e = grind (arith, nat_tests)

goes_there : (target : ℤ) (id n : ℕ) → target ≡ pos n → n ≡ id → int_eq target (pos id) ≡ true
goes_there target id n to same = ap (λ z. int_eq z (pos id)) to ∙ same_id n id same

goes_elsewhere : (target : ℤ) (id n : ℕ) → target ≡ pos n → id ≢ n → int_eq target (pos id) ≡ false
goes_elsewhere target id n to other = ap (λ z. int_eq z (pos id)) to ∙ other_id n id other

pub delivered : (message : Message) (rows : List Row) (ids : List ℕ) (i : ℕ) (d : Row) → map row_id rows ≡ ids → IsStrictlyIncreasing ids → i < length rows
    → message.0 ≡ pos (get_or ids i 0) → set rows i (holding (get_or rows i d) ((get_or rows i d).inbox ++ message.1 ∷ [])) ≡ map (with_messages (message ∷ [])) rows
delivered message rows ids i d same up inside to =
    let found = holding (get_or rows i d) ((get_or rows i d).inbox ++ message.1 ∷ []) in
    let long : length ids ≡ length rows = sym (ap length same) ∙ length-map rows row_id in
    let id_at : (k : ℕ) → k < length rows → get_or ids k 0 ≡ (get_or rows k d).id =
    λ k below. ap (λ (numbers : List ℕ). get_or numbers k 0) (sym same) ∙ get_or-map row_id rows k d 0 below in
    same_lists (set rows i found) (map (with_messages (message ∷ [])) rows) (length-set rows i found ∙ sym (length-map rows (with_messages (message ∷ [])))) (λ k e short.
    let here : k < length rows = rw (length-set rows i found) at short in
    let right : get_or (map (with_messages (message ∷ [])) rows) k e ≡ with_messages (message ∷ []) (get_or rows k d) =
    get_or-map (with_messages (message ∷ [])) rows k d e here in
    elim (cases_eq k i) [
      | inl this ↦
          get_or-set_at rows i k found e this inside
          ∙ sym (grows message (get_or rows i d) (goes_there message.0 (get_or rows i d).id (get_or ids i 0) to (id_at i inside)))
          ∙ ap (λ j. with_messages (message ∷ []) (get_or rows j d)) (sym this)
          ∙ sym right
      | inr other ↦
          get_or-set_other rows i k found e other
          ∙ get_or_default rows k e d here
          ∙ sym (stays message (get_or rows k d) (goes_elsewhere message.0 (get_or rows k d).id (get_or ids i 0) to
          (λ both. apart ids i k up (omega (arith, long, inside)) (omega (arith, long, here)) other (id_at k here ∙ both))))
          ∙ sym right
    ])

pub missed : (message : Message) (rows : List Row) → list_any (λ id. is_sent_to id message) (map row_id rows) ≡ false → rows ≡ map (with_messages (message ∷ [])) rows
missed message [] none = refl
missed message (row ∷ rows) none =
    let first : is_sent_to row.id message ≡ false = grind (arith) in
    let others : list_any (λ id. is_sent_to id message) (map row_id rows) ≡ false = grind (arith) in
    ap (λ (head : Row). head ∷ rows) (sym (stays message row first))
    ∙ ap (λ (rest : List Row). with_messages (message ∷ []) row ∷ rest) (missed message rows others)

-- ---- the messages that all vertices send

pub all_sent : (left : List Outcome) (id : ℕ) → sent_among (messages_of left) id ≡ messages_to left id
all_sent [] id = refl
all_sent (outcome ∷ left) id = among_both outcome.sends (messages_of left) id ∙ ap (λ inbox. sent_to id outcome ++ inbox) (all_sent left id)

pub all_lost : (ids : List ℕ) (left : List Outcome) → lost_in ids (messages_of left) ≡ sum_by (dropped_by ids) left
all_lost ids [] = refl
all_lost ids (outcome ∷ left) =
    sum_by-append _ outcome.sends (messages_of left)
    ∙ ap (λ n. dropped_by ids outcome + n) (all_lost ids left)
    ∙ sym (sum_by-cons (dropped_by ids) outcome left)
