-- The messages of a block: two lists, and the inboxes that are made of them.
use Rattle.std.proofs.Common.{◌≡◌, ◌≢◌, ◌<◌, ◌+◌, ℕ, zero, suc, ℤ, true, false, List, [], ◌∷◌, ◌++◌, map, filter, length, get_or, take, arith, refl, sym, ap, ◌∙◌}
use Rattle.std.proofs.lemmas.Bool.Decides.{nat_tests}
use Rattle.std.proofs.lemmas.List.{map-append, take_more}
use Rattle.std.proofs.lemmas.List.Elements.{filter-append}
use Rattle.std.specs.Prelude.{nat_eq}
use Rattle.inbox.specs.declared.slips.Slip.{Slip}
use Rattle.inbox.specs.inside.Slips.{AreInboxesOf, joined, messages_at}

-- ---- two lists of one length

pub length-joined : (places : List ℕ) (values : List ℤ) → length values ≡ length places → length (joined places values) ≡ length places
length-joined [] values same = refl
length-joined (place ∷ places) [] same = absurd (omega (arith, same))
length-joined (place ∷ places) (value ∷ values) same = ap suc (length-joined places values (omega (arith, same)))

pub joined-append : (places : List ℕ) (values : List ℤ) (place : ℕ) (value : ℤ) → length values ≡ length places
    → joined (places ++ place ∷ []) (values ++ value ∷ []) ≡ joined places values ++ record { place = place; value = value } ∷ []
joined-append [] [] place value same = refl
joined-append [] (first ∷ values) place value same = absurd (omega (arith, same))
joined-append (first ∷ places) [] place value same = absurd (omega (arith, same))
joined-append (first ∷ places) (other ∷ values) place value same =
    ap (λ (slips : List Slip). record { place = first; value = other } ∷ slips) (joined-append places values place value (omega (arith, same)))

pub get_or-joined : (places : List ℕ) (values : List ℤ) (k : ℕ) (d : Slip) (v : ℤ) (p : ℕ) → length values ≡ length places → k < length places
    → get_or (joined places values) k d ≡ record { place = get_or places k p; value = get_or values k v }
get_or-joined [] values k d v p same inside = absurd (omega (arith, inside))
get_or-joined (place ∷ places) [] k d v p same inside = absurd (omega (arith, same))
get_or-joined (place ∷ places) (value ∷ values) zero d v p same inside = refl
get_or-joined (place ∷ places) (value ∷ values) (suc k) d v p same inside = get_or-joined places values k d v p (omega (arith, same)) (omega (arith, inside))

-- ---- messages to one place

pub messages-append : (place : ℕ) (slips more : List Slip) → messages_at place (slips ++ more) ≡ messages_at place slips ++ messages_at place more
messages-append place slips more =
    ap (map (λ (slip : Slip). slip.value)) (filter-append (λ slip. nat_eq slip.place place) slips more)
    ∙ map-append (λ (slip : Slip). slip.value) (filter (λ slip. nat_eq slip.place place) slips) (filter (λ slip. nat_eq slip.place place) more)

pub one_message : (slip : Slip) (place : ℕ) → slip.place ≡ place → messages_at place (slip ∷ []) ≡ slip.value ∷ []
one_message slip place same =
    let is : nat_eq slip.place place ≡ true = grind (arith, nat_tests) in
    rw is refl

pub no_message : (slip : Slip) (place : ℕ) → slip.place ≢ place → messages_at place (slip ∷ []) ≡ []
no_message slip place apart =
    let is : nat_eq slip.place place ≡ false = grind (arith, nat_tests) in
    rw is refl

messages_more : (place : ℕ) (slips : List Slip) (k : ℕ) (d : Slip) → k < length slips → messages_at place (take (k + 1) slips) ≡ messages_at place (take k slips) ++ messages_at place (get_or slips k d ∷ [])
messages_more place slips k d inside = ap (messages_at place) (take_more slips k d inside) ∙ messages-append place (take k slips) (get_or slips k d ∷ [])

-- ---- inboxes

-- the message of one more index is put
pub made_more : (slips : List Slip) (k : ℕ) (slip : Slip) (count : ℕ) (old new : List (List ℤ)) → k < length slips → ((d : Slip) → slip ≡ get_or slips k d) → AreInboxesOf (take k slips) count old → length new ≡ length old
    → ((place : ℕ) → place < length old → get_or new place [] ≡ get_or old place [] ++ messages_at place (slip ∷ []))
    → AreInboxesOf (take (k + 1) slips) count new
made_more slips k slip count old new inside is made same put = record {
  one_each = same ∙ made.one_each;
  each = λ place within.
      put place (omega (arith, made.one_each, within))
      ∙ ap (λ (messages : List ℤ). messages ++ messages_at place (slip ∷ [])) (made.each place within)
      ∙ ap (λ (slip : Slip). messages_at place (take k slips) ++ messages_at place (slip ∷ [])) (is slip)
      ∙ sym (messages_more place slips k slip inside);
}
