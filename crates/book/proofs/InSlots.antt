-- The slots of parts.
use Rattle.std.proofs.Common.{◌≡◌, ℕ, zero, suc, ◌+◌, ◌<◌, ◌≤◌, List, [], ◌∷◌, length, get_or, map, replicate, Bool, true, refl, sym, ap, ◌∙◌, subst, arith, inl, inr, get_or-set_same, get_or-set_other}
use Rattle.std.specs.Prelude.{Result, Ok, Err, IfOk}
use Rattle.std.specs.List.{range_with_len}
use Rattle.std.proofs.Math.ListN.{length-set, set}
use Rattle.std.proofs.lemmas.List.{get_or-map, get_or-replicate, length-map, length-replicate, same_lists}
use Rattle.std.proofs.lemmas.List.FromFn.{get_or-map-range_with_len, get_or-range_with_len, length-map-range_with_len, length-range_with_len}
use Rattle.job_state.specs.Stamps.{DoneStamp}
use Rattle.superstep.specs.Tasks.{AreTrusted, IsRow, SliceStamp, stamps_of}
use Rattle.superstep.proofs.Trusting.{Lasts, earlier}
use Rattle.book.specs.declared.part_slots.PartSlot.{PartSlot}
use Rattle.book.specs.declared.part_slots.PartSlot.TheVariants.{Away, Back, Here}
use Rattle.book.specs.inside.Parts.{Placement, Spot}
use Rattle.book.specs.inside.Parts.Spot.{Gone, Home, Returned}
use Rattle.book.specs.inside.PartSlots.{AreBack, AreInSlots, IsInSlot, is_back, is_here, spot_of, spots_of}
use Rattle.control.proofs.Sound.{same_or_not}

abbrev stamp_at : ℕ → ℕ → ℕ → SliceStamp
stamp_at e s part = record { epoch = e; superstep = s; part = part }

long_stamps : (e s n : ℕ) → length (stamps_of e s n) ≡ n
long_stamps e s n = length-map-range_with_len (stamp_at e s) 0 n

-- ---- a state's slices

at_home : {J : _} (e s n part : ℕ) (any : PartSlot J) → part < n → get_or (map Here (stamps_of e s n)) part any ≡ Here (stamp_at e s part)
at_home e s n part any below =
    get_or-map Here (stamps_of e s n) part (stamp_at e s part) any (let l : part < length (stamps_of e s n) = omega (arith, below, long_stamps e s n) in l)
    ∙ ap Here (get_or-map-range_with_len (stamp_at e s) 0 n part part (stamp_at e s part) below (omega arith))

pub in_slots_home : {J : _} (part_slots : List (PartSlot J)) (e s n : ℕ) → part_slots ≡ map Here (stamps_of e s n) → AreInSlots e s part_slots
in_slots_home {J = J} part_slots e s n is part any below =
    let small : part < n = omega (arith, below, ap length is, length-map {B = PartSlot J} (stamps_of e s n) Here, long_stamps e s n) in
    subst (λ x. IsInSlot e s part x) (sym (ap (λ xs. get_or xs part any) is ∙ at_home e s n part any small)) (refl, refl, (let last : e ≤ e = omega arith in last))

spots_here : (J : Type 0) (stamps : List SliceStamp) → spots_of {J = J} (map Here stamps) ≡ replicate (length stamps) Home
spots_here J [] = refl
spots_here J (stamp ∷ stamps) = ap (λ xs. Home ∷ xs) (spots_here J stamps)

pub spots_home : {J : _} (part_slots : List (PartSlot J)) (e s n : ℕ) → part_slots ≡ map Here (stamps_of e s n) → spots_of part_slots ≡ replicate n Home
spots_home {J = J} part_slots e s n is = ap (λ xs. spots_of xs) is ∙ spots_here J (stamps_of e s n) ∙ ap (λ k. replicate k Home) (long_stamps e s n)

-- ---- one slot

abbrev pub placement_of : (epoch superstep since : ℕ) → List Spot → Placement
placement_of epoch superstep since spots = record { epoch = epoch; superstep = superstep; since = since; spots = spots }

pub spot_at : {J : _} (part_slots : List (PartSlot J)) (part : ℕ) (any : PartSlot J) → part < length (spots_of part_slots) → get_or (spots_of part_slots) part Gone ≡ spot_of (get_or part_slots part any)
spot_at part_slots part any below = get_or-map spot_of part_slots part any Gone (let l : part < length part_slots = omega (arith, below, length-map part_slots spot_of) in l)

home_here : {J : _} (slot : PartSlot J) → spot_of slot ≡ Home → is_here slot ≡ true
home_here (Here slice) h = refl
home_here Away h = absurd (cc)
home_here (Back done) h = absurd (cc)

pub slot_here : {J : _} (part_slots : List (PartSlot J)) (part : ℕ) (any : PartSlot J) → (part < length (spots_of part_slots)) × (get_or (spots_of part_slots) part Gone ≡ Home) → is_here (get_or part_slots part any) ≡ true
slot_here part_slots part any h = home_here (get_or part_slots part any) (sym (spot_at part_slots part any h.0) ∙ h.1)

pub spots_set : {J : _} (part_slots : List (PartSlot J)) (part : ℕ) (slot : PartSlot J) → spots_of (set part_slots part slot) ≡ set (spots_of part_slots) part (spot_of slot)
spots_set [] part slot = refl
spots_set (x ∷ xs) zero slot = refl
spots_set (x ∷ xs) (suc part) slot = ap (λ ys. spot_of x ∷ ys) (spots_set xs part slot)

pub in_slots_set : {J : _} (e s : ℕ) (part_slots : List (PartSlot J)) (at : ℕ) (slot : PartSlot J) → at < length part_slots → IsInSlot e s at slot → AreInSlots e s part_slots → AreInSlots e s (set part_slots at slot)
in_slots_set e s part_slots at slot lt here all part any below =
    elim (same_or_not part at) [
      | inl same ↦ subst (λ k. IsInSlot e s k (get_or (set part_slots at slot) k any)) (sym same) (subst (λ x. IsInSlot e s at x) (sym (get_or-set_same part_slots at slot any lt)) here)
      | inr ne ↦ subst (λ x. IsInSlot e s part x) (sym (get_or-set_other part_slots at part slot any ne)) (all part any (subst (λ n. part < n) (length-set part_slots at slot) below))
    ]

slot_later : {J : _} (e later s part : ℕ) (slot : PartSlot J) → e ≤ later → IsInSlot e s part slot → IsInSlot later s part slot
slot_later e later s part (Here slice) le h = (h.0, h.1, (let own = h.2 in omega (arith, le, own)))
slot_later e later s part Away le h = tt
slot_later e later s part (Back done) le h = (h.0, h.1, (let own = h.2 in omega (arith, le, own)))

pub in_slots_later : {J : _} (e later s : ℕ) (part_slots : List (PartSlot J)) → e ≤ later → AreInSlots e s part_slots → AreInSlots later s part_slots
in_slots_later e later s part_slots le all part any below = slot_later e later s part (get_or part_slots part any) le (all part any below)

-- ---- all have come back

returned_back : {J : _} (slot : PartSlot J) → spot_of slot ≡ Returned → is_back slot ≡ true
returned_back (Here slice) h = absurd (cc)
returned_back Away h = absurd (cc)
returned_back (Back done) h = refl

pub all_returned : {J : _} (part_slots : List (PartSlot J)) (n : ℕ) → spots_of part_slots ≡ replicate n Returned → AreBack part_slots
all_returned part_slots n is part any below =
    let small : part < n = omega (arith, below, sym (length-map part_slots spot_of) ∙ ap length is ∙ length-replicate n Returned) in
    returned_back (get_or part_slots part any)
    (sym (get_or-map spot_of part_slots part any Gone below) ∙ ap (λ xs. get_or xs part Gone) is ∙ get_or-replicate n part Returned Gone small)

back_is : (J : Type 0) (e s part : ℕ) (done : DoneStamp) → IsInSlot {J = J} e s part (Back done) → (done.superstep ≡ s) × (done.part ≡ part) × (done.epoch ≤ e)
back_is J e s part done h = h

in_slots_done : {J : _} (e s : ℕ) (part_slots : List (PartSlot J)) (dones : List DoneStamp) (part : ℕ) (any : DoneStamp) → map Back dones ≡ part_slots → AreInSlots e s part_slots → part < length dones → ((get_or dones part any).superstep ≡ s) × ((get_or dones part any).part ≡ part) × ((get_or dones part any).epoch ≤ e)
in_slots_done {J = J} e s part_slots dones part any is all below =
    back_is J e s part (get_or dones part any)
    (subst (λ x. IsInSlot e s part x) (ap (λ xs. get_or xs part (Back any)) (sym is) ∙ get_or-map Back dones part any (Back any) below)
    (all part (Back any) (let l : part < length part_slots = omega (arith, below, sym (length-map dones Back) ∙ ap length is) in l)))

parts_in_order : (dones : List DoneStamp) (n : ℕ) → length dones ≡ n → ((part : ℕ) (any : DoneStamp) → part < length dones → (get_or dones part any).part ≡ part) → map (λ (done : DoneStamp). done.part) dones ≡ range_with_len 0 n
parts_in_order dones n long at =
    let none : DoneStamp = record { epoch = 0; superstep = 0; part = 0; units = 0 } in
    let wide : length (map (λ (done : DoneStamp). done.part) dones) ≡ length dones = length-map dones (λ (done : DoneStamp). done.part) in
    same_lists (map (λ (done : DoneStamp). done.part) dones) (range_with_len 0 n) (wide ∙ long ∙ sym (length-range_with_len 0 n)) (λ k d below.
    let small : k < length dones = omega (arith, below, wide) in
    get_or-map (λ (done : DoneStamp). done.part) dones k none d small ∙ at k none small ∙ (let zero_first : k ≡ 0 + k = omega arith in zero_first) ∙ sym (get_or-range_with_len 0 n k d (let l : k < n = omega (arith, small, long) in l)))

pub row_back : {J : _} (e s n : ℕ) (part_slots : List (PartSlot J)) (dones : List DoneStamp) → map Back dones ≡ part_slots → AreInSlots e s part_slots → spots_of part_slots ≡ replicate n Returned → IsRow n s dones
row_back e s n part_slots dones is all spots =
    let long : length dones ≡ n = sym (length-map dones Back) ∙ ap length is ∙ sym (length-map part_slots spot_of) ∙ ap length spots ∙ length-replicate n Returned in
    record {
      supersteps = λ part any below. (in_slots_done e s part_slots dones part any is all below).0;
      in_order = parts_in_order dones n long (λ part any below. (in_slots_done e s part_slots dones part any is all below).1);
    }

-- if the last epoch is trusted, so are they
pub trusted_back : {J : _} (honest : ℕ → Bool) (e s : ℕ) (part_slots : List (PartSlot J)) (dones : List DoneStamp) → Lasts honest → honest e ≡ true → map Back dones ≡ part_slots → AreInSlots e s part_slots → AreTrusted honest dones
trusted_back honest e s part_slots dones lasts sure is all = λ part any below.
    earlier honest lasts (get_or dones part any).epoch e (in_slots_done e s part_slots dones part any is all below).2 sure

pub ok_both : {T E : Type 0} (r : Result T E) (P Q : T → Type 0) → IfOk r P → IfOk r Q → IfOk r (λ x. P x × Q x)
ok_both (Ok x) P Q p q = (p, q)
ok_both (Err e) P Q p q = tt
