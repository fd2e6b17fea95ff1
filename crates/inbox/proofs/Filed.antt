-- Letters filed by block: an id finds at its place among the messages of its block what goes to it of all letters.
use Rattle.std.proofs.Common.{◌≡◌, ◌<◌, ◌≤◌, ◌+◌, ◌*◌, ◌-◌, ◌/◌, ◌%◌, ℕ, zero, suc, ℤ, pos, negsuc, Bool, true, false, List, [], ◌∷◌, ◌++◌, Some, None, map, length, get_or, take, arith, inl, inr, refl, sym, ap, subst, ◌∙◌, append-nil, append_assoc, Global}
use Rattle.std.proofs.Math.ListN.{set}
use Rattle.std.proofs.Math.Nat.{div-add-mod}
use Rattle.std.proofs.Math.Seq.{map-set_same}
use Rattle.std.proofs.lemmas.Bool.{cases_Bool, cases_eq, cases_lt}
use Rattle.std.proofs.lemmas.Bool.Decides.{Decides-int_eq, nat_tests}
use Rattle.std.proofs.lemmas.List.{get_or-map, get_or-set_same, get_or-set_other, get_or_default, length-map, length-set, map-append, map-set, same_lists, take_more}
use Rattle.std.specs.List.{AllByRecursion, AllZip, flat_map}
use Rattle.std.specs.Ordering.{int_eq}
use Rattle.std.specs.Prelude.{cond, max, nat_eq, nat_le}
use Rattle.std.specs.declared.vec.Vec.{Vec}
use Rattle.inbox.specs.declared.blocks.Block.{Block}
use Rattle.inbox.specs.declared.filing.PartBlocks.{PartBlocks}
use Rattle.inbox.specs.declared.grid.Grid.{Grid}
use Rattle.inbox.specs.declared.grid.Spot.{Spot}
use Rattle.inbox.specs.declared.letters.Letter.{Letter}
use Rattle.inbox.specs.declared.slips.Slip.{Slip}
use Rattle.inbox.specs.Merging.{IsBySource, all_of, goes_to, inbox_of, inboxes_of, letter_sent, letters_sent}
use Rattle.inbox.specs.inside.Blocks.{AreFiled, AreInPlace, IsMade, ids_of, none_in, slips_of}
use Rattle.inbox.specs.inside.Filing.{AreInBlocks}
use Rattle.inbox.specs.inside.Grids.{AreOfBlock, spot, spot_for, spot_of}
use Rattle.inbox.specs.inside.Slips.{AreInboxesOf, messages_at}
use Rattle.inbox.proofs.Delivery.{grows, stays}
use Rattle.inbox.proofs.Messages.{messages-append, no_message, one_message}
use Rattle.inbox.proofs.Sending.{sent_more}

-- ---- spots

same_number : (a b : ℕ) → nat_eq a b ≡ true → a ≡ b
same_number a b is = grind (arith, nat_tests)

some_same : (a b : Spot) → Some a ≡ Some b → a ≡ b
some_same a b same = cc

-- what the spot of an id says
record IsSpot (grid : Grid) (id : ℕ) (at : Spot) : Type 0 where
  after : grid.first ≤ id
  exact : (id - grid.first) % max grid.gap 1 ≡ 0
  block : at.block ≡ (id - grid.first) / max grid.gap 1 / 4096
  place : at.place ≡ (id - grid.first) / max grid.gap 1 % 4096

is_spot : (grid : Grid) (id : ℕ) (at : Spot) → spot_of grid id ≡ Some at → IsSpot grid id at
is_spot grid id at is = by (nat_le grid.first id) (nat_eq (far % gap) 0) refl refl is
  where
    far : ℕ
    far = id - grid.first

    gap : ℕ
    gap = max grid.gap 1

    found : Spot
    found = spot (far / gap / 4096) (far / gap % 4096)

    by : (a b : Bool) → nat_le grid.first id ≡ a → nat_eq (far % gap) 0 ≡ b → cond a (cond b (Some found) None) None ≡ Some at → IsSpot grid id at
    by false b is_a is_b there = absurd cc
    by true false is_a is_b there = absurd cc
    by true true is_a is_b there =
        let same : found ≡ at = some_same found at there in
        record {
          after = grind (arith, nat_tests);
          exact = same_number (far % gap) 0 is_b;
          block = sym (ap (λ (at : Spot). at.block) same);
          place = sym (ap (λ (at : Spot). at.place) same);
        }

-- a number is that of its quotient and its remainder
same_parts : (a b n : ℕ) → a / n ≡ b / n → a % n ≡ b % n → a ≡ b
same_parts a b n quotient rest =
    sym (div-add-mod a n) ∙ ap (λ q. n * q + a % n) quotient ∙ ap (λ r. n * (b / n) + r) rest ∙ div-add-mod b n

-- no two ids have one spot
one_id : (grid : Grid) (id other : ℕ) (at there : Spot) → IsSpot grid id at → IsSpot grid other there → there.block ≡ at.block → there.place ≡ at.place → id ≡ other
one_id grid id other at there is is_other block place =
    let gap = max grid.gap 1 in
    let row : (id - grid.first) / gap ≡ (other - grid.first) / gap =
    same_parts ((id - grid.first) / gap) ((other - grid.first) / gap) 4096 (sym is.block ∙ sym block ∙ is_other.block) (sym is.place ∙ sym place ∙ is_other.place) in
    let far : id - grid.first ≡ other - grid.first = same_parts (id - grid.first) (other - grid.first) gap row (is.exact ∙ sym is_other.exact) in
    omega (arith, far, is.after, is_other.after)

same_target : (n id : ℕ) → n ≡ id → int_eq (pos n) (pos id) ≡ true
same_target n id same = grind (arith, nat_tests)

goes_there : (grid : Grid) (to : ℤ) (id : ℕ) (at there : Spot) → spot_for grid to ≡ Some at → spot_of grid id ≡ Some there → there.block ≡ at.block → there.place ≡ at.place → int_eq to (pos id) ≡ true
goes_there grid (pos n) id at there is is_other block place = same_target n id (one_id grid n id at there (is_spot grid n at is) (is_spot grid id there is_other) block place)
goes_there grid (negsuc n) id at there is is_other block place = absurd cc

-- ---- one more letter

-- to the block of this id: its messages are the same as before, and maybe one more
messages_there : (sent : List Letter) (blocks : List (List Slip)) (place : ℕ) (slip : Slip) (id : ℕ) (there : Spot) → there.block ≡ place → place < length blocks
    → messages_at there.place (get_or blocks there.block []) ≡ inbox_of sent id
    → messages_at there.place (get_or (set blocks place (get_or blocks place [] ++ slip ∷ [])) there.block []) ≡ inbox_of sent id ++ messages_at there.place (slip ∷ [])
messages_there sent blocks place slip id there is inside filed =
    let before = get_or blocks place [] in
    let after = set blocks place (before ++ slip ∷ []) in
    let here : get_or after there.block [] ≡ before ++ slip ∷ [] = ap (λ k. get_or after k []) is ∙ get_or-set_same blocks place (before ++ slip ∷ []) [] inside in
    let same : messages_at there.place before ≡ inbox_of sent id = ap (λ k. messages_at there.place (get_or blocks k [])) (sym is) ∙ filed in
    ap (messages_at there.place) here
    ∙ messages-append there.place before (slip ∷ [])
    ∙ ap (λ (messages : List ℤ). messages ++ messages_at there.place (slip ∷ [])) same

-- the letter goes to the spot of its target
pub filed_more : (grid : Grid) (sent : List Letter) (letter : Letter) (blocks : List (List Slip)) (at : Spot) (slip : Slip) → slip.place ≡ at.place → slip.value ≡ letter.value → spot_for grid letter.to ≡ Some at → at.block < length blocks → AreFiled grid sent blocks → AreFiled grid (sent ++ letter ∷ []) (set blocks at.block (get_or blocks at.block [] ++ slip ∷ []))
filed_more grid sent letter blocks at slip place value is inside filed = λ id there is_there below.
    let within : there.block < length blocks = subst (λ n. there.block < n) (length-set blocks at.block (get_or blocks at.block [] ++ slip ∷ [])) below in
    let was = filed id there is_there within in
    elim (cases_Bool (goes_to letter id)) [
      | inl goes ↦
          let to : letter.to ≡ pos id = (Decides-int_eq letter.to (pos id)).0 goes in
          let same : at ≡ there = some_same at there (sym is ∙ ap (spot_for grid) to ∙ is_there) in
          messages_there sent blocks at.block slip id there (sym (ap (λ (at : Spot). at.block) same)) inside was
          ∙ ap (λ (messages : List ℤ). inbox_of sent id ++ messages) (one_message slip there.place (place ∙ ap (λ (at : Spot). at.place) same))
          ∙ ap (λ z. inbox_of sent id ++ z ∷ []) value
          ∙ sym (grows sent letter id goes)
      | inr goes ↦ elim (cases_eq there.block at.block) [
        | inl block ↦
            messages_there sent blocks at.block slip id there block inside was
            ∙ ap (λ (messages : List ℤ). inbox_of sent id ++ messages) (no_message slip there.place (λ same. absurd (both (goes_there grid letter.to id at there is is_there block (sym same ∙ place)) goes)))
            ∙ append-nil (inbox_of sent id)
            ∙ sym (stays sent letter id goes)
        | inr apart ↦
            ap (messages_at there.place) (get_or-set_other blocks at.block there.block (get_or blocks at.block [] ++ slip ∷ []) [] apart) ∙ was ∙ sym (stays sent letter id goes)
      ]
    ]
  where
    both : {b : Bool} → b ≡ true → b ≡ false → ⊥
    both is is_not = cc

get-none : (blocks : List (List Slip)) (k : ℕ) → AllByRecursion none_in blocks → get_or blocks k [] ≡ []
get-none [] k all = refl
get-none (block ∷ blocks) zero all = all.0
get-none (block ∷ blocks) (suc k) all = get-none blocks k all.1

pub filed_none : (grid : Grid) (blocks : List (List Slip)) → AllByRecursion none_in blocks → AreFiled grid [] blocks
filed_none grid blocks all = λ id there is below. ap (messages_at there.place) (get-none blocks there.block all)

-- one more letter of a list
pub filed_next : (grid : Grid) (sent letters : List Letter) (k : ℕ) (d : Letter) (blocks : List (List Slip)) → k < length letters → AreFiled grid ((sent ++ take k letters) ++ get_or letters k d ∷ []) blocks → AreFiled grid (sent ++ take (k + 1) letters) blocks
filed_next grid sent letters k d blocks inside filed =
    let more : (sent ++ take k letters) ++ get_or letters k d ∷ [] ≡ sent ++ take (k + 1) letters = append_assoc sent (take k letters) (get_or letters k d ∷ []) ∙ ap (λ rest. sent ++ rest) (sym (take_more letters k d inside)) in
    subst (λ sent. AreFiled grid sent blocks) more filed

-- one more letter of a source
pub sends_next : (grid : Grid) (sent : List Letter) (source : ℕ) (sends : List (ℤ × ℤ)) (k : ℕ) (d : ℤ × ℤ) (blocks : List (List Slip)) → k < length sends → AreFiled grid ((sent ++ letters_sent source (take k sends)) ++ letter_sent source (k, get_or sends k d) ∷ []) blocks → AreFiled grid (sent ++ letters_sent source (take (k + 1) sends)) blocks
sends_next grid sent source sends k d blocks inside filed =
    let more = append_assoc sent (letters_sent source (take k sends)) (letter_sent source (k, get_or sends k d) ∷ []) ∙ ap (λ rest. sent ++ rest) (sym (sent_more source sends k d inside)) in
    subst (λ sent. AreFiled grid sent blocks) more filed

-- ---- inboxes of blocks

-- at each place of each block, the id there finds what goes to it
AreRight : List Letter → List Block → Type 0
AreRight letters blocks = (k : ℕ) → k < length blocks → (place : ℕ) → place < length (get_or (map ids_of blocks) k [])
    → messages_at place (get_or (map slips_of blocks) k []) ≡ inbox_of letters (get_or (get_or (map ids_of blocks) k []) place 0)

right_at : (grid : Grid) (letters : List Letter) (blocks : List Block) → AreInPlace grid (map ids_of blocks) → AreFiled grid letters (map slips_of blocks) → AreRight letters blocks
unfolding AreRight
right_at grid letters blocks places filed = λ k below place inside.
    let here = places k (subst (λ n. k < n) (sym (length-map blocks ids_of)) below) in
    let within : k < length (map slips_of blocks) = subst (λ n. k < n) (sym (length-map blocks slips_of)) below in
    filed (get_or (get_or (map ids_of blocks) k []) place 0) (spot k place) (here place inside) within

block_made : (letters : List Letter) (ids : List ℕ) (slips : List Slip) (inboxes : List (List ℤ)) → ((place : ℕ) → place < length ids → messages_at place slips ≡ inbox_of letters (get_or ids place 0)) → AreInboxesOf slips (length ids) inboxes → inboxes ≡ inboxes_of letters ids
block_made letters ids slips inboxes right made =
    same_lists inboxes (inboxes_of letters ids) (made.one_each ∙ sym (length-map ids (inbox_of letters))) (λ k d inside.
    let within : k < length ids = omega (arith, made.one_each, inside) in
    get_or_default inboxes k d [] inside
    ∙ made.each k within
    ∙ right k within
    ∙ sym (get_or-map (inbox_of letters) ids k 0 d within))

each_made : (letters : List Letter) (blocks : List Block) (made : List (Vec (List ℤ) Global)) → AreRight letters blocks → AllZip IsMade blocks made → all_of made ≡ inboxes_of letters (flat_map ids_of blocks)
unfolding AreRight
each_made letters [] [] right zip = refl
each_made letters [] (inboxes ∷ made) right zip = absurd zip
each_made letters (block ∷ blocks) [] right zip = absurd zip
each_made letters (block ∷ blocks) (inboxes ∷ made) right zip =
    let first : inboxes.items ≡ map (inbox_of letters) (ids_of block) = block_made letters (ids_of block) (slips_of block) inboxes.items (right 0 (omega arith)) zip.0 in
    let others = each_made letters blocks made (λ k below. right (suc k) (omega arith)) zip.1 in
    (λ i. first i ++ others i) ∙ sym (map-append (inbox_of letters) (ids_of block) (flat_map ids_of blocks))

flat_from_map : (blocks : List Block) → flat_map ids_of blocks ≡ flat_map (λ (ids : List ℕ). ids) (map ids_of blocks)
flat_from_map [] = refl
flat_from_map (block ∷ blocks) = ap (λ rest. ids_of block ++ rest) (flat_from_map blocks)

pub all_filled : (grid : Grid) (letters : List Letter) (old new : List Block) (made : List (Vec (List ℤ) Global)) → map ids_of new ≡ map ids_of old → AreInPlace grid (map ids_of old) → AreFiled grid letters (map slips_of new) → AllZip IsMade new made → all_of made ≡ inboxes_of letters (flat_map ids_of old)
all_filled grid letters old new made same places filed zip =
    let ids : flat_map ids_of new ≡ flat_map ids_of old = flat_from_map new ∙ ap (flat_map (λ (ids : List ℕ). ids)) same ∙ sym (flat_from_map old) in
    each_made letters new made (right_at grid letters new (subst (AreInPlace grid) (sym same) places) filed) zip ∙ ap (inboxes_of letters) ids

-- the letters are filed in blocks that were made for these ids
pub in_blocks : (letters : List Letter) (ids : Vec ℕ Global) (grid : Grid) (old : List Block) (part : PartBlocks) → flat_map ids_of old ≡ ids.items → AreInPlace grid (map ids_of old) → map ids_of part.blocks.items ≡ map ids_of old
    → (sent : List Letter) × IsBySource letters sent × AreFiled grid sent (map slips_of part.blocks.items) → AreInBlocks letters ids part
in_blocks letters ids grid old part whole places same found = record {
  grid = grid;
  whole = flat_from_map part.blocks.items ∙ ap (flat_map (λ (ids : List ℕ). ids)) same ∙ sym (flat_from_map old) ∙ whole;
  places = subst (AreInPlace grid) (sym same) places;
  sent = found.0;
  by = found.1;
  filed = found.2;
}

-- what is made of a part's blocks
pub part_made : (letters : List Letter) (ids : Vec ℕ Global) (part : PartBlocks) (made : List (Vec (List ℤ) Global)) → AllZip IsMade part.blocks.items made → (are : AreInBlocks letters ids part) → all_of made ≡ inboxes_of are.sent ids.items
part_made letters ids part made zip are =
    all_filled are.grid are.sent part.blocks.items part.blocks.items made refl are.places are.filed zip ∙ ap (inboxes_of are.sent) are.whole

-- one more block in its place
pub places_more : (grid : Grid) (blocks : List Block) (index : ℕ) (d : Block) → index < length blocks → ((k : ℕ) → k < index → AreOfBlock grid k (get_or (map ids_of blocks) k [])) → AreOfBlock grid index (ids_of (get_or blocks index d)) → (k : ℕ) → k < index + 1 → AreOfBlock grid k (get_or (map ids_of blocks) k [])
places_more grid blocks index d inside before here k below = elim (cases_lt k index) [
  | inl less ↦ before k less
  | inr past ↦
      let same : index ≡ k = omega (arith, past, below) in
      subst (λ n. AreOfBlock grid n (get_or (map ids_of blocks) n [])) same (subst (AreOfBlock grid index) (sym (get_or-map ids_of blocks index d [] inside)) here)
]

-- ---- blocks, as they are made

pub ids_more : (blocks : List Block) (block : Block) → flat_map ids_of (blocks ++ block ∷ []) ≡ flat_map ids_of blocks ++ ids_of block
ids_more [] block = append-nil (ids_of block)
ids_more (first ∷ blocks) block = ap (λ rest. ids_of first ++ rest) (ids_more blocks block) ∙ sym (append_assoc (ids_of first) (flat_map ids_of blocks) (ids_of block))

pub none_more : (blocks : List Block) (block : Block) → AllByRecursion none_in (map slips_of blocks) → slips_of block ≡ [] → AllByRecursion none_in (map slips_of (blocks ++ block ∷ []))
none_more [] block all none = (none, tt)
none_more (first ∷ blocks) block all none = (all.0, none_more blocks block all.1 none)

-- one message more in a block
pub ids_stay : (blocks : List Block) (place : ℕ) (old new : Block) → place < length blocks → old ≡ get_or blocks place old → ids_of new ≡ ids_of old → map ids_of (set blocks place new) ≡ map ids_of blocks
ids_stay blocks place old new inside is same = map-set_same ids_of blocks place new old (same ∙ ap ids_of is)

pub slips_more : (blocks : List Block) (place : ℕ) (old new : Block) (slip : Slip) → place < length blocks → old ≡ get_or blocks place old → slips_of new ≡ slips_of old ++ slip ∷ [] → map slips_of (set blocks place new) ≡ set (map slips_of blocks) place (get_or (map slips_of blocks) place [] ++ slip ∷ [])
slips_more blocks place old new slip inside is more =
    let here : get_or (map slips_of blocks) place [] ≡ slips_of old = get_or-map slips_of blocks place old [] inside ∙ ap slips_of (sym is) in
    map-set slips_of blocks place new ∙ ap (λ slips. set (map slips_of blocks) place slips) (more ∙ ap (λ slips. slips ++ slip ∷ []) (sym here))
