-- Letters by the share of parts whose ids they may go to.
use Rattle.std.specs.Prelude.{◌≡◌, ◌%◌, ◌&&◌, max, bit_and, ℕ, ℤ, pos, negsuc, Bool, false, List, map, nat_le, length, sum_by}
use Rattle.std.specs.Global.{Vec}
use Rattle.std.specs.List.{AllZip}
use Rattle.std.specs.List.Sorted.{IsStrictlySortedBy}
use Rattle.inbox.specs.declared.letters.Letter.{Letter}
use Rattle.inbox.specs.declared.all_parts.Delivered.{Delivered}
use Rattle.inbox.specs.declared.shares.TargetSet.{TargetSet}
use Rattle.inbox.specs.declared.shares.Key.{Key}
use Rattle.inbox.specs.declared.shares.Key.TheVariants.{Bits, Remainder}
use Rattle.inbox.specs.declared.shares.Share.{Share}
use Rattle.inbox.specs.Merging.{IsBySource, inbox_of, inboxes_of}
use Rattle.inbox.specs.inside.Targets.{target_cmp}

-- the key of a target, by which parts differ
abbrev pub key_of : Key → ℕ → ℕ
key_of (Bits mask) target = bit_and target mask
key_of (Remainder parts) target = target % max parts 1

-- whether this is one of the set's targets
abbrev pub has : TargetSet → ℕ → Bool
has target_set target = nat_le target_set.start (key_of target_set.key target) && nat_le (key_of target_set.key target) target_set.last

abbrev pub has_target : TargetSet → ℤ → Bool
has_target target_set (pos target) = has target_set target
has_target target_set (negsuc n) = false

abbrev pub goes_into : TargetSet → Letter → Bool
goes_into target_set letter = has_target target_set letter.to

abbrev pub parts_of : Share → List (Vec ℕ)
parts_of share = share.parts.now

-- this is the inbox of an id, if the letters are sorted by target
abbrev pub IsInboxIn : List Letter → ℕ → List ℤ → Type 0
IsInboxIn letters id inbox = IsStrictlySortedBy target_cmp letters → inbox ≡ inbox_of letters id

-- these are the inboxes of a part's ids, if the letters are sorted by target, and the number of their messages
pub record IsPutIn (letters : List Letter) (ids : List ℕ) (delivered : Delivered) : Type 0 where
  pub inboxes : AllZip (IsInboxIn letters) ids delivered.inboxes.items
  pub count : delivered.count ≡ sum_by length delivered.inboxes.items

-- the same of a part
abbrev pub ArePutIn : List Letter → Vec ℕ → Delivered → Type 0
ArePutIn letters ids delivered = IsPutIn letters ids.items delivered

-- these are the inboxes of a part's ids, from all letters, and the number of their messages
pub record IsDelivered (letters : List Letter) (ids : Vec ℕ) (delivered : Delivered) : Type 0 where
  pub inboxes : (ordered : List Letter) → IsBySource letters ordered → delivered.inboxes.items ≡ inboxes_of ordered ids.items
  pub count : delivered.count ≡ sum_by length delivered.inboxes.items

-- the same for each part of a share
abbrev pub AreDelivered : List Letter → Share → Vec Delivered → Type 0
AreDelivered letters share all = AllZip (IsDelivered letters) share.parts.now all.items

-- the inboxes of each part
abbrev pub inboxes_in : List Delivered → List (Vec (List ℤ))
inboxes_in all = map (λ part. part.inboxes) all
