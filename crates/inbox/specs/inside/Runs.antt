-- Letters sorted by target, one target's after another's.
use Rattle.std.specs.Prelude.{◌≡◌, ◌++◌, ℕ, ℤ, true, int_lt, List, [], ◌∷◌}
use Rattle.std.specs.List.{AllByRecursion}
use Rattle.std.specs.List.Sorted.{IsStrictlySortedBy}
use Rattle.inbox.specs.declared.arrivals.Arrival.{Arrival}
use Rattle.inbox.specs.declared.letters.Letter.{Letter}
use Rattle.inbox.specs.Arrivals.{arrivals_from}
use Rattle.inbox.specs.Merging.{inboxes_of}
use Rattle.inbox.specs.inside.Targets.{target_cmp}

-- letters to lesser targets only
abbrev pub AreBelow : ℤ → List Letter → Type 0
AreBelow to letters = AllByRecursion (λ letter. int_lt letter.to to ≡ true) letters

-- the letters go to one target, and those sent before to lesser ones
pub record IsRunAfter (sent run : List Letter) : Type 0 where
  pub to : ℤ
  pub one : AllByRecursion (λ letter. letter.to ≡ to) run
  pub before : AreBelow to sent

-- the first of the letters goes to a greater target than those sent before
abbrev pub ComeAfter : List Letter → List Letter → Type 0
ComeAfter sent [] = Unit {0}
ComeAfter sent (letter ∷ letters) = AreBelow letter.to sent

-- some of the letters are delivered, and these are left
pub record AreLeft (letters : List Letter) (ids : List ℕ) (rest : List Letter) (arrivals : List Arrival) : Type 0 where
  pub sent : List Letter
  pub whole : sent ++ rest ≡ letters
  pub made : arrivals ≡ arrivals_from 0 (inboxes_of sent ids)
  pub after : ComeAfter sent rest
  pub sorted : IsStrictlySortedBy target_cmp rest
