-- The result of a function, where a reader of printed text reads something.
use Rattle.std.specs.Prelude.{◌≡◌, ⊤, Option, Some, None, IsSomeAnd, Result, Ok, Err}
use Rattle.wat_syntax.specs.declared.fault.Failure.{Failure}
use Rattle.wat_syntax.specs.declared.fault.Failure.TheVariants as failure

infixl 10 ◌>>=◌
abbrev pub ◌>>=◌ : {A B : Type 0} → Option A → (A → Option B) → Option B
(Some x) >>= f = f x
None >>= f = None

-- the failure is out of memory
abbrev pub IsMemory : Failure → Type 0
IsMemory failure.OutOfMemory = ⊤
IsMemory (failure.Fault what left) = ⊥

-- the result is y, unless memory ran out
abbrev pub IsRead : {X Y : Type 0} → (X → Y) → Result X Failure → Y → Type 0
IsRead view (Ok x) y = view x ≡ y
IsRead view (Err e) y = IsMemory e

-- the result is what the reader reads; where it reads nothing, nothing is claimed
abbrev pub Follows : {X Y : Type 0} → (X → Y) → Result X Failure → Option Y → Type 0
Follows view result None = ⊤
Follows view result (Some y) = IsRead view result y

-- the same, for a function that returns an option
abbrev pub FollowsSome : {X Y : Type 0} → (X → Y) → Option X → Option Y → Type 0
FollowsSome view result None = ⊤
FollowsSome view result (Some y) = IsSomeAnd result (λ x. view x ≡ y)
