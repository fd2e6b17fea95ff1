-- The contracts of the parser's functions. Each function moves forward in the tokens, and its answer is what the readers
-- of printed texts read there. `Reading`, `ReadingCode` and `ReadingModule` define these readers.
use Rattle.std.specs.Prelude.{◌≡◌, ℕ, ◌<◌, ◌≤◌, List, length, Option, Some, Result, IfOk}
use Rattle.std.specs.declared.vec.Vec.{Vec}
use Rattle.wasm_ast.specs.declared.types.ValType.{ValType}
use Rattle.wasm_ast.specs.declared.types.Value.{Value as Constant}
use Rattle.wat_syntax.specs.declared.fault.Failure.{Failure}
use Rattle.wat_syntax.specs.declared.lexer.token.Token.{Token}
use Rattle.wat_syntax.specs.declared.parser.code.Room.{Room}
use Rattle.wat_syntax.specs.declared.parser.draft.Draft.{Draft}
use Rattle.wat_syntax.specs.inside.Follows.{Follows}
use Rattle.wat_syntax.specs.inside.Tokens.{tok_of}
use Rattle.wat_syntax.specs.inside.Reading.{State, Reads}
use Rattle.wat_syntax.specs.inside.ReadingCode.{constant_of}
use Rattle.wat_syntax.specs.inside.ReadingModule.{Making, drafted}

-- fewer tokens remain than before, where the function does not fail
abbrev pub Fewer : {X : Type 0} → (old new : State) → Result X Failure → Type 0
Fewer old new result = IfOk result (λ _. length new.0 < length old.0)

-- as many or fewer tokens remain, where the function does not fail
abbrev pub NoMore : {X : Type 0} → (old new : State) → Result X Failure → Type 0
NoMore old new result = IfOk result (λ _. length new.0 ≤ length old.0)

-- a property of a function's result, given the parser's states before and after it
abbrev pub Answer : Type 0 → Type 1
Answer X = (old new : State) → Result X Failure → Type 0

-- the result has this property, and no token is given back
pub record GoesOn {X : Type 0} (old new : State) (result : Result X Failure) (answer : Answer X) : Type 0 where
  pub again : answer old new result
  pub shrinks : NoMore old new result

-- the result has this property, and at least one token is read
pub record Advances {X : Type 0} (old new : State) (result : Result X Failure) (answer : Answer X) : Type 0 where
  pub again : answer old new result
  pub shrinks : Fewer old new result

-- ---- answers

-- the item that is read
abbrev pub Gives : {A : Type 0} → Reads A → Answer A
Gives reader old new result = Follows (λ x. (x, new)) result (reader old)

-- the item that is read in any number of steps
abbrev pub GivesAny : {A : Type 0} → (ℕ → Reads A) → Answer A
GivesAny readers old new result = (n : ℕ) → Follows (λ x. (x, new)) result (readers n old)

-- the item that is read, mapped by `view`
abbrev pub Shows : {X A : Type 0} → (X → A) → Reads A → Answer X
Shows view reader old new result = Follows (λ x. (view x, new)) result (reader old)

abbrev pub ShowsAny : {X A : Type 0} → (X → A) → (ℕ → Reads A) → Answer X
ShowsAny view readers old new result = (n : ℕ) → Follows (λ x. (view x, new)) result (readers n old)

-- no item: tokens are only skipped
abbrev pub Passes : (State → Option State) → Answer (Unit {0})
Passes reader old new result = Follows (λ _. new) result (reader old)

-- no item: what is read changes a value
abbrev pub MakesAny : {A : Type 0} → (before after : A) → (ℕ → A × State → Option (A × State)) → Answer (Unit {0})
MakesAny before after readers old new result = (n : ℕ) → Follows (λ _. (after, new)) result (readers n (before, old))

-- no item: what is read is added to a vector
abbrev pub AddsAny : {A Z : Type 0} → (before after : Vec A Z) → (ℕ → List A × State → Option (List A × State)) → Answer (Unit {0})
AddsAny before after readers old new result =
    (n : ℕ) → Follows (λ _. (after.items, new)) result (readers n (before.items, old))

-- no item: what is read is put into the draft of a module
abbrev pub Drafts : (before after : Draft) → (Making → Option Making) → Answer (Unit {0})
Drafts before after reader old new result = Follows (λ _. (drafted after, new)) result (reader (drafted before, old))

abbrev pub DraftsAny : (before after : Draft) → (ℕ → Making → Option Making) → Answer (Unit {0})
DraftsAny before after readers old new result =
    (n : ℕ) → Follows (λ _. (drafted after, new)) result (readers n (drafted before, old))

-- the property, where a condition holds
abbrev pub When : {X : Type 0} → Type 0 → Answer X → Answer X
When holds answer old new result = holds → answer old new result

-- the property, where another parenthesis may open
abbrev pub InRoom : {X : Type 0} → Room → Answer X → Answer X
InRoom room answer old new result = 0 < room.parentheses → answer old new result

-- ---- constants

-- the constant of a token, as printed texts have it
abbrev pub IsConstant : ValType → Token → Option Constant → Type 0
IsConstant t token result =
    (source : List ℕ) (v : Constant) → constant_of t (tok_of source token) ≡ Some v → result ≡ Some v
