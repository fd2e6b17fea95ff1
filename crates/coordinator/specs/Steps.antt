-- How the book, the received messages, the sent orders and the Keep follow one list of assignments and events.
use Rattle.std.specs.Prelude.{◌≡◌, ◌<◌, ◌==◌, ℕ, suc, Bool, true, List, [], ◌∷◌, ◌++◌, length, Some, if◌then◌else◌}
use Rattle.superstep.specs.Job.{Work}
use Rattle.control.specs.declared.control.Out.{Out}
use Rattle.control.specs.Machine.{Machine, hand, handed, task_of}
use Rattle.control.specs.Events.{Heard, Stamp, accepted}
use Rattle.book.specs.Book.{IsQuietAt}
use Rattle.hub_ends.specs.Orders.{at}
use Rattle.worker_loops.specs.Numbers.{outs_in, stamps_in}
use Rattle.hub_ends.specs.declared.message.Message.{Message}
use Rattle.hub_ends.specs.declared.order.Order.{Order}

-- ---- assignments and events

-- a worker was assigned this task; or an event was taken, in which the model heard this
pub data Move : Type 0 where
  Hand : (worker : ℕ) → (task : Out) → Move
  Take : (heard : Heard) → (stamp : Stamp) → Move

abbrev pub moved : Machine → Move → Machine
moved m (Hand w task) = handed m w task.part
moved m (Take heard stamp) = (accepted heard m stamp).0

-- An assignment is the one that the model makes. If the epoch is trusted, the model hears whether the plain run is quiet.
abbrev pub IsMove : Work → (ℕ → Bool) → Machine → Move → Type 0
IsMove work honest m (Hand w task) = (hand m w ≡ Some task.part) × (task ≡ task_of m task.part)
IsMove work honest m (Take heard stamp) =
    honest m.epoch ≡ true → (accepted heard m stamp).0.superstep ≡ suc m.superstep → IsQuietAt work (suc m.superstep) heard.quiet

-- where they lead
abbrev pub after : Machine → List Move → Machine
after m [] = m
after m (move ∷ moves) = after (moved m move) moves

abbrev pub AreMoves : Work → (ℕ → Bool) → Machine → List Move → Type 0
AreMoves work honest m [] = Unit {0}
AreMoves work honest m (move ∷ moves) = IsMove work honest m move × AreMoves work honest (moved m move) moves

abbrev pub event_of : Move → List Stamp
event_of (Hand w task) = []
event_of (Take heard stamp) = stamp ∷ []

-- the events, in order
abbrev pub events : List Move → List Stamp
events [] = []
events (move ∷ moves) = event_of move ++ events moves

abbrev pub hand_of : ℕ → Move → List Out
hand_of w (Hand v task) = if v == w then task ∷ [] else []
hand_of w (Take heard stamp) = []

-- the tasks that worker w was assigned, in order
abbrev pub hands : ℕ → List Move → List Out
hands w [] = []
hands w (move ∷ moves) = hand_of w move ++ hands w moves

-- This relation holds at each assignment and event, of the model and the Keep before and after it.
abbrev pub KeptAlong : {K : Type 0} → (Machine → Machine → K → K → Type 0) → Machine → K → List Move → K → Type 0
KeptAlong over m keep [] keep' = keep ≡ keep'
KeptAlong {K} over m keep (move ∷ moves) keep' =
    (mid : K) × over m (moved m move) keep mid × KeptAlong over (moved m move) mid moves keep'

-- ---- what a coordinator did

-- There is one list of assignments and events that leads from one state of the model to the other. Its events are what
-- was received in between. Its assignments to each worker are what that worker was sent, in order.
pub record Steps {J : Type 0} (work : Work) (honest : ℕ → Bool) (before now : Machine) (received received' : List (Message J)) (handed handed' : List (List (Order J))) : Type 0 where
  pub moves : List Move
  pub are : AreMoves work honest before moves
  pub leads : after before moves ≡ now
  pub took : stamps_in received' ≡ stamps_in received ++ events moves
  pub gave : (w : ℕ) → w < length handed → outs_in (at handed' w) ≡ outs_in (at handed w) ++ hands w moves
  pub width : length handed' ≡ length handed
