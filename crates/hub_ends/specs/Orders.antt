-- The orders that a worker is sent.
use Rattle.std.specs.Prelude.{ℕ, Bool, true, false, Option, Some, None, List, [], ◌∷◌, ◌++◌, slice_index_or, slice_set}
use Rattle.superstep.specs.declared.task.Task.{Task}
use Rattle.hub_ends.specs.declared.order.Order.{Order}
use Rattle.hub_ends.specs.declared.order.Order.TheVariants.{Do, Stop}

-- ---- the channel of a worker's tasks, whose one sender has the number 0

abbrev pub coordinator : {J : _} → Order J → ℕ
coordinator order = 0

abbrev pub stops : {J : _} → Order J → Bool
stops (Do task) = false
stops Stop = true

-- what a worker took, as the order that it was
abbrev pub order_of : {J : _} → Option (Task J) → Order J
order_of (Some task) = Do task
order_of None = Stop

-- ---- lists of orders

module _ {J : Type 0} where
  -- without stops
  abbrev pub tasks_in : List (Order J) → List (Task J)
  tasks_in [] = []
  tasks_in (Do task ∷ orders) = task ∷ tasks_in orders
  tasks_in (Stop ∷ orders) = tasks_in orders

  -- the orders that worker w was sent
  abbrev pub at : List (List (Order J)) → ℕ → List (Order J)
  at handed w = slice_index_or handed w []

  -- one more order for worker w
  abbrev pub with_order : List (List (Order J)) → ℕ → Order J → List (List (Order J))
  with_order handed w order = slice_set handed w (at handed w ++ order ∷ [])
