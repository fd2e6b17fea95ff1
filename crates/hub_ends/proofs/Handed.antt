-- What is handed to workers.
use Rattle.std.proofs.lemmas.Bool.Decides.{eqb_tells}
use Rattle.std.proofs.Common.{◌≡◌, ◌≢◌, ℕ, zero, suc, ◌+◌, ◌<◌, Bool, true, false, true≢false, ◌||◌, List, [], ◌∷◌, ◌++◌, map, length, set, slice_get, slice_index_or, Some, None, Result, Ok, Err, OnOk, OnErr, is_err, sym, refl, ap, ◌∙◌, subst, arith, ◌⊎◌, ⊎_elim, inl, inr}
use mathlib.Core.List.{append-nil}
use Rattle.hub_ends.specs.Protocol.{has_bye}
use Rattle.hub_ends.specs.Orders.{stops, at, tasks_in, with_order}
use Rattle.hub_ends.specs.declared.order.Order.{Order}
use Rattle.hub_ends.specs.declared.order.Order.TheVariants.{Do, Stop}
use Rattle.hub_ends.proofs.Byes.{has_bye_more}

-- ---- results

module _ {A E : Type 0} where
  pub on_ok : (P Q : Type 0) (r : Result A E) → OnOk r P → (P → Q) → OnOk r Q
  on_ok P Q (Ok a) p f = f p
  on_ok P Q (Err e) p f = tt

  pub on_err : (P Q : Type 0) (r : Result A E) → OnErr r P → (P → Q) → OnErr r Q
  on_err P Q (Ok a) p f = tt
  on_err P Q (Err e) p f = f p

  pub on_either : (P Q G : Type 0) (r : Result A E) → OnOk r P → OnErr r Q → (P → G) → (Q → G) → G
  on_either P Q G (Ok a) p q f h = f p
  on_either P Q G (Err e) p q f h = h q

  pub ok_gives : (P : Type 0) (r : Result A E) → is_err r ≡ false → OnOk r P → P
  ok_gives P (Ok a) e p = p
  ok_gives P (Err x) e p = absurd (true≢false e)

upto : (P Q : ℕ → Type 0) (n : ℕ) → ((w : ℕ) → w < n → P w) → ((w : ℕ) → P w → Q w) → Q n → (w : ℕ) → w < n + 1 → (w ≡ n) ⊎ (w ≢ n) → Q w
upto P Q n old keeps new w h (inl e) = subst Q (sym e) new
upto P Q n old keeps new w h (inr e) = keeps w (old w (omega (arith, e)))

-- what holds below n, as long as there was no fault
pub below_more : {A E : Type 0} (P Q : ℕ → Type 0) (n : ℕ) (r : Result A E) → OnOk r ((w : ℕ) → w < n → P w) → ((w : ℕ) → P w → Q w) → Q n → OnOk r ((w : ℕ) → w < n + 1 → Q w)
below_more P Q n (Ok a) old keeps new = λ w h. upto P Q n old keeps new w h (⊎_elim (λ x. inl x.1) (λ x. inr x.1) (eqb_tells w n))
below_more P Q n (Err e) old keeps new = tt

-- ---- one of a list is changed

module _ {A B : Type 0} (f : A → B) where
  pub length_map : (xs : List A) → length (map f xs) ≡ length xs
  length_map [] = refl
  length_map (x ∷ xs) = ap suc (length_map xs)

  -- a change that f does not see
  pub map_same : (xs : List A) (w : ℕ) (old new : A) → w < length xs → old ≡ slice_index_or xs w old → f new ≡ f old → map f (set xs w new) ≡ map f xs
  map_same [] w old new h e k = absurd (omega arith)
  map_same (x ∷ xs) zero old new h e k = ap (λ l. l ∷ map f xs) (k ∙ ap f e)
  map_same (x ∷ xs) (suc w) old new h e k = ap (λ l. f x ∷ l) (map_same xs w old new (omega arith) e k)

pub map_one : {A C : Type 0} (f : A → List C) (xs : List A) (w : ℕ) (old new : A) (c : C) → w < length xs → old ≡ slice_index_or xs w old → f new ≡ f old ++ c ∷ []
    → map f (set xs w new) ≡ set (map f xs) w (slice_index_or (map f xs) w [] ++ c ∷ [])
map_one f [] w old new c h e k = absurd (omega arith)
map_one f (x ∷ xs) zero old new c h e k = ap (λ l. l ∷ map f xs) (k ∙ ap (λ y. f y ++ c ∷ []) e)
map_one f (x ∷ xs) (suc w) old new c h e k = ap (λ l. f x ∷ l) (map_one f xs w old new c (omega arith) e k)

module _ {C : Type 0} where
  pub at_set_here : (ls : List (List C)) (w : ℕ) (l : List C) → w < length ls → slice_index_or (set ls w l) w [] ≡ l
  at_set_here [] w l h = absurd (omega arith)
  at_set_here (x ∷ xs) zero l h = refl
  at_set_here (x ∷ xs) (suc w) l h = at_set_here xs w l (omega arith)

  pub at_set_else : (ls : List (List C)) (w v : ℕ) (l : List C) → v ≢ w → slice_index_or (set ls w l) v [] ≡ slice_index_or ls v []
  at_set_else [] w v l n = refl
  at_set_else (x ∷ xs) zero zero l n = absurd (n refl)
  at_set_else (x ∷ xs) zero (suc v) l n = refl
  at_set_else (x ∷ xs) (suc w) zero l n = refl
  at_set_else (x ∷ xs) (suc w) (suc v) l n = at_set_else xs w v l (λ e. n (ap suc e))

either_way : (v w : ℕ) → (v ≡ w) ⊎ (v ≢ w)
either_way v w = ⊎_elim (λ x. inl x.1) (λ x. inr x.1) (eqb_tells v w)

or_end : (b : Bool) → (b || true) ≡ true
or_end true = refl
or_end false = refl

-- ---- orders

module _ {J : Type 0} where
  pub tasks-append : (a b : List (Order J)) → tasks_in (a ++ b) ≡ tasks_in a ++ tasks_in b
  tasks-append [] b = refl
  tasks-append (Do task ∷ a) b = ap (λ l. task ∷ l) (tasks-append a b)
  tasks-append (Stop ∷ a) b = tasks-append a b

  pub tasks_stop : (a : List (Order J)) → tasks_in (a ++ Stop ∷ []) ≡ tasks_in a
  tasks_stop a = tasks-append a (Stop ∷ []) ∙ append-nil (tasks_in a)

  -- worker v's tasks after one order more for worker w
  stop_cases : (ls : List (List (Order J))) (w v : ℕ) → w < length ls → (v ≡ w) ⊎ (v ≢ w) → tasks_in (at (with_order ls w Stop) v) ≡ tasks_in (at ls v)
  stop_cases ls w v h (inl e) =
      ap (λ x. tasks_in (at (with_order ls w Stop) x)) e ∙ ap tasks_in (at_set_here ls w (at ls w ++ Stop ∷ []) h) ∙ tasks_stop (at ls w)
      ∙ ap (λ x. tasks_in (at ls x)) (sym e)
  stop_cases ls w v h (inr n) = ap tasks_in (at_set_else ls w v (at ls w ++ Stop ∷ []) n)

  pub stop_tasks : (ls : List (List (Order J))) (w : ℕ) → w < length ls → (v : ℕ) → tasks_in (at (with_order ls w Stop) v) ≡ tasks_in (at ls v)
  stop_tasks ls w h v = stop_cases ls w v h (either_way v w)

  stopped_cases : (ls : List (List (Order J))) (w v : ℕ) → w < length ls → (v ≡ w) ⊎ (v ≢ w) → has_bye stops (at ls v) ≡ true → has_bye stops (at (with_order ls w Stop) v) ≡ true
  stopped_cases ls w v h (inl e) was =
      ap (λ x. has_bye stops (at (with_order ls w Stop) x)) e ∙ ap (has_bye stops) (at_set_here ls w (at ls w ++ Stop ∷ []) h)
      ∙ has_bye_more stops (at ls w) Stop ∙ or_end (has_bye stops (at ls w))
  stopped_cases ls w v h (inr n) was = ap (has_bye stops) (at_set_else ls w v (at ls w ++ Stop ∷ []) n) ∙ was

  -- who was stopped stays so
  pub stop_keeps : (ls : List (List (Order J))) (w : ℕ) → w < length ls → (v : ℕ) → has_bye stops (at ls v) ≡ true → has_bye stops (at (with_order ls w Stop) v) ≡ true
  stop_keeps ls w h v was = stopped_cases ls w v h (either_way v w) was

  pub stop_here : (ls : List (List (Order J))) (w : ℕ) → w < length ls → has_bye stops (at (with_order ls w Stop) w) ≡ true
  stop_here ls w h =
      ap (has_bye stops) (at_set_here ls w (at ls w ++ Stop ∷ []) h) ∙ has_bye_more stops (at ls w) Stop ∙ or_end (has_bye stops (at ls w))

  pub stop_sent : (sent sent' : List (Order J)) → sent' ≡ sent ++ Stop ∷ [] → has_bye stops sent' ≡ true
  stop_sent sent sent' e = ap (has_bye stops) e ∙ has_bye_more stops sent Stop ∙ or_end (has_bye stops sent)

  -- one stop at most
  pub stops_tasks : (ls ls' : List (List (Order J))) (w : ℕ) → w < length ls → (ls' ≡ ls) ⊎ (ls' ≡ with_order ls w Stop) → (v : ℕ) → tasks_in (at ls' v) ≡ tasks_in (at ls v)
  stops_tasks ls ls' w h (inl e) v = ap (λ l. tasks_in (at l v)) e
  stops_tasks ls ls' w h (inr e) v = ap (λ l. tasks_in (at l v)) e ∙ stop_tasks ls w h v

  pub stops_keep : (ls ls' : List (List (Order J))) (w : ℕ) → w < length ls → (ls' ≡ ls) ⊎ (ls' ≡ with_order ls w Stop) → (v : ℕ) → has_bye stops (at ls v) ≡ true → has_bye stops (at ls' v) ≡ true
  stops_keep ls ls' w h (inl e) v was = ap (λ l. has_bye stops (at l v)) e ∙ was
  stops_keep ls ls' w h (inr e) v was = ap (λ l. has_bye stops (at l v)) e ∙ stop_keeps ls w h v was

-- one of a list may have one more
pub map_maybe : {A C : Type 0} (f : A → List C) (xs : List A) (w : ℕ) (old new : A) (c : C) → w < length xs → old ≡ slice_index_or xs w old → (f new ≡ f old) ⊎ (f new ≡ f old ++ c ∷ [])
    → (map f (set xs w new) ≡ map f xs) ⊎ (map f (set xs w new) ≡ set (map f xs) w (slice_index_or (map f xs) w [] ++ c ∷ []))
map_maybe f xs w old new c h e (inl k) = inl (map_same f xs w old new h e k)
map_maybe f xs w old new c h e (inr k) = inr (map_one f xs w old new c h e k)

pub at_map_set : {A C : Type 0} (f : A → List C) (xs : List A) (w : ℕ) (new : A) → w < length xs → slice_index_or (map f (set xs w new)) w [] ≡ f new
at_map_set f [] w new h = absurd (omega arith)
at_map_set f (x ∷ xs) zero new h = refl
at_map_set f (x ∷ xs) (suc w) new h = at_map_set f xs w new (omega arith)

-- ---- found in longer lists

module _ {A : Type 0} where
  none_is_no_some : (x : A) → None ≡ Some x → ⊥
  none_is_no_some x e = cc

  pub get_more : (xs ys : List A) (k : ℕ) (x : A) → slice_get xs k ≡ Some x → slice_get (xs ++ ys) k ≡ Some x
  get_more [] ys k x e = absurd (none_is_no_some x e)
  get_more (y ∷ xs) ys zero x e = e
  get_more (y ∷ xs) ys (suc k) x e = get_more xs ys k x e

  pub get_end : (xs : List A) (x : A) (k : ℕ) → length xs ≡ k → slice_get (xs ++ x ∷ []) k ≡ Some x
  get_end [] x zero e = refl
  get_end [] x (suc k) e = absurd (omega arith)
  get_end (y ∷ xs) x zero e = absurd (omega arith)
  get_end (y ∷ xs) x (suc k) e = get_end xs x k (omega arith)

-- ---- one of a list is seen

some_is : {B : Type 0} (x y : B) → Some x ≡ Some y → x ≡ y
some_is x y e = cc

module _ {A B : Type 0} (f : A → B) where
  pub get_map : (xs : List A) (w : ℕ) (old : A) (y : B) → w < length xs → old ≡ slice_index_or xs w old → slice_get (map f xs) w ≡ Some y → f old ≡ y
  get_map [] w old y h e k = absurd (omega arith)
  get_map (x ∷ xs) zero old y h e k = ap f e ∙ some_is (f x) y k
  get_map (x ∷ xs) (suc w) old y h e k = get_map xs w old y (omega arith) e k

pub at_map : {A C : Type 0} (f : A → List C) (xs : List A) (w : ℕ) (old : A) → w < length xs → old ≡ slice_index_or xs w old → slice_index_or (map f xs) w [] ≡ f old
at_map f [] w old h e = absurd (omega arith)
at_map f (x ∷ xs) zero old h e = ap f (sym e)
at_map f (x ∷ xs) (suc w) old h e = at_map f xs w old (omega arith) e
