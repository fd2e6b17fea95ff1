-- What a thread sends where nobody is lost: nothing by which an epoch begins.
use Rattle.std.proofs.Common.{◌≡◌, ◌∙◌, Bool, false, ◌||◌, List, [], ◌∷◌, ◌++◌, ap}
use Rattle.control.specs.declared.event.Event.{Event}
use Rattle.control.specs.Stamps.{stamp_of}
use Rattle.control.specs.Events.{Stamp}
use Rattle.worker_loops.specs.Numbers.{stamps_in}
use Rattle.worker_loops.specs.inside.Epochs.{may_renew, renews}
use Rattle.hub_ends.specs.declared.message.Message.{Message}
use Rattle.hub_ends.specs.declared.message.Message.TheVariants as message
use Rattle.hub_ends.specs.declared.message.Sender.{Sender}
use Rattle.worker_loops.proofs.Numbers.{stamps_bye, stamps_event}

renews_more : (xs : List Stamp) (s : Stamp) → may_renew s ≡ false → renews (xs ++ s ∷ []) ≡ renews xs
renews_more [] s h = ap (λ b. b || false) h
renews_more (x ∷ xs) s h = ap (λ b. may_renew x || b) (renews_more xs s h)

module _ {J : Type 0} where
  pub steady_event : (xs ys : List (Message J)) (x : Event J) → ys ≡ xs ++ message.Event x ∷ [] → may_renew (stamp_of x) ≡ false → renews (stamps_in ys) ≡ renews (stamps_in xs)
  steady_event xs ys x is none = ap (λ l. renews (stamps_in l)) is ∙ ap renews (stamps_event xs x) ∙ renews_more (stamps_in xs) (stamp_of x) none

  -- all that was sent, with the bye
  pub steady_bye : (xs ys zs : List (Message J)) (sender : Sender) → xs ≡ [] → renews (stamps_in ys) ≡ renews (stamps_in xs) → zs ≡ ys ++ message.Bye sender ∷ []
      → renews (stamps_in zs) ≡ false
  steady_bye xs ys zs sender none same is =
      ap (λ l. renews (stamps_in l)) is ∙ ap renews (stamps_bye ys sender) ∙ same ∙ ap (λ l. renews (stamps_in l)) none
