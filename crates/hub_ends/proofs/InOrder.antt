-- What was compared stays so under other names.
use Rattle.std.proofs.Common.{◌≡◌, ℕ, Bool, List, sym, subst}
use Rattle.hub_ends.specs.Protocol.{IsOnceInOrder}

pub in_order_as : {M : Type 0} (from : M → ℕ) (closes : M → Bool) (p q : ℕ) (sent sent' got got' : List M) → p ≡ q → sent' ≡ sent → got' ≡ got
    → IsOnceInOrder from closes p sent got → IsOnceInOrder from closes q sent' got'
in_order_as {M} from closes p q sent sent' got got' a b c h =
    subst (λ (x : ℕ × List M × List M). IsOnceInOrder from closes x.0 x.1 x.2) (λ i. (a i, sym b i, sym c i)) h
