-- The two parts of a rotation have no bit in common, so that to join their bits is to add them.
use Rattle.std.proofs.Common.{◌≡◌, ℕ, zero, suc, ◌+◌, ◌-◌, ◌*◌, ◌/◌, ◌%◌, ◌^◌, ◌<◌, bit_or, subst, arith}
use Rattle.std.proofs.Math.Nat.{mod-eq_of_lt, mod-lt, mod_self, mul-mod_left, div-eq_of_lt, add_comm}
use Rattle.std.proofs.Math.Pow.{mod-pow-add, shl-shr, shr_lt}
use Rattle.std.specs.Int.Bits.{or_shifted, or_comm, or_self}
use Rattle.std.specs.Int.{Width, w8, w16, w32, w64, w128, rotate_left, rotate_right}
use mir.Val.{bits}
use Rattle.semantics.specs.Operations.{rotl, rotr}

-- what a shift by k leaves of x at j + k bits
kept : (j k x : ℕ) → (x * 2 ^ k) % 2 ^ (j + k) ≡ (x % 2 ^ j) * 2 ^ k
kept j k x = rw (mod-pow-add, shl-shr, mul-mod_left) (omega arith)

-- that, and what it drops, at n bits
joined : (n j k x : ℕ) → n ≡ j + k → x < 2 ^ n
    → bit_or ((x * 2 ^ k) % 2 ^ n) (x / 2 ^ j) ≡ (x * 2 ^ k) % 2 ^ n + x / 2 ^ j
joined n j k x e h =
    let within : x < 2 ^ (k + j) = subst (λ (m : ℕ). x < 2 ^ m) (omega arith) h in
    rw (e, kept) (or_shifted (x % 2 ^ j) k (x / 2 ^ j) (shr_lt k j within))

turned_left : (n k x : ℕ) → k < n → x < 2 ^ n
    → bit_or ((x * 2 ^ k) % 2 ^ n) (x / 2 ^ ((n - k) % n)) ≡ (x * 2 ^ k) % 2 ^ n + x / 2 ^ (n - k)
turned_left n zero x l h =
    let whole : n - 0 ≡ n = omega arith in
    let once : x * 1 ≡ x = omega arith in
    let all : x / 1 ≡ x = omega arith in
    rw (whole, mod_self, once, all, mod-eq_of_lt h, div-eq_of_lt h, or_self) (omega arith)
turned_left n (suc k) x l h =
    let fewer : n - suc k < n = omega arith in
    rw (mod-eq_of_lt fewer) (joined n (n - suc k) (suc k) x (omega arith) h)

turned_right : (n k x : ℕ) → k < n → x < 2 ^ n
    → bit_or (x / 2 ^ k) ((x * 2 ^ ((n - k) % n)) % 2 ^ n) ≡ x / 2 ^ k + (x * 2 ^ (n - k)) % 2 ^ n
turned_right n zero x l h =
    let whole : n - 0 ≡ n = omega arith in
    let once : x * 1 ≡ x = omega arith in
    let all : x / 1 ≡ x = omega arith in
    rw (whole, mod_self, once, all, mod-eq_of_lt h, mul-mod_left, or_self) (omega arith)
turned_right n (suc k) x l h =
    let fewer : n - suc k < n = omega arith in
    rw (mod-eq_of_lt fewer, or_comm, add_comm) (joined n (suc k) (n - suc k) x (omega arith) h)

bits_pos : (w : Width) → 0 < bits w
bits_pos w8 = omega arith
bits_pos w16 = omega arith
bits_pos w32 = omega arith
bits_pos w64 = omega arith
bits_pos w128 = omega arith

-- std's words are ours
pub rotl_is : (w : Width) (x y : ℕ) → x < 2 ^ bits w → rotate_left w x y ≡ rotl (bits w) x y
rotl_is w x y h = turned_left (bits w) (y % bits w) x (mod-lt y (bits_pos w)) h

pub rotr_is : (w : Width) (x y : ℕ) → x < 2 ^ bits w → rotate_right w x y ≡ rotr (bits w) x y
rotr_is w x y h = turned_right (bits w) (y % bits w) x (mod-lt y (bits_pos w)) h
