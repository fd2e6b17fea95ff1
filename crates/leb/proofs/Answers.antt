-- The clauses of each read, from what it gives: once for both signednesses and every width.
use Rattle.std.proofs.Common.{◌≡◌, ◌↔◌, ℕ, suc, ◌-◌, ◌*◌, ◌<◌, ℤ, drop, List, [], ◌++◌, Result, Ok, Err}
use Rattle.std.specs.Prelude.{IfOk}
use Rattle.leb.specs.declared.fault.LebFault.{LebFault}
use Rattle.leb.specs.declared.fault.LebFault.TheVariants.{Truncated, TooLong, UnusedBits}
use Rattle.leb.specs.inside.Bytes.{IsBytes}
use Rattle.leb.specs.Faults.{HasUnusedBits, IsCutShort, IsTooLong}
use Rattle.leb.specs.inside.Reading.{Gives, unsigned_at, signed_at}
use Rattle.leb.specs.Spelling.{IsSpelledAt, IsUnsigned, IsSigned}
use Rattle.leb.proofs.Faults.{EndsWithin, ReadsOn, IsMost, has_unused_bits, is_truncated, is_too_long, same_bits_asked}
use Rattle.leb.proofs.Places.{IsInside, Takes, is_found, is_only}
use Rattle.leb.proofs.Signed.{signed_takes, signed_again, signed_nonempty, signed_reads_on}
use Rattle.leb.proofs.Unsigned.{unsigned_takes, unsigned_again, unsigned_nonempty, unsigned_reads_on}
use Rattle.leb.proofs.Unused.{FitsSigned, FitsUnsigned, signed_ends, unsigned_ends}

-- what the reader of a grammar keeps
pub record IsReader {N : Type 0} (spelled : ℕ → List ℕ → N → Type 0) (Fits : ℕ → ℕ → Type 0) (reader : ℕ → List ℕ → Result (N × List ℕ) LebFault) : Type 0 where
  pub takes : (bits : ℕ) (bytes : List ℕ) (x : N × List ℕ) → IsBytes bytes → reader bits bytes ≡ Ok x → Takes (spelled bits) bytes x
  pub again : (bits : ℕ) (front : List ℕ) (n : N) (rest : List ℕ) → spelled bits front n → reader bits (front ++ rest) ≡ Ok (n, rest)
  pub nonempty : (bits : ℕ) (n : N) → spelled bits [] n → ⊥
  pub reads_on : ReadsOn reader
  pub ends : EndsWithin Fits reader

-- the clauses
pub record Answers {N : Type 0} (spelled : List ℕ → N → Type 0) (last : ℕ) (asked : ℕ → Type 0) (bytes : List ℕ) (at : ℕ) (r : Result (N × ℕ) LebFault) : Type 0 where
  pub found : IfOk r (λ x. IsSpelledAt spelled bytes at x.0 x.1)
  pub only : (n : N) (next : ℕ) → IsSpelledAt spelled bytes at n next → r ≡ Ok (n, next)
  pub truncated : (r ≡ Err Truncated) ↔ IsCutShort (suc last) (drop at bytes)
  pub too_long : (r ≡ Err TooLong) ↔ IsTooLong (suc last) (drop at bytes)
  pub unused_bits : (r ≡ Err UnusedBits) ↔ HasUnusedBits last asked (drop at bytes)

answers : {N : Type 0} (spelled : ℕ → List ℕ → N → Type 0) (Fits : ℕ → ℕ → Type 0) (reader : ℕ → List ℕ → Result (N × List ℕ) LebFault) → IsReader spelled Fits reader
    → (bits last : ℕ) (asked : ℕ → Type 0) (bytes : List ℕ) (at : ℕ) (r : Result (N × ℕ) LebFault) → IsMost bits (suc last)
    → ((b : ℕ) → b < 128 → Fits (bits - 7 * last) b ↔ asked b) → IsBytes bytes → IsInside bytes at r
    → Gives (λ x. (x.0, drop x.1 bytes)) r (reader bits (drop at bytes)) → Answers (spelled bits) last asked bytes at r
answers {N} spelled Fits reader keeps bits last asked bytes at r m same fits inside gives =
    let view : N × ℕ → N × List ℕ = λ x. (x.0, drop x.1 bytes) in
    let unused = has_unused_bits Fits view reader keeps.reads_on keeps.ends bits last (drop at bytes) r m gives in
    let asks = same_bits_asked (Fits (bits - 7 * last)) asked same last (drop at bytes) in
    record {
      found = is_found (spelled bits) (reader bits) (keeps.takes bits) bytes at r fits inside gives;
      only = is_only (spelled bits) (reader bits) (keeps.again bits) (keeps.nonempty bits) bytes at r inside gives;
      truncated = is_truncated view reader keeps.reads_on bits (suc last) (drop at bytes) r m gives;
      too_long = is_too_long view reader keeps.reads_on bits (suc last) (drop at bytes) r m gives;
      unused_bits = (λ e. asks.0 (unused.0 e), λ has. unused.1 (asks.1 has));
    }

pub unsigned_answers : (bits last : ℕ) (asked : ℕ → Type 0) (bytes : List ℕ) (at : ℕ) (r : Result (ℕ × ℕ) LebFault) → IsMost bits (suc last)
    → ((b : ℕ) → b < 128 → FitsUnsigned (bits - 7 * last) b ↔ asked b) → IsBytes bytes → IsInside bytes at r
    → Gives (λ x. (x.0, drop x.1 bytes)) r (unsigned_at bits (drop at bytes)) → Answers (IsUnsigned bits) last asked bytes at r
unsigned_answers =
    answers IsUnsigned FitsUnsigned unsigned_at
    (record { takes = unsigned_takes; again = unsigned_again; nonempty = unsigned_nonempty; reads_on = unsigned_reads_on; ends = unsigned_ends })

pub signed_answers : (bits last : ℕ) (asked : ℕ → Type 0) (bytes : List ℕ) (at : ℕ) (r : Result (ℤ × ℕ) LebFault) → IsMost bits (suc last)
    → ((b : ℕ) → b < 128 → FitsSigned (bits - 7 * last) b ↔ asked b) → IsBytes bytes → IsInside bytes at r
    → Gives (λ x. (x.0, drop x.1 bytes)) r (signed_at bits (drop at bytes)) → Answers (IsSigned bits) last asked bytes at r
signed_answers =
    answers IsSigned FitsSigned signed_at
    (record { takes = signed_takes; again = signed_again; nonempty = signed_nonempty; reads_on = signed_reads_on; ends = signed_ends })
