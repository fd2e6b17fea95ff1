-- How numbers in LEB128 are read from left to right, and which fault comes first.
use Rattle.std.specs.Prelude.{◌≡◌, ℕ, ℤ, pos, ◌+ℤ◌, ◌*ℤ◌, ◌-ℤ◌, ◌+◌, ◌-◌, ◌*◌, ◌^◌, List, [], ◌∷◌, Result, Ok, Err, nat_lt, nat_le, if◌then◌else◌}
use Rattle.leb.specs.declared.fault.LebFault.{LebFault}
use Rattle.leb.specs.declared.fault.LebFault.TheVariants.{Truncated, TooLong, UnusedBits}

-- The result that a function returned, mapped by `view`, is the result of reading.
abbrev pub Gives : {X Y : Type 0} → (X → Y) → Result X LebFault → Result Y LebFault → Type 0
Gives view (Ok x) read = read ≡ Ok (view x)
Gives view (Err e) read = read ≡ Err e

-- the number whose seven lowest bits are in a byte, and whose other bits were read after it
abbrev pub with_low : ℕ → Result (ℕ × List ℕ) LebFault → Result (ℕ × List ℕ) LebFault
with_low b (Ok x) = Ok (128 * x.0 + (b - 128), x.1)
with_low b (Err e) = Err e

-- the unsigned number of this many bits at the front, and the bytes after it
abbrev pub unsigned_at : (bits : ℕ) → List ℕ → Result (ℕ × List ℕ) LebFault
unsigned_at bits [] = Err Truncated
unsigned_at bits (b ∷ bs) =
    if nat_lt b 128 then (if nat_lt b (2 ^ bits) then Ok (b, bs) else Err UnusedBits)
    else (if nat_le bits 7 then Err TooLong else with_low b (unsigned_at (bits - 7) bs))

abbrev pub with_low_signed : ℕ → Result (ℤ × List ℕ) LebFault → Result (ℤ × List ℕ) LebFault
with_low_signed b (Ok x) = Ok ((x.0 *ℤ (pos 128)) +ℤ (pos (b - 128)), x.1)
with_low_signed b (Err e) = Err e

-- the signed number of this many bits at the front, and the bytes after it
abbrev pub signed_at : (bits : ℕ) → List ℕ → Result (ℤ × List ℕ) LebFault
signed_at bits [] = Err Truncated
signed_at bits (b ∷ bs) =
    if nat_lt b 64 then (if nat_lt b (2 ^ (bits - 1)) then Ok (pos b, bs) else Err UnusedBits)
    else (if nat_lt b 128 then (if nat_le 128 (b + 2 ^ (bits - 1)) then Ok ((pos b) -ℤ (pos 128), bs) else Err UnusedBits)
    else (if nat_le bits 7 then Err TooLong else with_low_signed b (signed_at (bits - 7) bs)))
