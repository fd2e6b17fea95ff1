-- The bytes of a memory that a walk keeps: those that some load or store of the module reaches. Its model is a list
-- with a number for each byte: 0 where the byte is not kept, else one more than the byte.
use Rattle.std.specs.Prelude.{ℕ, zero, suc, ◌+◌, List, [], ◌∷◌, length, map, take, drop, nat_le, Bool, true, false, ◌&&◌, Option, Some, None, if◌then◌else◌}
use Rattle.semantics.specs.Memory.{bytes_of_number, number_of_bytes}

-- the number of marked bytes before this one
abbrev pub marked_before : List Bool → ℕ → ℕ
marked_before ms zero = 0
marked_before [] (suc byte) = 0
marked_before (true ∷ ms) (suc byte) = suc (marked_before ms byte)
marked_before (false ∷ ms) (suc byte) = marked_before ms byte

-- the kept bytes of a whole memory
abbrev pub masked : List Bool → List ℕ → List ℕ
masked ms [] = []
masked [] (b ∷ bs) = 0 ∷ masked [] bs
masked (true ∷ ms) (b ∷ bs) = suc b ∷ masked ms bs
masked (false ∷ ms) (b ∷ bs) = 0 ∷ masked ms bs

-- adjacent bytes, each at the next marked place
abbrev pub spread : List Bool → List ℕ → List ℕ
spread [] bs = []
spread (false ∷ ms) bs = 0 ∷ spread ms bs
spread (true ∷ ms) [] = 0 ∷ spread ms []
spread (true ∷ ms) (b ∷ bs) = suc b ∷ spread ms bs

abbrev pub are_kept : List ℕ → Bool
are_kept [] = true
are_kept (zero ∷ bs) = false
are_kept (suc b ∷ bs) = are_kept bs

-- the number of kept bytes
abbrev pub count_kept : List ℕ → ℕ
count_kept [] = 0
count_kept (zero ∷ bs) = count_kept bs
count_kept (suc b ∷ bs) = suc (count_kept bs)

-- all bytes from a place on, this many, exist and are kept
abbrev pub is_kept : (place width : ℕ) → List ℕ → Bool
is_kept place width bytes = nat_le (place + width) (length bytes) && are_kept (take width (drop place bytes))

abbrev pub byte_of : ℕ → ℕ
byte_of zero = 0
byte_of (suc b) = b

-- the number in `width` bytes from a place on, if all of them are kept
abbrev pub kept_read : (place width : ℕ) → List ℕ → Option ℕ
kept_read place width bytes =
    if is_kept place width bytes then Some (number_of_bytes (map byte_of (take width (drop place bytes)))) else None

-- replaces the first kept bytes
abbrev pub over : (others bytes : List ℕ) → List ℕ
over [] bs = bs
over (o ∷ os) [] = []
over (o ∷ os) (zero ∷ bs) = zero ∷ over os bs
over (o ∷ os) (suc b ∷ bs) = suc o ∷ over os bs

-- the same from a place on
abbrev pub laid_over : (place : ℕ) (others bytes : List ℕ) → List ℕ
laid_over zero others bytes = over others bytes
laid_over (suc place) others [] = []
laid_over (suc place) others (b ∷ bytes) = b ∷ laid_over place others bytes

-- replaces the bytes from a place on, if all of those are kept
abbrev pub kept_laid : (place : ℕ) (others bytes : List ℕ) → Option (List ℕ)
kept_laid place others bytes =
    if is_kept place (length others) bytes then Some (laid_over place others bytes) else None

-- replaces `width` bytes from a place on by the lowest bytes of a number
abbrev pub kept_write : (place width n : ℕ) → List ℕ → Option (List ℕ)
kept_write place width n bytes = kept_laid place (bytes_of_number width n) bytes
