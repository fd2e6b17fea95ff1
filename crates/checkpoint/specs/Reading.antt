-- What the bytes are read as, or the fault that is reported. Missing bytes are reported before anything that is out of
-- order. One exception: if the first superstep of units is later than the superstep, that is reported as soon as the
-- fields of fixed size are there.
use Rattle.std.specs.Prelude.{◌≡◌, ℕ, zero, suc, ◌-◌, ℤ, Bool, true, not, ◌&&◌, ◌||◌, List, [], ◌∷◌, length, map, take, drop, nat_lt, nat_le, Result, Ok, Err, ◌==◌, if◌then◌else◌}
use Rattle.std.specs.Int.{cast_signed, w64}
use Rattle.std.specs.List.{sum}
use Rattle.std.specs.Str.{bytes_eq}
use Rattle.byteorder.specs.Endian.{little_number}
use Rattle.job_state.specs.declared.state.VertexState.{VertexState}
use Rattle.job_state.specs.State.{Standing, capped, state_id}
use Rattle.checkpoint.specs.Checkpoint.{digest, magic}
use Rattle.checkpoint.specs.declared.fault.CheckpointFault.{CheckpointFault}
use Rattle.checkpoint.specs.declared.reading.Head.{Head}
use Rattle.checkpoint.specs.declared.fault.CheckpointFault.TheVariants.{Header, Version, Truncated, Digest, Order, OutOfMemory}

infixl 10 ◌>>=◌
abbrev pub ◌>>=◌ : {A B : Type 0} → Result A CheckpointFault → (A → Result B CheckpointFault) → Result B CheckpointFault
(Ok x) >>= f = f x
(Err e) >>= f = Err e

-- A fault of the bytes is the reported one. Out of memory says nothing of the bytes.
abbrev pub Fails : {Y : Type 0} → CheckpointFault → Result Y CheckpointFault → Type 0
Fails OutOfMemory read = Unit {0}
Fails fault read = read ≡ Err fault

-- What a function returned, as `view` shows it, is what reading gives, unless memory ran out.
abbrev pub Gives : {X Y : Type 0} → (X → Y) → Result X CheckpointFault → Result Y CheckpointFault → Type 0
Gives view (Ok x) read = read ≡ Ok (view x)
Gives view (Err fault) read = Fails fault read

-- the item at the front, and the bytes behind it
abbrev pub Reads : Type 0 → Type 0
Reads A = List ℕ → Result (A × List ℕ) CheckpointFault

-- ---- numbers

unfoldable pub number_at : ℕ → Reads ℕ
number_at size bytes = if nat_lt (length bytes) size then Err Truncated else Ok (little_number size bytes, drop size bytes)

unfoldable pub signed_at : Reads ℤ
signed_at bytes = do
  n ← number_at 8 bytes
  Ok (cast_signed w64 n.0, n.1)

-- this many, one after another
unfoldable pub items_at : {A : Type 0} → Reads A → ℕ → Reads (List A)
items_at item zero bytes = Ok ([], bytes)
items_at item (suc n) bytes = do
  first ← item bytes
  others ← items_at item n first.1
  Ok (first.0 ∷ others.0, others.1)

-- ---- vertices

-- a vertex, and whether its active byte is 0 or 1
unfoldable pub vertex_at : Reads (VertexState × Bool)
vertex_at bytes = do
  id ← number_at 8 bytes
  value ← signed_at id.1
  active ← number_at 1 value.1
  count ← number_at 8 active.1
  inbox ← items_at signed_at count.0 count.1
  Ok ((record { id = id.0; value = value.0; active = active.0 == 1; inbox = inbox.0 }, nat_le active.0 1), inbox.1)

-- this many vertices, and whether each active byte is 0 or 1
unfoldable pub vertices_at : ℕ → Reads (List VertexState × Bool)
vertices_at zero bytes = Ok (([], true), bytes)
vertices_at (suc n) bytes = do
  first ← vertex_at bytes
  others ← vertices_at n first.1
  Ok ((first.0.0 ∷ others.0.0, first.0.1 && others.0.1), others.1)

-- ---- states

-- the fields that both versions have behind the version
unfoldable pub head_at : Reads Head
head_at bytes = do
  superstep ← number_at 4 bytes
  dropped ← number_at 16 superstep.1
  units ← number_at 16 dropped.1
  aggregates ← items_at signed_at 8 units.1
  Ok (record { superstep = superstep.0; dropped = dropped.0; units = units.0; aggregates = aggregates.0 }, aggregates.1)

-- The first superstep of units, and the units. Version 1 has none. In version 2 four more bytes have to be there before
-- that superstep is compared.
unfoldable pub told_at : (version superstep : ℕ) → Reads (ℕ × List ℕ)
told_at version superstep bytes =
    if version == 1 then Ok ((superstep, []), bytes)
    else (number_at 4 bytes >>= λ since.
    if nat_lt (length since.1) 4 then Err Truncated
    else (if nat_lt superstep since.0 then Err Order
    else (items_at (number_at 16) (superstep - since.0) since.1 >>= λ told. Ok ((since.0, told.0), told.1))))

-- each is below the next
abbrev pub is_rising : List ℕ → Bool
is_rising [] = true
is_rising (x ∷ []) = true
is_rising (x ∷ y ∷ xs) = nat_lt x y && is_rising (y ∷ xs)

-- the total is at least the sum of the units, and equal to it if they begin with superstep 0
abbrev pub adds_up : (since : ℕ) → List ℕ → (units : ℕ) → Bool
adds_up since by_superstep units =
    nat_le (capped (sum by_superstep)) units && (not (since == 0) || (units == capped (sum by_superstep)))

-- ids rise, and the units add up
abbrev pub is_sound : Standing → Bool
is_sound state = is_rising (map state_id state.vertices) && adds_up state.since state.by_superstep state.units

-- the state, if its bytes are in order and it is sound
abbrev pub in_order : Bool → Standing → Result Standing CheckpointFault
in_order ordered state = if ordered && is_sound state then Ok state else Err Order

-- everything behind the version
unfoldable pub content_at : (version : ℕ) → List ℕ → Result Standing CheckpointFault
content_at version bytes = do
  head ← head_at bytes
  told ← told_at version head.0.superstep head.1
  count ← number_at 4 told.1
  vertices ← vertices_at count.0 count.1
  in_order (vertices.0.1 && (length vertices.1 == 0)) (record {
    superstep = head.0.superstep;
    since = told.0.0;
    by_superstep = told.0.1;
    units = head.0.units;
    dropped = head.0.dropped;
    aggregates = head.0.aggregates;
    vertices = vertices.0.0;
  })

-- what the bytes before the digest are read as
unfoldable pub sealed_at : (body seal : List ℕ) → Result Standing CheckpointFault
sealed_at body seal =
    if not (bytes_eq (take 4 body) magic) then Err Header
    else (number_at 4 (drop 4 body) >>= λ version.
    if not ((version.0 == 1) || (version.0 == 2)) then Err Version
    else (if not (bytes_eq seal (digest body)) then Err Digest
    else content_at version.0 version.1))

-- The state whose checkpoint the bytes are. The digest is the last 32 of them.
unfoldable pub state_of : List ℕ → Result Standing CheckpointFault
state_of bytes =
    if nat_lt (length bytes) 40 then Err Truncated
    else sealed_at (take (length bytes - 32) bytes) (drop (length bytes - 32) bytes)
