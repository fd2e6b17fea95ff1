-- How a state is spelled. A state has one spelling, of version 2. Version 1, without units of single supersteps, is
-- still read.
use Rattle.std.specs.Prelude.{◌≡◌, ◌<◌, ◌^◌, ◌-◌, ◌⊎◌, ◌++◌, ◌∷◌, [], ℕ, Bool, FitsSigned, List, length, take, drop, if◌then◌else◌}
use Rattle.std.specs.Int.{w64}
use Rattle.std.specs.List.{AllByRecursion, flat_map}
use Rattle.sha2.specs.Sha256.{sha256}
use Rattle.job_state.specs.declared.state.VertexState.{VertexState}
use Rattle.job_state.specs.State.{IsState, Standing}
use Rattle.checkpoint.specs.Numbers.{number, signed}

-- the SHA-256 of these bytes
unfoldable pub digest : List ℕ → List ℕ
digest bytes = sha256 bytes

-- PGCK
unfoldable pub magic : List ℕ
magic = 0x50 ∷ 0x47 ∷ 0x43 ∷ 0x4B ∷ []

abbrev pub flag : Bool → ℕ
flag active = if active then 1 else 0

-- a vertex: its id, its value, whether it is active, and its messages with their count before them
unfoldable pub vertex_bytes : VertexState → List ℕ
vertex_bytes v = number 8 v.id ++ (signed v.value ++ (number 1 (flag v.active) ++ (number 8 (length v.inbox) ++ flat_map signed v.inbox)))

-- what both versions begin with
unfoldable pub head_bytes : ℕ → Standing → List ℕ
head_bytes version state =
    magic ++ (number 4 version ++ (number 4 state.superstep ++ (number 16 state.dropped ++ (number 16 state.units ++ flat_map signed state.aggregates))))

-- the first superstep of units, and the units of each superstep from there on
unfoldable pub told_bytes : Standing → List ℕ
told_bytes state = number 4 state.since ++ flat_map (number 16) state.by_superstep

-- the vertices, by rising id, with their count before them
unfoldable pub vertices_bytes : List VertexState → List ℕ
vertices_bytes vs = number 4 (length vs) ++ flat_map vertex_bytes vs

abbrev pub sealed : List ℕ → List ℕ
sealed content = content ++ digest content

-- version 2
abbrev pub checkpoint_bytes : Standing → List ℕ
checkpoint_bytes state = sealed (head_bytes 2 state ++ (told_bytes state ++ vertices_bytes state.vertices))

-- version 1
abbrev pub older_bytes : Standing → List ℕ
older_bytes state = sealed (head_bytes 1 state ++ vertices_bytes state.vertices)

-- ---- what has a spelling

pub record VertexFits (v : VertexState) : Type 0 where
  pub id : v.id < 2 ^ 64
  pub value : FitsSigned w64 v.value
  pub count : length v.inbox < 2 ^ 64
  pub inbox : AllByRecursion (FitsSigned w64) v.inbox

pub record HeadFits (state : Standing) : Type 0 where
  pub superstep : state.superstep < 2 ^ 32
  pub dropped : state.dropped < 2 ^ 128
  pub units : state.units < 2 ^ 128
  pub aggregators : length state.aggregates ≡ 8
  pub aggregates : AllByRecursion (FitsSigned w64) state.aggregates

-- each number fits its width
pub record Fits (state : Standing) : Type 0 where
  pub head : HeadFits state
  pub by_superstep : AllByRecursion (λ n. n < 2 ^ 128) state.by_superstep
  pub vertices : AllByRecursion VertexFits state.vertices

-- The bytes are those of the state, in version 2, or in version 1 if the state has no units of single supersteps.
abbrev pub Spells : List ℕ → Standing → Type 0
Spells bytes state = (bytes ≡ checkpoint_bytes state) ⊎ ((bytes ≡ older_bytes state) × (state.since ≡ state.superstep))

pub record IsCheckpointOf (bytes : List ℕ) (state : Standing) : Type 0 where
  pub is_state : IsState state
  pub fits : Fits state
  pub spelled : Spells bytes state

-- ---- seals

-- the last 32 bytes, or all if there are fewer: the digest of a checkpoint
abbrev pub seal_of : List ℕ → List ℕ
seal_of bytes = drop (length bytes - 32) bytes

-- the bytes before the seal
abbrev pub content_of : List ℕ → List ℕ
content_of bytes = take (length bytes - 32) bytes

-- two contents that differ and have one SHA-256
pub record Collide (one other : List ℕ) : Type 0 where
  pub differ : one ≡ other → ⊥
  pub digest_is : digest one ≡ digest other
