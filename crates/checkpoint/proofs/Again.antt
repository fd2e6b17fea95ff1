-- A state is read from its checkpoint.
use Rattle.std.proofs.Common.{◌≡◌, ℕ, suc, ◌+◌, ◌-◌, ◌^◌, ◌<◌, ◌≤◌, Bool, true, false, eqb, leb, ltb, ◌||◌, FitsSigned, w64, List, [], ◌∷◌, ◌++◌, length, Result, Ok, Err, refl, sym, ap, subst, ◌∙◌, inl, inr, append_assoc, arith}
use Rattle.std.specs.List.{AllByRecursion, flat_map}
use Rattle.std.proofs.lemmas.Bool.{le-ltb}
use Rattle.std.proofs.lemmas.List.{append-nil, drop_at, length-append, nil_from_length, take_at}
use Rattle.std.proofs.lemmas.List.Concat.{flat_map-cons}
use Rattle.std.specs.Prelude.{MatchResult}
use Rattle.std.specs.Str.{bytes_eq}
use Rattle.std.proofs.lemmas.Slice.Eq.{bytes_eq-Decides}
use Rattle.sha2.proofs.Facts256.{length-sha256}
use Rattle.job_state.specs.declared.state.State.{State}
use Rattle.job_state.specs.declared.state.VertexState.{VertexState}
use Rattle.job_state.specs.State.{IsState, Standing}
use Rattle.checkpoint.specs.Numbers.{number, signed}
use Rattle.checkpoint.specs.Checkpoint.{Fits, HeadFits, IsCheckpointOf, VertexFits, checkpoint_bytes, digest, flag, head_bytes, magic, older_bytes, sealed, told_bytes, vertex_bytes, vertices_bytes}
use Rattle.checkpoint.specs.Reading.{Gives, content_at, head_at, is_sound, items_at, number_at, sealed_at, signed_at, state_of, told_at, vertex_at, vertices_at}
use Rattle.checkpoint.specs.declared.fault.CheckpointFault.{CheckpointFault}
use Rattle.checkpoint.specs.declared.fault.CheckpointFault.TheVariants.{OutOfMemory}
use Rattle.checkpoint.specs.declared.reading.Head.{Head}
use Rattle.checkpoint.proofs.Fields.{items_complete, length_number, number_complete, signed_complete}
use Rattle.checkpoint.proofs.Found.{FieldsFit, fields, head_of, head_then, rest_at}
use Rattle.checkpoint.proofs.Sound.{sound}

-- ---- vertices

flag_below : (active : Bool) → flag active < 256 ^ 1
flag_below true = omega arith
flag_below false = omega arith

flag_is : (active : Bool) → eqb (flag active) 1 ≡ active
flag_is true = refl
flag_is false = refl

flag_told : (active : Bool) → leb (flag active) 1 ≡ true
flag_told true = refl
flag_told false = refl

vertex_again : (v : VertexState) (rest : List ℕ) → VertexFits v → vertex_at (vertex_bytes v ++ rest) ≡ Ok ((v, true), rest)
unfolding vertex_at vertex_bytes
vertex_again v rest fits =
    let inbox = flat_map signed v.inbox in
    let regrouped : vertex_bytes v ++ rest ≡ number 8 v.id ++ (signed v.value ++ (number 1 (flag v.active) ++ (number 8 (length v.inbox) ++ (inbox ++ rest)))) =
    simp append_assoc in
    let id : v.id < 256 ^ 8 = omega (arith, fits.id) in
    let count : length v.inbox < 256 ^ 8 = omega (arith, fits.count) in
    ap vertex_at regrouped
    ∙ rw (
      number_complete 8 v.id (signed v.value ++ (number 1 (flag v.active) ++ (number 8 (length v.inbox) ++ (inbox ++ rest)))) id,
      signed_complete v.value (number 1 (flag v.active) ++ (number 8 (length v.inbox) ++ (inbox ++ rest))) fits.value,
      number_complete 1 (flag v.active) (number 8 (length v.inbox) ++ (inbox ++ rest)) (flag_below v.active),
      number_complete 8 (length v.inbox) (inbox ++ rest) count,
      items_complete signed_at signed (FitsSigned w64) signed_complete v.inbox rest fits.inbox,
      flag_is v.active,
      flag_told v.active,
    ) refl

pub vertices_again : (vs : List VertexState) (rest : List ℕ) → AllByRecursion VertexFits vs → vertices_at (length vs) (flat_map vertex_bytes vs ++ rest) ≡ Ok ((vs, true), rest)
unfolding vertices_at
vertices_again [] rest fits = refl
vertices_again (v ∷ vs) rest fits =
    let regrouped : flat_map vertex_bytes (v ∷ vs) ++ rest ≡ vertex_bytes v ++ (flat_map vertex_bytes vs ++ rest) =
    ap (λ (b : List ℕ). b ++ rest) (flat_map-cons vertex_bytes v vs) ∙ append_assoc (vertex_bytes v) (flat_map vertex_bytes vs) rest in
    ap (vertices_at (suc (length vs))) regrouped
    ∙ rw (vertex_again v (flat_map vertex_bytes vs ++ rest) fits.0, vertices_again vs rest fits.1) refl

-- ---- what stands before the vertices

pub head_again : (head : Head) (rest : List ℕ) → FieldsFit head → head_at (fields head ++ rest) ≡ Ok (head, rest)
unfolding head_at
head_again head rest fits =
    let aggregates = flat_map signed head.aggregates in
    let regrouped : fields head ++ rest ≡ number 4 head.superstep ++ (number 16 head.dropped ++ (number 16 head.units ++ (aggregates ++ rest))) =
    simp append_assoc in
    let superstep : head.superstep < 256 ^ 4 = omega (arith, fits.superstep) in
    let dropped : head.dropped < 256 ^ 16 = omega (arith, fits.dropped) in
    let units : head.units < 256 ^ 16 = omega (arith, fits.units) in
    let aggregators : items_at signed_at 8 (aggregates ++ rest) ≡ Ok (head.aggregates, rest) =
    ap (λ (n : ℕ). items_at signed_at n (aggregates ++ rest)) (sym fits.aggregators) ∙ items_complete signed_at signed (FitsSigned w64) signed_complete head.aggregates rest fits.aggregates in
    ap head_at regrouped
    ∙ rw (
      number_complete 4 head.superstep (number 16 head.dropped ++ (number 16 head.units ++ (aggregates ++ rest))) superstep,
      number_complete 16 head.dropped (number 16 head.units ++ (aggregates ++ rest)) dropped,
      number_complete 16 head.units (aggregates ++ rest) units,
      aggregators,
    ) refl

each_wide : (xs : List ℕ) → AllByRecursion (λ n. n < 2 ^ 128) xs → AllByRecursion (λ n. n < 256 ^ 16) xs
each_wide [] fits = tt
each_wide (x ∷ xs) fits = (omega (arith, fits.0), each_wide xs fits.1)

-- behind the units at least a count of four bytes stands
pub told_again : (state : Standing) (rest : List ℕ) → state.since + length state.by_superstep ≡ state.superstep → state.superstep < 2 ^ 32
    → AllByRecursion (λ n. n < 2 ^ 128) state.by_superstep → 4 ≤ length rest
    → told_at 2 state.superstep (told_bytes state ++ rest) ≡ Ok ((state.since, state.by_superstep), rest)
unfolding told_at told_bytes
told_again state rest counted small each long =
    let units = flat_map (number 16) state.by_superstep in
    let since : state.since < 256 ^ 4 = omega arith in
    let few : ltb (length (units ++ rest)) 4 ≡ false = le-ltb _ _ (omega (arith, length-append units rest)) in
    let late : ltb state.superstep state.since ≡ false = le-ltb _ _ (omega arith) in
    let count : state.superstep - state.since ≡ length state.by_superstep = omega arith in
    ap (told_at 2 state.superstep) (append_assoc (number 4 state.since) units rest)
    ∙ rw (
      number_complete 4 state.since (units ++ rest) since,
      few,
      late,
      count,
      items_complete (number_at 16) (number 16) (λ n. n < 256 ^ 16) (number_complete 16) state.by_superstep rest (each_wide state.by_superstep each),
    ) refl

pub older_again : (superstep : ℕ) (bytes : List ℕ) → told_at 1 superstep bytes ≡ Ok ((superstep, []), bytes)
unfolding told_at
older_again superstep bytes = refl

-- ---- what stands behind the version

head_fits : (state : Standing) → HeadFits state → FieldsFit (head_of state)
head_fits state fits = record { superstep = fits.superstep; dropped = fits.dropped; units = fits.units; aggregators = fits.aggregators; aggregates = fits.aggregates }

rest_again : (make : List VertexState → Standing) (vs : List VertexState) → AllByRecursion VertexFits vs → length vs < 2 ^ 32 → is_sound (make vs) ≡ true
    → rest_at make (vertices_bytes vs) ≡ Ok (make vs)
unfolding vertices_bytes
rest_again make vs fits few is =
    let small : length vs < 256 ^ 4 = omega arith in
    let read : vertices_at (length vs) (flat_map vertex_bytes vs) ≡ Ok ((vs, true), []) =
    ap (vertices_at (length vs)) (sym (append-nil (flat_map vertex_bytes vs))) ∙ vertices_again vs [] fits in
    rw (number_complete 4 (length vs) (flat_map vertex_bytes vs) small, read, is) refl

length_vertices : (vs : List VertexState) → 4 ≤ length (vertices_bytes vs)
unfolding vertices_bytes
length_vertices vs = omega (arith, length-append (number 4 (length vs)) (flat_map vertex_bytes vs), length_number 4 (length vs))

newer_again : (state : Standing) → IsState state → Fits state
    → content_at 2 (fields (head_of state) ++ (told_bytes state ++ vertices_bytes state.vertices)) ≡ Ok state
unfolding content_at
newer_again state is fits =
    let vertices = vertices_bytes state.vertices in
    let make : List VertexState → Standing = λ vs. record { superstep = state.superstep; since = state.since; by_superstep = state.by_superstep; units = state.units; dropped = state.dropped; aggregates = state.aggregates; vertices = vs } in
    rw (
      head_again (head_of state) (told_bytes state ++ vertices) (head_fits state fits.head),
      told_again state vertices is.told fits.head.superstep fits.by_superstep (length_vertices state.vertices),
    )
    (rest_again make state.vertices fits.vertices is.few (sound state is))

older_none : (state : Standing) → IsState state → state.since ≡ state.superstep → state.by_superstep ≡ []
older_none state is same = nil_from_length state.by_superstep (omega (arith, is.told))

older_content : (state : Standing) → IsState state → Fits state → state.since ≡ state.superstep
    → content_at 1 (fields (head_of state) ++ vertices_bytes state.vertices) ≡ Ok state
unfolding content_at
older_content state is fits same =
    let vertices = vertices_bytes state.vertices in
    let none = older_none state is same in
    let make : List VertexState → Standing = λ vs. record { superstep = state.superstep; since = state.superstep; by_superstep = []; units = state.units; dropped = state.dropped; aggregates = state.aggregates; vertices = vs } in
    let made : make state.vertices ≡ state = (λ i. record { superstep = state.superstep; since = sym same i; by_superstep = sym none i; units = state.units; dropped = state.dropped; aggregates = state.aggregates; vertices = state.vertices }) in
    let is_one : is_sound (make state.vertices) ≡ true = ap is_sound made ∙ sound state is in
    rw (head_again (head_of state) vertices (head_fits state fits.head), older_again state.superstep vertices)
    (rest_again make state.vertices fits.vertices is.few is_one)
    ∙ ap (λ (s : Standing). Ok s) made

-- ---- checkpoints

same_bytes : (xs : List ℕ) → bytes_eq xs xs ≡ true
same_bytes xs = (bytes_eq-Decides xs xs).1 refl

pub length_magic : length magic ≡ 4
unfolding magic
length_magic = refl

pub length_digest : (bytes : List ℕ) → length (digest bytes) ≡ 32
unfolding digest
length_digest bytes = length-sha256 bytes

-- a body that begins so, and its digest
sealed_again : (version : ℕ) (known : (eqb version 1 || eqb version 2) ≡ true) (behind : List ℕ) (state : Standing) → version < 256 ^ 4 → content_at version behind ≡ Ok state
    → sealed_at (magic ++ (number 4 version ++ behind)) (digest (magic ++ (number 4 version ++ behind))) ≡ Ok state
unfolding sealed_at
sealed_again version known behind state small e =
    let back = number 4 version ++ behind in
    rw (take_at magic back 4 length_magic, drop_at magic back 4 length_magic, same_bytes magic, number_complete 4 version behind small, known, same_bytes (digest (magic ++ back))) e

state_again : (body : List ℕ) (state : Standing) → 8 ≤ length body → sealed_at body (digest body) ≡ Ok state → state_of (sealed body) ≡ Ok state
unfolding state_of
state_again body state long e =
    let all = length-append body (digest body) in
    let seal = length_digest body in
    let enough : ltb (length (sealed body)) 40 ≡ false = le-ltb _ _ (omega arith) in
    let at : length (sealed body) - 32 ≡ length body = omega arith in
    rw (enough, at, take_at body (digest body) (length body) refl, drop_at body (digest body) (length body) refl) e

length_body : (version : ℕ) (behind : List ℕ) → 8 ≤ length (magic ++ (number 4 version ++ behind))
length_body version behind =
    omega (arith, length-append magic (number 4 version ++ behind), length-append (number 4 version) behind, length_magic, length_number 4 version)

begun_again : (version : ℕ) (known : (eqb version 1 || eqb version 2) ≡ true) (rest : List ℕ) (state : Standing) → version < 256 ^ 4
    → content_at version (fields (head_of state) ++ rest) ≡ Ok state → state_of (sealed (head_bytes version state ++ rest)) ≡ Ok state
begun_again version known rest state small e =
    let behind = fields (head_of state) ++ rest in
    ap (λ (b : List ℕ). state_of (sealed b)) (head_then version state rest)
    ∙ state_again (magic ++ (number 4 version ++ behind)) state (length_body version behind) (sealed_again version known behind state small e)

pub written_is_read : (state : Standing) → IsState state → Fits state → state_of (checkpoint_bytes state) ≡ Ok state
written_is_read state is fits =
    begun_again 2 refl (told_bytes state ++ vertices_bytes state.vertices) state (omega arith) (newer_again state is fits)

pub older_is_read : (state : Standing) → IsState state → Fits state → state.since ≡ state.superstep → state_of (older_bytes state) ≡ Ok state
older_is_read state is fits same =
    begun_again 1 refl (vertices_bytes state.vertices) state (omega arith) (older_content state is fits same)

pub checkpoint_is_read : (bytes : List ℕ) (state : Standing) → IsCheckpointOf bytes state → state_of bytes ≡ Ok state
checkpoint_is_read bytes state is =
    elim is.spelled [
      | inl newer ↦ ap state_of newer ∙ written_is_read state is.is_state is.fits
      | inr older ↦ ap state_of older.0 ∙ older_is_read state is.is_state is.fits older.1
    ]

read_is : (state : Standing) (result : Result State CheckpointFault) → Gives (λ s. s) result (Ok state) → MatchResult result (λ read. read ≡ state) (λ fault. fault ≡ OutOfMemory)
read_is state (Ok s) e = cc
read_is state (Err OutOfMemory) e = refl
read_is state (Err _) e = absurd cc

pub is_only : (bytes : List ℕ) (result : Result State CheckpointFault) → Gives (λ s. s) result (state_of bytes) → (state : Standing) → IsCheckpointOf bytes state
    → MatchResult result (λ read. read ≡ state) (λ fault. fault ≡ OutOfMemory)
is_only bytes result gives state is = read_is state result (subst (λ read. Gives (λ s. s) result read) (checkpoint_is_read bytes state is) gives)
