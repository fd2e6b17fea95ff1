-- What is read is a state, and the bytes are its checkpoint.
use Rattle.std.proofs.Common.{◌≡◌, ℕ, zero, suc, ◌+◌, ◌-◌, ◌^◌, ◌<◌, Bool, true, false, cond, eqb, leb, ltb, ◌&&◌, ◌||◌, not, FitsSigned, w64, List, [], ◌∷◌, ◌++◌, length, take, drop, Result, Ok, Err, refl, sym, ap, subst, ◌∙◌, append_assoc, arith, ◌⊎◌, inl, inr, IfOk}
use Rattle.std.specs.List.{AllByRecursion, flat_map}
use Rattle.std.proofs.lemmas.List.Concat.{flat_map-cons}
use Rattle.std.proofs.lemmas.Bool.{cases_eq, eqb-true, leb-true, ltb-false, ne_eqb}
use Rattle.std.proofs.lemmas.List.{append-nil, nil_from_length, take-append-drop}
use Rattle.std.specs.Str.{bytes_eq}
use Rattle.std.proofs.lemmas.Slice.Eq.{bytes_eq-Decides}
use Rattle.job_state.specs.declared.state.State.{State}
use Rattle.job_state.specs.declared.state.VertexState.{VertexState}
use Rattle.job_state.specs.State.{IsState, Standing}
use Rattle.checkpoint.specs.Numbers.{number, signed}
use Rattle.checkpoint.specs.Checkpoint.{Fits, IsCheckpointOf, VertexFits, digest, flag, head_bytes, magic, sealed, told_bytes, vertex_bytes, vertices_bytes}
use Rattle.checkpoint.specs.Reading.{◌>>=◌, Gives, content_at, head_at, in_order, is_sound, number_at, sealed_at, signed_at, state_of, told_at, vertex_at, vertices_at}
use Rattle.checkpoint.specs.declared.fault.CheckpointFault.{CheckpointFault}
use Rattle.checkpoint.specs.declared.fault.CheckpointFault.TheVariants.{Digest, Header, Order, Truncated, Version}
use Rattle.checkpoint.specs.declared.reading.Head.{Head}
use Rattle.checkpoint.proofs.Tools.{bind_ok, both_true, ok_is, unless}
use Rattle.checkpoint.proofs.Sound.{is_state}
use Rattle.checkpoint.proofs.Fields.{IsBytes, IsBytes-drop, IsBytes-take, IsSound, Took, by_step, items_sound, number_sound, signed_sound}

-- what stands behind the first part, behind both
pub seam : (front middle second rest : List ℕ) → middle ≡ second ++ rest → front ++ middle ≡ (front ++ second) ++ rest
seam front middle second rest e = ap (λ (b : List ℕ). front ++ b) e ∙ sym (append_assoc front second rest)

-- ---- vertices

flag_again : (n : ℕ) → leb n 1 ≡ true → flag (eqb n 1) ≡ n
flag_again zero e = refl
flag_again (suc zero) e = refl
flag_again (suc (suc n)) e = absurd (omega (arith, leb-true (suc (suc n)) 1 e))

vertex_sound : (bytes : List ℕ) (x : (VertexState × Bool) × List ℕ) → IsBytes bytes → vertex_at bytes ≡ Ok x → x.0.1 ≡ true
    → Took bytes (vertex_bytes x.0.0) x.1 (VertexFits x.0.0)
unfolding vertex_at vertex_bytes
vertex_sound bytes x fits e is_told =
    by_step (number 8) _ x bytes (number_sound 8) fits e (λ id after_id id_parts id_fit fits1 e1.
    by_step signed _ x after_id signed_sound fits1 e1 (λ value after_value value_parts value_fit fits2 e2.
    by_step (number 1) _ x after_value (number_sound 1) fits2 e2 (λ active after_active active_parts active_fit fits3 e3.
    by_step (number 8) _ x after_active (number_sound 8) fits3 e3 (λ count after_count count_parts count_fit fits4 e4.
    by_step (flat_map signed) _ x after_count (items_sound signed_at signed (FitsSigned w64) count signed_sound) fits4 e4 (λ inbox rest inbox_parts inbox_fit rest_fits last.
    let v : VertexState = record { id = id; value = value; active = eqb active 1; inbox = inbox } in
    let made = ok_is ((v, leb active 1), rest) x last in
    let small : leb active 1 ≡ true = ap (λ (y : (VertexState × Bool) × List ℕ). y.0.1) made ∙ is_told in
    subst (λ (y : (VertexState × Bool) × List ℕ). Took bytes (vertex_bytes y.0.0) y.1 (VertexFits y.0.0)) made (record {
      parts = rw (flag_again active small, inbox_fit.0) (
          id_parts ∙ seam (number 8 id) after_id _ rest (value_parts ∙ seam (signed value) after_value _ rest
          (active_parts ∙ seam (number 1 active) after_active _ rest (count_parts ∙ seam (number 8 count) after_count _ rest inbox_parts))));
      rest_fits = rest_fits;
      fit = record { id = omega arith; value = value_fit; count = omega (arith, inbox_fit.0); inbox = inbox_fit.1 };
    }))))))

pub vertices_sound : (n : ℕ) (bytes : List ℕ) (x : (List VertexState × Bool) × List ℕ) → IsBytes bytes → vertices_at n bytes ≡ Ok x → x.0.1 ≡ true
    → Took bytes (flat_map vertex_bytes x.0.0) x.1 ((length x.0.0 ≡ n) × AllByRecursion VertexFits x.0.0)
unfolding vertices_at
vertices_sound zero bytes x fits e is_told =
    subst (λ (y : (List VertexState × Bool) × List ℕ). Took bytes (flat_map vertex_bytes y.0.0) y.1 ((length y.0.0 ≡ 0) × AllByRecursion VertexFits y.0.0)) (ok_is (([], true), bytes) x e)
    (record { parts = refl; rest_fits = fits; fit = (refl, tt) })
vertices_sound (suc n) bytes x fits e is_told =
    let a = bind_ok (vertex_at bytes) (λ first. vertices_at n first.1 >>= λ others. Ok ((first.0.0 ∷ others.0.0, first.0.1 && others.0.1), others.1)) x e in
    let b = bind_ok (vertices_at n a.0.1) (λ others. Ok ((a.0.0.0 ∷ others.0.0, a.0.0.1 && others.0.1), others.1)) x a.2 in
    let made = ok_is ((a.0.0.0 ∷ b.0.0.0, a.0.0.1 && b.0.0.1), b.0.1) x b.2 in
    let both = both_true a.0.0.1 b.0.0.1 (ap (λ (y : (List VertexState × Bool) × List ℕ). y.0.1) made ∙ is_told) in
    let first = vertex_sound bytes a.0 fits a.1 both.0 in
    let others = vertices_sound n a.0.1 b.0 first.rest_fits b.1 both.1 in
    subst (λ (y : (List VertexState × Bool) × List ℕ). Took bytes (flat_map vertex_bytes y.0.0) y.1 ((length y.0.0 ≡ suc n) × AllByRecursion VertexFits y.0.0)) made (record {
      parts = rw flat_map-cons (first.parts ∙ seam (vertex_bytes a.0.0.0) a.0.1 (flat_map vertex_bytes b.0.0.0) b.0.1 others.parts);
      rest_fits = others.rest_fits;
      fit = (ap suc others.fit.0, (first.fit, others.fit.1));
    })

-- ---- what stands before the vertices

-- what both versions have behind the version
abbrev pub fields : Head → List ℕ
fields head = number 4 head.superstep ++ (number 16 head.dropped ++ (number 16 head.units ++ flat_map signed head.aggregates))

pub record FieldsFit (head : Head) : Type 0 where
  pub superstep : head.superstep < 2 ^ 32
  pub dropped : head.dropped < 2 ^ 128
  pub units : head.units < 2 ^ 128
  pub aggregators : length head.aggregates ≡ 8
  pub aggregates : AllByRecursion (FitsSigned w64) head.aggregates

pub head_sound : IsSound head_at fields FieldsFit
unfolding head_at
head_sound bytes x fits e =
    by_step (number 4) _ x bytes (number_sound 4) fits e (λ superstep after_superstep superstep_parts superstep_fit fits1 e1.
    by_step (number 16) _ x after_superstep (number_sound 16) fits1 e1 (λ dropped after_dropped dropped_parts dropped_fit fits2 e2.
    by_step (number 16) _ x after_dropped (number_sound 16) fits2 e2 (λ units after_units units_parts units_fit fits3 e3.
    by_step (flat_map signed) _ x after_units (items_sound signed_at signed (FitsSigned w64) 8 signed_sound) fits3 e3 (λ aggregates rest parts fit rest_fits last.
    let head : Head = record { superstep = superstep; dropped = dropped; units = units; aggregates = aggregates } in
    subst (λ (y : Head × List ℕ). Took bytes (fields y.0) y.1 (FieldsFit y.0)) (ok_is (head, rest) x last) (record {
      parts = superstep_parts ∙ seam (number 4 superstep) after_superstep _ rest (dropped_parts ∙ seam (number 16 dropped) after_dropped _ rest
          (units_parts ∙ seam (number 16 units) after_units _ rest parts));
      rest_fits = rest_fits;
      fit = record { superstep = omega arith; dropped = omega arith; units = omega arith; aggregators = fit.0; aggregates = fit.1 };
    })))))

-- the first superstep whose units are told, and the units, as version 2 has them
abbrev pub told_fields : ℕ × List ℕ → List ℕ
told_fields told = number 4 told.0 ++ flat_map (number 16) told.1

pub record ToldFits (superstep : ℕ) (told : ℕ × List ℕ) : Type 0 where
  pub counted : told.0 + length told.1 ≡ superstep
  pub each : AllByRecursion (λ n. n < 2 ^ 128) told.1

each_below : (xs : List ℕ) → AllByRecursion (λ n. n < 256 ^ 16) xs → AllByRecursion (λ n. n < 2 ^ 128) xs
each_below [] fits = tt
each_below (x ∷ xs) fits = (omega (arith, fits.0), each_below xs fits.1)

pub told_sound : (superstep : ℕ) → IsSound (told_at 2 superstep) told_fields (ToldFits superstep)
unfolding told_at
told_sound superstep bytes x fits e =
    by_step (number 4) _ x bytes (number_sound 4) fits e (λ since after parts fit fits1 e1.
    let long = unless (ltb (length after) 4) Truncated _ x e1 in
    let early = unless (ltb superstep since) Order _ x long.1 in
    by_step (flat_map (number 16)) _ x after (items_sound (number_at 16) (number 16) (λ n. n < 256 ^ 16) (superstep - since) (number_sound 16)) fits1 early.1 (λ told rest more more_fit rest_fits last.
    subst (λ (y : (ℕ × List ℕ) × List ℕ). Took bytes (told_fields y.0) y.1 (ToldFits superstep y.0)) (ok_is ((since, told), rest) x last) (record {
      parts = parts ∙ seam (number 4 since) after _ rest more;
      rest_fits = rest_fits;
      fit = record { counted = omega (arith, more_fit.0, ltb-false superstep since early.0); each = each_below told more_fit.1 };
    })))

pub older_told : (superstep : ℕ) (bytes : List ℕ) (x : (ℕ × List ℕ) × List ℕ) → told_at 1 superstep bytes ≡ Ok x → ((superstep, []), bytes) ≡ x
unfolding told_at
older_told superstep bytes x e = ok_is ((superstep, []), bytes) x e

-- ---- what stands behind the version

-- a state that is made of these vertices
pub record Rest (make : List VertexState → Standing) (bytes : List ℕ) (state : Standing) : Type 0 where
  pub vertices : List VertexState
  pub parts : bytes ≡ vertices_bytes vertices
  pub few : length vertices < 2 ^ 32
  pub fits : AllByRecursion VertexFits vertices
  pub sound : is_sound (make vertices) ≡ true
  pub made : make vertices ≡ state

ordered_ok : {A : Type 0} (b : Bool) (fault : CheckpointFault) (x y : A) → cond b (Ok x) (Err fault) ≡ Ok y → (b ≡ true) × (x ≡ y)
ordered_ok true fault x y e = (refl, ok_is x y e)
ordered_ok false fault x y e = absurd cc

-- what reads the vertices, and wants nothing behind them
abbrev pub rest_at : (List VertexState → Standing) → List ℕ → Result Standing CheckpointFault
rest_at make bytes =
    number_at 4 bytes >>= λ count. vertices_at count.0 count.1 >>= λ vertices. in_order (vertices.0.1 && (eqb (length vertices.1) 0)) (make vertices.0.0)

rest_found : (make : List VertexState → Standing) (bytes : List ℕ) (state : Standing) → IsBytes bytes → rest_at make bytes ≡ Ok state → Rest make bytes state
unfolding vertices_bytes
rest_found make bytes state fits e =
    by_step (number 4) (λ count. vertices_at count.0 count.1 >>= λ vertices. in_order (vertices.0.1 && (eqb (length vertices.1) 0)) (make vertices.0.0)) state bytes (number_sound 4) fits e (λ count after parts small fits1 e1.
    let a = bind_ok (vertices_at count after) (λ vertices. in_order (vertices.0.1 && (eqb (length vertices.1) 0)) (make vertices.0.0)) state e1 in
    let o = ordered_ok ((a.0.0.1 && (eqb (length a.0.1) 0)) && is_sound (make a.0.0.0)) Order (make a.0.0.0) state a.2 in
    let both = both_true _ _ o.0 in
    let own = both_true _ _ both.0 in
    let t = vertices_sound count after a.0 fits1 a.1 own.0 in
    let nothing : a.0.1 ≡ [] = nil_from_length a.0.1 (eqb-true _ _ own.1) in
    record {
      vertices = a.0.0.0;
      parts = rw t.fit.0 (parts ∙ ap (λ (b : List ℕ). number 4 count ++ b) (t.parts ∙ ap (λ (b : List ℕ). flat_map vertex_bytes a.0.0.0 ++ b) nothing ∙ append-nil (flat_map vertex_bytes a.0.0.0)));
      few = omega (arith, t.fit.0);
      fits = t.fit.1;
      sound = both.1;
      made = o.1;
    })

-- what both versions have behind the version, of a state
abbrev pub head_of : Standing → Head
head_of state = record { superstep = state.superstep; dropped = state.dropped; units = state.units; aggregates = state.aggregates }

pub record IsContentOf (bytes middle : List ℕ) (state : Standing) : Type 0 where
  pub parts : bytes ≡ fields (head_of state) ++ (middle ++ vertices_bytes state.vertices)
  pub is_state : IsState state
  pub fits : Fits state

-- a state that is read
read_state : (state : Standing) → FieldsFit (head_of state) → state.since + length state.by_superstep ≡ state.superstep
    → AllByRecursion (λ n. n < 2 ^ 128) state.by_superstep → AllByRecursion VertexFits state.vertices → length state.vertices < 2 ^ 32 → is_sound state ≡ true
    → IsState state × Fits state
read_state state head counted told vertices few sound =
    let both = both_true _ _ sound in (
      is_state state both.0 both.1 counted few,
      record {
        head = record { superstep = head.superstep; dropped = head.dropped; units = head.units; aggregators = head.aggregators; aggregates = head.aggregates };
        by_superstep = told;
        vertices = vertices;
      },
    )

pub newer_found : (bytes : List ℕ) (state : Standing) → IsBytes bytes → content_at 2 bytes ≡ Ok state → IsContentOf bytes (told_bytes state) state
unfolding content_at told_bytes
newer_found bytes state fits e =
    by_step fields _ state bytes head_sound fits e (λ head after head_parts head_fit fits1 e1.
    by_step told_fields _ state after (told_sound head.superstep) fits1 e1 (λ told behind told_parts told_fit fits2 e2.
    let make : List VertexState → Standing = λ vertices. record { superstep = head.superstep; since = told.0; by_superstep = told.1; units = head.units; dropped = head.dropped; aggregates = head.aggregates; vertices = vertices } in
    let r = rest_found make behind state fits2 e2 in
    let is = read_state (make r.vertices) head_fit told_fit.counted told_fit.each r.fits r.few r.sound in
    subst (λ (s : Standing). IsContentOf bytes (told_bytes s) s) r.made (record {
      parts = head_parts ∙ ap (λ (b : List ℕ). fields head ++ b) (told_parts ∙ ap (λ (b : List ℕ). told_fields told ++ b) r.parts);
      is_state = is.0;
      fits = is.1;
    })))

pub older_found : (bytes : List ℕ) (state : Standing) → IsBytes bytes → content_at 1 bytes ≡ Ok state → IsContentOf bytes [] state × (state.since ≡ state.superstep)
unfolding content_at
older_found bytes state fits e =
    by_step fields _ state bytes head_sound fits e (λ head after head_parts head_fit fits1 e1.
    let a = bind_ok (told_at 1 head.superstep after) _ state e1 in
    let none = older_told head.superstep after a.0 a.1 in
    let make : List VertexState → Standing = λ vertices. record { superstep = head.superstep; since = head.superstep; by_superstep = []; units = head.units; dropped = head.dropped; aggregates = head.aggregates; vertices = vertices } in
    let rest : rest_at make after ≡ Ok state = rw (← none) at a.2 in
    let r = rest_found make after state fits1 rest in
    let is = read_state (make r.vertices) head_fit (omega arith) tt r.fits r.few r.sound in
    subst (λ (s : Standing). IsContentOf bytes [] s × (s.since ≡ s.superstep)) r.made (
      record {
        parts = head_parts ∙ ap (λ (b : List ℕ). fields head ++ b) r.parts;
        is_state = is.0;
        fits = is.1;
      },
      refl,
    ))

-- ---- checkpoints

pub head_then : (version : ℕ) (state : Standing) (rest : List ℕ) → head_bytes version state ++ rest ≡ magic ++ (number 4 version ++ (fields (head_of state) ++ rest))
unfolding head_bytes
head_then version state rest =
    append_assoc magic (number 4 version ++ fields (head_of state)) rest
    ∙ ap (λ (b : List ℕ). magic ++ b) (append_assoc (number 4 version) (fields (head_of state)) rest)

content_spelled : (version : ℕ) (state : Standing) (middle body behind : List ℕ) → take 4 body ≡ magic → drop 4 body ≡ number 4 version ++ behind
    → IsContentOf behind middle state → body ≡ head_bytes version state ++ (middle ++ vertices_bytes state.vertices)
content_spelled version state middle body behind front back is =
    sym (take-append-drop 4 body) ∙ (λ i. front i ++ back i) ∙ ap (λ (b : List ℕ). magic ++ (number 4 version ++ b)) is.parts
    ∙ sym (head_then version state (middle ++ vertices_bytes state.vertices))

-- the seal is the digest, and the body is of the state
pub record IsSealedBy (body seal : List ℕ) (state : Standing) : Type 0 where
  pub sealed : seal ≡ digest body
  pub is_state : IsState state
  pub fits : Fits state
  pub spelled : (body ≡ head_bytes 2 state ++ (told_bytes state ++ vertices_bytes state.vertices)) ⊎ ((body ≡ head_bytes 1 state ++ vertices_bytes state.vertices) × (state.since ≡ state.superstep))

not_false : (b : Bool) → not b ≡ false → b ≡ true
not_false true e = refl
not_false false e = absurd cc

one_or_two : (version : ℕ) → (eqb version 1 || eqb version 2) ≡ true → (version ≡ 1) ⊎ (version ≡ 2)
one_or_two version e =
    elim (cases_eq version 1) [
      | inl one ↦ inl one
      | inr other ↦ inr (eqb-true version 2 (rw (ne_eqb version 1 other) at e))
    ]

sealed_found : (body seal : List ℕ) (state : Standing) → IsBytes body → sealed_at body seal ≡ Ok state → IsSealedBy body seal state
unfolding sealed_at
sealed_found body seal state fits e =
    let front = unless (not (bytes_eq (take 4 body) magic)) Header _ state e in
    by_step (number 4) _ state (drop 4 body) (number_sound 4) (IsBytes-drop 4 body fits) front.1 (λ version behind parts small behind_fits e1.
    let known = unless (not (eqb version 1 || eqb version 2)) Version _ state e1 in
    let closed = unless (not (bytes_eq seal (digest body))) Digest _ state known.1 in
    let begins : take 4 body ≡ magic = (bytes_eq-Decides (take 4 body) magic).0 (not_false _ front.0) in
    let sealed : seal ≡ digest body = (bytes_eq-Decides seal (digest body)).0 (not_false _ closed.0) in
    elim (one_or_two version (not_false _ known.0)) [
      | inl one ↦ let r = older_found behind state behind_fits (rw one at closed.1) in record {
        sealed = sealed;
        is_state = r.0.is_state;
        fits = r.0.fits;
        spelled = inr (content_spelled 1 state [] body behind begins (rw one at parts) r.0, r.1);
      }
      | inr two ↦ let r = newer_found behind state behind_fits (rw two at closed.1) in record {
        sealed = sealed;
        is_state = r.is_state;
        fits = r.fits;
        spelled = inl (content_spelled 2 state (told_bytes state) body behind begins (rw two at parts) r);
      }
    ])

pub state_found : (bytes : List ℕ) (state : Standing) → IsBytes bytes → state_of bytes ≡ Ok state → IsCheckpointOf bytes state
unfolding state_of
state_found bytes state fits e =
    let body = take (length bytes - 32) bytes in
    let seal = drop (length bytes - 32) bytes in
    let long = unless (ltb (length bytes) 40) Truncated (sealed_at body seal) state e in
    let is = sealed_found body seal state (IsBytes-take (length bytes - 32) bytes fits) long.1 in
    let whole : bytes ≡ sealed body = sym (take-append-drop (length bytes - 32) bytes) ∙ ap (λ (b : List ℕ). body ++ b) is.sealed in
    record {
      is_state = is.is_state;
      fits = is.fits;
      spelled = elim is.spelled [
        | inl newer ↦ inl (whole ∙ ap sealed newer)
        | inr older ↦ inr (whole ∙ ap sealed older.0, older.1)
      ];
    }

pub is_found : (bytes : List ℕ) (result : Result State CheckpointFault) → IsBytes bytes → Gives (λ state. state) result (state_of bytes) → IfOk result (IsCheckpointOf bytes)
is_found bytes (Ok state) fits e = state_found bytes state fits e
is_found bytes (Err fault) fits e = tt
