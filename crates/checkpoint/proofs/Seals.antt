-- The seal of a checkpoint.
use Rattle.std.proofs.Common.{◌≡◌, ℕ, ◌+◌, ◌-◌, Bool, true, false, List, ◌++◌, length, take, drop, refl, sym, ap, ◌∙◌, arith, ◌⊎◌, inl, inr}
use Rattle.std.specs.Str.{bytes_eq}
use Rattle.std.proofs.lemmas.List.{drop_at, length-append, take_at}
use Rattle.std.proofs.lemmas.Slice.Eq.{bytes_eq-Decides}
use Rattle.job_state.specs.State.{Standing}
use Rattle.checkpoint.specs.Checkpoint.{Collide, IsCheckpointOf, content_of, digest, head_bytes, seal_of, sealed, told_bytes, vertices_bytes}
use Rattle.checkpoint.proofs.Again.{length_digest}

front_is : (content : List ℕ) → length (sealed content) - 32 ≡ length content
front_is content = omega (arith, length-append content (digest content), length_digest content)

content_is : (content : List ℕ) → content_of (sealed content) ≡ content
content_is content = ap (λ n. take n (sealed content)) (front_is content) ∙ take_at content (digest content) (length content) refl

seal_is : (content : List ℕ) → seal_of (sealed content) ≡ digest content
seal_is content = ap (λ n. drop n (sealed content)) (front_is content) ∙ drop_at content (digest content) (length content) refl

-- bytes that are sealed
record IsSealed (bytes : List ℕ) : Type 0 where
  whole : bytes ≡ sealed (content_of bytes)
  seal : seal_of bytes ≡ digest (content_of bytes)

sealed_by : (bytes content : List ℕ) → bytes ≡ sealed content → IsSealed bytes
sealed_by bytes content is =
    let same : content_of bytes ≡ content = ap (λ b. content_of b) is ∙ content_is content in
    record {
      whole = is ∙ ap (λ c. sealed c) (sym same);
      seal = ap (λ b. seal_of b) is ∙ seal_is content ∙ ap (λ c. digest c) (sym same);
    }

is_sealed : (bytes : List ℕ) (state : Standing) → IsCheckpointOf bytes state → IsSealed bytes
is_sealed bytes state is =
    elim is.spelled [
      | inl newer ↦ sealed_by bytes (head_bytes 2 state ++ (told_bytes state ++ vertices_bytes state.vertices)) newer
      | inr older ↦ sealed_by bytes (head_bytes 1 state ++ vertices_bytes state.vertices) older.0
    ]

by_content : (bytes other : List ℕ) (same : Bool) → bytes_eq (content_of other) (content_of bytes) ≡ same → IsSealed bytes → IsSealed other → seal_of other ≡ seal_of bytes
    → (other ≡ bytes) ⊎ Collide (content_of other) (content_of bytes)
by_content bytes other true e first second seals =
    inl (second.whole ∙ ap (λ c. sealed c) ((bytes_eq-Decides (content_of other) (content_of bytes)).0 e) ∙ sym first.whole)
by_content bytes other false e first second seals =
    inr (record {
      differ = λ alike. let yes = (bytes_eq-Decides (content_of other) (content_of bytes)).1 alike in let both : true ≡ false = sym yes ∙ e in absurd (cc);
      digest_is = sym second.seal ∙ seals ∙ first.seal;
    })

pub of_one : (bytes other : List ℕ) (one two : Standing) → IsCheckpointOf bytes one → IsCheckpointOf other two → seal_of other ≡ seal_of bytes
    → (other ≡ bytes) ⊎ Collide (content_of other) (content_of bytes)
of_one bytes other one two first second seals =
    by_content bytes other (bytes_eq (content_of other) (content_of bytes)) refl (is_sealed bytes one first) (is_sealed other two second) seals
