-- Bytes, written piece by piece.
use Rattle.std.proofs.Common.{◌≡◌, ℕ, ◌+◌, ◌-◌, ◌≤◌, List, [], ◌++◌, length, take, drop, Option, Some, None, refl, ap, sym, ◌∙◌, arith, append_assoc, length-drop}
use Rattle.std.specs.Io.KnownBytes.{Appends, Keeps}
use Rattle.std.proofs.lemmas.List.{append-nil, take-append-drop, take_all}
use Rattle.std.proofs.Math.Seq.{take-add, take-append_seam}
use Rattle.line_text.specs.Output.{HasBegun, HasTaken}

-- So many of the bytes were written.
pub record IsWritten (old new : Option (List ℕ)) (bytes : List ℕ) (done : ℕ) : Type 0 where
  pub within : done ≤ length bytes
  pub appends : Appends old new (take done bytes)

pub appends_nothing : (known : Option (List ℕ)) → Appends known known []
appends_nothing None = tt
appends_nothing (Some xs) = sym (append-nil xs)

pub appends_more : (old middle new : Option (List ℕ)) (xs ys : List ℕ) → Appends old middle xs → Appends middle new ys → Appends old new (xs ++ ys)
appends_more None middle new xs ys h i = tt
appends_more (Some a) None new xs ys h i = absurd h
appends_more (Some a) (Some b) None xs ys h i = absurd i
appends_more (Some a) (Some b) (Some c) xs ys h i = i ∙ ap (λ zs. zs ++ ys) h ∙ append_assoc a xs ys

pub appends_kept : (old middle new : Option (List ℕ)) (xs : List ℕ) → Appends old middle xs → Keeps middle new → Appends old new xs
appends_kept None middle new xs h i = tt
appends_kept (Some a) None new xs h i = absurd h
appends_kept (Some a) (Some b) None xs h i = absurd i
appends_kept (Some a) (Some b) (Some c) xs h i = i ∙ h

pub written_none : (known : Option (List ℕ)) (bytes : List ℕ) → IsWritten known known bytes 0
written_none known bytes = record { within = omega arith; appends = appends_nothing known }

-- so many of the bytes that were left
pub written_more : (old middle new : Option (List ℕ)) (bytes : List ℕ) (done count : ℕ) → IsWritten old middle bytes done
    → HasTaken middle new (take (length bytes - done) (drop done bytes)) count → IsWritten old new bytes (done + count)
written_more old middle new bytes done count written taken =
    let left : take (length bytes - done) (drop done bytes) ≡ drop done bytes = take_all (length bytes - done) (drop done bytes) (omega (arith, length-drop done bytes)) in
    let within = rw left at taken.within in
    record {
      within = omega (arith, length-drop done bytes, written.within);
      appends = rw (take-add done count bytes) (appends_more old middle new (take done bytes) (take count (drop done bytes)) written.appends (rw left at taken.appends));
    }

pub written_begun : (old middle new : Option (List ℕ)) (bytes : List ℕ) (done : ℕ) → IsWritten old middle bytes done → Keeps middle new → HasBegun old new bytes
written_begun old middle new bytes done written kept = record { count = done; appends = appends_kept old middle new (take done bytes) written.appends kept }

pub keeps : (known : Option (List ℕ)) → Keeps known known
keeps None = tt
keeps (Some xs) = refl

-- what was written is the front of a whole
pub begun_front : (old new : Option (List ℕ)) (front rest whole : List ℕ) → Appends old new front → whole ≡ front ++ rest → HasBegun old new whole
begun_front old new front rest whole appends e = record {
  count = length front;
  appends = rw (e, take-append_seam front rest) appends;
}

-- one piece more was begun
pub begun_piece : (old middle new : Option (List ℕ)) (front piece rest whole : List ℕ) → Appends old middle front → HasBegun middle new piece
    → whole ≡ (front ++ piece) ++ rest → HasBegun old new whole
begun_piece old middle new front piece rest whole appends begun e =
    begun_front old new (front ++ take begun.count piece) (drop begun.count piece ++ rest) whole
    (appends_more old middle new front (take begun.count piece) appends begun.appends)
    (e ∙ append_assoc front piece rest
    ∙ ap (λ xs. front ++ (xs ++ rest)) (sym (take-append-drop begun.count piece))
    ∙ ap (λ xs. front ++ xs) (append_assoc (take begun.count piece) (drop begun.count piece) rest)
    ∙ sym (append_assoc front (take begun.count piece) (drop begun.count piece ++ rest)))
