-- How many messages the letters of a part are.
use Rattle.std.proofs.Common.{◌≡◌, ◌+◌, ◌∙◌, ℕ, ℤ, Bool, List, [], ◌∷◌, ap, length, length-append, refl, sym, true}
use Rattle.std.specs.List.{enumerate_from}
use Rattle.std.proofs.lemmas.List.{length-map}
use Rattle.std.proofs.lemmas.List.FromFn.{length-enumerate_from}
use Rattle.std.proofs.lemmas.List.Sorted.{length_permutation}
use Rattle.std.proofs.lemmas.List.Sums.{sum_by-cons}
use Rattle.std.proofs.lemmas.Simd.{map-map}
use Rattle.semantics.specs.Call.{Outcome}
use Rattle.inbox.specs.declared.letters.Letter.{Letter}
use Rattle.inbox.specs.Merging.{letter_sent}
use Rattle.job_state.specs.declared.state.VertexState.{VertexState}
use Rattle.superstep.specs.Job.{Work}
use Rattle.superstep.specs.PlainRun.{state_at}
use Rattle.superstep.specs.Snapshot.{Row}
use Rattle.superstep.specs.Superstep.{left_by, sends_left}
use Rattle.job_state.specs.Stamps.{DoneStamp}
use Rattle.superstep.specs.Tasks.{IsDone, IsSentAt, VertexOutcome, letters_from, letters_of, outcomes_in, part_rows}

-- one letter for each message
letters_long : (left : List VertexOutcome) → length (letters_of left) ≡ sends_left (outcomes_in left)
letters_long [] = refl
letters_long (one ∷ left) =
    let own : length (letters_from one.0 one.1) ≡ length one.1.sends =
    length-map (enumerate_from 0 one.1.sends) (letter_sent one.0) ∙ length-enumerate_from 0 one.1.sends in
    length-append (letters_from one.0 one.1) (letters_of left)
    ∙ (λ k. own k + letters_long left k)
    ∙ sym (sum_by-cons (λ (outcome : Outcome). length outcome.sends) one.1 (outcomes_in left))

-- a result has a letter for each message that its vertices sent
pub sent_here : (work : Work) (honest : ℕ → Bool) (stamp : DoneStamp) (vertices : List VertexState) (letters : List Letter) (aggregators : List ℤ)
    → IsDone work honest stamp vertices letters aggregators → honest stamp.epoch ≡ true → IsSentAt work stamp.superstep stamp.part (length letters)
sent_here work honest stamp vertices letters aggregators done sure = λ meaning.
    let before = state_at meaning.outcomes meaning.graph stamp.superstep in
    length_permutation (letters_of done.left) letters done.comes.letters
    ∙ letters_long done.left
    ∙ ap (λ (left : List VertexOutcome). sends_left (outcomes_in left)) (done.at sure meaning)
    ∙ ap sends_left
    (map-map (λ (one : VertexOutcome). one.1) (λ (row : Row). (row.id, left_by meaning.outcomes stamp.superstep before row)) (part_rows work.settings.parts before stamp.part))
