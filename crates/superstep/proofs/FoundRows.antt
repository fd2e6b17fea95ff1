-- What a task finds in the rows of its part.
use Rattle.std.proofs.Common.{◌≡◌, ◌+◌, ◌||◌, ℕ, ℤ, Bool, true, false, cond, List, [], ◌∷◌, ap, arith, length, map, ◌∙◌}
use Rattle.std.specs.Prelude.{count_by, nat_lt, sum_by, if◌then◌else◌}
use Rattle.std.specs.List.{fold}
use Rattle.std.proofs.lemmas.Bool.{lt-ltb}
use Rattle.std.proofs.lemmas.List.Sums.{sum_by-cons}
use Rattle.job_state.specs.declared.found.Found.{Found}
use Rattle.job_state.specs.declared.state.VertexState.{VertexState}
use Rattle.job_state.specs.Found.{capped_count, nothing_found, with_vertex}
use Rattle.superstep.specs.Found.{IsFoundAt, IsFoundIn, messages_at}
use Rattle.superstep.specs.Job.{Work}
use Rattle.superstep.specs.PlainRun.{state_at}
use Rattle.superstep.specs.Snapshot.{Row, is_called}
use Rattle.superstep.specs.State.{bare}
use Rattle.superstep.specs.Tasks.{IsSlice, SliceStamp, part_rows}

-- these counts, each with its limit
abbrev counts : ℕ → ℕ → Found
counts called received = record { called = capped_count called; received = capped_count received }

same_counts : (called received calls messages : ℕ) → called ≡ calls → received ≡ messages → counts called received ≡ counts calls messages
same_counts called received calls messages same alike = λ k. counts (same k) (alike k)

capped_more : (count more : ℕ) → capped_count (capped_count count + more) ≡ capped_count (count + more)
capped_more count more = omega arith

called_more : (called received messages : ℕ)
    → record { called = capped_count (capped_count called + 1); received = capped_count (capped_count received + messages) } ≡ counts (called + 1) (received + messages)
called_more called received messages = λ k. record { called = capped_more called 1 k; received = capped_more received messages k }

with_one : (active : Bool) (inbox : List ℤ) (called received : ℕ)
    → (if active || nat_lt 0 (length inbox)
    then record { called = capped_count (capped_count called + 1); received = capped_count (capped_count received + length inbox) }
    else counts called received)
    ≡ counts (called + cond (active || nat_lt 0 (length inbox)) 1 0) (received + length inbox)
with_one true inbox called received = called_more called received (length inbox)
with_one false [] called received = same_counts called received (called + 0) (received + 0) (omega arith) (omega arith)
with_one false (message ∷ inbox) called received =
    rw (lt-ltb 0 (length (message ∷ inbox)) (omega arith)) (called_more called received (length (message ∷ inbox)))

found_from : (rows : List Row) (called received : ℕ)
    → fold with_vertex (counts called received) (map bare rows) ≡ counts (called + count_by is_called rows) (received + sum_by messages_at rows)
found_from [] called received = same_counts called received (called + 0) (received + 0) (omega arith) (omega arith)
found_from (row ∷ rows) called received =
    let one : ℕ = cond (is_called row) 1 0 in
    ap (λ (found : Found). fold with_vertex found (map bare rows)) (with_one row.active row.inbox called received)
    ∙ found_from rows (called + one) (received + length row.inbox)
    ∙ same_counts _ _ _ _
    (omega (arith, sum_by-cons (λ (other : Row). cond (is_called other) 1 0) row rows))
    (omega (arith, sum_by-cons messages_at row rows))

found_in : (rows : List Row) (found : Found) → found ≡ fold with_vertex nothing_found (map bare rows) → IsFoundIn rows found
found_in rows found is =
    let all : found ≡ counts (0 + count_by is_called rows) (0 + sum_by messages_at rows) = is ∙ found_from rows 0 0 in
    record {
      called = ap (λ (f : Found). f.called) all ∙ ap capped_count (omega arith);
      received = ap (λ (f : Found). f.received) all ∙ ap capped_count (omega arith);
    }

-- what is found among the vertices of a slice
pub found_here : (work : Work) (honest : ℕ → Bool) (stamp : SliceStamp) (vertices : List VertexState) (found : Found) → IsSlice work honest stamp vertices
    → honest stamp.epoch ≡ true → found ≡ fold with_vertex nothing_found vertices → IsFoundAt work stamp.superstep stamp.part found
found_here work honest stamp vertices found slice sure is = λ meaning.
    found_in (part_rows work.settings.parts (state_at meaning.outcomes meaning.graph stamp.superstep) stamp.part) found
    (is ∙ ap (fold with_vertex nothing_found) (slice.at sure meaning))
