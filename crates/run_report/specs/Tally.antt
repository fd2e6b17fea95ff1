-- What is counted of a superstep.
use Rattle.std.specs.Prelude.{◌≡◌, ◌≢◌, ℕ, zero, suc, ◌+◌, ◌-◌, ◌^◌, ◌<◌, ◌==◌, List, [], ◌∷◌, Option, Some, None, IfSome, map, min, nat_le, nat_lt, option_map, slice_get, slice_index_or, unwrap_or, if◌then◌else◌}
use Rattle.std.specs.List.{fold, range_with_len}
use Rattle.std.specs.Option.{option_or}
use Rattle.run_report.specs.declared.counts.SuperstepCounts.{SuperstepCounts}
use Rattle.run_report.specs.declared.tally.Ended.{Ended}
use Rattle.run_report.specs.declared.tally.Tallied.{Tallied}
use Rattle.run_report.specs.declared.tally.Tally.{Tally}

-- a sum, which stops at the greatest number of 64 bits
abbrev pub capped_sum : ℕ → ℕ → ℕ
capped_sum a b = min (a + b) (2 ^ 64 - 1)

-- with one more task of the same epoch
abbrev pub together : Tallied → Tallied → Tallied
together before task = record {
  epoch = before.epoch;
  tasks = capped_sum before.tasks task.tasks;
  units = capped_sum before.units task.units;
  called = capped_sum before.called task.called;
  received = capped_sum before.received task.received;
  sent = capped_sum before.sent task.sent;
}

-- with one more task: one of an older epoch counts for nothing, and one of a newer epoch begins again
abbrev pub with_task : Option Tallied → Tallied → Tallied
with_task None task = task
with_task (Some before) task =
    if nat_lt before.epoch task.epoch then task
    else if nat_lt task.epoch before.epoch then before
    else together before task

-- what was counted, if all tasks were done
abbrev pub whole : (parts : ℕ) → Option Tallied → Option Tallied
whole parts None = None
whole parts (Some row) = if row.tasks == parts then Some row else None

-- messages that were sent in a superstep and not received in the next
abbrev pub dropped_of : Option Tallied → Option Tallied → Option ℕ
dropped_of (Some row) (Some next) = Some (row.sent - next.received)
dropped_of _ _ = None

-- what was counted of the superstep of this number
abbrev pub row_in : List (Option Tallied) → ℕ → Option Tallied
row_in rows superstep = slice_index_or rows superstep None

-- nothing was counted yet
pub record IsNoTally (parts : ℕ) (tally : Tally) : Type 0 where
  pub parts_of : tally.parts ≡ parts
  pub nothing : (superstep : ℕ) → row_in tally.rows.items superstep ≡ None

-- one more task of this superstep was counted, and nothing else has changed
pub record Counts (superstep : ℕ) (task : Tallied) (old new : Tally) : Type 0 where
  pub parts : new.parts ≡ old.parts
  pub counted : row_in new.rows.items superstep ≡ Some (with_task (row_in old.rows.items superstep) task)
  pub others : (other : ℕ) → other ≢ superstep → row_in new.rows.items other ≡ row_in old.rows.items other

-- ---- what is reported of it

-- what was counted of the superstep of this number, if all its tasks were done
abbrev pub whole_in : Tally → ℕ → Option Tallied
whole_in tally superstep = whole tally.parts (row_in tally.rows.items superstep)

-- the epoch in which the superstep before this one was run; 0 before the first
abbrev pub epoch_before : Tally → ℕ → ℕ
epoch_before tally zero = 0
epoch_before tally (suc superstep) = unwrap_or (option_map (λ row. row.epoch) (whole_in tally superstep)) 0

-- this superstep was not run to its end behind the one before: of its tasks some are missing, or all are of an older epoch
abbrev pub StopsAt : Tally → ℕ → Type 0
StopsAt tally superstep = IfSome (whole_in tally superstep) (λ row. row.epoch < epoch_before tally superstep)

-- the counts of a superstep, whose units are these where they are known already
abbrev pub counts_at : Tally → ℕ → Option ℕ → SuperstepCounts
counts_at tally superstep units = record {
  superstep = superstep;
  units = option_or units (option_map (λ row. row.units) (whole_in tally superstep));
  called = option_map (λ row. row.called) (whole_in tally superstep);
  sent = option_map (λ row. row.sent) (whole_in tally superstep);
  dropped = dropped_of (whole_in tally superstep) (whole_in tally (min (superstep + 1) (2 ^ 32 - 1)));
}

-- the counts of the first supersteps, of which no units are known already
abbrev pub counts_until : Tally → ℕ → List SuperstepCounts
counts_until tally count = map (λ superstep. counts_at tally superstep None) (range_with_len 0 count)

-- ---- of a job with an answer

-- a total, which stops at the greatest number of 64 bits
abbrev pub capped : ℕ → ℕ
capped total = min total (2 ^ 64 - 1)

-- the units of a superstep, where the answer has them
abbrev pub units_known : Ended → ℕ → Option ℕ
units_known ended superstep = option_map capped (slice_get ended.units.now (superstep - ended.since))

-- the counts of each superstep whose units the answer has
abbrev pub counts_since : Tally → Ended → (count : ℕ) → List SuperstepCounts
counts_since tally ended count =
    map (λ superstep. counts_at tally superstep (units_known ended superstep)) (range_with_len ended.since count)

-- what is left of a number, where both are known and the other is not greater
abbrev pub less : Option ℕ → Option ℕ → Option ℕ
less (Some rest) (Some dropped) = if nat_le dropped rest then Some (rest - dropped) else None
less _ _ = None

-- what is left of this many messages that went to no vertex, for the superstep behind these
abbrev pub rest_behind : List SuperstepCounts → (dropped : Option ℕ) → Option ℕ
rest_behind others dropped = fold (λ rest (counts : SuperstepCounts). less rest counts.dropped) dropped others

abbrev pub with_dropped : SuperstepCounts → (dropped : Option ℕ) → SuperstepCounts
with_dropped counts dropped = record {
  superstep = counts.superstep;
  units = counts.units;
  called = counts.called;
  sent = counts.sent;
  dropped = dropped;
}

-- the counts of a superstep and of those behind it, the last of which has what is left
abbrev pub closed_from : SuperstepCounts → List SuperstepCounts → (dropped : Option ℕ) → List SuperstepCounts
closed_from counts [] dropped = with_dropped counts dropped ∷ []
closed_from counts (next ∷ others) dropped = counts ∷ closed_from next others (less dropped counts.dropped)

-- the counts of all supersteps, of which this many messages went to no vertex
abbrev pub closed : List SuperstepCounts → (dropped : Option ℕ) → List SuperstepCounts
closed [] dropped = []
closed (counts ∷ others) dropped = closed_from counts others dropped

-- The counts of each superstep of a job that ended so. Which messages of the last one went to no vertex is known where the
-- answer has the units from superstep 0 on.
abbrev pub counts_of_end : Tally → Ended → List SuperstepCounts
counts_of_end tally ended =
    if ended.since == 0
    then closed (counts_since tally ended (ended.superstep - ended.since)) (Some (capped ended.dropped))
    else counts_since tally ended (ended.superstep - ended.since)
