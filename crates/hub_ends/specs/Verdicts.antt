-- What a worker is told of its losses.
use Rattle.std.specs.Prelude.{◌≡◌, ℕ, Bool, false, List, [], map, slice_index_or}
use Rattle.hub_ends.specs.Channel.{Channel}
use Rattle.hub_ends.specs.ChannelEnds.{channel_of, received_by, sent_by, source_of}
use Rattle.hub_ends.specs.declared.verdict.Verdict.{Verdict}
use Rattle.hub_ends.specs.declared.verdict.VerdictReader.{VerdictReader}
use Rattle.hub_ends.specs.declared.verdict.VerdictSender.{VerdictSender}

-- the one sender of a worker's verdicts
abbrev pub from_coordinator : Verdict → ℕ
from_coordinator verdict = 0

abbrev pub never_closes : Verdict → Bool
never_closes verdict = false

abbrev pub was_counted : Verdict → Bool
was_counted verdict = verdict.counted

-- whether each loss was counted, as the worker was told, in order
abbrev pub told_on : VerdictSender → List Bool
told_on sender = map was_counted (sent_by sender.verdicts)

-- the same, as the worker heard it
abbrev pub heard_on : VerdictReader → List Bool
heard_on reader = map was_counted (received_by reader.verdicts)

abbrev pub sends_on : VerdictSender → Channel Verdict
sends_on sender = channel_of sender.verdicts

abbrev pub reads_on : VerdictReader → Channel Verdict
reads_on reader = source_of reader.verdicts

-- what worker w was told
abbrev pub told_to : List (List Bool) → ℕ → List Bool
told_to told w = slice_index_or told w []

-- nobody was told anything
abbrev pub AreUntold : List (List Bool) → Type 0
AreUntold told = (w : ℕ) → told_to told w ≡ []
