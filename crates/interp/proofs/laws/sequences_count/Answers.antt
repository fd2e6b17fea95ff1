use Rattle.interp.proofs.SequenceCounts.{sequences_count}
use Rattle.interp.proofs.laws.sequences_count.Goals as goal

pub returns : goal.returns
returns c = sequences_count
