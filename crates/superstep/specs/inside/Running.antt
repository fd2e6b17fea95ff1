-- Tasks, run one after another.
use Rattle.job_state.specs.Stamps.{DoneStamp}
use Rattle.superstep.specs.Tasks.{SliceStamp}

-- the slice of this result
abbrev pub slice_of : DoneStamp → SliceStamp
slice_of done = record { epoch = done.epoch; superstep = done.superstep; part = done.part }
