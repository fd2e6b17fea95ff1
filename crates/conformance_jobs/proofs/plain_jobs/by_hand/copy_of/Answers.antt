use Rattle.conformance_jobs.proofs.plain_jobs.by_hand.copy_of.Goals as goal

pub new-task-requires : goal.new-task-requires
new-task-requires g c = λ sure. let never = c.requires.honest c.epoch.result in cc (never, sure)
