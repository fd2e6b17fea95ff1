use Rattle.std.proofs.Common.{inl}
use Rattle.conformance_jobs.proofs.sessions.lent_files.LentFilesFiles.write.Goals as goal

-- of files of which nothing is known, a write that fails may leave anything
pub returns-clause-tried : goal.returns-clause-tried
returns-clause-tried c = λ writes before. inl tt
