use Rattle.std.proofs.Common.{inl}
use Rattle.sources.proofs.files.SystemFilesFiles.write.Goals as goal

pub returns-in-Err-clause-tried : goal.returns-in-Err-clause-tried
returns-in-Err-clause-tried g c = λ writes wrote. inl tt
