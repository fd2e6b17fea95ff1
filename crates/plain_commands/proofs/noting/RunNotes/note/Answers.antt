use Rattle.std.proofs.Common.{inl, inr, refl}
use Rattle.plain_commands.proofs.noting.RunNotes.note.Goals as goal

pub returns-in-Err-clause-only : goal.returns-in-Err-clause-only
returns-in-Err-clause-only g c = inr (c.args.answer.now, inl refl)
