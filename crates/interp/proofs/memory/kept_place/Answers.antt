use Rattle.std.proofs.Common.{◌∙◌, rules}
use Rattle.interp.proofs.Kept.{place_told, small}
use Rattle.interp.proofs.memory.kept_place.Goals as goal

pub returns-clause-place : goal.returns-clause-place
returns-clause-place c = c.place.ensures ∙ place_told c.args.verified.now c.args.byte c.requires

pub returns-clause-small : goal.returns-clause-small
returns-clause-small c = search (rules, small)
