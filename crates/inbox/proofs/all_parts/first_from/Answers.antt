use Rattle.std.proofs.Common.{pos, rules}
use Rattle.std.proofs.lemmas.List.Sorted.{IsPartitionPoint-from_clause}
use Rattle.std.specs.Prelude.{int_lt}
use Rattle.inbox.proofs.all_parts.first_from.Goals as goal

pub returns-clause-found : goal.returns-clause-found
returns-clause-found c = λ part.
    IsPartitionPoint-from_clause (λ letter. int_lt letter.to (pos c.args.id)) c.args.letters.now c.partition_point.result c.partition_point.ensures.partitioned part (λ a r q k. search rules)
