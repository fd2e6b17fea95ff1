use Rattle.leb.specs.inside.Reading.{unsigned_at}
use Rattle.leb.specs.Spelling.{IsUnsigned}
use Rattle.leb.proofs.Places.{one_reading}
use Rattle.leb.proofs.Unsigned.{unsigned_again}
use Rattle.leb.proofs.laws.no_unsigned_begins_another.Goals as goal

pub returns : goal.returns
returns c = λ bits. one_reading (IsUnsigned bits) (unsigned_at bits) (unsigned_again bits)
