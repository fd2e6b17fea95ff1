use Rattle.leb.specs.inside.Reading.{signed_at}
use Rattle.leb.specs.Spelling.{IsSigned}
use Rattle.leb.proofs.Places.{one_reading}
use Rattle.leb.proofs.Signed.{signed_again}
use Rattle.leb.proofs.laws.no_signed_begins_another.Goals as goal

pub returns : goal.returns
returns c = λ bits. one_reading (IsSigned bits) (signed_at bits) (signed_again bits)
