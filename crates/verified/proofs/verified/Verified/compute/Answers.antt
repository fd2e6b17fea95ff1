use Rattle.std.proofs.Common.{sym}
use Rattle.verified.proofs.verified.Verified.compute.Goals as goal

pub returns : goal.returns
returns c =
    let told = c.tables.ensures.tables.facts in
    record { compute = c.tables.ensures.bounded.compute; here = sym (told c.tables.ensures.bounded.compute).number; only = λ other. sym (told other).number }
