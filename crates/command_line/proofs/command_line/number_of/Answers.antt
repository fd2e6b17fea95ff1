use Rattle.std.specs.Str.Parse.{ExplainsUnsignedError, HasUnsignedDigitsIfOk, ParsesUnsigned}
use Rattle.clap.specs.Words.{found_of}
use Rattle.command_line.proofs.Entries.{number_read}
use Rattle.command_line.proofs.command_line.number_of.Goals as goal

pub returns : goal.returns
returns c =
    number_read (λ bs r. ParsesUnsigned 32 10 bs r × ExplainsUnsignedError 10 bs r × HasUnsignedDigitsIfOk bs r)
    (found_of c.args.entries.now) c.args.name.now c.get_one.result (λ t r g. g.0)
    c.get_one.ensures.none c.get_one.ensures.value
