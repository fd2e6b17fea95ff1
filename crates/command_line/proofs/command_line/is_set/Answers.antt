use Rattle.std.proofs.Common.{◌∙◌}
use Rattle.clap.specs.Words.{found_of}
use Rattle.command_line.proofs.Entries.{flag_read}
use Rattle.command_line.proofs.command_line.is_set.Goals as goal

pub returns : goal.returns
returns c =
    c.unwrap_or.ensures
    ∙ flag_read _ (found_of c.args.entries.now) c.args.name.now c.get_one.result c.get_one.ensures.none c.get_one.ensures.value
