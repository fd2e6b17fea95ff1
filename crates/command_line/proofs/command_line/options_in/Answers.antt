use Rattle.std.proofs.Common.{◌∙◌, sym}
use Rattle.clap.specs.Words.{subcommand_rows_of}
use Rattle.command_line.proofs.Pregel.{nothing_asked, signed}
use Rattle.command_line.proofs.command_line.options_in.Goals as goal

pub returns-then-has_plus-clause-refused : goal.returns-then-has_plus-clause-refused
returns-then-has_plus-clause-refused c =
    signed c.refusal.result (subcommand_rows_of c.args.matches.now) (sym c.has_plus.ensures ∙ c.if-has_plus.true) c.refusal.ensures

pub returns-in-None-clause-refused : goal.returns-in-None-clause-refused
returns-in-None-clause-refused c =
    nothing_asked c.refusal-in-None.result (subcommand_rows_of c.args.matches.now) c.in-None.ensures c.refusal-in-None.ensures
