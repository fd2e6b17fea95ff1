use Rattle.std.proofs.Common.{◌∙◌, Some, ap, sym}
use Rattle.clap.specs.Words.{found_of}
use Rattle.command_line.specs.CommandLine.{is_from_words}
use Rattle.command_line.proofs.Entries.{source_read}
use Rattle.command_line.proofs.command_line.is_given.Goals as goal

pub returns-in-Some-CommandLine : goal.returns-in-Some-CommandLine
returns-in-Some-CommandLine c =
    ap is_from_words
    (ap Some (sym c.in-Some-CommandLine.field-0-is) ∙ sym c.in-Some-CommandLine.is ∙ c.value_source.ensures
    ∙ source_read (found_of c.args.entries.now) c.args.name.now)

pub returns-in-Some-DefaultValue : goal.returns-in-Some-DefaultValue
returns-in-Some-DefaultValue c =
    ap is_from_words
    (ap Some (sym c.in-Some-DefaultValue.field-0-is) ∙ sym c.in-Some-DefaultValue.is ∙ c.value_source.ensures
    ∙ source_read (found_of c.args.entries.now) c.args.name.now)

pub returns-in-None : goal.returns-in-None
returns-in-None c =
    ap is_from_words (sym c.in-None.is ∙ c.value_source.ensures ∙ source_read (found_of c.args.entries.now) c.args.name.now)
