-- The models of the code's tables in `clap`.
use Rattle.std.specs.Prelude.{◌≡◌, List, [], ◌∷◌, ◌++◌, false, map}
use Rattle.clap.specs.Words.{App, Rule, Shape, Text, app_of, rule_of, with_subcommand}
use Rattle.clap.specs.declared.builder.arg.Arg.{Arg}
use Rattle.clap.specs.declared.builder.command.Command.{Command}
use Rattle.clap.specs.declared.builder.command.Command.TheViews.{out-Command}
use Rattle.command_line.specs.Commands.{asm, bound, call, command, console, fit, flag, graph, option, positional, print, replay, run, setting, upgrade, verify}
use Rattle.command_line.specs.declared.commands.Argument.{Argument}
use Rattle.command_line.specs.declared.commands.Kind.{Kind}
use Rattle.command_line.specs.declared.commands.Kind.TheVariants as kind
use Rattle.command_line.specs.declared.commands.Usage.{Usage}

-- the argument follows this rule, and holds in its own command only
abbrev pub IsArg : Rule → Arg → Type 0
IsArg rule arg = (rule_of arg ≡ rule) × (arg.global ≡ false)

-- the app with these rules added
abbrev pub with_rules : App → List Rule → App
with_rules app rules = record app { top = record app.top { rules = app.top.rules ++ rules } }

-- the second command is the first with these rules added
abbrev pub AddsRules : Command → List Rule → Command → Type 0
AddsRules old rules new =
    (app_of new ≡ with_rules (app_of old) rules) × ((out-Command new).has_globals ≡ (out-Command old).has_globals)

-- the app with these subcommands added
abbrev pub with_shapes : App → List Shape → App
with_shapes app [] = app
with_shapes app (shape ∷ shapes) = with_shapes (with_subcommand app shape) shapes

-- the second command is the first with these subcommands added
abbrev pub AddsCommands : Command → List Shape → Command → Type 0
AddsCommands old shapes new =
    (app_of new ≡ with_shapes (app_of old) shapes) × ((out-Command new).has_globals ≡ (out-Command old).has_globals)

-- the rule of an argument of this name and kind
abbrev pub kind_rule : (name : Text) → Kind → Rule
kind_rule name (kind.Positional value_name) = positional name
kind_rule name (kind.Option value_name) = option name
kind_rule name (kind.Number value_name) = bound name
kind_rule name kind.Flag = flag name
kind_rule name (kind.Setting otherwise) = setting (name, otherwise.now)

-- the rule of an argument in the table
abbrev pub rule_in : Argument → Rule
rule_in argument = kind_rule argument.name.now argument.kind

-- the model of a command in the table
abbrev pub shape_in : Usage → Shape
shape_in usage = command usage.name.now (map rule_in usage.arguments.now)

-- the models of all commands in the table
abbrev pub leaves : List Shape
leaves = call ∷ run ∷ replay ∷ upgrade ∷ asm ∷ fit ∷ print ∷ verify ∷ graph ∷ console ∷ []
