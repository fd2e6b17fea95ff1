-- The program's commands and their arguments, in `clap`'s model.
use Rattle.std.specs.Prelude.{◌≡◌, List, [], ◌∷◌, ◌++◌, Some, false, map, codes, pos, true}
use Rattle.clap.specs.Words.{App, Rule, Shape, Text, app_of, new_rule}
use Rattle.clap.specs.Simple.{new_shape}
use Rattle.clap.specs.declared.builder.action.ArgAction.TheVariants.{SetTrue}
use Rattle.clap.specs.declared.builder.command.Command.{Command}
use Rattle.clap.specs.declared.builder.command.Command.TheViews.{out-Command}
use Rattle.clap.specs.declared.builder.value_parser.ValueParser.{ValueParser}
use Rattle.clap.specs.declared.builder.value_parser.ValueParser.TheVariants.{Signed}

-- ---- the arguments, of five kinds

-- `NAME`, a required word, known by its place
abbrev pub positional : Text → Rule
positional name = record (new_rule name) { value_names = 1; required = true }

-- `--name VALUE`
abbrev pub option : Text → Rule
option name = record (new_rule name) { long = Some name; value_names = 1 }

-- `--name`
abbrev pub flag : Text → Rule
flag name = record (new_rule name) { long = Some name; action = Some SetTrue }

-- a number from 0 to 2^32 - 1
abbrev pub number : ValueParser
number = Signed (pos 0) (pos 4294967295)

-- `--name N`, a number without a default
abbrev pub bound : Text → Rule
bound name = record (option name) { parser = Some number }

-- `--name N`, a number that is `otherwise` by default
abbrev pub setting : (Text × Text) → Rule
setting (name, otherwise) = record (option name) { defaults = otherwise ∷ []; parser = Some number }

-- the flag of commands that can explain why a module is refused
abbrev pub explain : Rule
explain = flag (codes "explain")

-- the option of commands that can refuse a module for its size
abbrev pub max_size : Rule
max_size = bound (codes "max-size")

-- the settings of a job, with their defaults
abbrev pub settings : List (Text × Text)
settings = (codes "parts", codes "1")
    ∷ (codes "workers", codes "1")
    ∷ (codes "every", codes "10")
    ∷ (codes "limit", codes "1000")
    ∷ (codes "lease", codes "1000")
    ∷ []

-- ---- the commands

-- a command with these arguments and without subcommands
abbrev pub command : Text → List Rule → Shape
command name rules = record (new_shape name) { rules = rules }

-- the last arguments of each command that runs a job
abbrev pub job_rules : List Rule
job_rules = map setting settings ++ flag (codes "units") ∷ []

abbrev pub call : Shape
call = command (codes "call") (positional (codes "module") ∷ positional (codes "input") ∷ max_size ∷ explain ∷ [])

abbrev pub run : Shape
run = command (codes "run")
    (positional (codes "module") ∷ positional (codes "graph")
    ∷ option (codes "keep") ∷ flag (codes "resume") ∷ option (codes "lose") ∷ flag (codes "again")
    ∷ (job_rules ++ flag (codes "all-cores") ∷ flag (codes "progress") ∷ flag (codes "quiet")
    ∷ option (codes "report") ∷ option (codes "plot") ∷ max_size ∷ explain ∷ []))

abbrev pub replay : Shape
replay = command (codes "replay")
    (positional (codes "module") ∷ positional (codes "graph") ∷ positional (codes "steps") ∷ job_rules)

abbrev pub upgrade : Shape
upgrade = command (codes "upgrade") (positional (codes "checkpoint") ∷ positional (codes "binary") ∷ [])

abbrev pub asm : Shape
asm = command (codes "asm") (positional (codes "module") ∷ positional (codes "binary") ∷ [])

abbrev pub fit : Shape
fit = command (codes "fit") (positional (codes "module") ∷ positional (codes "binary") ∷ [])

abbrev pub print : Shape
print = command (codes "print") (positional (codes "module") ∷ [])

abbrev pub verify : Shape
verify = command (codes "verify") (positional (codes "module") ∷ max_size ∷ explain ∷ [])

abbrev pub graph : Shape
graph = command (codes "graph")
    (positional (codes "edges") ∷ positional (codes "binary") ∷ flag (codes "undirected") ∷ option (codes "value")
    ∷ option (codes "source") ∷ option (codes "weight") ∷ flag (codes "share") ∷ option (codes "names") ∷ [])

abbrev pub console : Shape
console = command (codes "console") []

-- the program has these commands and a version, requires a command, and shows its help if there are no words
abbrev pub pregel : App
pregel = record {
  top = record (new_shape (codes "pregel")) {
    is_leaf = false;
    has_version = true;
    subcommand_required = true;
    arg_required_else_help = true;
  };
  subs = call ∷ run ∷ replay ∷ upgrade ∷ asm ∷ fit ∷ print ∷ verify ∷ graph ∷ console ∷ [];
}

-- the command's model is this app, and it passes no argument on to subcommands
abbrev pub IsCommand : App → Command → Type 0
IsCommand app command = (app_of command ≡ app) × ((out-Command command).has_globals ≡ false)
