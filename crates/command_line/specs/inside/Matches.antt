-- What the code finds in `clap`'s matches.
use Rattle.std.specs.Prelude.{◌≡◌, ◌⊎◌, List, Option, None, Some, true}
use Rattle.clap.specs.Words.{Row, Text, found_of, kind_of, rows_of}
use Rattle.clap.specs.declared.error.Error.{Error}
use Rattle.clap.specs.declared.error.kind.ErrorKind.TheVariants.{MissingSubcommand, OutOfMemory, ValueValidation}
use Rattle.clap.specs.declared.parser.matches.ArgMatches.{ArgMatches}
use Rattle.command_line.specs.CommandLine.{AskedIn, has_plus_in}
use Rattle.requests.specs.declared.request.Options.{Options}

-- the entries of a command's own arguments
abbrev pub rows_in : ArgMatches → List Row
rows_in matches = rows_of (found_of matches)

-- memory ran out, or a number of the command has a `+`, or there is no request in the command's entries
abbrev pub IsRefusedIn : (met : Option (Text × List Row)) → Error → Type 0
IsRefusedIn met e = (kind_of e ≡ OutOfMemory)
    ⊎ (((has_plus_in met ≡ true) × (kind_of e ≡ ValueValidation))
    ⊎ (((given : Options) → AskedIn met given → ⊥) × (kind_of e ≡ MissingSubcommand)))

-- the value has this property; if there is none, no value has it
abbrev pub Finds : {T : Type 0} → (T → Type 0) → Option T → Type 0
Finds {T} P None = (x : T) → P x → ⊥
Finds P (Some x) = P x
