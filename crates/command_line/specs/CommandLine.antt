-- The request in the words of a command line.
use Rattle.std.specs.Prelude.{◌≡◌, ◌⊎◌, ◌<◌, ◌^◌, ℕ, Bool, true, false, List, [], ◌∷◌, ◌++◌, Option, None, Some, map, codes, option_map, option_and_then, find, if◌then◌else◌, slice_index, ◌==◌, IsSomeAnd}
use Rattle.std.specs.List.{list_any}
use Rattle.std.specs.Option.{option_map_or}
use Rattle.std.specs.Str.{bytes_eq}
use Rattle.std.specs.Str.Parse.{IsNumeral, digits_value, without_leading_plus}
use Rattle.std.specs.Borrow.{Bor}
use Rattle.clap.specs.Words.{HasKind, Row, Text, fault_of, first_of, kind_of, one_of, subcommand_of}
use Rattle.clap.specs.declared.error.Error.{Error}
use Rattle.clap.specs.declared.error.kind.ErrorKind.TheVariants.{MissingSubcommand, ValueValidation}
use Rattle.clap.specs.declared.parser.matches.ValueSource.{ValueSource}
use Rattle.clap.specs.declared.parser.matches.ValueSource.TheVariants.{CommandLine}
use Rattle.job_state.specs.declared.settings.Settings.{Settings}
use Rattle.command_line.specs.Commands.{pregel, settings}
use Rattle.requests.specs.declared.request.Cores.{Cores}
use Rattle.requests.specs.declared.request.ImportRequest.{ImportRequest}
use Rattle.requests.specs.declared.request.JobRequest.{JobRequest}
use Rattle.requests.specs.declared.request.ModuleRequest.{ModuleRequest}
use Rattle.requests.specs.declared.request.Options.{Options}
use Rattle.requests.specs.declared.request.Options.TheVariants as options
use Rattle.requests.specs.declared.request.Progress.{Progress}
use Rattle.requests.specs.declared.request.Progress.TheVariants.{Always, Never, OnTerminal}
use Rattle.requests.specs.declared.request.Request.{Request}
use Rattle.requests.specs.declared.request.Request.TheVariants as request
use Rattle.requests.specs.declared.request.RunRequest.{RunRequest}

-- ---- the request in a command and the entries of its arguments

-- the argument's entry has this text
abbrev pub Gives : List Row → (name : Text) → Bor Text → Type 0
Gives rows name text = first_of name rows ≡ Some text.now

-- the argument's entry has this text, or there is no entry and no text
abbrev pub MayGive : List Row → (name : Text) → Option (Bor Text) → Type 0
MayGive rows name text = first_of name rows ≡ option_map (λ t. t.now) text

-- the flag is given
abbrev pub is_set : List Row → (name : Text) → Bool
is_set rows name = option_map_or (bytes_eq (codes "true")) (one_of name rows) false

-- the entry is from the words, and is no default
abbrev pub is_from_words : Option ValueSource → Bool
is_from_words (Some CommandLine) = true
is_from_words source = false

-- the words give the argument
abbrev pub is_given : List Row → (name : Text) → Bool
is_given rows name = is_from_words (option_and_then (λ row. row.source) (find (λ row. bytes_eq row.id name) rows))

-- the argument's entry is this number, in decimal digits and below 2^32
abbrev pub GivesNumber : List Row → (name : Text) → ℕ → Type 0
GivesNumber rows name n =
    let digits : Text → Text = without_leading_plus in
    IsSomeAnd (one_of name rows) (λ text. IsNumeral 10 (digits text) × (n ≡ digits_value 10 (digits text)) × (n < 2 ^ 32))

-- the same, or there is no entry and no number
abbrev pub MayGiveNumber : List Row → (name : Text) → Option ℕ → Type 0
MayGiveNumber rows name None = first_of name rows ≡ None
MayGiveNumber rows name (Some n) = GivesNumber rows name n

-- the entries of the settings are these numbers
pub record GivesSettings (rows : List Row) (given : Settings) : Type 0 where
  pub parts : GivesNumber rows (codes "parts") given.parts
  pub workers : GivesNumber rows (codes "workers") given.workers
  pub every : GivesNumber rows (codes "every") given.every
  pub limit : GivesNumber rows (codes "limit") given.limit
  pub lease : GivesNumber rows (codes "lease") given.lease

-- the entries have this module
pub record AsksModule (rows : List Row) (asked : ModuleRequest) : Type 0 where
  pub path : Gives rows (codes "module") asked.path
  pub max_size : MayGiveNumber rows (codes "max-size") asked.max_size

-- the entries have this job
pub record AsksJob (rows : List Row) (job : JobRequest) : Type 0 where
  pub module_file : AsksModule rows job.«module»
  pub graph_path : Gives rows (codes "graph") job.graph
  pub settings : GivesSettings rows job.settings
  pub units : job.tells_units ≡ is_set rows (codes "units")

-- the entries say how many of the machine's processors the job uses
pub record AsksCores (rows : List Row) (asked : Cores) : Type 0 where
  pub all : asked.all ≡ is_set rows (codes "all-cores")
  pub workers : asked.workers_given ≡ is_given rows (codes "workers")
  pub parts : asked.parts_given ≡ is_given rows (codes "parts")

-- when to show progress, by the entries
abbrev pub progress_in : List Row → Progress
progress_in rows =
    if is_set rows (codes "quiet") then Never
    else if is_set rows (codes "progress") then Always
    else OnTerminal

-- the entries have this run
pub record AsksRun (rows : List Row) (asked : RunRequest) : Type 0 where
  pub job : AsksJob rows asked.job
  pub cores : AsksCores rows asked.cores
  pub keep : MayGive rows (codes "keep") asked.keep
  pub resume : asked.resume ≡ is_set rows (codes "resume")
  pub lose : MayGive rows (codes "lose") asked.lose
  pub again : asked.again ≡ is_set rows (codes "again")
  pub progress : asked.progress ≡ progress_in rows
  pub report : MayGive rows (codes "report") asked.report
  pub plot : MayGive rows (codes "plot") asked.plot

-- the entries have this import
pub record AsksImport (rows : List Row) (asked : ImportRequest) : Type 0 where
  pub edges_path : Gives rows (codes "edges") asked.edges
  pub graph_path : Gives rows (codes "binary") asked.graph
  pub undirected : asked.undirected ≡ is_set rows (codes "undirected")
  pub value : MayGive rows (codes "value") asked.value
  pub source : MayGive rows (codes "source") asked.source
  pub weight : MayGive rows (codes "weight") asked.weight
  pub share : asked.share ≡ is_set rows (codes "share")
  pub names : MayGive rows (codes "names") asked.names

-- the command of this name, other than `console`, has this request
abbrev pub AsksFor : (name : Text) → List Row → Request → Type 0
AsksFor name rows (request.Call m input) = (name ≡ codes "call") × AsksModule rows m × Gives rows (codes "input") input
AsksFor name rows (request.Run asked) = (name ≡ codes "run") × AsksRun rows asked
AsksFor name rows (request.Replay asked steps) = (name ≡ codes "replay") × AsksJob rows asked × Gives rows (codes "steps") steps
AsksFor name rows (request.Upgrade checkpoint newer) =
    (name ≡ codes "upgrade") × Gives rows (codes "checkpoint") checkpoint × Gives rows (codes "binary") newer
AsksFor name rows (request.Assemble m binary) = (name ≡ codes "asm") × Gives rows (codes "module") m × Gives rows (codes "binary") binary
AsksFor name rows (request.Fit m binary) = (name ≡ codes "fit") × Gives rows (codes "module") m × Gives rows (codes "binary") binary
AsksFor name rows (request.Print m) = (name ≡ codes "print") × Gives rows (codes "module") m
AsksFor name rows (request.Verify m) = (name ≡ codes "verify") × AsksModule rows m
AsksFor name rows (request.Import asked) = (name ≡ codes "graph") × AsksImport rows asked

-- the command of this name has this request
abbrev pub Asks : (name : Text) → List Row → Options → Type 0
Asks name rows options.Session = name ≡ codes "console"
Asks name rows (options.Command request explains) = AsksFor name rows request × (explains ≡ is_set rows (codes "explain"))

-- the command that clap finds, with its entries, has this request
abbrev pub AskedIn : (met : Option (Text × List Row)) → Options → Type 0
AskedIn met given = IsSomeAnd met (λ command. Asks command.0 command.1 given)

-- the words of a command line have this request; the first word is the program's name
abbrev pub AskedBy : (words : List Text) → Options → Type 0
AskedBy words = AskedIn (subcommand_of pregel words)

-- ---- a `+`, which `clap` accepts before a number

-- the options with a number, which `clap` reads
abbrev pub numbers : List Text
numbers = map (λ s. s.0) settings ++ codes "max-size" ∷ []

-- 43 is `+`
abbrev pub begins_with_plus : Text → Bool
begins_with_plus text = slice_index text 0 == 43

-- the number's entry is written with a `+`
abbrev pub is_signed : List Row → (name : Text) → Bool
is_signed rows name = option_map_or begins_with_plus (first_of name rows) false

-- a number of the command that clap finds is
abbrev pub has_plus_in : (met : Option (Text × List Row)) → Bool
has_plus_in met = option_map_or (λ command. list_any (is_signed command.1) numbers) met false

-- a number among the words has a `+`
abbrev pub has_plus : (words : List Text) → Bool
has_plus words = has_plus_in (subcommand_of pregel words)

-- ---- refusals

-- the words have no request
abbrev pub AsksNothing : (words : List Text) → Type 0
AsksNothing words = (given : Options) → AskedBy words given → ⊥

-- memory ran out, or `clap` finds a fault in the words; or it finds none, and a number has a `+` or the words have no
-- request
abbrev pub IsRefusal : (words : List Text) → Error → Type 0
IsRefusal words e = HasKind (fault_of pregel words) e
    ⊎ ((fault_of pregel words ≡ [])
    × (((has_plus words ≡ true) × (kind_of e ≡ ValueValidation))
    ⊎ (AsksNothing words × (kind_of e ≡ MissingSubcommand))))
