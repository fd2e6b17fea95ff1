-- What `clap` makes of the program's command line.
use Rattle.std.proofs.Common.{◌≡◌, ◌∙◌, ◌∷◌, [], List, Option, Result, Ok, Err, ap, inl, inr, refl, subst, sym, true}
use Rattle.std.specs.Prelude.{IfErr, IsErrAnd, MatchResult}
use Rattle.clap.specs.Words.{App, HasKind, HasMatchesOf, Row, Text, fault_of, is_simple, is_simple_and_free, kind_of, subcommand_of, subcommand_rows_of}
use Rattle.clap.specs.declared.error.Error.{Error}
use Rattle.clap.specs.declared.error.kind.ErrorKind.TheVariants.{MissingSubcommand, OutOfMemory, ValueValidation}
use Rattle.clap.specs.declared.parser.matches.ArgMatches.{ArgMatches}
use Rattle.clap.proofs.OnLiterals.{clap_on_literals}
use Rattle.command_line.specs.CommandLine.{AskedIn, IsRefusal, has_plus_in}
use Rattle.command_line.specs.Commands.{pregel}
use Rattle.requests.specs.declared.request.Options.{Options}
use Rattle.command_line.specs.inside.Matches.{IsRefusedIn}

pub simple : is_simple pregel ≡ true
unfolding clap_on_literals
simple = refl

pub simple_and_free : is_simple_and_free pregel ≡ true
unfolding clap_on_literals
simple_and_free = refl

-- the subcommand that a parse of the program's words met
pub entered : (app : App) (words : List Text) (matches : ArgMatches) → app ≡ pregel → HasMatchesOf app words matches
    → subcommand_rows_of matches ≡ subcommand_of pregel words
entered app words matches is has = (has (ap is_simple is ∙ simple)).1 ∙ ap (λ (a : App). subcommand_of a words) is

-- the words that were taken have no fault
pub faultless : (app : App) (words : List Text) → app ≡ pregel → (is_simple_and_free app ≡ true → fault_of app words ≡ []) → fault_of pregel words ≡ []
faultless app words is free = sym (ap (λ (a : App). fault_of a words) is) ∙ free (ap is_simple_and_free is ∙ simple_and_free)

pub faulty : (app : App) (words : List Text) (e : Error) → app ≡ pregel → (is_simple_and_free app ≡ true → HasKind (fault_of app words) e)
    → IsRefusal words e
faulty app words e is fails = inl (subst (λ (a : App). HasKind (fault_of a words) e) is (fails (ap is_simple_and_free is ∙ simple_and_free)))

pub passed_on : {T : Type 0} (r : Result T Error) (e : Error) (P : T → Type 0) (Q : Error → Type 0) → IsErrAnd r (λ y. y ≡ e) → Q e → MatchResult r P Q
passed_on (Ok x) e P Q same q = absurd same
passed_on (Err y) e P Q same q = subst Q (sym same) q

pub no_memory : {T : Type 0} (r : Result T Error) (words : List Text) (P : T → Type 0) → IsErrAnd r (λ y. kind_of y ≡ OutOfMemory)
    → MatchResult r P (IsRefusal words)
no_memory (Ok x) words P full = absurd full
no_memory (Err y) words P full = inl (inl full)

pub signed : {T : Type 0} (r : Result T Error) (met : Option (Text × List Row)) → has_plus_in met ≡ true
    → IsErrAnd r (HasKind (ValueValidation ∷ [])) → IfErr r (IsRefusedIn met)
signed (Ok x) met plus kind = absurd kind
signed (Err y) met plus (inl full) = inl full
signed (Err y) met plus (inr (inl same)) = inr (inl (plus, same))
signed (Err y) met plus (inr (inr other)) = absurd other

pub nothing_asked : {T : Type 0} (r : Result T Error) (met : Option (Text × List Row)) → ((given : Options) → AskedIn met given → ⊥)
    → IsErrAnd r (HasKind (MissingSubcommand ∷ [])) → IfErr r (IsRefusedIn met)
nothing_asked (Ok x) met none kind = absurd kind
nothing_asked (Err y) met none (inl full) = inl full
nothing_asked (Err y) met none (inr (inl missing)) = inr (inr (none, missing))
nothing_asked (Err y) met none (inr (inr other)) = absurd other

-- what is refused of words in which `clap` finds no fault
pub refused_of : {T : Type 0} (r : Result T Error) (words : List Text) → fault_of pregel words ≡ []
    → IfErr r (IsRefusedIn (subcommand_of pregel words)) → MatchResult r (λ _. fault_of pregel words ≡ []) (IsRefusal words)
refused_of (Ok x) words free refused = free
refused_of (Err y) words free (inl full) = inl (inl full)
refused_of (Err y) words free (inr (inl sign)) = inr (free, inl sign)
refused_of (Err y) words free (inr (inr none)) = inr (free, inr none)
