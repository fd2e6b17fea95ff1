use Rattle.std.proofs.Common.{◌≡◌, ◌∙◌, codes, false, subst, sym, true}
use Rattle.std.specs.Str.{bytes_eq}
use Rattle.std.proofs.lemmas.Slice.Eq.{bytes_eq-Decides}
use Rattle.command_line.specs.CommandLine.{AskedIn}
use Rattle.requests.specs.declared.request.Options.TheVariants.{Command, Session}
use Rattle.command_line.specs.inside.Matches.{rows_in}
use Rattle.command_line.proofs.Entries.{met, missed, none_is, nothing_asked}
use Rattle.command_line.proofs.command_line.chosen.Goals as goal

pub returns-in_err-name : goal.returns-in_err-name
returns-in_err-name c = none_is _ _ c.from_residual.ensures (λ given asks.
    subst (λ found. AskedIn found given) (missed c.args.matches.now c.subcommand.result c.subcommand.ensures.name c.in_err-name.was) asks)

pub returns-then-eq : goal.returns-then-eq
returns-then-eq c =
    let entered = met c.args.matches.now c.subcommand.result c.in_ok-name.name c.in_ok-name.entries c.subcommand.ensures.name
    c.subcommand.ensures.rows c.in_ok-name.was in
    subst (λ found. AskedIn found Session) (sym entered)
    ((bytes_eq-Decides c.in_ok-name.name.now (codes "console")).0 (sym c.eq.ensures ∙ c.if-eq.true))

pub returns-in_err-request : goal.returns-in_err-request
returns-in_err-request c =
    let entered = met c.args.matches.now c.subcommand.result c.in_ok-name.name c.in_ok-name.entries c.subcommand.ensures.name
    c.subcommand.ensures.rows c.in_ok-name.was in
    let other : c.in_ok-name.name.now ≡ codes "console" → ⊥ = λ is.
    let no : true ≡ false = subst (λ name. bytes_eq name (codes "console") ≡ false) is (sym c.eq.ensures ∙ c.if-eq.false) in
    cc in
    none_is _ _ c.from_residual-in_err-request.ensures (λ given asks.
    nothing_asked c.in_ok-name.name.now (rows_in c.in_ok-name.entries.now) other c.in_err-request.ensures given
    (subst (λ found. AskedIn found given) entered asks))

pub returns : goal.returns
returns c =
    let entered = met c.args.matches.now c.subcommand.result c.in_ok-name.name c.in_ok-name.entries c.subcommand.ensures.name
    c.subcommand.ensures.rows c.in_ok-name.was in
    subst (λ found. AskedIn found (Command c.in_ok-request.request c.is_set.result)) (sym entered) (c.in_ok-request.ensures, c.is_set.ensures)
