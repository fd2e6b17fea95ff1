-- A request on a machine writes a file, a report or a chart where the request does, and a command on it is carried out.
use Rattle.std.proofs.Common.{◌≡◌, ◌∙◌, ℕ, Bool, true, false, ◌||◌, List, Option, Result, IfErr, ap, refl, subst, sym, true≢false}
use Rattle.requests.specs.declared.request.Options.{Options}
use Rattle.requests.specs.declared.request.Options.TheVariants as options
use Rattle.requests.specs.declared.request.Request.{Request}
use Rattle.requests.specs.declared.request.Request.TheVariants as request
use Rattle.requests.specs.Machine.{options_on, request_on}
use Rattle.sources.specs.Disk.{Disk, Stays}
use Rattle.pregel.specs.FileCommands.{writes_file}
use Rattle.plain_commands.specs.Sheets.{asks_sheets}
use Rattle.session.specs.declared.serving.ServeFault.{ServeFault}
use Rattle.session.specs.declared.serving.ServeFault.TheVariants as fault
use Rattle.pregel.specs.Program.{CommandTold, Does, IsCommandTold, may_write}

writes_on : (processors : ℕ) (asked : Request) → writes_file (request_on processors asked) ≡ writes_file asked
writes_on processors (request.Call m input) = refl
writes_on processors (request.Run asked) = refl
writes_on processors (request.Replay asked steps) = refl
writes_on processors (request.Upgrade path newer) = refl
writes_on processors (request.Assemble m binary) = refl
writes_on processors (request.Fit m binary) = refl
writes_on processors (request.Print m) = refl
writes_on processors (request.Verify m) = refl
writes_on processors (request.Import asked) = refl

asks_on : (processors : ℕ) (asked : Request) → asks_sheets (request_on processors asked) ≡ asks_sheets asked
asks_on processors (request.Call m input) = refl
asks_on processors (request.Run asked) = refl
asks_on processors (request.Replay asked steps) = refl
asks_on processors (request.Upgrade path newer) = refl
asks_on processors (request.Assemble m binary) = refl
asks_on processors (request.Fit m binary) = refl
asks_on processors (request.Print m) = refl
asks_on processors (request.Verify m) = refl
asks_on processors (request.Import asked) = refl

neither : (a b : Bool) → (a || b) ≡ false → (a ≡ false) × (b ≡ false)
neither true b is = absurd (true≢false is)
neither false b is = (refl, is)

-- where the request may write nothing, it may write nothing on the machine
unwritten_on : (processors : ℕ) (asked : Request) → (writes_file asked || asks_sheets asked) ≡ false
    → (writes_file (request_on processors asked) ≡ false) × (asks_sheets (request_on processors asked) ≡ false)
unwritten_on processors asked is =
    let both = neither (writes_file asked) (asks_sheets asked) is in
    (writes_on processors asked ∙ both.0, asks_on processors asked ∙ both.1)

-- a command that may write nothing leaves the files as they were
pub stays_on : (processors : ℕ) (given : Options) (request asked : Request) (explains : Bool) (before after : Disk)
    → given ≡ options.Command request explains → asked ≡ request_on processors request
    → (writes_file asked ≡ false → asks_sheets asked ≡ false → Stays before after) → may_write given ≡ false → Stays before after
stays_on processors given request asked explains before after is on kept unwritten =
    let both = unwritten_on processors request (subst (λ (o : Options). may_write o ≡ false) is unwritten) in
    kept (ap writes_file on ∙ both.0) (ap asks_sheets on ∙ both.1)

-- the command that was carried out is what the options ask for
pub does_on : (processors : ℕ) (given : Options) (request asked : Request) (explains : Bool) (before after : Disk)
    (unread left old new : Option (List ℕ)) (result : Result ℕ ServeFault)
    → given ≡ options.Command request explains → asked ≡ request_on processors request
    → ((status : ℕ) × (told : List ℕ) × CommandTold before after asked status told × IsCommandTold asked old new status told result)
    → IfErr result (λ failed. failed ≡ fault.Write) → Does (options_on processors given) before after unread left old new result
does_on processors given request asked explains before after unread left old new result is on told failed =
    let there = subst (λ (r : Request). (status : ℕ) × (told : List ℕ) × CommandTold before after r status told × IsCommandTold r old new status told result) on told in
    subst (λ (o : Options). Does (options_on processors o) before after unread left old new result) (sym is) (there, failed)
