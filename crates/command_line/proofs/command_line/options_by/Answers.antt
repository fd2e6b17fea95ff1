use Rattle.std.proofs.Common.{◌≡◌, false, map, subst}
use Rattle.std.specs.Prelude.{IfErr, IfOk, OnOk}
use Rattle.command_line.specs.CommandLine.{AskedIn, has_plus_in}
use Rattle.command_line.specs.inside.Matches.{IsRefusedIn}
use Rattle.command_line.proofs.Pregel.{entered, faultless, faulty, passed_on, refused_of}
use Rattle.command_line.proofs.command_line.options_by.Goals as goal

pub returns-clause-asked : goal.returns-clause-asked
returns-clause-asked g c =
    subst (λ met. IfOk c.options_in.result (AskedIn met)) (entered _ _ _ c.requires c.in_ok-matches.ensures.ok.2) c.options_in.ensures.asked

pub returns-clause-unsigned : goal.returns-clause-unsigned
returns-clause-unsigned g c =
    subst (λ met. OnOk c.options_in.result (has_plus_in met ≡ false)) (entered _ _ _ c.requires c.in_ok-matches.ensures.ok.2)
    c.options_in.ensures.unsigned

pub returns-clause-refused : goal.returns-clause-refused
returns-clause-refused g c =
    refused_of c.options_in.result (map g.S.AsStr.text c.args.words.now) (faultless _ _ c.requires c.in_ok-matches.ensures.kinds)
    (subst (λ met. IfErr c.options_in.result (IsRefusedIn met)) (entered _ _ _ c.requires c.in_ok-matches.ensures.ok.2)
    c.options_in.ensures.refused)

pub returns-in_err-matches-clause-refused : goal.returns-in_err-matches-clause-refused
returns-in_err-matches-clause-refused g c =
    passed_on _ c.in_err-matches.field-0.0 _ _ c.from_residual.ensures.1
    (faulty _ _ c.in_err-matches.field-0.0 c.requires c.in_err-matches.ensures.kinds)
