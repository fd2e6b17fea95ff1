use Rattle.std.proofs.Common.{◌∙◌, subst, sym}
use Rattle.sources.specs.Modules.{IsVerified}
use Rattle.superstep.specs.Ending.{IsEndOf}
use Rattle.session.specs.declared.held_job.HeldJob.{HeldJob}
use Rattle.session.proofs.Ends.{held_is, same_told}
use Rattle.session.proofs.Proper.{proper_from_nothing}
use Rattle.session.proofs.laws.same_values.Goals as goal

pub returns : goal.returns
returns g c = λ m graph settings other_settings told again one two same.
    let proper = proper_from_nothing (g.F.Files.disk c.args.files.now) (g.N.Runner.runs c.args.runner.now) one.asked one.before one.maps one.reaches in
    let verified : IsVerified m = subst IsVerified one.is_job.calls (proper.jobs one.name one.held one.is_held) in
    let outcomes = c.calls_are_a_function.ensures.one m verified.typed verified.bounded in
    let first_ends : IsEndOf one.held.job one.tells.report.ended =
    subst (λ (held : HeldJob). IsEndOf held.job one.tells.report.ended) (held_is one.maps one.name told one.held one.is_held one.tells) one.tells.ends in
    let second_ends : IsEndOf two.held.job two.tells.report.ended =
    subst (λ (held : HeldJob). IsEndOf held.job two.tells.report.ended) (held_is two.maps two.name again two.held two.is_held two.tells) two.tells.ends in
    one.tells.told
    ∙ same_told m graph settings other_settings outcomes.outcomes outcomes.are same one.held.job two.held.job one.is_job two.is_job one.tells.report.ended two.tells.report.ended
    first_ends second_ends
    ∙ sym two.tells.told
