use Rattle.std.proofs.Common.{◌≡◌, sym, ap, ◌∙◌}
use Rattle.verified.specs.Spaces.{first_type}
use Rattle.profile_rules.proofs.KnownVerdict.{settled}
use Rattle.profile_rules.proofs.constants.bodies.check_function.Goals as goal

pub returns : goal.returns
returns c =
    let t = c.in-Some.function_type.now in
    let outcome : c.first_of-outcome.result ≡ first_type t.results = c.first_of-outcome.ensures ∙ ap first_type c.as_slice.ensures in
    settled c.args.setting.now c.args.function.now t _ _ _ (sym c.in-Some.ensures) outcome c.new-scope.ensures c.check_inside.ensures.says
