use Rattle.std.proofs.Common.{◌≡◌, sym, ap, ◌∙◌}
use Rattle.verified.specs.Spaces.{first_type}
use Rattle.validate.proofs.Verdict.{settled}
use Rattle.validate.proofs.functions.check_function.Goals as goal

pub returns : goal.returns
returns c =
    let t = c.in-Some.function_type.now in
    let outcome : c.first_of.result ≡ first_type t.results = c.first_of.ensures ∙ ap first_type c.as_slice.ensures in
    settled c.args.spaces.now c.args.function.now t _ _ _ (sym c.in-Some.ensures) c.in_ok-locals_of.ensures outcome c.check_body.ensures
