use Rattle.profile_rules.proofs.KnownVerdict.{accepted, refused}
use Rattle.profile_rules.proofs.constants.check_constants.Goals as goal

pub returns : goal.returns
returns c =
    let m = c.args.valid.now in
    record {
      accepted = accepted c.args.asks m _ _ c.module.ensures.value c.module.ensures.typed.bodies c.check_module.ensures;
      refused = refused c.args.asks m _ _ c.module.ensures.value c.requires.reached c.requires.ordered c.check_module.ensures;
    }
