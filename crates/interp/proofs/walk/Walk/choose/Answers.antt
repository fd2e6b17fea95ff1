use Rattle.std.proofs.Common.{ap, ◌∙◌}
use Rattle.verified.specs.View.{code_of}
use Rattle.interp.specs.inside.Going.{goes_on}
use Rattle.interp.specs.inside.Meaning.{standing_of}
use Rattle.interp.specs.inside.Walk.{chosen}
use Rattle.interp.proofs.Asking.{one_there, taking_asks}
use Rattle.interp.proofs.walk.Walk.choose.Goals as goal

pub pop-requires : goal.pop-requires
pop-requires c =
    let s = standing_of c.self.inside in
    one_there s.values (taking_asks s.values c.args.count _ (ap (goes_on (chosen c.args.keeps c.args.then_body.now c.args.else_body.now) (code_of c.args.code.now) c.args.count) c.self.view_is ∙ c.requires.goes))
