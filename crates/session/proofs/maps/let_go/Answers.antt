use Rattle.std.proofs.Common.{None, refl, sym, ◌∙◌}
use Rattle.session.proofs.Names.{if_none, put_text, same_text}
use Rattle.session.proofs.maps.let_go.Goals as goal

pub returns-clause-gone : goal.returns-clause-gone
returns-clause-gone g c = put_text c.args.name.now c.args.name.now c.args.map.now c.remove.new.self None refl c.remove.ensures.updates

pub returns-clause-same : goal.returns-clause-same
returns-clause-same g c = λ none.
    same_text c.args.map.now c.remove.new.self (if_none c.remove.result _ (sym c.is_some.ensures ∙ none) c.remove.ensures.unchanged)
