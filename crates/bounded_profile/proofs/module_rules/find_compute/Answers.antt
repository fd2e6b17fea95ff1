use Rattle.std.proofs.Common.{refl, sym, ap, ◌∙◌}
use Rattle.verified.specs.Compute.{exported_compute}
use Rattle.bounded_profile.proofs.Computing.{is_number, not_plain, no_number}
use Rattle.bounded_profile.proofs.module_rules.find_compute.Goals as goal

pub returns-then-is_defined_plain : goal.returns-then-is_defined_plain
returns-then-is_defined_plain c =
    is_number c.args.module.now c.in-Some.number c.requires.names (sym (c.in-Some.ensures ∙ ap exported_compute c.as_slice.ensures)) (c.is_defined_plain.ensures.0 c.if-is_defined_plain.true)

pub returns-else-is_defined_plain : goal.returns-else-is_defined_plain
returns-else-is_defined_plain c =
    (refl, not_plain c.args.module.now c.in-Some.number c.requires.names (sym (c.in-Some.ensures ∙ ap exported_compute c.as_slice.ensures)) (λ p. let t = c.is_defined_plain.ensures.1 p in let f = c.if-is_defined_plain.false in absurd cc))

pub returns-in-None : goal.returns-in-None
returns-in-None c =
    (refl, no_number c.args.module.now c.requires.names (sym (c.in-None.ensures ∙ ap exported_compute c.as_slice.ensures)))
