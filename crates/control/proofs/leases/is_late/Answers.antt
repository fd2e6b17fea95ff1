use Rattle.std.proofs.Common.{◌≡◌, ℕ, Option, Some, None, true, not, refl, sym, ◌∙◌, arith}
use Rattle.std.specs.Option.{is_some}
use Rattle.std.specs.Prelude.{nat_le, nat_lt}
use Rattle.control.specs.declared.control.Out.{Out}
use Rattle.control.specs.Machine.{is_free}
use Rattle.control.proofs.leases.is_late.Goals as goal

has_one : (x : Option Out) → is_some x ≡ true → not (is_free x) ≡ true
has_one None h = absurd (cc)
has_one (Some task) h = refl

at_least : (a b : ℕ) → nat_le a b ≡ not (nat_lt b a)
at_least a b = grind (arith)

pub returns-then-is_some : goal.returns-then-is_some
returns-then-is_some c = rw (has_one _ (sym c.is_some.ensures ∙ c.if-is_some.true)) (at_least _ _)
