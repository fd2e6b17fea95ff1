-- What follows from a refusal.
use Rattle.std.proofs.Common.{◌≡◌, subst, sym}
use Rattle.std.specs.Prelude.{Option, None}
use Rattle.validate.specs.declared.fault.Rule.{Rule}
use Rattle.validate.specs.declared.fault.Place.{Place}
use Rattle.validate.specs.declared.fault.ValidFault.{ValidFault}
use Rattle.validate.specs.declared.fault.ValidFault.TheVariants as fault
use Rattle.validate.specs.inside.Findings.{NoneBut}

pub none_but : {A : Type 0} (e : ValidFault) (rule : Rule) (place : Place) (o : Option A) → e ≡ fault.Breaks rule place → o ≡ None → NoneBut e o
none_but e rule place o same none = subst (λ f. NoneBut f o) (sym same) none
