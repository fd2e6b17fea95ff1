use Rattle.std.proofs.Common.{refl, sym}
use Rattle.verified.proofs.Table.{only_named}
use Rattle.verified.proofs.imports.HostCall.of_import.Goals as goal

pub returns-then-has_type-clause-found : goal.returns-then-has_type-clause-found
returns-then-has_type-clause-found c =
    let place = only_named c.args.module.now c.args.name.now c.in_ok-call.call (sym c.in_ok-call.ensures) in
    record { of_module = place.0; of_name = place.1; of_type = c.if-has_type.ensures.0 refl }
