use Rattle.std.proofs.Common.{Some}
use Rattle.std.specs.Prelude.{string_bytes}
use Rattle.session.proofs.Names.{on_err_of, put_text, same_text}
use Rattle.session.proofs.maps.hold.Goals as goal

pub returns-clause-held : goal.returns-clause-held
returns-clause-held g c =
    put_text (string_bytes c.in_ok-key.key) c.args.name.now c.args.map.now c.insert.new.self (Some c.args.value) c.in_ok-key.ensures.ok c.in_ok-insert.ensures.updates

pub returns-in_err-insert-clause-failed : goal.returns-in_err-insert-clause-failed
returns-in_err-insert-clause-failed g c =
    on_err_of c.from_residual-in_err-insert.result _ (same_text c.args.map.now c.insert.new.self c.in_err-insert.ensures.err)
