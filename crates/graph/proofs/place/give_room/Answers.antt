use Rattle.std.proofs.Common.{get_or, refl}
use Rattle.std.proofs.lemmas.List.{get_or_default}
use Rattle.graph.proofs.Vertices.{room_made}
use Rattle.graph.proofs.place.give_room.Goals as goal

pub returns : goal.returns
returns c =
    let vertices = c.args.vertices.now in
    let old = get_or vertices c.args.place c.index-vertices-place.result in
    room_made vertices c.args.place old _ (get_or_default vertices c.args.place c.index-vertices-place.result old c.if-place-vertices.false) refl refl c.reserve_exact.ensures.items
