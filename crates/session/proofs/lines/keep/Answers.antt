use Rattle.std.proofs.Common.{◌≡◌, ◌≤◌, ◌-◌, ◌++◌, ◌∙◌, ap, cond, length, min, arith}
use Rattle.std.specs.Prelude.{is_ok}
use Rattle.session.proofs.Feeds.{kept_on_ok}
use Rattle.session.proofs.lines.keep.Goals as goal

pub returns-clause-kept : goal.returns-clause-kept
returns-clause-kept c =
    let begun = c.args.line.now.items in
    let piece = c.args.piece.now in
    let long = c.args.line.now.ok.0 in
    let small : length begun ≤ 4097 = omega (arith, long) in
    let room : c.min-room.result ≡ min (length piece) (4097 - length begun) = omega (arith, long, c.min-room.ensures, c.len.ensures) in
    kept_on_ok c.extend_from_slice.result c.extend_from_slice.new.self.items begun piece 4097 c.min-room.result small room
    (c.extend_from_slice.ensures.items
    ∙ ap (λ part. cond (is_ok c.extend_from_slice.result) (begun ++ part) begun) c.split_at.ensures.front)
