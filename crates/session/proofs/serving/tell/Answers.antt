use Rattle.std.proofs.Common.{[], refl, sym}
use Rattle.std.proofs.lemmas.List.{append-nil}
use Rattle.line_text.proofs.Writing.{appends_kept, begun_front}
use Rattle.session.proofs.serving.tell.Goals as goal

pub returns-in-Err : goal.returns-in-Err
returns-in-Err g c =
    let old = g.W.Write.contents c.args.writer.now in
    let middle = g.W.Write.contents c.write_all.new.out in
    let new = g.W.Write.contents c.flush.new.self in
    let reply = c.args.reply.now in
    (refl, begun_front old new reply [] reply (appends_kept old middle new reply c.in_ok-write_all.ensures.written c.flush.ensures.bytes) (sym (append-nil reply)))
