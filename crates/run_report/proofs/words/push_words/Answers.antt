use Rattle.std.proofs.Common.{◌≡◌, ◌∙◌, ◌++◌, ◌∷◌, [], ap, subst, sym, string_bytes}
use Rattle.std.specs.List.{flat_map}
use Rattle.std.proofs.lemmas.Iterator.{YieldsList-from_chars}
use Rattle.std.proofs.lemmas.Iterator.Consumers.{YieldsList-end}
use Rattle.std.proofs.lemmas.List.Folds.{flat_map-map}
use Rattle.std.proofs.lemmas.Grind.{flat_map-append}
use Rattle.std.proofs.lemmas.List.{append-nil}
use Rattle.line_text.proofs.Pieces.{gains_more}
use Rattle.line_text.specs.TextBuilder.{Gains}
use Rattle.run_report.specs.Words.{mark_of}
use Rattle.run_report.proofs.words.push_words.Goals as goal

pub returns : goal.returns
returns c =
    let end = YieldsList-end (YieldsList-from_chars c.args.words.now c.utf8.words cc) c.loop-letter.yielded _ c.loop-letter.yielded_by _ _ c.in-None.is c.next.ensures.steps in
    let all = sym (flat_map-map mark_of (λ x. x) c.loop-letter.yielded) ∙ ap (flat_map mark_of) end.0 in
    λ whole. let gained = c.loop-letter.invariant whole in
    (gained.0, gained.1 ∙ ap (λ bytes. string_bytes c.args.text.now.text ++ bytes) all)

pub loop-letter-preserved : goal.loop-letter-preserved
loop-letter-preserved c =
    let one : flat_map mark_of (c.in-Some.letter ∷ []) ≡ mark_of c.in-Some.letter = append-nil (mark_of c.in-Some.letter) in
    let more : flat_map mark_of (c.loop-letter.yielded ++ c.in-Some.letter ∷ []) ≡ flat_map mark_of c.loop-letter.yielded ++ mark_of c.in-Some.letter =
    flat_map-append mark_of c.loop-letter.yielded (c.in-Some.letter ∷ []) ∙ ap (λ m. flat_map mark_of c.loop-letter.yielded ++ m) one in
    subst (Gains c.args.text.now c.push_letter.new.text) (sym more)
    (gains_more c.args.text.now c.loop-letter.text c.push_letter.new.text _ _ c.loop-letter.invariant c.push_letter.ensures)
