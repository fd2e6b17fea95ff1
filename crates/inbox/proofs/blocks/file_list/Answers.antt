use Rattle.std.proofs.Common.{◌≡◌, ◌≤◌, ◌++◌, get_or, length, map, of_z, pos, rules, subst, take, to_z, w64, ◌∙◌}
use Rattle.std.proofs.lemmas.Int.{to_z-of_z}
use Rattle.std.proofs.lemmas.List.{take_all}
use Rattle.inbox.specs.declared.letters.Letter.{Letter as AnyLetter}
use Rattle.inbox.specs.inside.Blocks.{AreFiled, slips_of}
use Rattle.inbox.proofs.Filed.{filed_next}
use Rattle.inbox.proofs.blocks.file_list.Goals as goal

abbrev no_letter : AnyLetter
no_letter = record { to = pos 0; from = 0; seq = 0; value = pos 0 }

pub loop-letter-preserved : goal.loop-letter-preserved
loop-letter-preserved c =
    let letters = c.args.letters.now in
    let index = c.loop-letter.letter-index in
    let letter = get_or letters index no_letter in
    let to : letter.to ≡ to_z w64 (of_z w64 letter.to) = search (rules, to_z-of_z) in
    let value : letter.value ≡ to_z w64 (of_z w64 letter.value) = search (rules, to_z-of_z) in
    record {
      ids = c.in_ok-file.ensures.ids ∙ c.loop-letter.invariant.ids;
      filed = λ sent filed.
          filed_next c.args.grid sent letters index no_letter (map slips_of c.file.new.blocks.items) c.loop-letter-test.true
          (c.in_ok-file.ensures.filed (sent ++ take index letters) letter to value (c.loop-letter.invariant.filed sent filed));
    }

pub returns-clause-filed : goal.returns-clause-filed
returns-clause-filed c = λ sent filed.
    let past : length c.args.letters.now ≤ c.loop-letter.letter-index = c.loop-letter-test.false in
    subst (λ letters. AreFiled c.args.grid (sent ++ letters) (map slips_of c.loop-letter.blocks.items)) (take_all c.loop-letter.letter-index c.args.letters.now past) (c.loop-letter.invariant.filed sent filed)
