use Rattle.std.specs.Prelude.{codes}
use Rattle.wat_syntax.specs.inside.Lexing.{plain_of}
use Rattle.wat_syntax.proofs.Words.{stripped, not_stripped}
use Rattle.wat_syntax.proofs.lexer.words.plain.Goals as goal

pub returns-in-Some-clause-tells : goal.returns-in-Some-clause-tells
unfolding plain_of
returns-in-Some-clause-tells c =
    let e = stripped (codes "offset=") c.args.word.now c.in-Some.digits c.in-Some.ensures.cases in
    rw e c.offset.ensures.tells

pub returns-in-Some-strip_prefix-clause-tells : goal.returns-in-Some-strip_prefix-clause-tells
unfolding plain_of
returns-in-Some-strip_prefix-clause-tells c =
    let e = not_stripped (codes "offset=") c.args.word.now c.in_default.ensures.cases in
    let f = stripped (codes "align=") c.args.word.now c.in-Some-strip_prefix.digits c.in-Some-strip_prefix.ensures.cases in
    rw (e, f) c.alignment.ensures.tells

pub returns-in_default-strip_prefix-clause-tells : goal.returns-in_default-strip_prefix-clause-tells
unfolding plain_of
returns-in_default-strip_prefix-clause-tells c =
    let e = not_stripped (codes "offset=") c.args.word.now c.in_default.ensures.cases in
    let f = not_stripped (codes "align=") c.args.word.now c.in_default-strip_prefix.ensures.cases in
    rw (e, f) c.keyword.ensures.tells
