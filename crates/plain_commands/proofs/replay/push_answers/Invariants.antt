use Rattle.std.proofs.Common.{take}
use Rattle.std.specs.List.{flat_map}
use Rattle.line_text.specs.TextBuilder.{Gains}
use Rattle.plain_commands.specs.Replays.{answer_line}
use Rattle.plain_commands.proofs.replay.push_answers.Given as goal

abbrev pub invariant-loop-answer : goal.invariant-loop-answer
invariant-loop-answer l = Gains l.initial.text l.text (flat_map answer_line (take l.answer-index l.answers))
