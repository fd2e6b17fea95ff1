-- How a fault is printed: its word and its position.
use Rattle.std.specs.Prelude.{ℕ, List, ◌++◌, codes}
use Rattle.std.specs.Fmt.{decimal}
use Rattle.wat_syntax.specs.declared.fault.Position.{Position}
use Rattle.wat_syntax.specs.declared.fault.TextFault.{TextFault}
use Rattle.wat_syntax.specs.declared.fault.TextFault.TheVariants as fault

-- a word, and a line and a column
abbrev pub word_at : List ℕ → Position → List ℕ
word_at word place = word ++ codes " " ++ decimal place.line ++ codes " " ++ decimal place.column

abbrev pub fault_text : TextFault → List ℕ
fault_text (fault.Lex place) = word_at (codes "Lex") place
fault_text (fault.Syntax place) = word_at (codes "Syntax") place
fault_text (fault.UnknownName place) = word_at (codes "UnknownName") place
fault_text (fault.DuplicateName place) = word_at (codes "DuplicateName") place
fault_text (fault.NumberRange place) = word_at (codes "NumberRange") place
fault_text (fault.TypeUse place) = word_at (codes "TypeUse") place
fault_text (fault.Unsupported place) = word_at (codes "Unsupported") place
fault_text (fault.OverLimit place) = word_at (codes "OverLimit") place
fault_text fault.OutOfMemory = codes "OutOfMemory - -"
