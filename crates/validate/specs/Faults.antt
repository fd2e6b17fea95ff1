-- How a fault is printed: the rule's name and the place.
use Rattle.std.specs.Prelude.{ℕ, List, ◌++◌, codes, Option, Some, None}
use Rattle.std.specs.Fmt.{decimal}
use Rattle.validate.specs.declared.fault.Rule.{Rule}
use Rattle.validate.specs.declared.fault.Rule.TheVariants as rule
use Rattle.validate.specs.declared.fault.Place.{Place}
use Rattle.validate.specs.declared.fault.ValidFault.{ValidFault}
use Rattle.validate.specs.declared.fault.ValidFault.TheVariants as fault

-- the place of a fault that is in no function
abbrev pub nowhere : Place
nowhere = record { function = None; instruction = None }

abbrev pub rule_word : Rule → List ℕ
rule_word rule.TypeNumber = codes "TypeNumber"
rule_word rule.Function = codes "Function"
rule_word rule.Local = codes "Local"
rule_word rule.Global = codes "Global"
rule_word rule.Label = codes "Label"
rule_word rule.Memory = codes "Memory"
rule_word rule.Table = codes "Table"
rule_word rule.Mismatch = codes "Mismatch"
rule_word rule.Immutable = codes "Immutable"
rule_word rule.Alignment = codes "Alignment"
rule_word rule.DuplicateExport = codes "DuplicateExport"
rule_word rule.ConstExpr = codes "ConstExpr"
rule_word rule.Limits = codes "Limits"
rule_word rule.StartType = codes "StartType"

-- a number, or `-` where there is none
abbrev pub number_text : Option ℕ → List ℕ
number_text None = codes "-"
number_text (Some number) = decimal number

-- the index of the function and the number of the instruction
abbrev pub place_text : Place → List ℕ
place_text place = number_text place.function ++ codes " " ++ number_text place.instruction

-- the rule that is broken and the place, or out of memory
abbrev pub fault_text : ValidFault → List ℕ
fault_text (fault.Breaks broken place) = rule_word broken ++ codes " " ++ place_text place
fault_text fault.OutOfMemory = codes "OutOfMemory - -"
