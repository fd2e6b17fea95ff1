-- How a fault is printed.
use Rattle.std.specs.Prelude.{List, ℕ, ◌++◌, codes}
use Rattle.std.specs.Fmt.{decimal}
use Rattle.wasm_items.specs.declared.fault.DecodeRule.{DecodeRule}
use Rattle.wasm_items.specs.declared.fault.DecodeRule.TheVariants as rule
use Rattle.wasm_items.specs.declared.fault.DecodeFault.{DecodeFault}
use Rattle.wasm_items.specs.declared.fault.DecodeFault.TheVariants as fault

abbrev pub rule_word : DecodeRule → List ℕ
rule_word rule.Magic = codes "Magic"
rule_word rule.Version = codes "Version"
rule_word rule.Truncated = codes "Truncated"
rule_word rule.Leb = codes "Leb"
rule_word rule.SectionOrder = codes "SectionOrder"
rule_word rule.SectionSize = codes "SectionSize"
rule_word rule.BadByte = codes "BadByte"
rule_word rule.Utf8 = codes "Utf8"
rule_word rule.CountMismatch = codes "CountMismatch"
rule_word rule.Unsupported = codes "Unsupported"
rule_word rule.OverLimit = codes "OverLimit"

-- the rule and the position in the bytes
abbrev pub fault_text : DecodeFault → List ℕ
fault_text (fault.Refused broken place) = rule_word broken ++ codes " " ++ decimal place
fault_text fault.OutOfMemory = codes "OutOfMemory -"
