-- The printed form of an error: the word of the rule and the place, or the cycle.
use Rattle.std.specs.Prelude.{ℕ, List, ◌++◌, codes}
use Rattle.std.specs.List.{flat_map}
use Rattle.std.specs.Fmt.{decimal}
use Rattle.validate.specs.Faults.{place_text}
use Rattle.profile_rules.specs.declared.fault.ProfileRule.{ProfileRule}
use Rattle.profile_rules.specs.declared.fault.ProfileRule.TheVariants as rule
use Rattle.profile_rules.specs.declared.fault.ProfileFault.{ProfileFault}
use Rattle.profile_rules.specs.declared.fault.ProfileFault.TheVariants as fault

abbrev pub rule_word : ProfileRule → List ℕ
rule_word rule.P1 = codes "P1"
rule_word rule.P2 = codes "P2"
rule_word rule.P3 = codes "P3"
rule_word rule.P4 = codes "P4"
rule_word rule.P5 = codes "P5"
rule_word rule.P6 = codes "P6"
rule_word rule.P7 = codes "P7"
rule_word rule.P8 = codes "P8"
rule_word rule.P9 = codes "P9"
rule_word rule.P10 = codes "P10"
rule_word rule.P11 = codes "P11"
rule_word rule.P12 = codes "P12"
rule_word rule.P13 = codes "P13"
rule_word rule.P14 = codes "P14"

abbrev pub after_blank : ℕ → List ℕ
after_blank number = codes " " ++ decimal number

-- the numbers of functions that call each other in a cycle
abbrev pub cycle_text : List ℕ → List ℕ
cycle_text functions = codes "P12" ++ flat_map after_blank functions

-- the broken rule and its place, or the cycle, or that an allocation failed
abbrev pub fault_text : ProfileFault → List ℕ
fault_text (fault.Breaks broken place) = rule_word broken ++ codes " " ++ place_text place
fault_text (fault.Cycle functions) = cycle_text functions.items
fault_text fault.OutOfMemory = codes "OutOfMemory - -"
