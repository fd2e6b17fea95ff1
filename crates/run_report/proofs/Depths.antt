-- What is reported has no number with a fraction, and nests no deeper than is read.
use Rattle.std.proofs.Common.{◌≡◌, ◌≤◌, ℕ, false, List, [], ◌∷◌, Option, Some, None, Bor, map, refl, arith}
use Rattle.serde_json.specs.Data.{depth, items_depth}
use Rattle.serde_json.specs.Read.{max_depth}
use Rattle.serde_json.specs.View.{items_of}
use Rattle.serde_json.specs.Written.{has_float, items_have_float}
use Rattle.run_report.specs.declared.report.JobFiles.{JobFiles}
use Rattle.run_report.specs.declared.report.Outcome.{Outcome}
use Rattle.run_report.specs.declared.report.RunReport.{RunReport}
use Rattle.run_report.specs.declared.counts.SuperstepCounts.{SuperstepCounts}
use Rattle.run_report.specs.Json.{count_data, fault_data, number_data, outcome_data, report_data, superstep_data}

count_flat : (count : Option ℕ) → depth (count_data count) ≡ 0
count_flat None = refl
count_flat (Some count) = refl

count_whole : (count : Option ℕ) → has_float (count_data count) ≡ false
count_whole None = refl
count_whole (Some count) = refl

fault_flat : (fault : Option (Bor (List ℕ))) → depth (fault_data fault) ≡ 0
fault_flat None = refl
fault_flat (Some fault) = refl

fault_whole : (fault : Option (Bor (List ℕ))) → has_float (fault_data fault) ≡ false
fault_whole None = refl
fault_whole (Some fault) = refl

superstep_flat : (counts : SuperstepCounts) → depth (superstep_data counts) ≡ 1
superstep_flat counts = rw (count_flat counts.called, count_flat counts.dropped, count_flat counts.sent, count_flat counts.units)

superstep_whole : (counts : SuperstepCounts) → has_float (superstep_data counts) ≡ false
superstep_whole counts = rw (count_whole counts.called, count_whole counts.dropped, count_whole counts.sent, count_whole counts.units)

outcome_flat : (outcome : Outcome) → depth (outcome_data outcome) ≡ 1
outcome_flat outcome = rw (count_flat outcome.dropped, count_flat outcome.epoch, fault_flat outcome.fault, count_flat outcome.missed, count_flat outcome.restarts, count_flat outcome.superstep, count_flat outcome.units)

outcome_whole : (outcome : Outcome) → has_float (outcome_data outcome) ≡ false
outcome_whole outcome = rw (count_whole outcome.dropped, count_whole outcome.epoch, fault_whole outcome.fault, count_whole outcome.missed, count_whole outcome.restarts, count_whole outcome.superstep, count_whole outcome.units)

supersteps_flat : (all : List SuperstepCounts) → items_depth (items_of (map superstep_data all)) ≤ 1
supersteps_flat [] = omega arith
supersteps_flat (counts ∷ all) =
    let first = superstep_flat counts in
    let others = supersteps_flat all in
    omega arith

supersteps_whole : (all : List SuperstepCounts) → items_have_float (items_of (map superstep_data all)) ≡ false
supersteps_whole [] = refl
supersteps_whole (counts ∷ all) = rw (superstep_whole counts, supersteps_whole all)

numbers_flat : (numbers : List ℕ) → items_depth (items_of (map number_data numbers)) ≡ 0
numbers_flat [] = refl
numbers_flat (number ∷ numbers) = rw (numbers_flat numbers)

numbers_whole : (numbers : List ℕ) → items_have_float (items_of (map number_data numbers)) ≡ false
numbers_whole [] = refl
numbers_whole (number ∷ numbers) = numbers_whole numbers

pub report_whole : (files : JobFiles) (report : RunReport) → has_float (report_data files report) ≡ false
report_whole files report = rw (outcome_whole report.outcome, numbers_whole report.spent.items, supersteps_whole report.supersteps.items)

pub report_flat : (files : JobFiles) (report : RunReport) → depth (report_data files report) ≤ max_depth
report_flat files report =
    let outcome = outcome_flat report.outcome in
    let spent = numbers_flat report.spent.items in
    let supersteps = supersteps_flat report.supersteps.items in
    omega arith
