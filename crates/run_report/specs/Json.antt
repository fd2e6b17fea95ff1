-- A run as JSON.
use Rattle.std.specs.Prelude.{◌≡◌, ◌++◌, ℕ, List, Option, Some, None, codes, fold, map}
use Rattle.std.specs.Borrow.{Bor}
use Rattle.run_report.specs.declared.report.JobFiles.{JobFiles}
use Rattle.run_report.specs.declared.report.Outcome.{Outcome}
use Rattle.run_report.specs.declared.report.RunReport.{RunReport}
use Rattle.run_report.specs.declared.report.RunSettings.{RunSettings}
use Rattle.run_report.specs.declared.counts.SuperstepCounts.{SuperstepCounts}
use Rattle.serde_json.specs.Data.{Data, Members, null, string, number, unsigned, array, object, member, no_members, put}
use Rattle.serde_json.specs.Read.{read}
use Rattle.serde_json.specs.View.{items_of}
use Rattle.serde_json.specs.Written.{compact_text}

-- a count, or null where it is not known
abbrev pub count_data : Option ℕ → Data
count_data None = null
count_data (Some count) = number (unsigned count)

-- the members of an object, with these counts by their names
abbrev pub with_counts : List (Bor (List ℕ) × Option ℕ) → Members → Members
with_counts counts members = fold (λ members count. put count.0.now (count_data count.1) members) members counts

abbrev pub settings_data : RunSettings → Data
settings_data settings =
    object (member (codes "every") (number (unsigned settings.every))
    (member (codes "lease") (number (unsigned settings.lease))
    (member (codes "limit") (number (unsigned settings.limit))
    (member (codes "parts") (number (unsigned settings.parts))
    (member (codes "workers") (number (unsigned settings.workers)) no_members)))))

-- what a job without an answer ended with, or null
abbrev pub fault_data : Option (Bor (List ℕ)) → Data
fault_data None = null
fault_data (Some fault) = string fault.now

abbrev pub outcome_data : Outcome → Data
outcome_data outcome =
    object (member (codes "dropped") (count_data outcome.dropped)
    (member (codes "epoch") (count_data outcome.epoch)
    (member (codes "fault") (fault_data outcome.fault)
    (member (codes "how") (string outcome.how.now)
    (member (codes "missed") (count_data outcome.missed)
    (member (codes "restarts") (count_data outcome.restarts)
    (member (codes "superstep") (count_data outcome.superstep)
    (member (codes "units") (count_data outcome.units) no_members))))))))

abbrev pub superstep_data : SuperstepCounts → Data
superstep_data counts =
    object (member (codes "called") (count_data counts.called)
    (member (codes "dropped") (count_data counts.dropped)
    (member (codes "sent") (count_data counts.sent)
    (member (codes "superstep") (number (unsigned counts.superstep))
    (member (codes "units") (count_data counts.units) no_members)))))

-- of each superstep, in order
abbrev pub counts_data : List SuperstepCounts → Data
counts_data counts = array (items_of (map superstep_data counts))

abbrev pub number_data : ℕ → Data
number_data n = number (unsigned n)

abbrev pub numbers_data : List ℕ → Data
numbers_data numbers = array (items_of (map number_data numbers))

abbrev pub report_data : JobFiles → RunReport → Data
report_data files report =
    object (member (codes "edges") (number (unsigned report.edges))
    (member (codes "ended") (outcome_data report.outcome)
    (member (codes "graph") (string files.graph.now)
    (member (codes "module") (string files.«module».now)
    (member (codes "settings") (settings_data report.settings)
    (member (codes "size") (number (unsigned report.size))
    (member (codes "spent") (numbers_data report.spent.items)
    (member (codes "supersteps") (counts_data report.supersteps.items)
    (member (codes "vertices") (number (unsigned report.vertices)) no_members)))))))))

-- the text is the report as compact JSON, which reads back as that, and a line feed
pub record IsJsonOf (files : JobFiles) (report : RunReport) (text : List ℕ) : Type 0 where
  pub json : List ℕ
  pub is : text ≡ json ++ codes "\n"
  pub compact : json ≡ compact_text (report_data files report)
  pub reads_back : read json ≡ Some (report_data files report)
