use Rattle.std.proofs.Common.{◌≡◌, take}
use Rattle.serde_json.specs.View.{members_view}
use Rattle.run_report.specs.Json.{with_counts}
use Rattle.run_report.proofs.json.put_counts.Given as goal

abbrev pub invariant-loop-name : goal.invariant-loop-name
invariant-loop-name l =
    members_view l.map.entries ≡ with_counts (take l.name-index l.counts) (members_view l.initial.map.entries)
