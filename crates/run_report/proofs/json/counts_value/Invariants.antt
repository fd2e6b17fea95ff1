use Rattle.std.proofs.Common.{◌≡◌, length, map, take, vec_capacity, vec_len}
use Rattle.serde_json.specs.View.{view}
use Rattle.run_report.specs.Json.{superstep_data}
use Rattle.run_report.proofs.json.counts_value.Given as goal

abbrev pub invariant-loop-counts : goal.invariant-loop-counts
invariant-loop-counts l = record {
  values : map view l.values.items ≡ map superstep_data (take l.counts-index l.initial.counts);
  len : vec_len l.values ≡ l.counts-index;
  room : vec_capacity l.values ≡ length l.initial.counts;
}
