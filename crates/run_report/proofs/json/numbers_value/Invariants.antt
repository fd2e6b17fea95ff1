use Rattle.std.proofs.Common.{◌≡◌, length, map, take, vec_capacity, vec_len}
use Rattle.serde_json.specs.View.{view}
use Rattle.run_report.specs.Json.{number_data}
use Rattle.run_report.proofs.json.numbers_value.Given as goal

abbrev pub invariant-loop-number : goal.invariant-loop-number
invariant-loop-number l = record {
  values : map view l.values.items ≡ map number_data (take l.number-index l.numbers);
  len : vec_len l.values ≡ l.number-index;
  room : vec_capacity l.values ≡ length l.numbers;
}
